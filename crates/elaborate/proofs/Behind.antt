-- What a loop keeps that puts what each of a list gives behind what was found.
use Rattle.std.proofs.Common.{◌≡◌, List, [], ◌∷◌, ◌++◌, refl, sym, ap, append_assoc}
use Rattle.std.specs.Prelude.{Result, Ok, Err}
use Rattle.sv_base.specs.declared.refusal.Refusal.{Refusal}
use Rattle.const_eval.specs.Expressions.{◌>>=◌}

-- what was found, then what more is given
abbrev pub behind : {A : Type 0} → List A → Result (List A) Refusal → Result (List A) Refusal
behind found given = given >>= λ more. Ok (found ++ more)

-- one more was found
pub behind_more : {A : Type 0} (found : List A) (a : A) (rest : Result (List A) Refusal) → behind found (rest >>= λ more. Ok (a ∷ more)) ≡ behind (found ++ a ∷ []) rest
behind_more found a (Err refusal) = refl
behind_more found a (Ok more) = ap Ok (sym (append_assoc found (a ∷ []) more))

pub none_found : {A : Type 0} (rest : Result (List A) Refusal) → behind [] rest ≡ rest
none_found (Ok more) = refl
none_found (Err refusal) = refl
