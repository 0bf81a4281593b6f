-- What loops keep that take the first of a list and go on with the rest.
use Rattle.std.proofs.Common.{◌≡◌, List, [], ◌∷◌, ◌++◌, sym, ap, ◌∙◌}
use Rattle.std.specs.Prelude.{Result, Ok, Err}
use Rattle.std.proofs.lemmas.List.{append-nil}
use Rattle.sv_base.specs.declared.fault.Fault.{Fault}
use Rattle.sv_base.specs.declared.refusal.Refusal.{Refusal}
use Rattle.sv_base.specs.Faults.{IfRefused}
use Rattle.const_eval.specs.Expressions.{◌>>=◌}
use Rattle.elaborate.specs.Reached.{Reached, Step, in_turn}
use Rattle.elaborate.specs.Targets.{all_of}
use Rattle.elaborate.proofs.Behind.{behind, behind_more}
use Rattle.elaborate.proofs.Sequences.{of_whole}

-- ---- steps

-- the first of those that are left is done
pub turn_done : {A : Type 0} (f : A → Step) (rest behind : List A) (a : A) (r s : Reached) (whole : Result Reached Refusal) →
    rest ≡ a ∷ behind → f a r ≡ Ok s → in_turn f rest r ≡ whole → in_turn f behind s ≡ whole
turn_done f rest behind a r s whole is here so_far =
    sym (ap (λ xs. in_turn f xs r) is ∙ ap (λ (o : Result Reached Refusal). o >>= λ t. in_turn f behind t) here) ∙ so_far

-- it is refused
pub turn_refused : {A : Type 0} (f : A → Step) (rest behind : List A) (a : A) (r : Reached) (whole : Result Reached Refusal) (fault : Fault) →
    rest ≡ a ∷ behind → IfRefused (λ refusal. f a r ≡ Err refusal) fault → in_turn f rest r ≡ whole → IfRefused (λ refusal. whole ≡ Err refusal) fault
turn_refused f rest behind a r whole fault is here so_far =
    of_whole fault (f a r) whole
    (λ refusal e. sym so_far ∙ ap (λ xs. in_turn f xs r) is ∙ ap (λ (o : Result Reached Refusal). o >>= λ t. in_turn f behind t) e)
    here

-- none is left
pub turns_over : {A : Type 0} (f : A → Step) (rest : List A) (r : Reached) (whole : Result Reached Refusal) → rest ≡ [] → in_turn f rest r ≡ whole → whole ≡ Ok r
turns_over f rest r whole is so_far = sym so_far ∙ ap (λ xs. in_turn f xs r) is

-- ---- what each gives

-- the first of those that are left is found
pub part_found : {A : Type 0} (found : List A) (a : A) (first : Result A Refusal) (rest : List (Result A Refusal)) (whole : Result (List A) Refusal) →
    first ≡ Ok a → behind found (all_of (first ∷ rest)) ≡ whole → behind (found ++ a ∷ []) (all_of rest) ≡ whole
part_found {A = A} found a first rest whole here so_far =
    sym (ap (λ (o : Result A Refusal). behind found (o >>= λ b. all_of rest >>= λ more. Ok (b ∷ more))) here ∙ behind_more found a (all_of rest)) ∙ so_far

-- it is refused
pub part_lost : {A : Type 0} (found : List A) (first : Result A Refusal) (rest : List (Result A Refusal)) (whole : Result (List A) Refusal) (fault : Fault) →
    IfRefused (λ refusal. first ≡ Err refusal) fault → behind found (all_of (first ∷ rest)) ≡ whole → IfRefused (λ refusal. whole ≡ Err refusal) fault
part_lost {A = A} found first rest whole fault here so_far =
    of_whole fault first whole
    (λ refusal e. sym so_far ∙ ap (λ (o : Result A Refusal). behind found (o >>= λ b. all_of rest >>= λ more. Ok (b ∷ more))) e)
    here

-- none is left
pub parts_over : {A : Type 0} (found : List A) (whole : Result (List A) Refusal) → behind found (all_of []) ≡ whole → whole ≡ Ok found
parts_over found whole so_far = sym so_far ∙ ap Ok (append-nil found)
