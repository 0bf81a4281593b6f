-- Parts that are joined one after another.
use Rattle.std.specs.Prelude.{◌≡◌, true, List, [], ◌∷◌, ◌++◌, Result, Ok, Err}
use Rattle.std.proofs.Common.{ℕ, suc, ◌+◌, ◌<◌, ◌≤◌, length, drop, get_or, refl, sym, ◌∙◌, ap, add-one, drop-cons, drop_of_length-le, append_assoc}
use Rattle.std.proofs.lemmas.List.{append-nil}
use Rattle.sv_base.specs.declared.refusal.Refusal.{Refusal}
use Rattle.sv_ast.specs.declared.expression.Expr.{Expr}
use Rattle.sv_base.specs.declared.fault.Fault.{Fault}
use Rattle.const_eval.specs.declared.joined.Joined.{Joined}
use Rattle.const_eval.specs.declared.joined.Joined.TheVariants.{Nothing}
use Rattle.const_eval.specs.declared.measured.Measured.{Measured}
use Rattle.const_eval.specs.Meaning.{Meaning}
use Rattle.const_eval.specs.Expressions.{Names, Judged, ◌>>=◌, meaning_of, meanings_of}
use Rattle.const_eval.specs.code.Agreeing.{Agrees, Matches, IsJoined}
use Rattle.const_eval.proofs.Judging.{refused_first}

-- meanings in front of those of more parts
abbrev pub in_front : List Meaning → Result (List Meaning) Refusal → Result (List Meaning) Refusal
in_front ms rest = rest >>= λ more. Ok (ms ++ more)

-- these parts were joined, and behind them stand those that are left
pub record Joins (names : Names) (joined : Joined) (left parts : List Expr) : Type 0 where
  pub before : List Meaning
  pub is_joined : IsJoined joined before
  pub whole : meanings_of names true parts ≡ in_front before (meanings_of names true left)

-- the next part, and what is left behind it
pub next_part : (names : Names) (j : Joined) (parts : List Expr) (i : ℕ) (e : Expr) → i < length parts → e ≡ get_or parts i e → Joins names j (drop i parts) parts → Joins names j (e ∷ drop (i + 1) parts) parts
next_part names j parts i e within is h =
    let left : drop i parts ≡ e ∷ drop (i + 1) parts = rw add-one (drop-cons parts i e within ∙ ap (λ x. x ∷ drop (suc i) parts) (sym is)) in
    rw left at h

-- no part yet
nothing_before : (rest : Result (List Meaning) Refusal) → rest ≡ in_front [] rest
nothing_before (Ok ms) = refl
nothing_before (Err refusal) = refl

pub begins : (names : Names) (parts : List Expr) → Joins names Nothing parts parts
begins names parts = record { before = []; is_joined = refl; whole = nothing_before (meanings_of names true parts) }

-- one part more
moved_in : (before : List Meaning) (m : Meaning) (rest : Result (List Meaning) Refusal) → in_front before (rest >>= λ ms. Ok (m ∷ ms)) ≡ in_front (before ++ m ∷ []) rest
moved_in before m (Ok ms) = ap Ok (sym (append_assoc before (m ∷ []) ms))
moved_in before m (Err refusal) = refl

pub goes_on : (names : Names) (j k : Joined) (a : Measured) (e : Expr) (left parts : List Expr) → Joins names j (e ∷ left) parts → Agrees Matches (Ok a) (meaning_of names true e)
    → ((ms : List Meaning) (m : Meaning) → Matches a m → IsJoined j ms → IsJoined k (ms ++ m ∷ [])) → Joins names k left parts
goes_on names j k a e left parts h here step = by_meaning (meaning_of names true e) refl here
  where
    by_meaning : (judged : Judged) → meaning_of names true e ≡ judged → Agrees Matches (Ok a) judged → Joins names k left parts
    by_meaning (Ok m) is here = record {
      before = h.before ++ m ∷ [];
      is_joined = step h.before m here h.is_joined;
      whole = h.whole ∙ ap (λ (judged : Judged). in_front h.before (judged >>= λ m. meanings_of names true left >>= λ ms. Ok (m ∷ ms))) is ∙ moved_in h.before m (meanings_of names true left);
    }
    by_meaning (Err refusal) is here = absurd here

-- a part that is refused
pub is_refused : (names : Names) (j : Joined) (fault : Fault) (e : Expr) (left parts : List Expr) → Joins names j (e ∷ left) parts → Agrees Matches (Err fault) (meaning_of names true e) → Agrees IsJoined (Err fault) (meanings_of names true parts)
is_refused names j fault e left parts h here =
    rw (h.whole) (refused_first IsJoined IsJoined fault (meanings_of names true (e ∷ left)) (λ more. Ok (h.before ++ more))
    (refused_first Matches IsJoined fault (meaning_of names true e) (λ m. meanings_of names true left >>= λ ms. Ok (m ∷ ms)) here))

-- no part is left
pub all_joined : (names : Names) (j : Joined) (parts : List Expr) (i : ℕ) → length parts ≤ i → Joins names j (drop i parts) parts → Agrees IsJoined (Ok j) (meanings_of names true parts)
all_joined names j parts i long h =
    let whole : meanings_of names true parts ≡ Ok h.before = h.whole ∙ ap (λ es. in_front h.before (meanings_of names true es)) (drop_of_length-le parts long) ∙ ap Ok (append-nil h.before) in
    rw whole h.is_joined
