-- Targets of several parts: what those that were seen and those that are left give together.
use Rattle.std.proofs.Common.{◌≡◌, ℕ, ◌+◌, ◌-◌, ◌^◌, ◌≤◌, ◌<◌, length, drop, get_or, List, [], ◌∷◌, ◌++◌, map, Result, Ok, Err, Option, None, refl, sym, ◌∙◌, ap, arith, append_assoc}
use Rattle.std.specs.Prelude.{min}
use Rattle.std.proofs.lemmas.List.{append-nil, drop_all, drop_more}
use Rattle.sv_base.specs.declared.refusal.Refusal.{Refusal}
use Rattle.sv_base.specs.declared.fault.Fault.{Fault}
use Rattle.sv_ast.specs.declared.expression.Id.{Id}
use Rattle.sv_ast.specs.declared.expression.Lval.{Lval}
use Rattle.const_eval.specs.Expressions.{◌>>=◌}
use Rattle.const_eval.specs.code.Agreeing.{Agrees}
use Rattle.const_eval.proofs.Judging.{refused_first}
use Rattle.net_ir.specs.declared.design.Var.{Var}
use Rattle.net_ir.specs.declared.statement.Target.{Target, List as Parts}
use Rattle.net_ir.specs.declared.statement.Target.TheVariants.{outs-List}
use Rattle.net_ir.specs.declared.statement.Target.TheFolds.{map-Target, fold_out-Target}
use Rattle.net_ir.specs.Target.{Lvalue, concatenated, lvalue, lvalue_layer, target_width}
use Rattle.elaborate.specs.Targets.{all_of, first_of, first_name}
use Rattle.elaborate.specs.code.Selecting.{parts_width, IsCapped}

-- the next item, and what is left behind it
next_item : {X : Type 0} (xs : List X) (i : ℕ) (a : X) → i < length xs → a ≡ get_or xs i a → drop i xs ≡ a ∷ drop (i + 1) xs
next_item xs i a within is = drop_more xs i a within ∙ ap (λ x. x ∷ drop (i + 1) xs) (sym is)

-- ---- parts from the left

-- what was found stands before the rest
abbrev pub in_front : {A : Type 0} → List A → Result (List A) Refusal → Result (List A) Refusal
in_front found rest = rest >>= λ more. Ok (found ++ more)

-- nothing is found at first
pub nothing_found : {A : Type 0} (found : List A) (rest : Result (List A) Refusal) → found ≡ [] → in_front found rest ≡ rest
nothing_found {A = A} found rest h = ap (λ before. in_front before rest) h ∙ plain rest where
  plain : (r : Result (List A) Refusal) → in_front [] r ≡ r
  plain (Ok more) = refl
  plain (Err refusal) = refl

-- what is found equal is given
given : {A : Type 0} (a : A) (r : Result A Refusal) → Agrees (λ (found : A) (b : A). found ≡ b) (Ok a) r → r ≡ Ok a
given a (Ok b) h = ap Ok (sym h)
given a (Err refusal) h = absurd h

moved_in : {A : Type 0} (found : List A) (a : A) (rest : Result (List A) Refusal) → in_front (found ++ a ∷ []) rest ≡ in_front found (rest >>= λ more. Ok (a ∷ more))
moved_in found a (Ok more) = ap Ok (append_assoc found (a ∷ []) more)
moved_in found a (Err refusal) = refl

-- one part more is found
pub one_more : (f : Lval → Result Target Refusal) (parts : List Lval) (i : ℕ) (e : Lval) (a : Target) (found : List Target) (whole : Result (List Target) Refusal) →
    i < length parts → e ≡ get_or parts i e → Agrees (λ (found : Target) (b : Target). found ≡ b) (Ok a) (f e) →
    in_front found (all_of (map f (drop i parts))) ≡ whole → in_front (found ++ a ∷ []) (all_of (map f (drop (i + 1) parts))) ≡ whole
one_more f parts i e a found whole within is agree h =
    let rest = all_of (map f (drop (i + 1) parts)) in
    moved_in found a rest
    ∙ sym (ap (λ (r : Result Target Refusal). in_front found (r >>= λ t. rest >>= λ more. Ok (t ∷ more))) (given a (f e) agree))
    ∙ sym (ap (λ es. in_front found (all_of (map f es))) (next_item parts i e within is))
    ∙ h

-- a part that is refused
pub one_refused : (f : Lval → Result Target Refusal) (parts : List Lval) (i : ℕ) (e : Lval) (fault : Fault) (found : List Target) (whole : Result (List Target) Refusal) →
    i < length parts → e ≡ get_or parts i e → Agrees (λ (found : Target) (b : Target). found ≡ b) (Err fault) (f e) →
    in_front found (all_of (map f (drop i parts))) ≡ whole → Agrees (λ (found : List Target) (bs : List Target). found ≡ bs) (Err fault) whole
one_refused f parts i e fault found whole within is agree h =
    let Same : Target → Target → Type 0 = λ a b. a ≡ b in
    let AllSame : List Target → List Target → Type 0 = λ xs ys. xs ≡ ys in
    rw (sym h, next_item parts i e within is)
    (refused_first AllSame AllSame fault (all_of (map f (e ∷ drop (i + 1) parts))) (λ more. Ok (found ++ more))
    (refused_first Same AllSame fault (f e) (λ t. all_of (map f (drop (i + 1) parts)) >>= λ more. Ok (t ∷ more)) agree))

-- no part is left
pub all_found : (f : Lval → Result Target Refusal) (parts : List Lval) (i : ℕ) (found : List Target) (whole : Result (List Target) Refusal) → length parts ≤ i →
    in_front found (all_of (map f (drop i parts))) ≡ whole → Agrees (λ (found : List Target) (bs : List Target). found ≡ bs) (Ok found) whole
all_found f parts i found whole past h =
    let is : whole ≡ Ok found = sym h ∙ ap (λ es. in_front found (all_of (map f es))) (drop_all i parts past) ∙ ap Ok (append-nil found) in
    rw is refl

-- ---- the first name

-- what the next part names, or the parts behind it
pub first_left : (parts : List Lval) (i : ℕ) (e : Lval) (name whole : Option Id) → i < length parts → e ≡ get_or parts i e → name ≡ first_name e →
    first_of (map first_name (drop i parts)) ≡ whole → first_of (name ∷ map first_name (drop (i + 1) parts)) ≡ whole
first_left parts i e name whole within is named h =
    ap (λ n. first_of (n ∷ map first_name (drop (i + 1) parts))) named
    ∙ sym (ap (λ es. first_of (map first_name es)) (next_item parts i e within is))
    ∙ h

-- no part has a name
pub no_name : (parts : List Lval) (i : ℕ) (whole : Option Id) → length parts ≤ i → first_of (map first_name (drop i parts)) ≡ whole → None ≡ whole
no_name parts i whole past h = sym (ap (λ es. first_of (map first_name es)) (drop_all i parts past)) ∙ h

-- ---- widths

-- a target of several parts has as many bits as they have together
pub parts_together : (vars : List Var) (parts : List Target) → target_width vars (Parts parts) ≡ parts_width vars parts
parts_together vars parts =
    ap (λ (l : Lvalue). l.width) (fold_out-Target Lvalue (lvalue_layer vars []) (Parts parts)
    ∙ ap (λ x. lvalue_layer vars [] (map-Target Target Lvalue (lvalue vars []) x)) (outs-List parts))
    ∙ added parts
  where
    added : (ts : List Target) → (concatenated (map (lvalue vars []) ts)).width ≡ parts_width vars ts
    added [] = refl
    added (t ∷ ts) = ap (λ n. target_width vars t + n) (added ts)

capped_more : (width part sum n rest whole : ℕ) → IsCapped part n → IsCapped sum (width + part) → min (width + (n + rest)) (2 ^ 64 - 1) ≡ min whole (2 ^ 64 - 1) →
    min (sum + rest) (2 ^ 64 - 1) ≡ min whole (2 ^ 64 - 1)
capped_more width part sum n rest whole p q h = omega (arith, p, q, h)

-- the bits of one part more are counted
pub width_more : (vars : List Var) (parts : List Target) (i : ℕ) (t : Target) (width part sum whole : ℕ) → i < length parts → t ≡ get_or parts i t →
    IsCapped part (target_width vars t) → IsCapped sum (width + part) → min (width + parts_width vars (drop i parts)) (2 ^ 64 - 1) ≡ min whole (2 ^ 64 - 1) →
    min (sum + parts_width vars (drop (i + 1) parts)) (2 ^ 64 - 1) ≡ min whole (2 ^ 64 - 1)
width_more vars parts i t width part sum whole within is p q h =
    capped_more width part sum (target_width vars t) (parts_width vars (drop (i + 1) parts)) whole p q
    (sym (ap (λ ts. min (width + parts_width vars ts) (2 ^ 64 - 1)) (next_item parts i t within is)) ∙ h)

-- the bits of all parts are counted
pub width_whole : (vars : List Var) (parts : List Target) (i width whole : ℕ) → length parts ≤ i → width ≤ 2 ^ 64 - 1 →
    min (width + parts_width vars (drop i parts)) (2 ^ 64 - 1) ≡ min whole (2 ^ 64 - 1) → IsCapped width whole
width_whole vars parts i width whole past within h =
    let all : min (width + 0) (2 ^ 64 - 1) ≡ min whole (2 ^ 64 - 1) = sym (ap (λ ts. min (width + parts_width vars ts) (2 ^ 64 - 1)) (drop_all i parts past)) ∙ h in
    omega (arith, within, all)
