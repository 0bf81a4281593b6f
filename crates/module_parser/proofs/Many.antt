-- Lists that a loop reads, each time behind those that were found.
use Rattle.std.proofs.Common.{◌≡◌, ◌∙◌, ℕ, zero, suc, Bool, true, false, if◌then◌else◌, List, [], ◌∷◌, ◌++◌, codes, Ok, Err, refl, sym, ap}
use Rattle.expr_parser.specs.Spelling.{is_this}
use Rattle.expr_parser.specs.Input.{Input, Outcome, Parser, and_then, ◌>>=◌, ◌>>◌, pure, turns}
use Rattle.module_parser.specs.Rule.{Test}
use Rattle.module_parser.specs.Input.{comes, many, many_from}
use Rattle.module_parser.specs.Reading.{listed, sign}

then_alike : {A B C : Type 0} (r : Outcome A) (g : A → Parser C) (h : A → Parser B) (k : B → Parser C)
    → ((x : A) (j : Input) → g x j ≡ and_then (h x j) k) → and_then r g ≡ and_then (and_then r h) k
then_alike (Ok p) g h k e = e p.0 p.1
then_alike (Err f) g h k e = refl

if_alike : {A : Type 0} (b : Bool) (first : A) (found : List A) (i : Input) (o p : Outcome (List A)) → o ≡ and_then p (λ rest. pure (first ∷ rest))
    → (if b then o else Ok (first ∷ found, i)) ≡ and_then (if b then p else Ok (found, i)) (λ rest. pure (first ∷ rest))
if_alike true first found i o p e = e
if_alike false first found i o p e = refl

-- what is found behind a first one
pub behind_first : {A : Type 0} (test : Test) (f : List A → Parser A) (first : A) (n : ℕ) (found : List A) (i : Input)
    → many_from test f n (first ∷ found) i ≡ and_then (many_from test (λ xs. f (first ∷ xs)) n found i) (λ rest. pure (first ∷ rest))
unfolding many_from
behind_first test f first zero found i = refl
behind_first test f first (suc n) found i =
    if_alike (comes test i) first found i _ _
    (then_alike (f (first ∷ found) i) (λ x. many_from test f n (first ∷ found ++ x ∷ [])) (λ x. many_from test (λ xs. f (first ∷ xs)) n (found ++ x ∷ [])) (λ rest. pure (first ∷ rest))
    (λ x j. behind_first test f first n (found ++ x ∷ []) j))

pub listed_first : {A : Type 0} (p : Parser A) (i j : Input) (x : A) → p i ≡ Ok (x, j)
    → listed p i ≡ many_from (is_this (codes ",")) (λ _. sign (codes ",") >> p) (turns j) (x ∷ []) j
unfolding many
listed_first p i j x e =
    ap (λ r. and_then r (λ first. many (is_this (codes ",")) (λ _. sign (codes ",") >> p) >>= λ rest. pure (first ∷ rest))) e
    ∙ sym (behind_first (is_this (codes ",")) (λ _. sign (codes ",") >> p) x (turns j) [] j)

pub many_first : {A : Type 0} (test : Test) (f : List A → Parser A) (i j : Input) (x : A) → f [] i ≡ Ok (x, j)
    → and_then (f [] i) (λ first. many test (λ found. f (first ∷ found)) >>= λ rest. pure (first ∷ rest)) ≡ many_from test f (turns j) (x ∷ []) j
unfolding many
many_first test f i j x e =
    ap (λ r. and_then r (λ first. many test (λ found. f (first ∷ found)) >>= λ rest. pure (first ∷ rest))) e
    ∙ sym (behind_first test f x (turns j) [] j)
