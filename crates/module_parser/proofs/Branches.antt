-- Steps of reading whose first part is known.
use Rattle.std.proofs.Common.{◌≡◌, Bool, true, false, if◌then◌else◌, Result, Ok, Err, sym, ap, subst}
use Rattle.sv_base.specs.declared.fault.Fault.{Fault}
use Rattle.expr_parser.specs.Input.{Input, Outcome, Parser, and_then, Gives}

-- a choice whose test holds
pub taken : {A : Type 0} {b : Bool} (p q : Outcome A) → b ≡ true → (if b then p else q) ≡ p
taken p q e = ap (λ (c : Bool). if c then p else q) e

-- a choice whose test does not hold
pub passed : {A : Type 0} {b : Bool} (p q : Outcome A) → b ≡ false → (if b then p else q) ≡ q
passed p q e = ap (λ (c : Bool). if c then p else q) e

-- what is read first was read
pub behind : {A B : Type 0} {o : Outcome A} {x : A} {i : Input} (f : A → Parser B) → o ≡ Ok (x, i) → and_then o f ≡ f x i
behind f e = ap (λ r. and_then r f) e

-- what is read first is refused
pub refused : {A B : Type 0} {o : Outcome A} {fault : Fault} (f : A → Parser B) → o ≡ Err fault → and_then o f ≡ Err fault
refused f e = ap (λ r. and_then r f) e

-- what a call gives, of all that is the same
pub alike : {A : Type 0} {o p : Outcome A} (r : Result A Fault) (j : Input) → o ≡ p → Gives p r j → Gives o r j
alike r j e h = subst (λ z. Gives z r j) (sym e) h
