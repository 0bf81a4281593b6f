use Rattle.std.proofs.Common.{◌≡◌, true, Ok, refl}
use Rattle.sv_base.specs.declared.operator.Binary.{Binary}
use Rattle.sv_base.specs.declared.operator.Binary.TheVariants.{Power}
use Rattle.sv_ast.specs.declared.expression.Id.{Id}
use Rattle.const_eval.specs.Meaning.{Meaning}
use Rattle.const_eval.specs.Operators.{binary_by}
use Rattle.const_eval.specs.Expressions as spec
use Rattle.const_eval.proofs.apply.binary_judged.Goals as goal

-- an operator that asks nothing of its operands
asks_nothing : (operator : Binary) → (operator ≡ Power → ⊥) → (sign : Id) (a b : Meaning)
    → spec.binary_judged operator true sign a b ≡ Ok (binary_by operator a b)
asks_nothing Power other sign a b = absurd (other refl)
asks_nothing _ other sign a b = refl

pub returns-in_ok-binary-in_default : goal.returns-in_ok-binary-in_default
returns-in_ok-binary-in_default c = λ m n p q.
    rw (asks_nothing c.args.operator c.in_default.not-Power c.args.sign.now m n) (rw c.of.ensures at (c.in_ok-binary-in_default.ensures m n p q))
