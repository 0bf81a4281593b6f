-- The value of a constant expression.
use Rattle.std.specs.Prelude.{◌≡◌, ℕ, true, false, option_map, Some, Ok, Err}
use Rattle.bit_ops.specs.declared.value.Bits.{Bits}
use Rattle.sv_ast.specs.declared.expression.Expr.{Expr}
use Rattle.const_eval.specs.declared.env.Const.{Const}
use Rattle.const_eval.specs.declared.env.Bound.{Bound}
use Rattle.const_eval.specs.declared.env.Bound.TheVariants.{Constant, Variable}
use Rattle.const_eval.specs.declared.env.Env.{Env}
use Rattle.const_eval.specs.Env.{bound_of}
use Rattle.const_eval.specs.Meaning.{own, assigned}
use Rattle.const_eval.specs.Selects.{Named}
use Rattle.const_eval.specs.Expressions.{Names, Judged, meaning_of}

-- a constant, whose range has this lowest position; bits can be selected from every constant
abbrev pub constant_named : Const → ℕ → Named
constant_named c low = record { constant = true; ranged = true; size = c.value.width; signed = c.signed; low = low; word = c.value.word }

-- a net or variable, which no constant reads
abbrev pub no_constant : Named
no_constant = record { constant = false; ranged = false; size = 1; signed = false; low = 0; word = 0 }

-- what a name means that stands for this
abbrev pub named_of : Bound → Named
named_of (Constant value low) = constant_named value low
named_of (Variable number) = no_constant

-- what each visible name means where a constant is needed
abbrev pub names_of : Env → Names
names_of env name = option_map named_of (bound_of env name)

-- what a constant expression means, or its first refusal
abbrev pub constant_of : Env → Expr → Judged
constant_of env e = meaning_of (names_of env) true e

-- a constant has the size, the sign and the value by itself of an expression that is not refused
abbrev pub IsConstant : Judged → Const → Type 0
IsConstant (Ok m) c = (c.value.width ≡ m.size) × (c.signed ≡ m.signed) × (c.value.word ≡ own m)
IsConstant (Err refusal) c = ⊥

-- bits are the value that an expression that is not refused has where it is assigned to so many of them
abbrev pub IsAssigned : ℕ → Judged → Bits → Type 0
IsAssigned width (Ok m) bits = (bits.width ≡ width) × (bits.word ≡ assigned (Some width) false m)
IsAssigned width (Err refusal) bits = ⊥
