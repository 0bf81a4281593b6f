-- What the code has walked through, against what the definitions say.
use Rattle.std.specs.Prelude.{◌≡◌, ℕ, ◌<◌, Bool, true, false, ℤ, List, length, Option, None, Some, option_map, Result, Ok, Err}
use Rattle.std.specs.List.{AllByRecursion}
use Rattle.std.specs.Str.{bytes_eq}
use Rattle.std.specs.Vec.{vec_items}
use Rattle.indexmap.specs.IndexSet.{contains_by}
use Rattle.bit_ops.specs.Width.{IsWidth}
use Rattle.sv_base.specs.declared.fault.Fault.{Fault}
use Rattle.sv_base.specs.declared.fault.Fault.TheVariants.{Refused, NoMemory}
use Rattle.sv_base.specs.Faults.{IfRefused}
use Rattle.sv_ast.specs.declared.expression.Id.{Id}
use Rattle.const_eval.specs.declared.env.Bound.{Bound}
use Rattle.const_eval.specs.declared.env.Bound.TheVariants.{Variable}
use Rattle.const_eval.specs.declared.whole_number.WholeNumber.{WholeNumber}
use Rattle.const_eval.specs.WholeNumbers.{integer_of}
use Rattle.const_eval.specs.Env.{bound_of}
use Rattle.net_ir.specs.declared.design.Var.{Var}
use Rattle.elaborate.specs.declared.names.Seen.{Seen}
use Rattle.elaborate.specs.declared.names.Seen.TheVariants.{Stands, Label}
use Rattle.elaborate.specs.declared.names.Labels.{Labels}
use Rattle.elaborate.specs.declared.walk.Walk.{Walk}
use Rattle.elaborate.specs.Names.{bound_in}
use Rattle.elaborate.specs.Refusals.{told_of}
use Rattle.elaborate.specs.Reached.{Reached, Step}
use Rattle.elaborate.specs.Statements.{Given}

-- whether a name is a label
unfoldable pub has_label : Labels → List ℕ → Bool
has_label labels name = contains_by (λ key. bytes_eq name (vec_items key)) labels.names

-- a name that stands for something has a value, and another is a label where it is one
abbrev pub seen_or : Bool → Option Bound → Option Seen
seen_or label (Some bound) = Some (Stands bound)
seen_or true None = Some Label
seen_or false None = None

-- what a name stands for in a walk
abbrev pub seen_in : Walk → List ℕ → Option Seen
seen_in w name = seen_or (has_label w.labels name) (bound_of w.scope.names name)

-- what a walk has reached
abbrev pub reached : Walk → Reached
reached w = record { names = seen_in w; vars = w.scope.vars; drivers = w.drivers; assignments = w.assignments }

-- each name of a net or variable stands for one that is there, and each of these has a width that a value may have
pub record IsSound (r : Reached) : Type 0 where
  pub there : (name : List ℕ) (x : ℕ) → bound_in (r.names name) ≡ Some (Variable x) → x < length r.vars
  pub widths : AllByRecursion (λ (v : Var). IsWidth v.width) r.vars

-- a call does a step of the text
abbrev pub IsStep : Step → Walk → Walk → Result (Unit {0}) Fault → Type 0
IsStep step old new (Ok done) = step (reached old) ≡ Ok (reached new)
IsStep step old new (Err fault) = IfRefused (λ refusal. step (reached old) ≡ Err refusal) fault

-- a call does it, and gives what it gives
abbrev pub IsGiven : {A : Type 0} → Given A → Walk → Walk → Result A Fault → Type 0
IsGiven given old new (Ok a) = given (reached old) ≡ Ok (a, reached new)
IsGiven given old new (Err fault) = IfRefused (λ refusal. given (reached old) ≡ Err refusal) fault

-- a fault is told of a name where it is a refusal of too many bits
abbrev pub IsTold : Id → Fault → Fault → Type 0
IsTold name (Refused refusal) fault = IfRefused (λ told. told ≡ told_of name refusal) fault
IsTold name NoMemory fault = IfRefused (λ told. ⊥) fault

-- so of the first of several names, where there is one
abbrev pub IsToldOfFirst : Option Id → Fault → Fault → Type 0
IsToldOfFirst None before fault = fault ≡ before
IsToldOfFirst (Some name) before fault = IsTold name before fault

-- the bounds of a range as whole numbers
abbrev pub integers_of : Option (WholeNumber × WholeNumber) → Option (ℤ × ℤ)
integers_of span = option_map (λ (s : WholeNumber × WholeNumber). (integer_of s.0, integer_of s.1)) span
