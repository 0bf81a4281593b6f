-- What lists of parts read, marks of event controls, and the class of a variable by its marks.
use Rattle.std.specs.Prelude.{ℕ, Bool, List}
use Rattle.std.specs.List.{flat_map}
use Rattle.sv_base.specs.declared.face.Class.{Class}
use Rattle.sv_base.specs.declared.face.Class.TheVariants as class
use Rattle.net_ir.specs.declared.design.Role.{Role}
use Rattle.net_ir.specs.declared.design.Role.TheVariants.{Input, Output, Inner}
use Rattle.net_ir.specs.declared.design.Trigger.{Trigger}
use Rattle.net_ir.specs.declared.design.Input.{Input as JoinedInput}
use Rattle.net_ir.specs.declared.design.Output.{Output as JoinedOutput}
use Rattle.net_ir.specs.declared.term.Term.{Term}
use Rattle.net_ir.specs.Value.{reads_of}
use Rattle.net_ir.specs.Target.{var_list}
use Rattle.net_ir.specs.Drive.{joined_reads}
use Rattle.net_ir.specs.Face.{input_class}

-- the variables that event controls name
abbrev pub clocked_by : List Trigger → List ℕ
clocked_by triggers = flat_map (λ (t : Trigger). var_list t.var) triggers

-- the class of a variable of this role, by whether it stands in an event control and whether an expression reads it
abbrev pub class_by : Role → Bool → Bool → Class
class_by Input clock read = input_class clock read
class_by Output clock read = class.Output
class_by Inner clock read = class.Output

-- the variables that the labels of an arm read, and that connections to inputs and to outputs do
abbrev pub labels_read : List Term → List ℕ
labels_read labels = flat_map reads_of labels

abbrev pub inputs_read : List JoinedInput → List ℕ
inputs_read inputs = flat_map (λ (i : JoinedInput). reads_of i.value) inputs

abbrev pub outputs_read : List JoinedOutput → List ℕ
outputs_read outputs = flat_map (λ (o : JoinedOutput). joined_reads o.target) outputs
