-- What the items of a module add, and its specialisation (IEEE 1800-2017, 9.2.2, 10.3 and 23.2).
use Rattle.std.specs.Prelude.{true, List, [], ◌∷◌, codes, Result, Ok, Err}
use Rattle.std.specs.Str.{bytes_eq}
use Rattle.sv_base.specs.declared.refusal.Place.{Place}
use Rattle.sv_base.specs.declared.refusal.Refusal.{Refusal}
use Rattle.sv_ast.specs.declared.statement.Stmt as source
use Rattle.sv_ast.specs.declared.item.Pair.{Pair}
use Rattle.sv_ast.specs.declared.item.Edge.{Edge}
use Rattle.sv_ast.specs.declared.item.Item.{Item, out-Item}
use Rattle.sv_ast.specs.declared.item.Block.{Block}
use Rattle.sv_ast.specs.declared.item.Item.TheOpen as item
use Rattle.sv_ast.specs.declared.item.Item.TheOpen.{Item-F}
use Rattle.sv_ast.specs.declared.module.Param.{Param}
use Rattle.sv_ast.specs.declared.module.Module.{Module}
use Rattle.module_header.specs.Header.{ports}
use Rattle.const_eval.specs.Expressions.{◌>>=◌}
use Rattle.net_ir.specs.declared.design.Trigger.{Trigger}
use Rattle.net_ir.specs.declared.design.Driver.TheVariants as driver
use Rattle.net_ir.specs.declared.design.Spec.{Spec}
use Rattle.elaborate.specs.Names.{Names}
use Rattle.elaborate.specs.Refusals.{not_yet}
use Rattle.elaborate.specs.Reached.{Reached, Step, start, in_turn, with_driver, counted}
use Rattle.elaborate.specs.Declaration.{port, declaration}
use Rattle.elaborate.specs.Targets.{visible, variable_of, all_of, assignment, place_of}
use Rattle.elaborate.specs.Statements.{statement}

-- a continuous assignment, whose positions are constants (10.3)
abbrev pub continuous : Pair → Step
continuous pair r =
    assignment true r.names r.vars pair.target pair.value >>= λ a. counted (place_of pair.target) r >>= λ s.
    Ok (with_driver (driver.Assign a.0 a.1 (place_of pair.target)) s)

-- an event control, whose name is visible (9.4.2)
abbrev pub trigger : Names → Edge → Result Trigger Refusal
trigger names edge =
    visible edge.name (names edge.name.name) >>= λ seen.
    Ok (record { name = edge.name.name; var = variable_of seen; falling = bytes_eq edge.word.name (codes "negedge"); place = edge.name.place })

abbrev pub triggers_of : Names → List Edge → List (Result Trigger Refusal)
triggers_of names [] = []
triggers_of names (edge ∷ edges) = trigger names edge ∷ triggers_of names edges

-- a clocked process: its event controls, then its statement (9.2.2.4)
abbrev pub clocked : Place → List Edge → source.Stmt → Step
clocked place edges body r =
    all_of (triggers_of r.names edges) >>= λ triggers. statement body r >>= λ b. Ok (with_driver (driver.Clocked triggers b.0 place) b.1)

-- a combinational process (9.2.2.2)
abbrev pub combinational : Place → source.Stmt → Step
combinational place body r = statement body r >>= λ b. Ok (with_driver (driver.Comb b.0 place) b.1)

-- an item; parameters, instances and what is generated are not elaborated so far
abbrev pub step_layer : Item-F Item Block → Step
step_layer (item.Param word shape decls) r = Err not_yet
step_layer (item.Declare shape decls) r = declaration shape decls r
step_layer (item.Genvar names) r = Err not_yet
step_layer (item.Assign pairs) r = in_turn continuous pairs r
step_layer (item.Comb place body) r = combinational place body r
step_layer (item.Clocked place edges body) r = clocked place edges body r
step_layer (item.Instance name args made) r = Err not_yet
step_layer (item.Generate items) r = Err not_yet
step_layer (item.For place fresh header block) r = Err not_yet
step_layer (item.If place test first second) r = Err not_yet
step_layer item.Empty r = Ok r

abbrev pub step_of : Item → Step
step_of i = step_layer (out-Item i)

-- a header's parameters are not elaborated so far
abbrev pub parameters : List Param → Step
parameters [] r = Ok r
parameters (p ∷ ps) r = Err not_yet

-- the ports, then the items
abbrev pub walked : Module → Result Reached Refusal
walked m = parameters m.params start >>= λ r. in_turn port (ports m.ports) r >>= λ s. in_turn step_of m.items s

-- the specialisation of a module, or its first refusal
abbrev pub specialised : Module → Result Spec Refusal
specialised m = walked m >>= λ r. Ok (record { «module» = m.name.name; place = m.name.place; params = []; vars = r.vars; drivers = r.drivers })
