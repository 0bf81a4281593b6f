-- What the items of a module add is lawful, and so is its specialisation.
use Rattle.std.proofs.Common.{◌≡◌, true, List, [], ◌∷◌, map, sym, subst}
use Rattle.std.specs.Prelude.{Result, Ok, IfOk}
use Rattle.std.specs.List.{AllByRecursion, IsDistinct}
use Rattle.std.specs.Str.{bytes_eq}
use Rattle.sv_base.specs.declared.face.Port.{Port}
use Rattle.sv_base.specs.declared.refusal.Place.{Place}
use Rattle.sv_base.specs.declared.refusal.Refusal.{Refusal}
use Rattle.sv_ast.specs.declared.statement.Stmt as source
use Rattle.sv_ast.specs.declared.item.Pair.{Pair}
use Rattle.sv_ast.specs.declared.item.Edge.{Edge}
use Rattle.sv_ast.specs.declared.item.Item.{Item, out-Item}
use Rattle.sv_ast.specs.declared.item.Block.{Block}
use Rattle.sv_ast.specs.declared.item.Item.TheOpen as item
use Rattle.sv_ast.specs.declared.item.Item.TheOpen.{Item-F}
use Rattle.sv_ast.specs.declared.module.Param.{Param}
use Rattle.sv_ast.specs.declared.module.Module.{Module}
use Rattle.module_header.specs.Header.{ports}
use Rattle.const_eval.specs.Expressions.{◌>>=◌}
use Rattle.const_eval.proofs.Judged.{ok_behind}
use Rattle.net_ir.specs.declared.term.Term.{Term}
use Rattle.net_ir.specs.declared.statement.Target.{Target}
use Rattle.net_ir.specs.declared.statement.Stmt.{Stmt}
use Rattle.net_ir.specs.declared.design.Var.{Var}
use Rattle.net_ir.specs.declared.design.Driver.TheVariants as driver
use Rattle.net_ir.specs.declared.design.Spec.{Spec}
use Rattle.net_ir.specs.Face.{ports_of}
use Rattle.net_ir.specs.Value.{widths_of}
use Rattle.net_ir.specs.Lawful.{IsLawfulStmt, IsLawfulTrigger, IsThere, IsLawfulSpec}
use Rattle.width_rules.specs.Scope.{AreThere}
use Rattle.elaborate.specs.declared.names.Seen.{Seen}
use Rattle.elaborate.specs.Names.{bounds}
use Rattle.elaborate.specs.Reached.{Reached, start, in_turn, with_driver, counted}
use Rattle.elaborate.specs.Declaration.{port}
use Rattle.elaborate.specs.Targets.{visible, variable_of, all_of, assignment, place_of}
use Rattle.elaborate.specs.Statements.{statement}
use Rattle.elaborate.specs.Items.{continuous, triggers_of, clocked, combinational, step_layer, step_of, parameters, walked, specialised}
use Rattle.elaborate.proofs.SoFar.{lawful_start, driver_added, recounted, lawful_recounted, behind_counted, in_turn_keeps}
use Rattle.elaborate.proofs.PortsFirst.{ArePortsFirst, only_ports, ports_first, ports_distinct}
use Rattle.elaborate.proofs.LawfulTargets.{MeasuredLawful, all_ok, visible_there, IsAssignment, assignment_lawful}
use Rattle.elaborate.proofs.LawfulStatements.{IsGivenAt, statement_gives}
use Rattle.elaborate.proofs.LawfulDeclared.{HasPorts, HasItems, port_keeps, declaration_keeps}

-- a lawful design, whose nets and variables have names of their own
record IsLawfullyNamed (spec : Spec) : Type 0 where
  lawful : IsLawfulSpec spec
  names : IsDistinct bytes_eq (map (λ (v : Var). v.name) spec.vars)
  ports : IsDistinct bytes_eq (map (λ (p : Port). p.name) (ports_of spec))

-- the design of what was reached
abbrev spec_of : Module → Reached → Spec
spec_of m r = record { «module» = m.name.name; place = m.name.place; params = []; vars = r.vars; drivers = r.drivers }

module _ (law : MeasuredLawful) where
  -- ---- assignments and processes

  continuous_keeps : (pair : Pair) (r : Reached) → HasItems r → IfOk (continuous pair r) HasItems
  continuous_keeps pair r h =
      ok_behind (λ (a : Target × Term). IsAssignment law r.names r.vars h.so_far.there a) HasItems (assignment true r.names r.vars pair.target pair.value)
      (λ a. counted (place_of pair.target) r >>= λ s. Ok (with_driver (driver.Assign a.0 a.1 (place_of pair.target)) s))
      (assignment_lawful law r.names r.vars h.so_far.there true pair.target pair.value) (λ a is.
      behind_counted HasItems (place_of pair.target) r (λ s. Ok (with_driver (driver.Assign a.0 a.1 (place_of pair.target)) s)) (λ n.
      record {
        so_far = driver_added (driver.Assign a.0 a.1 (place_of pair.target)) (recounted r n) is (lawful_recounted r n h.so_far);
        ports = h.ports;
      }))

  triggers_lawful : (r : Reached) → AreThere (bounds r.names) r.vars → (edges : List Edge) →
      AllByRecursion (λ part. IfOk part (IsLawfulTrigger (widths_of r.vars))) (triggers_of r.names edges)
  triggers_lawful r there [] = tt
  triggers_lawful r there (edge ∷ edges) = (
    ok_behind (λ (seen : Seen). IsThere (widths_of r.vars) (variable_of seen)) (IsLawfulTrigger (widths_of r.vars)) (visible edge.name (r.names edge.name.name)) _
        (visible_there law r.names r.vars there edge.name) (λ seen h. h),
    triggers_lawful r there edges,
  )

  -- what is behind a statement of a process
  ports_stay : (r : Reached) (b : Stmt × Reached) → HasItems r → IsGivenAt IsLawfulStmt r b → ArePortsFirst b.1.vars
  ports_stay r b h k = subst ArePortsFirst (sym k.1) h.ports

  clocked_keeps : (place : Place) (edges : List Edge) (body : source.Stmt) (r : Reached) → HasItems r → IfOk (clocked place edges body r) HasItems
  clocked_keeps place edges body r h =
      ok_behind (AllByRecursion (IsLawfulTrigger (widths_of r.vars))) HasItems (all_of (triggers_of r.names edges))
      (λ triggers. statement body r >>= λ b. Ok (with_driver (driver.Clocked triggers b.0 place) b.1))
      (all_ok (IsLawfulTrigger (widths_of r.vars)) (triggers_of r.names edges) (triggers_lawful r h.so_far.there edges)) (λ triggers all.
      ok_behind (IsGivenAt IsLawfulStmt r) HasItems (statement body r) (λ b. Ok (with_driver (driver.Clocked triggers b.0 place) b.1)) (statement_gives law body r h.so_far) (λ b k.
      record {
        so_far = driver_added (driver.Clocked triggers b.0 place) b.1
            (subst (λ (vars : List Var). AllByRecursion (IsLawfulTrigger (widths_of vars)) triggers × IsLawfulStmt vars b.0) (sym k.1) (all, k.2)) k.0;
        ports = ports_stay r b h k;
      }))

  combinational_keeps : (place : Place) (body : source.Stmt) (r : Reached) → HasItems r → IfOk (combinational place body r) HasItems
  combinational_keeps place body r h =
      ok_behind (IsGivenAt IsLawfulStmt r) HasItems (statement body r) (λ b. Ok (with_driver (driver.Comb b.0 place) b.1)) (statement_gives law body r h.so_far) (λ b k.
      record {
        so_far = driver_added (driver.Comb b.0 place) b.1 (subst (λ (vars : List Var). IsLawfulStmt vars b.0) (sym k.1) k.2) k.0;
        ports = ports_stay r b h k;
      })

  -- ---- items

  item_keeps : (x : Item-F Item Block) (r : Reached) → HasItems r → IfOk (step_layer x r) HasItems
  item_keeps (item.Param word shape decls) r h = tt
  item_keeps (item.Declare shape decls) r h = declaration_keeps law shape decls r h
  item_keeps (item.Genvar names) r h = tt
  item_keeps (item.Assign pairs) r h = in_turn_keeps HasItems continuous continuous_keeps pairs r h
  item_keeps (item.Comb place body) r h = combinational_keeps place body r h
  item_keeps (item.Clocked place edges body) r h = clocked_keeps place edges body r h
  item_keeps (item.Instance name args made) r h = tt
  item_keeps (item.Generate items) r h = tt
  item_keeps (item.For place fresh header block) r h = tt
  item_keeps (item.If place test first second) r h = tt
  item_keeps item.Empty r h = h

  parameters_keep : (params : List Param) (r : Reached) → HasPorts r → IfOk (parameters params r) HasPorts
  parameters_keep [] r h = h
  parameters_keep (p ∷ ps) r h = tt

  walked_lawful : (m : Module) → IfOk (walked m) HasItems
  walked_lawful m =
      ok_behind HasPorts HasItems (parameters m.params start) (λ r. in_turn port (ports m.ports) r >>= λ s. in_turn step_of m.items s)
      (parameters_keep m.params start (record { so_far = lawful_start; ports = tt })) (λ r h.
      ok_behind HasPorts HasItems (in_turn port (ports m.ports) r) (λ s. in_turn step_of m.items s) (in_turn_keeps HasPorts port port_keeps (ports m.ports) r h) (λ s k.
      in_turn_keeps HasItems step_of (λ i. item_keeps (out-Item i)) m.items s (record { so_far = k.so_far; ports = only_ports s.vars k.ports })))

  -- ---- the specialisation

  specialised_so : (m : Module) → IfOk (specialised m) IsLawfullyNamed
  specialised_so m =
      ok_behind HasItems IsLawfullyNamed (walked m) (λ r. Ok (spec_of m r)) (walked_lawful m) (λ r h.
      record {
        lawful = record { vars = h.so_far.vars; drivers = h.so_far.drivers; ports = ports_first (spec_of m r) h.ports };
        names = h.so_far.distinct;
        ports = ports_distinct (spec_of m r) h.ports h.so_far.distinct;
      })

  so_of : (m : Module) (spec : Spec) → specialised m ≡ Ok spec → IsLawfullyNamed spec
  so_of m spec is = subst (λ (j : Result Spec Refusal). IfOk j IsLawfullyNamed) is (specialised_so m)

  pub specialised_lawful : (m : Module) (spec : Spec) → specialised m ≡ Ok spec → IsLawfulSpec spec
  specialised_lawful m spec is = (so_of m spec is).lawful

  pub specialised_names : (m : Module) (spec : Spec) → specialised m ≡ Ok spec → IsDistinct bytes_eq (map (λ (v : Var). v.name) spec.vars)
  specialised_names m spec is = (so_of m spec is).names

  pub specialised_ports : (m : Module) (spec : Spec) → specialised m ≡ Ok spec → IsDistinct bytes_eq (map (λ (p : Port). p.name) (ports_of spec))
  specialised_ports m spec is = (so_of m spec is).ports
