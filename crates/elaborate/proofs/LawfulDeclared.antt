-- What ports and declarations add is lawful.
use Rattle.std.proofs.Common.{◌≡◌, ℕ, ◌<◌, ◌≤◌, Bool, true, false, List, [], ◌∷◌, ◌++◌, length, Option, None, Some, refl, sym, ◌∙◌, ap, subst, arith, length-append}
use Rattle.std.specs.Prelude.{ℤ, is_some, nat_lt, slice_get, codes, Result, Ok, Err, IfOk, if◌then◌else◌}
use Rattle.std.specs.List.{AllByRecursion}
use Rattle.std.proofs.lemmas.List.{length-map}
use Rattle.bit_ops.specs.declared.value.Bits.{Bits}
use Rattle.sv_base.specs.declared.refusal.Refusal.{Refusal}
use Rattle.sv_ast.specs.declared.expression.Id.{Id}
use Rattle.sv_ast.specs.declared.expression.Expr.{Expr}
use Rattle.sv_ast.specs.declared.item.Shape.{Shape}
use Rattle.sv_ast.specs.declared.item.Decl.{Decl}
use Rattle.module_header.specs.Header.{HeaderPort}
use Rattle.const_eval.specs.declared.env.Bound.TheVariants.{Variable}
use Rattle.const_eval.specs.Meaning as meaning
use Rattle.const_eval.specs.Expressions.{◌>>=◌}
use Rattle.const_eval.proofs.Judged.{ok_behind, ok_after}
use Rattle.net_ir.specs.declared.term.Term.{Term}
use Rattle.net_ir.specs.declared.design.Role.TheVariants as role
use Rattle.net_ir.specs.declared.design.Var.{Var}
use Rattle.net_ir.specs.declared.design.Driver.TheVariants.{Assign}
use Rattle.net_ir.specs.Face.{is_inner}
use Rattle.net_ir.specs.Value.{widths_of, size}
use Rattle.net_ir.specs.Target.{bits_where, target_width}
use Rattle.net_ir.specs.Lawful.{IsLawfulAssign}
use Rattle.net_ir.proofs.Parts.{all_joined, name_made, name_width}
use Rattle.width_rules.specs.Values.{bits_of}
use Rattle.elaborate.specs.declared.extent.Extent.{Extent}
use Rattle.elaborate.specs.declared.limits.TheConstants.{PORT_LIMIT}
use Rattle.elaborate.specs.declared.names.Seen.TheVariants.{Stands}
use Rattle.elaborate.specs.Names.{constant_at, term_at, with_name}
use Rattle.elaborate.specs.Refusals.{named, too_many, fresh}
use Rattle.elaborate.specs.Reached.{Reached, in_turn, with_var, with_driver, counted}
use Rattle.elaborate.specs.Extent.{says, is_net, span_of, extent_of}
use Rattle.elaborate.specs.Declaration.{var_of, role_of, is_net_port, named_port, port, initial, initialised, whole_target, driven, valued, declared_name, declaration}
use Rattle.elaborate.proofs.Values.{bits_width}
use Rattle.elaborate.proofs.SoFar.{IsLawfulSoFar, var_added, driver_added, is_fresh, recounted, lawful_recounted, behind_counted, in_turn_keeps}
use Rattle.elaborate.proofs.PortsFirst.{IsPort, ArePortsFirst, inner_behind}
use Rattle.elaborate.proofs.LawfulVars.{IsLawfulExtent, extent_lawful, lawful_var}
use Rattle.elaborate.proofs.LawfulTargets.{MeasuredLawful, IsTermFor, term_for, ok_named}

-- ---- ports

-- what is lawful so far, and there are ports alone
pub record HasPorts (r : Reached) : Type 0 where
  pub so_far : IsLawfulSoFar r
  pub ports : AllByRecursion IsPort r.vars

-- what is lawful so far, and ports stand first
pub record HasItems (r : Reached) : Type 0 where
  pub so_far : IsLawfulSoFar r
  pub ports : ArePortsFirst r.vars

-- a net or variable of no bits but 0
zero_width : (x : Extent) → IsLawfulExtent x → (bits_of x.width 0).width ≡ x.width
zero_width x h = bits_width x.width 0 h.wide

no_inner : (b : Bool) → is_inner (if b then role.Output else role.Input) ≡ false
no_inner true = refl
no_inner false = refl

port_added : (p : HeaderPort) (r : Reached) (x : Extent) → HasPorts r → is_some (r.names p.name.name) ≡ false → IsLawfulExtent x →
    HasPorts (with_var (var_of (role_of p.direction) (is_net_port p.shape.words) x p.name (bits_of x.width 0)) r)
port_added p r x h free lawful =
    let v = var_of (role_of p.direction) (is_net_port p.shape.words) x p.name (bits_of x.width 0) in
    record {
      so_far = var_added v r (lawful_var (role_of p.direction) (is_net_port p.shape.words) x p.name (bits_of x.width 0) lawful (zero_width x lawful)) lawful.wide free h.so_far;
      ports = all_joined IsPort r.vars (v ∷ []) h.ports (no_inner (says (codes "output") p.direction), tt);
    }

abbrev port_room : HeaderPort → Reached → Extent → Result Reached Refusal
port_room p r x =
    if nat_lt (length r.vars) PORT_LIMIT
    then Ok (with_var (var_of (role_of p.direction) (is_net_port p.shape.words) x p.name (bits_of x.width 0)) r)
    else Err (too_many (codes "ports") p.name.place)

named_port_keeps : (p : HeaderPort) (span : Option (ℤ × ℤ)) (r : Reached) → HasPorts r → IfOk (named_port p span r) HasPorts
named_port_keeps p span r h =
    ok_behind (λ _. is_some (r.names p.name.name) ≡ false) HasPorts (fresh r.names p.name) (λ _. extent_of p.name p.shape span >>= port_room p r) (is_fresh r.names p.name) (λ _ free.
    ok_behind IsLawfulExtent HasPorts (extent_of p.name p.shape span) (port_room p r) (extent_lawful p.name p.shape span) (λ x lawful. by_test x free lawful (nat_lt (length r.vars) PORT_LIMIT)))
  where
    by_test : (x : Extent) → is_some (r.names p.name.name) ≡ false → IsLawfulExtent x → (b : Bool) →
        IfOk (if b
        then Ok (with_var (var_of (role_of p.direction) (is_net_port p.shape.words) x p.name (bits_of x.width 0)) r)
        else Err (too_many (codes "ports") p.name.place)) HasPorts
    by_test x free lawful true = port_added p r x h free lawful
    by_test x free lawful false = tt

pub port_keeps : (p : HeaderPort) (r : Reached) → HasPorts r → IfOk (port p r) HasPorts
port_keeps p r h = ok_after HasPorts (named p.name (span_of r.names p.shape.range)) (λ span. named_port p span r) (λ span. named_port_keeps p span r h)

-- ---- declarations

inner_added : (wire : Bool) (x : Extent) (name : Id) (init : Bits) (r : Reached) → HasItems r → is_some (r.names name.name) ≡ false → IsLawfulExtent x → init.width ≡ x.width →
    HasItems (with_var (var_of role.Inner wire x name init) r)
inner_added wire x name init r h free lawful same =
    let v = var_of role.Inner wire x name init in
    record {
      so_far = var_added v r (lawful_var role.Inner wire x name init lawful same) lawful.wide free h.so_far;
      ports = inner_behind r.vars v refl h.ports;
    }

abbrev first_bits : ℕ → meaning.Meaning → Bits
first_bits width m = bits_of width (meaning.assigned (Some width) false m)

initialised_keeps : (first : Id) (x : Extent) (name : Id) (e : Expr) (r : Reached) → HasItems r → is_some (r.names name.name) ≡ false → IsLawfulExtent x →
    IfOk (initialised first x name e r) HasItems
initialised_keeps first x name e r h free lawful =
    ok_behind (λ (init : Bits). init.width ≡ x.width) HasItems (initial first r.names name (length r.vars) x.width e) (λ init. Ok (with_var (var_of role.Inner false x name init) r)) width
    (λ init same. inner_added false x name init r h free lawful same)
  where
    width : IfOk (initial first r.names name (length r.vars) x.width e) (λ (init : Bits). init.width ≡ x.width)
    width =
        ok_after (λ (init : Bits). init.width ≡ x.width) (named first (constant_at (with_name r.names name.name (Stands (Variable (length r.vars)))) e)) (λ m. Ok (first_bits x.width m))
        (λ m. bits_width x.width (meaning.assigned (Some x.width) false m) lawful.wide)

-- the variable that was added last
last_var : (vars : List Var) (v : Var) → slice_get (vars ++ v ∷ []) (length vars) ≡ Some v
last_var [] v = refl
last_var (w ∷ vars) v = last_var vars v

whole_width : (vars : List Var) (v : Var) (name : Id) → target_width (vars ++ v ∷ []) (whole_target name (length vars)) ≡ v.width
whole_width vars v name =
    name_width (vars ++ v ∷ []) (Some (length vars)) name.name name.place None
    ∙ ap (λ (o : Option Var). (bits_where (widths_of (vars ++ v ∷ [])) [] (length vars) o None).width) (last_var vars v)

whole_assigned : (vars : List Var) (v : Var) (name : Id) (value : Term) → IsTermFor (widths_of (vars ++ v ∷ [])) (Some v.width) value →
    IsLawfulAssign (vars ++ v ∷ []) (whole_target name (length vars)) value
whole_assigned vars v name value h =
    let ws : List ℕ = widths_of (vars ++ v ∷ []) in
    let many : length ws ≡ length (vars ++ v ∷ []) = length-map (vars ++ v ∷ []) (λ (u : Var). u.width) in
    let there : length vars < length ws = omega (arith, many, length-append vars (v ∷ [])) in
    record {
      lawful_target = name_made ws (Some (length vars)) name.name name.place None there tt;
      lawful_value = h.lawful;
      wide = subst (λ n. n ≤ size ws value) (sym (whole_width vars v name)) (subst (λ n. v.width ≤ n) (sym (h.sized v.width refl)) (omega arith));
    }

module _ (law : MeasuredLawful) where
  driven_keeps : (first : Id) (x : Extent) (name : Id) (e : Expr) (r : Reached) → HasItems r → is_some (r.names name.name) ≡ false → IsLawfulExtent x →
      IfOk (driven first x name e r) HasItems
  driven_keeps first x name e r h free lawful =
      let v : Var = var_of role.Inner true x name (bits_of x.width 0) in
      let s : Reached = with_var v r in
      let k : HasItems s = inner_added true x name (bits_of x.width 0) r h free lawful (zero_width x lawful) in
      ok_behind (λ (t : Term × Bool). IsTermFor (widths_of s.vars) (Some x.width) t.0) HasItems (named first (term_at s.names s.vars (Some x.width) false e))
      (λ value. counted name.place s >>= λ t. Ok (with_driver (Assign (whole_target name (length r.vars)) value.0 name.place) t))
      (ok_named (λ (t : Term × Bool). IsTermFor (widths_of s.vars) (Some x.width) t.0) first (term_at s.names s.vars (Some x.width) false e)
      (term_for law s.names s.vars k.so_far.there (Some x.width) false e lawful.wide)) (λ value is.
      behind_counted HasItems name.place s (λ t. Ok (with_driver (Assign (whole_target name (length r.vars)) value.0 name.place) t)) (λ n.
      record {
        so_far = driver_added (Assign (whole_target name (length r.vars)) value.0 name.place) (recounted s n) (whole_assigned r.vars v name value.0 is) (lawful_recounted s n k.so_far);
        ports = k.ports;
      }))

  valued_keeps : (first : Id) (wire : Bool) (x : Extent) (name : Id) (value : Option Expr) (r : Reached) → HasItems r → is_some (r.names name.name) ≡ false → IsLawfulExtent x →
      IfOk (valued first wire x name value r) HasItems
  valued_keeps first wire x name None r h free lawful = inner_added wire x name (bits_of x.width 0) r h free lawful (zero_width x lawful)
  valued_keeps first true x name (Some e) r h free lawful = driven_keeps first x name e r h free lawful
  valued_keeps first false x name (Some e) r h free lawful = initialised_keeps first x name e r h free lawful

  declared_keeps : (first : Id) (shape : Shape) (span : Option (ℤ × ℤ)) (d : Decl) (r : Reached) → HasItems r → IfOk (declared_name first shape span d r) HasItems
  declared_keeps first shape span d r h =
      ok_behind (λ _. is_some (r.names d.name.name) ≡ false) HasItems (fresh r.names d.name)
      (λ _. extent_of first shape span >>= λ x. valued first (is_net shape.words) x d.name d.value r) (is_fresh r.names d.name) (λ _ free.
      ok_behind IsLawfulExtent HasItems (extent_of first shape span) (λ x. valued first (is_net shape.words) x d.name d.value r) (extent_lawful first shape span) (λ x lawful.
      valued_keeps first (is_net shape.words) x d.name d.value r h free lawful))

  pub declaration_keeps : (shape : Shape) (ds : List Decl) (r : Reached) → HasItems r → IfOk (declaration shape ds r) HasItems
  declaration_keeps shape [] r h = h
  declaration_keeps shape (d ∷ more) r h =
      ok_after HasItems (named d.name (span_of r.names shape.range)) (λ span. in_turn (declared_name d.name shape span) (d ∷ more) r)
      (λ span. in_turn_keeps HasItems (declared_name d.name shape span) (declared_keeps d.name shape span) (d ∷ more) r h)
