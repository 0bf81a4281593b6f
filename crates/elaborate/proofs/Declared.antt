-- What steps do where their parts are done or refused, and what declarations add.
use Rattle.std.proofs.Common.{◌≡◌, ℕ, Bool, true, false, List, Option, None, Some, Result, Ok, Err, [], ◌∷◌, ◌++◌, length, refl, sym, ap, subst, ◌∙◌}
use Rattle.std.specs.Prelude.{ℤ, nat_lt, codes, ⊤, if◌then◌else◌}
use Rattle.std.specs.Str.{bytes_eq}
use mathlib.Core.Path.{fun_ext}
use Rattle.bit_ops.specs.declared.value.Bits.{Bits}
use Rattle.sv_base.specs.declared.refusal.Refusal.{Refusal}
use Rattle.sv_base.specs.declared.fault.Fault.{Fault}
use Rattle.sv_base.specs.declared.fault.Fault.TheVariants.{Refused, NoMemory}
use Rattle.sv_base.specs.Faults.{IfRefused}
use Rattle.sv_ast.specs.declared.expression.Id.{Id}
use Rattle.sv_ast.specs.declared.expression.Expr.{Expr}
use Rattle.sv_ast.specs.declared.item.Shape.{Shape}
use Rattle.sv_ast.specs.declared.item.Decl.{Decl}
use Rattle.module_header.specs.Header.{HeaderPort}
use Rattle.const_eval.specs.declared.env.Env.{Env}
use Rattle.const_eval.specs.declared.env.Bound.{Bound}
use Rattle.const_eval.specs.declared.env.Bound.TheVariants.{Variable}
use Rattle.const_eval.specs.Env.{bound_of, Rebinds}
use Rattle.const_eval.specs.Meaning as meaning
use Rattle.const_eval.specs.Meaning.{Meaning}
use Rattle.const_eval.specs.Expressions.{◌>>=◌, Judged}
use Rattle.const_eval.specs.code.Agreeing.{Agrees}
use Rattle.net_ir.specs.declared.term.Term.{Term}
use Rattle.net_ir.specs.declared.design.Role.{Role}
use Rattle.net_ir.specs.declared.design.Role.TheVariants as role
use Rattle.net_ir.specs.declared.design.Var.{Var}
use Rattle.net_ir.specs.declared.design.Driver.TheVariants.{Assign}
use Rattle.width_rules.specs.Values.{bits_of}
use Rattle.elaborate.specs.declared.extent.Extent.{Extent}
use Rattle.elaborate.specs.declared.limits.TheConstants.{PORT_LIMIT}
use Rattle.elaborate.specs.declared.names.Seen.TheVariants.{Stands}
use Rattle.elaborate.specs.declared.walk.Walk.{Walk}
use Rattle.elaborate.specs.Names.{Names, with_name, constant_at, term_at}
use Rattle.elaborate.specs.Refusals.{named, fresh, too_many}
use Rattle.elaborate.specs.Extent.{is_net, extent_of}
use Rattle.elaborate.specs.Reached.{Reached, Step, with_var, with_driver, counted}
use Rattle.elaborate.specs.Declaration as spec
use Rattle.elaborate.specs.code.Walking.{has_label, seen_or, seen_in, reached, IsStep, IsTold}
use Rattle.elaborate.proofs.Values.{bits_are}

-- ---- steps

-- a step that makes the same of what was reached is done alike
pub same_step : (s t : Step) (a b new : Walk) (res : Result (Unit {0}) Fault) → t (reached b) ≡ s (reached a) → IsStep s a new res → IsStep t b new res
same_step s t a b new (Ok done) e h = e ∙ h
same_step s t a b new (Err (Refused refusal)) e h = e ∙ h
same_step s t a b new (Err NoMemory) e h = tt

-- a step that is refused
pub refused_step : (t : Step) (a b : Walk) (res : Result (Unit {0}) Fault) (fault : Fault) → res ≡ Err fault
    → IfRefused (λ refusal. t (reached a) ≡ Err refusal) fault → IsStep t a b res
refused_step t a b res fault is h = subst (λ r. IsStep t a b r) (sym is) h

-- what is found is what is defined
pub found : {X A : Type 0} (g : X → A) (x : X) (j : Result A Refusal) → Agrees (λ f y. g f ≡ y) (Ok x) j → j ≡ Ok (g x)
found g x (Ok y) h = ap Ok (sym h)
found g x (Err refusal) h = absurd h

-- a name is free
pub free : (u : Unit {0}) (j : Result (Unit {0}) Refusal) → Agrees (λ (f y : Unit {0}). ⊤) (Ok u) j → j ≡ Ok tt
free u (Ok y) h = refl
free u (Err refusal) h = absurd h

-- what is refused is refused so
pub refused : {X A : Type 0} (R : X → A → Type 0) (fault : Fault) (j : Result A Refusal) → Agrees R (Err fault) j
    → IfRefused (λ refusal. j ≡ Err refusal) fault
refused R NoMemory j h = tt
refused R (Refused t) (Ok a) h = absurd h
refused R (Refused t) (Err refusal) h = ap Err (sym h)

-- what is behind a part that is refused
pub refused_behind : {A B : Type 0} (j : Result A Refusal) (f : A → Result B Refusal) (fault : Fault) → IfRefused (λ refusal. j ≡ Err refusal) fault
    → IfRefused (λ refusal. (j >>= f) ≡ Err refusal) fault
refused_behind j f NoMemory h = tt
refused_behind j f (Refused refusal) h = ap (λ k. k >>= f) h

-- the same part is refused
pub refused_alike : {B : Type 0} (j k : Result B Refusal) (fault : Fault) → j ≡ k → IfRefused (λ refusal. k ≡ Err refusal) fault
    → IfRefused (λ refusal. j ≡ Err refusal) fault
refused_alike j k NoMemory e h = tt
refused_alike j k (Refused refusal) e h = e ∙ h

-- a refusal is told of a name
pub told : {A : Type 0} (name : Id) (j : Result A Refusal) (before after : Fault) → IfRefused (λ refusal. j ≡ Err refusal) before
    → IsTold name before after → IfRefused (λ refusal. named name j ≡ Err refusal) after
told name j before NoMemory h is = tt
told name j NoMemory (Refused t) h is = absurd is
told name j (Refused refusal) (Refused t) h is = ap (named name) h ∙ ap Err (sym is)

-- ---- names

-- what names stand for where one of them stands for something else now
seen_now : (w : Walk) (env : Env) (name : List ℕ) (bound : Bound) → Rebinds w.scope.names name (Some bound) env
    → (n : List ℕ) → seen_or (has_label w.labels n) (bound_of env n) ≡ with_name (seen_in w) name (Stands bound) n
seen_now w env name bound h n = ap (seen_or (has_label w.labels n)) (h n) ∙ by_test (bytes_eq name n)
  where
    by_test : (b : Bool) → seen_or (has_label w.labels n) (if b then Some bound else bound_of w.scope.names n)
        ≡ (if b then Some (Stands bound) else seen_in w n)
    by_test true = refl
    by_test false = refl

abbrev pub names_now : Walk → Env → Names
names_now w env n = seen_or (has_label w.labels n) (bound_of env n)

pub named_now : (w : Walk) (env : Env) (name : List ℕ) (number x : ℕ) → number ≡ x → Rebinds w.scope.names name (Some (Variable number)) env
    → names_now w env ≡ with_name (seen_in w) name (Stands (Variable x))
named_now w env name number x same h =
    fun_ext (seen_now w env name (Variable number) h) ∙ ap (λ (y : ℕ). with_name (seen_in w) name (Stands (Variable y))) same

-- ---- variables

-- a variable of no bits but 0
pub plain_var : (role : Role) (wire : Bool) (x : Extent) (name : Id) (init : Bits) (v : Var) → init.width ≡ x.width → init.word ≡ 0
    → v ≡ spec.var_of role wire x name init → v ≡ spec.var_of role wire x name (bits_of x.width 0)
plain_var role wire x name init v width word is = is ∙ ap (spec.var_of role wire x name) (bits_are init x.width 0 width word)

-- ---- ports

abbrev port_room : HeaderPort → Reached → Extent → Result Reached Refusal
port_room p r x =
    if nat_lt (length r.vars) PORT_LIMIT
    then Ok (with_var (spec.var_of (spec.role_of p.direction) (spec.is_net_port p.shape.words) x p.name (bits_of x.width 0)) r)
    else Err (too_many (codes "ports") p.name.place)

-- a port whose name is free and whose extent is known
pub port_at : (p : HeaderPort) (span : Option (ℤ × ℤ)) (r : Reached) (x : Extent) → fresh r.names p.name ≡ Ok tt → extent_of p.name p.shape span ≡ Ok x
    → spec.named_port p span r ≡ port_room p r x
port_at p span r x f e =
    ap (λ (j : Result (Unit {0}) Refusal). j >>= λ _. extent_of p.name p.shape span >>= port_room p r) f
    ∙ ap (λ (j : Result Extent Refusal). j >>= port_room p r) e

pub port_var : (p : HeaderPort) (r : Reached) (x : Extent) (v : Var) → nat_lt (length r.vars) PORT_LIMIT ≡ true
    → v ≡ spec.var_of (spec.role_of p.direction) (spec.is_net_port p.shape.words) x p.name (bits_of x.width 0)
    → port_room p r x ≡ Ok (with_var v r)
port_var p r x v room is =
    ap (λ (b : Bool). if b
    then Ok (with_var (spec.var_of (spec.role_of p.direction) (spec.is_net_port p.shape.words) x p.name (bits_of x.width 0)) r)
    else Err (too_many (codes "ports") p.name.place)) room
    ∙ ap (λ (u : Var). Ok (with_var u r)) (sym is)

-- a port whose name is free, and whose extent is refused
pub port_refused : (p : HeaderPort) (span : Option (ℤ × ℤ)) (r : Reached) (fault : Fault) → fresh r.names p.name ≡ Ok tt
    → IfRefused (λ refusal. extent_of p.name p.shape span ≡ Err refusal) fault
    → IfRefused (λ refusal. spec.named_port p span r ≡ Err refusal) fault
port_refused p span r fault f h =
    refused_alike (spec.named_port p span r) (extent_of p.name p.shape span >>= port_room p r) fault
    (ap (λ (j : Result (Unit {0}) Refusal). j >>= λ _. extent_of p.name p.shape span >>= port_room p r) f)
    (refused_behind (extent_of p.name p.shape span) (port_room p r) fault h)

-- ---- variables with their values

abbrev assigned_bits : ℕ → Meaning → Bits
assigned_bits width m = bits_of width (meaning.assigned (Some width) false m)

given_bits : (first : Id) (width : ℕ) (init : Bits) (j : Judged) → Agrees (λ found m. found ≡ assigned_bits width m) (Ok init) j
    → (named first j >>= λ m. Ok (assigned_bits width m)) ≡ Ok init
given_bits first width init (Ok m) h = ap Ok (sym h)
given_bits first width init (Err refusal) h = absurd h

-- the initial value of a variable
pub initial_at : (first : Id) (names seen : Names) (name : Id) (number width : ℕ) (e : Expr) (init : Bits)
    → seen ≡ with_name names name.name (Stands (Variable number))
    → Agrees (λ found m. found ≡ bits_of width (meaning.assigned (Some width) false m)) (Ok init) (constant_at seen e)
    → spec.initial first names name number width e ≡ Ok init
initial_at first names seen name number width e init same h =
    ap (λ (s : Names). named first (constant_at s e) >>= λ m. Ok (assigned_bits width m)) (sym same) ∙ given_bits first width init (constant_at seen e) h

pub initialised_at : (first : Id) (x : Extent) (name : Id) (e : Expr) (r : Reached) (init : Bits)
    → spec.initial first r.names name (length r.vars) x.width e ≡ Ok init
    → spec.initialised first x name e r ≡ Ok (with_var (spec.var_of role.Inner false x name init) r)
initialised_at first x name e r init h =
    ap (λ (j : Result Bits Refusal). j >>= λ i. Ok (with_var (spec.var_of role.Inner false x name i) r)) h

-- a refused value
pub initialised_refused : (first : Id) (x : Extent) (name : Id) (e : Expr) (r : Reached) (seen : Names) (before after : Fault)
    → seen ≡ with_name r.names name.name (Stands (Variable (length r.vars)))
    → IfRefused (λ refusal. constant_at seen e ≡ Err refusal) before → IsTold first before after
    → IfRefused (λ refusal. spec.initialised first x name e r ≡ Err refusal) after
initialised_refused first x name e r seen before after same h is =
    refused_alike (spec.initialised first x name e r)
    ((named first (constant_at seen e) >>= λ m. Ok (assigned_bits x.width m)) >>= λ i. Ok (with_var (spec.var_of role.Inner false x name i) r)) after
    (ap (λ (s : Names). (named first (constant_at s e) >>= λ m. Ok (assigned_bits x.width m))
    >>= λ i. Ok (with_var (spec.var_of role.Inner false x name i) r)) (sym same))
    (refused_behind _ (λ i. Ok (with_var (spec.var_of role.Inner false x name i) r)) after
    (refused_behind (named first (constant_at seen e)) (λ m. Ok (assigned_bits x.width m)) after
    (told first (constant_at seen e) before after h is)))

-- ---- nets that are driven

abbrev pub driven_behind : Id → ℕ → Reached → Term → Result Reached Refusal
driven_behind name number s value = counted name.place s >>= λ t. Ok (with_driver (Assign (spec.whole_target name number) value name.place) t)

abbrev pub value_at : Id → ℕ → Expr → Reached → Result (Term × Bool) Refusal
value_at first width e s = named first (term_at s.names s.vars (Some width) false e)

-- what is reached once a net is declared
pub driven_from : (first : Id) (x : Extent) (name : Id) (e : Expr) (r s : Reached) → spec.valued name true x name None r ≡ Ok s
    → spec.driven first x name e r ≡ (value_at first x.width e s >>= λ value. driven_behind name (length r.vars) s value.0)
driven_from first x name e r s is =
    ap (λ (j : Result Reached Refusal). j >>= λ t. value_at first x.width e t >>= λ value. driven_behind name (length r.vars) t value.0) is

value_behind : {B : Type 0} (value : Term) (j : Result (Term × Bool) Refusal) (k : Term → Result B Refusal)
    → Agrees (λ found v. found ≡ v.0) (Ok value) j → (j >>= λ v. k v.0) ≡ k value
value_behind value (Ok v) k h = ap k (sym h)
value_behind value (Err refusal) k h = absurd h

-- a driven net whose value is known
pub driven_at : (first : Id) (x : Extent) (name : Id) (e : Expr) (r s : Reached) (value : Term)
    → spec.valued name true x name None r ≡ Ok s
    → Agrees (λ found v. found ≡ v.0) (Ok value) (value_at first x.width e s)
    → spec.driven first x name e r ≡ driven_behind name (length r.vars) s value
driven_at first x name e r s value is h =
    driven_from first x name e r s is ∙ value_behind value (value_at first x.width e s) (driven_behind name (length r.vars) s) h

pub driven_refused : (first : Id) (x : Extent) (name : Id) (e : Expr) (r s : Reached) (fault : Fault)
    → spec.valued name true x name None r ≡ Ok s
    → IfRefused (λ refusal. value_at first x.width e s ≡ Err refusal) fault
    → IfRefused (λ refusal. spec.driven first x name e r ≡ Err refusal) fault
driven_refused first x name e r s fault is h =
    refused_alike (spec.driven first x name e r) _ fault (driven_from first x name e r s is)
    (refused_behind (value_at first x.width e s) (λ v. driven_behind name (length r.vars) s v.0) fault h)

-- ---- names that are declared

-- a name that is free, whose extent is known
pub declared_at : (first : Id) (shape : Shape) (span : Option (ℤ × ℤ)) (d : Decl) (r : Reached) (x : Extent) → fresh r.names d.name ≡ Ok tt
    → extent_of first shape span ≡ Ok x
    → spec.declared_name first shape span d r ≡ spec.valued first (is_net shape.words) x d.name d.value r
declared_at first shape span d r x f e =
    ap (λ (j : Result (Unit {0}) Refusal). j >>= λ _. extent_of first shape span >>= λ y. spec.valued first (is_net shape.words) y d.name d.value r) f
    ∙ ap (λ (j : Result Extent Refusal). j >>= λ y. spec.valued first (is_net shape.words) y d.name d.value r) e

-- so where the extent is refused
pub declared_refused : (first : Id) (shape : Shape) (span : Option (ℤ × ℤ)) (d : Decl) (r : Reached) (fault : Fault) → fresh r.names d.name ≡ Ok tt
    → IfRefused (λ refusal. extent_of first shape span ≡ Err refusal) fault
    → IfRefused (λ refusal. spec.declared_name first shape span d r ≡ Err refusal) fault
declared_refused first shape span d r fault f h =
    refused_alike (spec.declared_name first shape span d r) _ fault
    (ap (λ (j : Result (Unit {0}) Refusal). j >>= λ _. extent_of first shape span >>= λ y. spec.valued first (is_net shape.words) y d.name d.value r) f)
    (refused_behind (extent_of first shape span) (λ y. spec.valued first (is_net shape.words) y d.name d.value r) fault h)

-- a name with no value
pub none_valued : (first : Id) (wire : Bool) (x : Extent) (name : Id) (value : Option Expr) (r : Reached) → value ≡ None
    → spec.valued first wire x name value r ≡ spec.valued name wire x name None r
none_valued first wire x name value r is = ap (λ (v : Option Expr). spec.valued first wire x name v r) is

-- a net with a value
pub net_valued : (first : Id) (wire : Bool) (x : Extent) (name : Id) (value : Option Expr) (e : Expr) (r : Reached) → value ≡ Some e → wire ≡ true
    → spec.valued first wire x name value r ≡ spec.driven first x name e r
net_valued first wire x name value e r is wired =
    ap (λ (v : Option Expr). spec.valued first wire x name v r) is ∙ ap (λ (b : Bool). spec.valued first b x name (Some e) r) wired

-- a variable with a value
pub variable_valued : (first : Id) (wire : Bool) (x : Extent) (name : Id) (value : Option Expr) (e : Expr) (r : Reached) → value ≡ Some e → wire ≡ false
    → spec.valued first wire x name value r ≡ spec.initialised first x name e r
variable_valued first wire x name value e r is unwired =
    ap (λ (v : Option Expr). spec.valued first wire x name v r) is ∙ ap (λ (b : Bool). spec.valued first b x name (Some e) r) unwired

-- a walk with these names, nets and variables
abbrev pub now_reached : Walk → Names → List Var → Reached
now_reached w names vars = record { names = names; vars = vars; drivers = w.drivers; assignments = w.assignments }

-- a variable that was added behind others, its name being bound before
pub added : (w : Walk) (names : Names) (vars : List Var) (v u : Var) → names ≡ with_name (seen_in w) v.name (Stands (Variable (length w.scope.vars))) →
    u ≡ v → vars ≡ (w.scope.vars ++ u ∷ []) → with_var v (reached w) ≡ now_reached w names vars
added w names vars v u named same pushed =
    ap (λ (ns : Names). now_reached w ns (w.scope.vars ++ v ∷ [])) (sym named)
    ∙ ap (λ (t : Var). now_reached w names (w.scope.vars ++ t ∷ [])) (sym same)
    ∙ ap (now_reached w names) (sym pushed)
