-- Ports stand before what the module alone sees.
use Rattle.std.proofs.Common.{◌≡◌, ℕ, zero, suc, ◌+◌, ◌<◌, Bool, true, false, List, [], ◌∷◌, ◌++◌, length, map, None, Some, refl, sym, ◌∙◌, ap, subst, arith, append_assoc}
use Rattle.std.specs.Prelude.{slice_get, if◌then◌else◌}
use Rattle.std.specs.List.{AllByRecursion, IsDistinct}
use Rattle.std.specs.Str.{bytes_eq}
use Rattle.std.proofs.lemmas.List.{append-nil, map-append}
use Rattle.std.proofs.lemmas.Map.Keys.{IsDistinct-head, IsDistinct-tail, IsDistinct-cons}
use Rattle.sv_base.specs.declared.face.Port.{Port}
use Rattle.net_ir.specs.declared.design.Var.{Var}
use Rattle.net_ir.specs.declared.design.Spec.{Spec}
use Rattle.net_ir.specs.Face.{is_inner, port_of, ports_from, ports_of}
use Rattle.net_ir.specs.Facts.{HasPortsFirst}
use Rattle.net_ir.proofs.Parts.{all_joined}

abbrev pub IsPort : Var → Type 0
IsPort v = is_inner v.role ≡ false

abbrev pub IsInner : Var → Type 0
IsInner v = is_inner v.role ≡ true

-- ports, and behind them what the module alone sees
pub record ArePortsFirst (vars : List Var) : Type 0 where
  pub ports : List Var
  pub inner : List Var
  pub both : vars ≡ ports ++ inner
  pub all_ports : AllByRecursion IsPort ports
  pub all_inner : AllByRecursion IsInner inner

pub only_ports : (vars : List Var) → AllByRecursion IsPort vars → ArePortsFirst vars
only_ports vars all = record { ports = vars; inner = []; both = sym (append-nil vars); all_ports = all; all_inner = tt }

pub inner_behind : (vars : List Var) (v : Var) → IsInner v → ArePortsFirst vars → ArePortsFirst (vars ++ v ∷ [])
inner_behind vars v is h = record {
  ports = h.ports;
  inner = h.inner ++ v ∷ [];
  both = ap (λ vs. vs ++ v ∷ []) h.both ∙ append_assoc h.ports h.inner (v ∷ []);
  all_ports = h.all_ports;
  all_inner = all_joined IsInner h.inner (v ∷ []) h.all_inner (is, tt);
}

-- ---- the ports of the face

none_inner : (spec : Spec) (n : ℕ) (inner : List Var) → AllByRecursion IsInner inner → ports_from spec n inner ≡ []
none_inner spec n [] all = refl
none_inner spec n (v ∷ inner) all = ap (λ (b : Bool). if b then [] else port_of spec n v ∷ ports_from spec (n + 1) inner) all.0

-- the names of the face's ports are those of the ports
names_from : (spec : Spec) (n : ℕ) (ports inner : List Var) → AllByRecursion IsPort ports → AllByRecursion IsInner inner →
    map (λ (p : Port). p.name) (ports_from spec n (ports ++ inner)) ≡ map (λ (v : Var). v.name) ports
names_from spec n [] inner outer only = ap (map (λ (p : Port). p.name)) (none_inner spec n inner only)
names_from spec n (v ∷ ports) inner outer only =
    ap (λ (b : Bool). map (λ (p : Port). p.name) (if b then [] else port_of spec n v ∷ ports_from spec (n + 1) (ports ++ inner))) outer.0
    ∙ ap (λ ns. v.name ∷ ns) (names_from spec (n + 1) ports inner outer.1 only)

long_from : (spec : Spec) (n : ℕ) (ports inner : List Var) → AllByRecursion IsPort ports → AllByRecursion IsInner inner → length (ports_from spec n (ports ++ inner)) ≡ length ports
long_from spec n [] inner outer only = ap length (none_inner spec n inner only)
long_from spec n (v ∷ ports) inner outer only =
    ap (λ (b : Bool). length (if b then [] else port_of spec n v ∷ ports_from spec (n + 1) (ports ++ inner))) outer.0
    ∙ ap suc (long_from spec (n + 1) ports inner outer.1 only)

-- a port stands among the first
no_port_there : (inner : List Var) (x : ℕ) (v : Var) → AllByRecursion IsInner inner → slice_get inner x ≡ Some v → IsPort v → ⊥
no_port_there [] x v only at is = let clash : None ≡ Some v = at in cc
no_port_there (w ∷ inner) zero v only at is =
    let found : Some w ≡ Some v = at in
    let same : w ≡ v = cc in
    let clash : true ≡ false = sym only.0 ∙ ap (λ (u : Var). is_inner u.role) same ∙ is in
    cc
no_port_there (w ∷ inner) (suc x) v only at is = no_port_there inner x v only.1 at is

port_place : (ports inner : List Var) (x : ℕ) (v : Var) → AllByRecursion IsInner inner → slice_get (ports ++ inner) x ≡ Some v → IsPort v → x < length ports
port_place [] inner x v only at is = absurd (no_port_there inner x v only at is)
port_place (w ∷ ports) inner zero v only at is = omega arith
port_place (w ∷ ports) inner (suc x) v only at is = let rest : x < length ports = port_place ports inner x v only at is in omega arith

module _ (spec : Spec) (h : ArePortsFirst spec.vars) where
  many : length (ports_of spec) ≡ length h.ports
  many = ap (λ (vars : List Var). length (ports_from spec 0 vars)) h.both ∙ long_from spec 0 h.ports h.inner h.all_ports h.all_inner

  pub ports_first : HasPortsFirst spec
  ports_first x v at is =
      subst (λ n. x < n) (sym many) (port_place h.ports h.inner x v h.all_inner (subst (λ (vars : List Var). slice_get vars x ≡ Some v) h.both at) is)

  port_names : map (λ (p : Port). p.name) (ports_of spec) ≡ map (λ (v : Var). v.name) h.ports
  port_names = ap (λ (vars : List Var). map (λ (p : Port). p.name) (ports_from spec 0 vars)) h.both ∙ names_from spec 0 h.ports h.inner h.all_ports h.all_inner

-- ---- names

front_apart : (name : List ℕ) (front behind : List (List ℕ)) → AllByRecursion (λ n. bytes_eq name n ≡ false) (front ++ behind) → AllByRecursion (λ n. bytes_eq name n ≡ false) front
front_apart name [] behind all = tt
front_apart name (n ∷ front) behind all = (all.0, front_apart name front behind all.1)

nothing_distinct : IsDistinct {K = List ℕ} bytes_eq []
unfolding IsDistinct
nothing_distinct = tt

front_distinct : (front behind : List (List ℕ)) → IsDistinct bytes_eq (front ++ behind) → IsDistinct bytes_eq front
front_distinct [] behind all = nothing_distinct
front_distinct (n ∷ front) behind all =
    IsDistinct-cons bytes_eq n front (front_apart n front behind (IsDistinct-head bytes_eq n (front ++ behind) all))
    (front_distinct front behind (IsDistinct-tail bytes_eq n (front ++ behind) all))

-- where variables have names of their own, ports do
pub ports_distinct : (spec : Spec) → ArePortsFirst spec.vars → IsDistinct bytes_eq (map (λ (v : Var). v.name) spec.vars) → IsDistinct bytes_eq (map (λ (p : Port). p.name) (ports_of spec))
ports_distinct spec h distinct =
    subst (IsDistinct bytes_eq) (sym (port_names spec h))
    (front_distinct (map (λ (v : Var). v.name) h.ports) (map (λ (v : Var). v.name) h.inner)
    (subst (IsDistinct bytes_eq) (ap (map (λ (v : Var). v.name)) h.both ∙ map-append (λ (v : Var). v.name) h.ports h.inner) distinct))
