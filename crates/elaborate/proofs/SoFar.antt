-- What the text of a module has given so far is lawful, and stays so.
use Rattle.std.proofs.Common.{◌≡◌, ℕ, ◌+◌, ◌<◌, Bool, true, false, ◌||◌, List, [], ◌∷◌, ◌++◌, length, map, Option, None, Some, refl, sym, ◌∙◌, ap, subst, arith, length-append}
use Rattle.std.specs.Prelude.{is_some, nat_lt, codes, Result, Ok, Err, IfOk, if◌then◌else◌}
use Rattle.std.specs.List.{AllByRecursion, IsDistinct, list_any}
use Rattle.std.specs.Str.{bytes_eq}
use Rattle.std.specs.Cmp.Lexicographic.{bytes_decides, nat_list_eq_equiv}
use Rattle.std.proofs.lemmas.List.{map-append}
use Rattle.std.proofs.lemmas.Map.Keys.{IsDistinct-push}
use Rattle.bit_ops.specs.Width.{IsWidth}
use Rattle.sv_base.specs.declared.kind.Kind.TheVariants.{DuplicateName}
use Rattle.sv_base.specs.declared.refusal.Place.{Place}
use Rattle.sv_base.specs.declared.refusal.Refusal.{Refusal}
use Rattle.sv_ast.specs.declared.expression.Id.{Id}
use Rattle.const_eval.specs.declared.env.Bound.TheVariants.{Variable}
use Rattle.const_eval.specs.Expressions.{◌>>=◌, refused_at}
use Rattle.const_eval.proofs.Judged.{ok_behind, ok_after}
use Rattle.net_ir.specs.declared.design.Var.{Var}
use Rattle.net_ir.specs.declared.design.Driver.{Driver}
use Rattle.net_ir.specs.Lawful.{IsLawfulVar, IsLawfulDriver}
use Rattle.net_ir.proofs.Parts.{all_joined, all_each}
use Rattle.net_ir.proofs.More.{driver_stays}
use Rattle.width_rules.specs.Scope.{AreThere}
use Rattle.elaborate.specs.declared.limits.TheConstants.{ASSIGNMENT_LIMIT}
use Rattle.elaborate.specs.declared.names.Seen.{Seen}
use Rattle.elaborate.specs.declared.names.Seen.TheVariants.{Stands, Label}
use Rattle.elaborate.specs.Names.{Names, bound_in, bounds, with_name}
use Rattle.elaborate.specs.Refusals.{fresh, too_many}
use Rattle.elaborate.specs.Reached.{Reached, Step, start, in_turn, with_var, with_driver, counted}
use Rattle.elaborate.specs.Statements.{labelled}

-- the name of a net or variable is visible
abbrev pub IsVisible : Names → Var → Type 0
IsVisible names v = is_some (names v.name) ≡ true

-- what is visible is there, nets, variables and drivers are lawful, and the names of nets and variables are visible, each one its own
pub record IsLawfulSoFar (r : Reached) : Type 0 where
  pub there : AreThere (bounds r.names) r.vars
  pub vars : AllByRecursion IsLawfulVar r.vars
  pub drivers : AllByRecursion (IsLawfulDriver r.vars) r.drivers
  pub visible : AllByRecursion (IsVisible r.names) r.vars
  pub distinct : IsDistinct bytes_eq (map (λ (v : Var). v.name) r.vars)

-- ---- before the first word

nothing_distinct : IsDistinct {K = List ℕ} bytes_eq []
unfolding IsDistinct
nothing_distinct = tt

pub lawful_start : IsLawfulSoFar start
lawful_start = record {
  there = record { there = λ name x is. absurd (let clash : None ≡ Some (Variable x) = is in cc); widths = tt };
  vars = tt;
  drivers = tt;
  visible = tt;
  distinct = nothing_distinct;
}

-- ---- names

-- what is visible stays visible
still_visible : (names : Names) (name : List ℕ) (seen : Seen) (n : List ℕ) → is_some (names n) ≡ true → is_some (with_name names name seen n) ≡ true
still_visible names name seen n is = by_test (bytes_eq name n) where
  by_test : (b : Bool) → is_some (if b then Some seen else names n) ≡ true
  by_test true = refl
  by_test false = is

now_visible : (names : Names) (name : List ℕ) (seen : Seen) → is_some (with_name names name seen name) ≡ true
now_visible names name seen = ap (λ (b : Bool). is_some (if b then Some seen else names name)) ((bytes_decides name name).1 refl)

-- a name that was not visible is none of those that were
clash : (b : Bool) → b ≡ false → b ≡ true → ⊥
clash b off on = let is : false ≡ true = sym off ∙ on in cc

apart : (names : Names) (name : List ℕ) → is_some (names name) ≡ false → (vars : List Var) → AllByRecursion (IsVisible names) vars →
    list_any (bytes_eq name) (map (λ (v : Var). v.name) vars) ≡ false
apart names name free [] all = refl
apart names name free (v ∷ vars) all = by_test (bytes_eq name v.name) refl (apart names name free vars all.1) where
  by_test : (b : Bool) → bytes_eq name v.name ≡ b → list_any (bytes_eq name) (map (λ (v : Var). v.name) vars) ≡ false →
      (b || list_any (bytes_eq name) (map (λ (v : Var). v.name) vars)) ≡ false
  by_test true is rest = absurd (clash (is_some (names name)) free (subst (λ (n : List ℕ). is_some (names n) ≡ true) (sym ((bytes_decides name v.name).0 is)) all.0))
  by_test false is rest = rest

-- ---- a variable more

there_with : (names : Names) (vars : List Var) (v : Var) → ((name : List ℕ) (x : ℕ) → bounds names name ≡ Some (Variable x) → x < length vars) →
    (name : List ℕ) (x : ℕ) → bounds (with_name names v.name (Stands (Variable (length vars)))) name ≡ Some (Variable x) → x < length (vars ++ v ∷ [])
there_with names vars v there name x = by_test (bytes_eq v.name name) where
  by_test : (b : Bool) → bound_in (if b then Some (Stands (Variable (length vars))) else names name) ≡ Some (Variable x) → x < length (vars ++ v ∷ [])
  by_test true is =
      let both : Some (Variable (length vars)) ≡ Some (Variable x) = is in
      let same : length vars ≡ x = cc in
      omega (arith, length-append vars (v ∷ []))
  by_test false is = let before : x < length vars = there name x is in omega (arith, length-append vars (v ∷ []))

pub var_added : (v : Var) (r : Reached) → IsLawfulVar v → IsWidth v.width → is_some (r.names v.name) ≡ false → IsLawfulSoFar r → IsLawfulSoFar (with_var v r)
var_added v r lawful wide free h = record {
  there = record {
    there = there_with r.names r.vars v h.there.there;
    widths = all_joined (λ (u : Var). IsWidth u.width) r.vars (v ∷ []) h.there.widths (wide, tt);
  };
  vars = all_joined IsLawfulVar r.vars (v ∷ []) h.vars (lawful, tt);
  drivers = all_each (IsLawfulDriver r.vars) (IsLawfulDriver (r.vars ++ v ∷ [])) (driver_stays r.vars (v ∷ [])) r.drivers h.drivers;
  visible = all_joined (IsVisible names) r.vars (v ∷ [])
      (all_each (IsVisible r.names) (IsVisible names) (λ u is. still_visible r.names v.name seen u.name is) r.vars h.visible)
      (now_visible r.names v.name seen, tt);
  distinct = subst (IsDistinct bytes_eq) (sym (map-append (λ (u : Var). u.name) r.vars (v ∷ [])))
      (IsDistinct-push nat_list_eq_equiv (map (λ (u : Var). u.name) r.vars) v.name h.distinct (apart r.names v.name free r.vars h.visible));
} where
  seen : Seen
  seen = Stands (Variable (length r.vars))

  names : Names
  names = with_name r.names v.name seen

abbrev free_or_not : Id → Bool → Result (Unit {0}) Refusal
free_or_not name b = if b then Err (refused_at DuplicateName name) else Ok tt

-- a name is free
pub is_fresh : (names : Names) (name : Id) → IfOk (fresh names name) (λ _. is_some (names name.name) ≡ false)
is_fresh names name = by_test (is_some (names name.name)) refl where
  by_test : (b : Bool) → is_some (names name.name) ≡ b → IfOk (free_or_not name b) (λ _. is_some (names name.name) ≡ false)
  by_test true is = tt
  by_test false is = is

-- ---- a driver more, an assignment more, a label more

pub driver_added : (d : Driver) (r : Reached) → IsLawfulDriver r.vars d → IsLawfulSoFar r → IsLawfulSoFar (with_driver d r)
driver_added d r lawful h = record {
  there = h.there;
  vars = h.vars;
  drivers = all_joined (IsLawfulDriver r.vars) r.drivers (d ∷ []) h.drivers (lawful, tt);
  visible = h.visible;
  distinct = h.distinct;
}

-- what is reached with another number of assignments
abbrev pub recounted : Reached → ℕ → Reached
recounted r n = record { names = r.names; vars = r.vars; drivers = r.drivers; assignments = n }

pub lawful_recounted : (r : Reached) (n : ℕ) → IsLawfulSoFar r → IsLawfulSoFar (recounted r n)
lawful_recounted r n h = record { there = h.there; vars = h.vars; drivers = h.drivers; visible = h.visible; distinct = h.distinct }

pub behind_counted : {B : Type 0} (Q : B → Type 0) (place : Place) (r : Reached) (f : Reached → Result B Refusal) → ((n : ℕ) → IfOk (f (recounted r n)) Q) →
    IfOk (counted place r >>= f) Q
behind_counted Q place r f step = by_test (nat_lt r.assignments ASSIGNMENT_LIMIT) where
  by_test : (b : Bool) → IfOk ((if b then Ok (recounted r (r.assignments + 1)) else Err (too_many (codes "assignments") place)) >>= f) Q
  by_test true = step (r.assignments + 1)
  by_test false = tt

-- what was reached, with the same nets and variables as before
abbrev pub IsLawfulBehind : Reached → Reached → Type 0
IsLawfulBehind r s = IsLawfulSoFar s × (s.vars ≡ r.vars)

label_there : (names : Names) (vars : List Var) (label : List ℕ) → ((name : List ℕ) (x : ℕ) → bounds names name ≡ Some (Variable x) → x < length vars) →
    (name : List ℕ) (x : ℕ) → bounds (with_name names label Label) name ≡ Some (Variable x) → x < length vars
label_there names vars label there name x = by_test (bytes_eq label name) where
  by_test : (b : Bool) → bound_in (if b then Some Label else names name) ≡ Some (Variable x) → x < length vars
  by_test true is = absurd (let both : None ≡ Some (Variable x) = is in cc)
  by_test false is = there name x is

pub label_added : (label : Option Id) (r : Reached) → IsLawfulSoFar r → IfOk (labelled label r) (IsLawfulBehind r)
label_added None r h = (h, refl)
label_added (Some name) r h =
    ok_after (IsLawfulBehind r) (fresh r.names name) (λ _. Ok (record { names = with_name r.names name.name Label; vars = r.vars; drivers = r.drivers; assignments = r.assignments }))
    (λ _. (
      record {
        there = record { there = label_there r.names r.vars name.name h.there.there; widths = h.there.widths };
        vars = h.vars;
        drivers = h.drivers;
        visible = all_each (IsVisible r.names) (IsVisible (with_name r.names name.name Label)) (λ u is. still_visible r.names name.name Label u.name is) r.vars h.visible;
        distinct = h.distinct;
      },
      refl,
    ))

-- ---- steps one behind another

pub in_turn_keeps : {A : Type 0} (P : Reached → Type 0) (step : A → Step) → ((a : A) (r : Reached) → P r → IfOk (step a r) P) → (xs : List A) (r : Reached) → P r →
    IfOk (in_turn step xs r) P
in_turn_keeps P step keeps [] r h = h
in_turn_keeps P step keeps (a ∷ more) r h = ok_behind P P (step a r) (λ s. in_turn step more s) (keeps a r h) (λ s k. in_turn_keeps P step keeps more s k)
