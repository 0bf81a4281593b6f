-- Targets with constant positions, and drivers that are timely.
use Rattle.std.proofs.Common.{◌≡◌, ℕ, List, [], ◌∷◌, ◌++◌, map, Bool, true, false, refl, sym, ◌∙◌, ap, subst}
use Rattle.std.specs.Prelude.{⊤, IsTrue, ◌↔◌, Option, None, Some}
use Rattle.std.specs.List.{AllByRecursion, flat_map, list_all}
use Rattle.std.proofs.lemmas.List.Folds.{flat_map-map, list_all-map}
use Rattle.sv_base.specs.declared.refusal.Place.{Place}
use Rattle.net_ir.specs.declared.statement.Pos.{Pos}
use Rattle.net_ir.specs.declared.statement.Target.{Target, Of, List as Parts}
use Rattle.net_ir.specs.declared.statement.Target.TheOpen as target
use Rattle.net_ir.specs.declared.statement.Target.TheOpen.{Target-F}
use Rattle.net_ir.specs.declared.statement.Target.TheViews.{out-Target, roll-Target}
use Rattle.net_ir.specs.declared.statement.Target.TheVariants.{outs-Of, outs-List, rolls-Of, rolls-List}
use Rattle.net_ir.specs.declared.statement.Target.TheFolds.{map-Target, fold_out-Target, ind-Target, every_here-Target, every_held-Target, every_made-Target}
use Rattle.net_ir.specs.declared.design.Driver.{Driver}
use Rattle.net_ir.specs.declared.design.Driver.TheVariants as driver
use Rattle.net_ir.specs.declared.design.Driver.TheVariants.{Assign, Comb, Clocked}
use Rattle.net_ir.specs.Target.{is_empty, position_reads, target_reads, target_reads_layer}
use Rattle.net_values.specs.Positions.{HasFixedPosition, HasFixedLayer, HasFixedPositions}
use Rattle.plain_run.specs.Plain.{IsTimely}
use Rattle.plain_run.specs.code.Timely.{has_fixed_position, fixed_layer, has_fixed_positions, is_timely}
use Rattle.plain_run.proofs.JoinedTests.{and_true, and_front, and_back}

-- ---- one layer of a target

layer_fixed : (t : Target) (x : Target-F Target) → out-Target t ≡ x → has_fixed_positions t ≡ fixed_layer (map-Target Target Bool has_fixed_positions x)
layer_fixed t x is = fold_out-Target Bool fixed_layer t ∙ ap (λ y. fixed_layer (map-Target Target Bool has_fixed_positions y)) is

pub name_fixed : (var : Option ℕ) (name : List ℕ) (place : Place) (p : Option Pos) → has_fixed_positions (Of var name place p) ≡ has_fixed_position p
name_fixed var name place p = layer_fixed (Of var name place p) (target.Of var name place p) (outs-Of var name place p)

pub parts_fixed : (parts : List Target) → has_fixed_positions (Parts parts) ≡ list_all has_fixed_positions parts
parts_fixed parts = layer_fixed (Parts parts) (target.List parts) (outs-List parts) ∙ list_all-map (λ part. part) has_fixed_positions parts

layer_reads : (t : Target) (x : Target-F Target) → out-Target t ≡ x → target_reads t ≡ target_reads_layer (map-Target Target (List ℕ) target_reads x)
layer_reads t x is = fold_out-Target (List ℕ) target_reads_layer t ∙ ap (λ y. target_reads_layer (map-Target Target (List ℕ) target_reads y)) is

name_reads : (var : Option ℕ) (name : List ℕ) (place : Place) (p : Option Pos) → target_reads (Of var name place p) ≡ position_reads p
name_reads var name place p = layer_reads (Of var name place p) (target.Of var name place p) (outs-Of var name place p)

parts_reads : (parts : List Target) → target_reads (Parts parts) ≡ flat_map target_reads parts
parts_reads parts = layer_reads (Parts parts) (target.List parts) (outs-List parts) ∙ flat_map-map (λ (reads : List ℕ). reads) target_reads parts

-- ---- targets whose positions are constant, part by part

abbrev Fixed : Type 0
Fixed = (t : Target) × HasFixedPositions t

held : (parts : List Target) → AllByRecursion HasFixedPositions parts → List Fixed
held [] all = []
held (t ∷ parts) all = (t, all.0) ∷ held parts all.1

held_are : (parts : List Target) (all : AllByRecursion HasFixedPositions parts) → map (λ (e : Fixed). e.0) (held parts all) ≡ parts
unfolding held
held_are [] all = refl
held_are (t ∷ parts) all = ap (λ ts. t ∷ ts) (held_are parts all.1)

all_fixed : (es : List Fixed) → AllByRecursion HasFixedPositions (map (λ e. e.0) es)
all_fixed [] = tt
all_fixed (e ∷ es) = (e.1, all_fixed es)

abbrev HasFixedParts : Target-F Target → Type 0
HasFixedParts (target.Of var name place p) = ⊤
HasFixedParts (target.List parts) = AllByRecursion HasFixedPositions parts

held_parts : (y : Target-F Fixed) → HasFixedParts (map-Target Fixed Target (λ e. e.0) y)
held_parts (target.Of var name place p) = tt
held_parts (target.List es) = all_fixed es

parts_apart : (parts : List Target) → HasFixedPositions (Parts parts) → AllByRecursion HasFixedPositions parts
parts_apart parts fixed =
    let all = every_held-Target HasFixedLayer (Parts parts) fixed in
    subst HasFixedParts (all.1 ∙ outs-List parts) (held_parts all.0)

parts_together : (parts : List Target) → AllByRecursion HasFixedPositions parts → HasFixedPositions (Parts parts)
parts_together parts all =
    subst HasFixedPositions (rolls-List parts)
    (every_made-Target HasFixedLayer (target.List parts) (target.List (held parts all)) (ap (λ ts. target.List ts) (held_are parts all)) tt)

name_apart : (var : Option ℕ) (name : List ℕ) (place : Place) (p : Option Pos) → HasFixedPositions (Of var name place p) → HasFixedPosition p
name_apart var name place p fixed = subst HasFixedLayer (outs-Of var name place p) (every_here-Target HasFixedLayer (Of var name place p) fixed)

name_together : (var : Option ℕ) (name : List ℕ) (place : Place) (p : Option Pos) → HasFixedPosition p → HasFixedPositions (Of var name place p)
name_together var name place p fixed =
    subst HasFixedPositions (rolls-Of var name place p)
    (every_made-Target HasFixedLayer (target.Of var name place p) (target.Of var name place p) refl fixed)

-- ---- what is found of a target

position_sound : (p : Option Pos) → has_fixed_position p ≡ true → HasFixedPosition p
position_sound None found = tt
position_sound (Some p) found = found

position_complete : (p : Option Pos) → HasFixedPosition p → has_fixed_position p ≡ true
position_complete None fixed = refl
position_complete (Some p) fixed = fixed

empty_is : {X : Type 0} (xs : List X) → is_empty xs ≡ true → xs ≡ []
empty_is [] found = refl
empty_is (x ∷ xs) found = absurd (let clash : false ≡ true = found in cc)

position_unread : (p : Option Pos) → HasFixedPosition p → position_reads p ≡ []
position_unread None fixed = refl
position_unread (Some p) fixed = empty_is (position_reads (Some p)) fixed

record IsDecided (t : Target) : Type 0 where
  pub sound : has_fixed_positions t ≡ true → HasFixedPositions t
  pub complete : HasFixedPositions t → has_fixed_positions t ≡ true
  pub unread : HasFixedPositions t → target_reads t ≡ []

abbrev Decided : Type 0
Decided = (t : Target) × IsDecided t

all_sound : (es : List Decided) → list_all has_fixed_positions (map (λ e. e.0) es) ≡ true → AllByRecursion HasFixedPositions (map (λ e. e.0) es)
all_sound [] found = tt
all_sound (e ∷ es) found =
    let rest = list_all has_fixed_positions (map (λ (d : Decided). d.0) es) in
    (e.1.sound (and_front (has_fixed_positions e.0) rest found), all_sound es (and_back (has_fixed_positions e.0) rest found))

all_complete : (es : List Decided) → AllByRecursion HasFixedPositions (map (λ e. e.0) es) → list_all has_fixed_positions (map (λ e. e.0) es) ≡ true
all_complete [] all = refl
all_complete (e ∷ es) all =
    and_true (has_fixed_positions e.0) (list_all has_fixed_positions (map (λ (d : Decided). d.0) es)) (e.1.complete all.0) (all_complete es all.1)

all_unread : (es : List Decided) → AllByRecursion HasFixedPositions (map (λ e. e.0) es) → flat_map target_reads (map (λ e. e.0) es) ≡ []
all_unread [] all = refl
all_unread (e ∷ es) all =
    ap (λ reads. reads ++ flat_map target_reads (map (λ (d : Decided). d.0) es)) (e.1.unread all.0) ∙ all_unread es all.1

layer_decided : (y : Target-F Decided) → IsDecided (roll-Target (map-Target Decided Target (λ e. e.0) y))
layer_decided (target.Of var name place p) =
    subst IsDecided (sym (rolls-Of var name place p)) (record {
      sound = λ found. name_together var name place p (position_sound p (sym (name_fixed var name place p) ∙ found));
      complete = λ fixed. name_fixed var name place p ∙ position_complete p (name_apart var name place p fixed);
      unread = λ fixed. name_reads var name place p ∙ position_unread p (name_apart var name place p fixed);
    })
layer_decided (target.List es) =
    let parts : List Target = map (λ (e : Decided). e.0) es in
    subst IsDecided (sym (rolls-List parts)) (record {
      sound = λ found. parts_together parts (all_sound es (sym (parts_fixed parts) ∙ found));
      complete = λ fixed. parts_fixed parts ∙ all_complete es (parts_apart parts fixed);
      unread = λ fixed. parts_reads parts ∙ all_unread es (parts_apart parts fixed);
    })

target_decided : (t : Target) → IsDecided t
target_decided = ind-Target IsDecided (λ x y is. subst (λ z. IsDecided (roll-Target z)) is (layer_decided y))

-- constant positions read nothing
pub fixed_unread : (t : Target) → HasFixedPositions t → target_reads t ≡ []
fixed_unread t = (target_decided t).unread

-- ---- drivers

driver_sound : (d : Driver) → is_timely d ≡ true → IsTimely d
driver_sound (Assign to value place) found = (target_decided to).sound found
driver_sound (Comb body place) found = absurd (let clash : false ≡ true = found in cc)
driver_sound (Clocked triggers body place) found = tt
driver_sound (driver.Instance made) found = absurd (let clash : false ≡ true = found in cc)

driver_complete : (d : Driver) → IsTimely d → is_timely d ≡ true
driver_complete (Assign to value place) timely = (target_decided to).complete timely
driver_complete (Comb body place) timely = absurd timely
driver_complete (Clocked triggers body place) timely = refl
driver_complete (driver.Instance made) timely = absurd timely

drivers_sound : (ds : List Driver) → list_all is_timely ds ≡ true → AllByRecursion IsTimely ds
drivers_sound [] found = tt
drivers_sound (d ∷ ds) found = (
  driver_sound d (and_front (is_timely d) (list_all is_timely ds) found),
  drivers_sound ds (and_back (is_timely d) (list_all is_timely ds) found),
)

drivers_complete : (ds : List Driver) → AllByRecursion IsTimely ds → list_all is_timely ds ≡ true
drivers_complete [] timely = refl
drivers_complete (d ∷ ds) timely = and_true (is_timely d) (list_all is_timely ds) (driver_complete d timely.0) (drivers_complete ds timely.1)

-- what is found of the drivers decides
pub timely_decided : (ds : List Driver) (found : Bool) → found ≡ list_all is_timely ds → IsTrue found ↔ AllByRecursion IsTimely ds
timely_decided ds found is = (
  (λ holds_now. drivers_sound ds (sym is ∙ holds_now)),
  (λ timely. is ∙ drivers_complete ds timely),
)
