-- Rooms: how they bound those of children, and how little a call takes.
use Rattle.std.proofs.Common.{◌≡◌, ℕ, zero, suc, ◌+◌, ◌*◌, ◌/◌, ◌<◌, ◌≤◌, min, List, [], ◌∷◌, length, map, refl, ap, subst, arith}
use Rattle.std.specs.Prelude.{slice_get, Some}
use Rattle.std.proofs.lemmas.Nat.{le-div}
use Rattle.std.proofs.lemmas.Option.{none-some, same_Some}
use Rattle.std.proofs.Math.Nat.{div-mul-le_self, add-div_right, le-div_iff_mul-le, min-le_left, min-le_right, le-min, add-min-add_right}
use Rattle.model_handle.specs.Models.{least_room}

div_less : (r z by : ℕ) → 0 < by → r ≤ z + by → r / by ≤ z / by + 1
div_less r z by some near =
    let whole : r / by * by ≤ r = div-mul-le_self r by in
    let more : r / by ≤ (z + by) / by = le-div (r / by) (z + by) by some (omega (arith, whole, near)) in
    subst (λ n. r / by ≤ n) (add-div_right z some) more

pub least_own : (own by : ℕ) (rooms : List ℕ) → least_room own by rooms ≤ own
least_own own by [] = omega arith
least_own own by (r ∷ rooms) = omega (arith, min-le_right (r / by) (least_room own by rooms), least_own own by rooms)

least_at : (own by : ℕ) (rooms : List ℕ) (i r : ℕ) → slice_get rooms i ≡ Some r → least_room own by rooms ≤ r / by
least_at own by [] i r at = absurd (none-some r at)
least_at own by (x ∷ rooms) zero r at = subst (λ y. least_room own by (x ∷ rooms) ≤ y / by) (same_Some x r at) (min-le_left (x / by) (least_room own by rooms))
least_at own by (x ∷ rooms) (suc i) r at = omega (arith, min-le_right (x / by) (least_room own by rooms), least_at own by rooms i r at)

-- where there is room, each of these rooms has as much as is divided by
pub least_fits : (own by : ℕ) (rooms : List ℕ) (i r : ℕ) → 0 < by → 0 < least_room own by rooms → slice_get rooms i ≡ Some r → by ≤ r
least_fits own by rooms i r some room at =
    let one : 1 * by ≤ r = (le-div_iff_mul-le some).0 (omega (arith, room, least_at own by rooms i r at)) in
    omega (arith, one)

-- where each falls by as much at most, the least falls by one at most
pub least_less : (own more by : ℕ) (rooms rest : List ℕ) → 0 < by → length rest ≡ length rooms → own ≤ more + 1 → ((i r z : ℕ) → slice_get rooms i ≡ Some r → slice_get rest i ≡ Some z → r ≤ z + by) →
    least_room own by rooms ≤ least_room more by rest + 1
least_less own more by [] [] some same near each = near
least_less own more by [] (z ∷ rest) some same near each = absurd (let clash : ⊥ = omega (arith, same) in clash)
least_less own more by (r ∷ rooms) [] some same near each = absurd (let clash : ⊥ = omega (arith, same) in clash)
least_less own more by (r ∷ rooms) (z ∷ rest) some same near each =
    let tail = least_less own more by rooms rest some (let e : length rest ≡ length rooms = omega (arith, same) in e) near (λ i a b ai bi. each (suc i) a b ai bi) in
    let head = div_less r z by some (each 0 r z refl refl) in
    let x : ℕ = least_room own by rooms in
    let y : ℕ = least_room more by rest in
    let least : min (r / by) x ≤ min (z / by + 1) (y + 1) =
    le-min (let e : min (r / by) x ≤ z / by + 1 = omega (arith, min-le_left (r / by) x, head) in e) (let e : min (r / by) x ≤ y + 1 = omega (arith, min-le_right (r / by) x, tail) in e) in
    subst (λ n. min (r / by) x ≤ n) (add-min-add_right (z / by) y 1) least

-- an item of a list of values
pub got_map : {X : Type 0} (f : X → ℕ) (xs : List X) (i : ℕ) (x : X) → slice_get xs i ≡ Some x → slice_get (map f xs) i ≡ Some (f x)
got_map f [] i x at = absurd (none-some x at)
got_map f (y ∷ xs) zero x at = ap (λ z. Some (f z)) (same_Some y x at)
got_map f (y ∷ xs) (suc i) x at = got_map f xs i x at

pub map_got : {X : Type 0} (f : X → ℕ) (xs : List X) (i n : ℕ) → slice_get (map f xs) i ≡ Some n → (x : X) × (slice_get xs i ≡ Some x) × (f x ≡ n)
map_got f [] i n at = absurd (none-some n at)
map_got f (y ∷ xs) zero n at = (y, refl, same_Some (f y) n at)
map_got f (y ∷ xs) (suc i) n at = map_got f xs i n at
