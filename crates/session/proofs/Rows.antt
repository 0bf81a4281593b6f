-- The row of the ports, put together port by port.
use Rattle.std.proofs.Common.{◌≡◌, ℕ, zero, suc, ◌+◌, ◌<◌, ◌≤◌, Bool, true, false, List, [], ◌∷◌, ◌++◌, length, map, drop, None, Some, refl, sym, ◌∙◌, ap}
use Rattle.std.proofs.Common.{append_assoc, arith}
use Rattle.std.specs.Prelude.{slice_get, slice_index, if◌then◌else◌}
use Rattle.std.proofs.lemmas.List.{get_or-drop, get_or-map}
use Rattle.std.proofs.lemmas.Option.{slice_get_within, get_or_from_slice_get}
use Rattle.bit_ops.specs.declared.value.Bits.{Bits}
use Rattle.bit_ops.specs.Lists.{words, widths}
use Rattle.sv_base.specs.declared.face.Port.{Port}
use Rattle.sv_base.specs.Classes.{is_output}
use Rattle.sv_base.specs.Meaning.{row_of, widths_of_class}

-- ---- the rest of a list

pub drop_once : {X : Type 0} (i : ℕ) (xs : List X) → drop 1 (drop i xs) ≡ drop (i + 1) xs
drop_once zero xs = refl
drop_once (suc i) [] = let e : suc i + 1 ≡ suc (i + 1) = omega arith in sym (ap (λ n. drop n []) e)
drop_once (suc i) (x ∷ xs) = let e : suc i + 1 ≡ suc (i + 1) = omega arith in drop_once i xs ∙ sym (ap (λ n. drop n (x ∷ xs)) e)

pub drop_at : {X : Type 0} (xs : List X) (i : ℕ) (x : X) → slice_get xs i ≡ Some x → drop i xs ≡ x ∷ drop (i + 1) xs
drop_at [] i x at = absurd (let e : None ≡ Some x = at in cc)
drop_at (y ∷ xs) zero x at = let e : Some y ≡ Some x = at in let same : y ≡ x = cc in ap (λ z. z ∷ xs) same
drop_at (y ∷ xs) (suc i) x at = let e : suc i + 1 ≡ suc (i + 1) = omega arith in drop_at xs i x at ∙ sym (ap (λ n. x ∷ drop n (y ∷ xs)) e)

pub first_of : (i : ℕ) (xs : List ℕ) → slice_index (drop i xs) 0 ≡ slice_index xs i
first_of i xs = let e : i + 0 ≡ i = omega arith in get_or-drop i xs 0 0 ∙ ap (λ n. slice_index xs n) e

-- ---- one port more

-- how many outputs there are with a port of this class
abbrev pub one_if : Bool → ℕ
one_if b = if b then 1 else 0

pub row_from : (ports : List Port) (inputs outputs : List ℕ) (i k : ℕ) (p : Port) → slice_get ports i ≡ Some p →
    row_of (drop i ports) (drop i inputs) (drop k outputs)
    ≡ (if is_output p.class then slice_index outputs k else slice_index inputs i) ∷ row_of (drop (i + 1) ports) (drop (i + 1) inputs)
    (drop (k + one_if (is_output p.class)) outputs)
row_from ports inputs outputs i k p at = ap (λ ps. row_of ps (drop i inputs) (drop k outputs)) (drop_at ports i p at) ∙ by_test (is_output p.class) where
  by_test : (b : Bool) →
      (if b then slice_index (drop k outputs) 0 ∷ row_of (drop (i + 1) ports) (drop 1 (drop i inputs)) (drop 1 (drop k outputs))
      else slice_index (drop i inputs) 0 ∷ row_of (drop (i + 1) ports) (drop 1 (drop i inputs)) (drop k outputs))
      ≡ (if b then slice_index outputs k else slice_index inputs i) ∷ row_of (drop (i + 1) ports) (drop (i + 1) inputs) (drop (k + one_if b) outputs)
  by_test true =
      ap (λ w. w ∷ row_of (drop (i + 1) ports) (drop 1 (drop i inputs)) (drop 1 (drop k outputs))) (first_of k outputs)
      ∙ ap (λ ins. slice_index outputs k ∷ row_of (drop (i + 1) ports) ins (drop 1 (drop k outputs))) (drop_once i inputs)
      ∙ ap (λ outs. slice_index outputs k ∷ row_of (drop (i + 1) ports) (drop (i + 1) inputs) outs) (drop_once k outputs)
  by_test false =
      let e : k + 0 ≡ k = omega arith in
      ap (λ w. w ∷ row_of (drop (i + 1) ports) (drop 1 (drop i inputs)) (drop k outputs)) (first_of i inputs)
      ∙ ap (λ ins. slice_index inputs i ∷ row_of (drop (i + 1) ports) ins (drop k outputs)) (drop_once i inputs)
      ∙ sym (ap (λ n. slice_index inputs i ∷ row_of (drop (i + 1) ports) (drop (i + 1) inputs) (drop n outputs)) e)

-- the widths of the outputs that are left, with a port and behind it
pub outputs_from : (ports : List Port) (i k : ℕ) (p : Port) → slice_get ports i ≡ Some p →
    drop k (widths_of_class is_output ports) ≡ widths_of_class is_output (drop i ports) →
    drop (k + one_if (is_output p.class)) (widths_of_class is_output ports) ≡ widths_of_class is_output (drop (i + 1) ports)
outputs_from ports i k p at left = by_test (is_output p.class) refl where
  all : List ℕ
  all = widths_of_class is_output ports

  with_port : drop k (widths_of_class is_output ports) ≡ (if is_output p.class then p.width ∷ widths_of_class is_output (drop (i + 1) ports)
      else widths_of_class is_output (drop (i + 1) ports))
  with_port = left ∙ ap (widths_of_class is_output) (drop_at ports i p at)

  by_test : (b : Bool) → is_output p.class ≡ b → drop (k + one_if b) (widths_of_class is_output ports) ≡ widths_of_class is_output (drop (i + 1) ports)
  by_test true is =
      sym (drop_once k (widths_of_class is_output ports))
      ∙ ap (drop 1) (with_port ∙ ap (λ b. if b then p.width ∷ widths_of_class is_output (drop (i + 1) ports)
      else widths_of_class is_output (drop (i + 1) ports)) is)
  by_test false is =
      let e : k + 0 ≡ k = omega arith in
      ap (λ n. drop n (widths_of_class is_output ports)) e
      ∙ with_port ∙ ap (λ b. if b then p.width ∷ widths_of_class is_output (drop (i + 1) ports) else widths_of_class is_output (drop (i + 1) ports)) is

-- the width of an output that comes next
pub output_next : (ports : List Port) (i k : ℕ) (p : Port) → slice_get ports i ≡ Some p → is_output p.class ≡ true →
    drop k (widths_of_class is_output ports) ≡ widths_of_class is_output (drop i ports) →
    drop k (widths_of_class is_output ports) ≡ p.width ∷ widths_of_class is_output (drop (i + 1) ports)
output_next ports i k p at is left =
    left ∙ ap (widths_of_class is_output) (drop_at ports i p at)
    ∙ ap (λ b. if b then p.width ∷ widths_of_class is_output (drop (i + 1) ports) else widths_of_class is_output (drop (i + 1) ports)) is

-- an entry at the front of what is left is there
pub front_within : (xs rest : List ℕ) (k x : ℕ) → drop k xs ≡ x ∷ rest → k < length xs
front_within [] rest zero x left = absurd (let e : [] ≡ x ∷ rest = left in cc)
front_within [] rest (suc k) x left = absurd (let e : [] ≡ x ∷ rest = left in cc)
front_within (y ∷ xs) rest zero x left = omega arith
front_within (y ∷ xs) rest (suc k) x left = let near = front_within xs rest k x left in omega arith

pub front_is : (xs rest : List ℕ) (k x : ℕ) → drop k xs ≡ x ∷ rest → slice_get xs k ≡ Some x
front_is [] rest zero x left = absurd (let e : [] ≡ x ∷ rest = left in cc)
front_is [] rest (suc k) x left = absurd (let e : [] ≡ x ∷ rest = left in cc)
front_is (y ∷ xs) rest zero x left = let e : y ∷ xs ≡ x ∷ rest = left in let same : y ≡ x = cc in ap Some same
front_is (y ∷ xs) rest (suc k) x left = front_is xs rest k x left

words-snoc : (xs : List Bits) (b : Bits) → words (xs ++ b ∷ []) ≡ words xs ++ b.word ∷ []
words-snoc [] b = refl
words-snoc (x ∷ xs) b = ap (λ ws. x.word ∷ ws) (words-snoc xs b)

widths-snoc : (xs : List Bits) (b : Bits) → widths (xs ++ b ∷ []) ≡ widths xs ++ b.width ∷ []
widths-snoc [] b = refl
widths-snoc (x ∷ xs) b = ap (λ ws. x.width ∷ ws) (widths-snoc xs b)

-- a value more, whose word comes next, goes on with the rest
pub words_further : (values : List Bits) (b : Bits) (next all : List ℕ) (word : ℕ) → b.word ≡ word → words values ++ (word ∷ next) ≡ all →
    words (values ++ b ∷ []) ++ next ≡ all
words_further values b next all word is so_far =
    ap (λ ws. ws ++ next) (words-snoc values b) ∙ append_assoc (words values) (b.word ∷ []) next ∙ ap (λ w. words values ++ (w ∷ next)) is ∙ so_far

pub widths_further : (values : List Bits) (b : Bits) (next all : List ℕ) (width : ℕ) → b.width ≡ width → widths values ++ (width ∷ next) ≡ all →
    widths (values ++ b ∷ []) ++ next ≡ all
widths_further values b next all width is so_far =
    ap (λ ws. ws ++ next) (widths-snoc values b) ∙ append_assoc (widths values) (b.width ∷ []) next ∙ ap (λ w. widths values ++ (w ∷ next)) is ∙ so_far

-- one of two numbers by a test, each where the test says so
pub chosen : (b : Bool) (x y z : ℕ) → (b ≡ true → z ≡ x) → (b ≡ false → z ≡ y) → z ≡ (if b then x else y)
chosen true x y z first second = first refl
chosen false x y z first second = second refl

-- at most one output with a port
pub one_if_small : (b : Bool) (k i : ℕ) → k ≤ i → k + one_if b ≤ i + 1
one_if_small true k i few = omega arith
one_if_small false k i few = omega arith

pub same_width : (b : Bool) (x y : ℕ) → (b ≡ true → x ≡ y) → (b ≡ false → x ≡ y) → x ≡ y
same_width true x y first second = first refl
same_width false x y first second = second refl

pub width_at : (ports : List Port) (i : ℕ) (p : Port) → slice_get ports i ≡ Some p → slice_index (map (λ (q : Port). q.width) ports) i ≡ p.width
width_at ports i p at = get_or-map (λ (q : Port). q.width) ports i p 0 (slice_get_within ports i p at)
    ∙ ap (λ (q : Port). q.width) (get_or_from_slice_get ports i p p at)

-- the output that comes next has the width that stands there
pub output_width : (all rest : List ℕ) (k width next : ℕ) → drop k all ≡ next ∷ rest → slice_get all k ≡ Some width → width ≡ next
output_width all rest k width next left is = let e : Some width ≡ Some next = sym is ∙ front_is all rest k next left in cc
