-- Valuations after writes: how many words, their widths, and each of their bits.
use Rattle.std.proofs.Common.{◌≡◌, ℕ, ◌<◌, ◌≤◌, ◌+◌, ◌-◌, ◌^◌, Bool, true, false, List, [], ◌∷◌, ◌++◌, length, refl, sym, ◌∙◌, ap, subst, arith, Option, None, Some, inl, inr}
use Rattle.std.specs.Prelude.{◌==◌, ◌&&◌, slice_index, slice_set, unwrap_or, if◌then◌else◌, ◌⊎◌}
use Rattle.std.specs.Int.{bit_at}
use Rattle.std.proofs.lemmas.List.{length-set, get_or-set_same, get_or-set_other}
use Rattle.std.proofs.lemmas.Nat.Bits.{bit_at_lowest}
use Rattle.std.proofs.Math.Nat.{mod-eq_of_lt}
use Rattle.bit_ops.proofs.Words.{inserted_fits}
use Rattle.bit_ops.proofs.Positions.{bit_at-insert_below, bit_at-insert_inside, bit_at-insert_above}
use Rattle.net_ir.specs.Value.{AreWordsOf}
use Rattle.net_ir.specs.Target.{Write, written_bit, later_or, last_bit, word_with, overlaid}
use Rattle.net_ir.specs.Statement.{bit_after}
use Rattle.net_values.specs.Writes.{IsWithin, AreWithin}
use Rattle.net_values.proofs.Numbers.{eq_test, ne_test, same_or_not, within_or_past}

-- what one write leaves
abbrev pub written : List ℕ → Write → List ℕ
written u w = slice_set u w.var (word_with (slice_index u w.var) w.place w.bit)

written_length : (u : List ℕ) (w : Write) → length (written u w) ≡ length u
written_length u w = length-set u w.var (word_with (slice_index u w.var) w.place w.bit)

pub overlaid_length : (u : List ℕ) (writes : List Write) → length (overlaid u writes) ≡ length u
overlaid_length u [] = refl
overlaid_length u (w ∷ writes) = overlaid_length (written u w) writes ∙ written_length u w

pub overlaid-append : (u : List ℕ) (first second : List Write) → overlaid u (first ++ second) ≡ overlaid (overlaid u first) second
overlaid-append u [] second = refl
overlaid-append u (w ∷ first) second = overlaid-append (written u w) first second

-- ---- words of their widths

written_fits : (ws u : List ℕ) (w : Write) → length u ≡ length ws → IsWithin ws w → AreWordsOf ws u → AreWordsOf ws (written u w)
written_fits ws u w long within small x there = by_case (same_or_not w.var x) where
  word : ℕ
  word = word_with (slice_index u w.var) w.place w.bit

  by_case : (w.var ≡ x) ⊎ (w.var ≡ x → ⊥) → slice_index (written u w) x < 2 ^ slice_index ws x
  by_case (inl same) =
      let place : w.place < slice_index ws w.var = within.place in
      let bit : w.bit < 2 = within.bit in
      let fits : word < 2 ^ slice_index ws w.var =
      inserted_fits w.place 1 (slice_index ws w.var) (slice_index u w.var) w.bit (omega arith) (small w.var within.there) (omega arith) in
      subst (λ y. slice_index (written u w) y < 2 ^ slice_index ws y) same
      (subst (λ n. n < 2 ^ slice_index ws w.var) (sym (get_or-set_same u w.var word 0 (subst (λ n. w.var < n) (sym long) within.there))) fits)
  by_case (inr other) =
      subst (λ n. n < 2 ^ slice_index ws x) (sym (get_or-set_other u w.var x word 0 (λ same. other (sym same)))) (small x there)

pub overlaid_fits : (ws u : List ℕ) (writes : List Write) → length u ≡ length ws → AreWithin ws writes → AreWordsOf ws u → AreWordsOf ws (overlaid u writes)
overlaid_fits ws u [] long within small = small
overlaid_fits ws u (w ∷ writes) long within small =
    overlaid_fits ws (written u w) writes (written_length u w ∙ long) within.1 (written_fits ws u w long within.0 small)

-- ---- bits

-- a bit of a word with another bit
with_bit : (word place bit k : ℕ) → bit < 2 → bit_at (word_with word place bit) k ≡ (if place == k then bit else bit_at word k)
with_bit word place bit k two = by_case (same_or_not place k) where
  by_case : (place ≡ k) ⊎ (place ≡ k → ⊥) → bit_at (word_with word place bit) k ≡ (if place == k then bit else bit_at word k)
  by_case (inl same) =
      bit_at-insert_inside place 1 word bit k (omega arith) (omega arith)
      ∙ ap (bit_at bit) (let none : k - place ≡ 0 = omega arith in none)
      ∙ bit_at_lowest bit
      ∙ mod-eq_of_lt two
      ∙ sym (ap (λ (t : Bool). if t then bit else bit_at word k) (eq_test place k same))
  by_case (inr other) = by_side (within_or_past k place) ∙ sym (ap (λ (t : Bool). if t then bit else bit_at word k) (ne_test place k other)) where
    by_side : (k < place) ⊎ (place ≤ k) → bit_at (word_with word place bit) k ≡ bit_at word k
    by_side (inl below) = bit_at-insert_below place 1 word bit k below
    by_side (inr past) = bit_at-insert_above place 1 word bit k (omega arith) (let above : place + 1 ≤ k = omega arith in above)

-- a bit of a variable after one write
written_once : (ws u : List ℕ) (w : Write) (x k : ℕ) → length u ≡ length ws → IsWithin ws w →
    bit_at (slice_index (written u w) x) k ≡ unwrap_or (written_bit w x k) (bit_at (slice_index u x) k)
written_once ws u w x k long within = by_case (same_or_not w.var x) where
  word : ℕ
  word = word_with (slice_index u w.var) w.place w.bit

  of_test : (t : Bool) → (if t then w.bit else bit_at (slice_index u x) k) ≡ unwrap_or (if t then Some w.bit else None) (bit_at (slice_index u x) k)
  of_test true = refl
  of_test false = refl

  by_case : (w.var ≡ x) ⊎ (w.var ≡ x → ⊥) → bit_at (slice_index (written u w) x) k ≡ unwrap_or (written_bit w x k) (bit_at (slice_index u x) k)
  by_case (inl same) =
      ap (λ y. bit_at (slice_index (written u w) y) k) (sym same)
      ∙ ap (λ n. bit_at n k) (get_or-set_same u w.var word 0 (subst (λ n. w.var < n) (sym long) within.there))
      ∙ with_bit (slice_index u w.var) w.place w.bit k within.bit
      ∙ ap (λ y. if w.place == k then w.bit else bit_at (slice_index u y) k) same
      ∙ of_test (w.place == k)
      ∙ sym (ap (λ (t : Bool). unwrap_or (if t && w.place == k then Some w.bit else None) (bit_at (slice_index u x) k)) (eq_test w.var x same))
  by_case (inr other) =
      ap (λ n. bit_at n k) (get_or-set_other u w.var x word 0 (λ same. other (sym same)))
      ∙ sym (ap (λ (t : Bool). unwrap_or (if t && w.place == k then Some w.bit else None) (bit_at (slice_index u x) k)) (ne_test w.var x other))

after_later : (later earlier : Option ℕ) (bit kept : ℕ) → bit ≡ unwrap_or earlier kept → unwrap_or later bit ≡ unwrap_or (later_or later earlier) kept
after_later None earlier bit kept is = is
after_later (Some b) earlier bit kept is = refl

-- each bit is what its last write gives, else as it was
pub overlaid_bits : (ws u : List ℕ) (writes : List Write) (x k : ℕ) → length u ≡ length ws → AreWithin ws writes →
    bit_at (slice_index (overlaid u writes) x) k ≡ bit_after writes x k (bit_at (slice_index u x) k)
overlaid_bits ws u [] x k long within = refl
overlaid_bits ws u (w ∷ writes) x k long within =
    overlaid_bits ws (written u w) writes x k (written_length u w ∙ long) within.1
    ∙ after_later (last_bit writes x k) (written_bit w x k) (bit_at (slice_index (written u w) x) k) (bit_at (slice_index u x) k) (written_once ws u w x k long within.0)
