-- The members of a set, from its words.
use Rattle.std.proofs.Common.{◌≡◌, ◌≢◌, ℕ, zero, suc, ◌+◌, ◌*◌, ◌/◌, ◌%◌, ◌<◌, ◌≤◌, true, false, eqb, List, [], ◌∷◌, ◌++◌, length, get_or, set, replicate, ◌^◌, inl, inr, refl, sym, ◌∙◌, ap, arith}
use Rattle.std.specs.Prelude.{slice_index}
use Rattle.std.specs.Int.{bit_at}
use Rattle.std.proofs.lemmas.Nat.Bits.{bit_at-zero}
use Rattle.std.proofs.lemmas.Bool.{cases_eq, cases_lt, eqb-true, eq-eqb, ne_eqb}
use Rattle.std.proofs.lemmas.List.{get_or-set_other, get_or-set_same, length-set, get_or_past, length_push, ext_get_or, length-replicate, get_or_append_left, get_or-append-add}
use Rattle.code_isa.specs.Marks.{bit_of, members_of, is_member, IsBitSetTo, IsLeastBit, IsLayered, IsEmpty, IsSummary, IsSummaryBut, HasNone, IsLeast}
use Rattle.code_isa.proofs.Bits.{set_not_empty, summary_set}

pub members_size : (words : List ℕ) (n : ℕ) → length (members_of words n) ≡ n
members_size words zero = refl
members_size words (suc n) = length_push (members_of words n) (eqb (bit_of words n) 1) ∙ let e : length (members_of words n) + 1 ≡ suc n = omega (arith, members_size words n) in e

pub member_at : (words : List ℕ) (n k : ℕ) → k < n → is_member (members_of words n) k ≡ eqb (bit_of words k) 1
member_at words zero k h = absurd (omega arith)
member_at words (suc n) k h =
    let size = members_size words n in
    elim (cases_lt k n) [
      | inl below ↦ get_or_append_left (members_of words n) (eqb (bit_of words n) 1 ∷ []) false k (omega arith) ∙ member_at words n k below
      | inr past ↦
          let here : k ≡ length (members_of words n) + 0 = omega arith in
          let last : n ≡ k = omega arith in
          ap (λ i. get_or (members_of words n ++ eqb (bit_of words n) 1 ∷ []) i false) here
          ∙ get_or-append-add (members_of words n) (eqb (bit_of words n) 1 ∷ []) 0 false ∙ ap (λ i. eqb (bit_of words i) 1) last
    ]

pub member_past : (words : List ℕ) (n k : ℕ) → n ≤ k → is_member (members_of words n) k ≡ false
member_past words n k h = get_or_past (members_of words n) k false (omega (arith, members_size words n))

pub member_below : (words : List ℕ) (n k : ℕ) → is_member (members_of words n) k ≡ true → k < n
member_below words n k is =
    elim (cases_lt k n) [
      | inl inside ↦ inside
      | inr past ↦ let clash : true ≡ false = sym is ∙ member_past words n k past in absurd (let no : ⊥ = cc in no)
    ]

-- one bit is written, and so is one member
pub members_written : (old new : List ℕ) (n k bit : ℕ) → IsBitSetTo old new k bit → k < n → members_of new n ≡ set (members_of old n) k (eqb bit 1)
members_written old new n k bit one inside =
    ext_get_or false (members_of new n) (set (members_of old n) k (eqb bit 1)) (members_size new n ∙ sym (length-set (members_of old n) k (eqb bit 1) ∙ members_size old n)) (λ i _.
    elim (cases_lt i n) [
      | inl below ↦ elim (cases_eq i k) [
        | inl same ↦
            member_at new n i below ∙ ap (λ x. eqb (bit_of new x) 1) same ∙ ap (λ x. eqb x 1) one.here
            ∙ sym (get_or-set_same (members_of old n) k (eqb bit 1) false (omega (arith, members_size old n)))
            ∙ ap (λ x. get_or (set (members_of old n) k (eqb bit 1)) x false) (sym same)
        | inr apart ↦
            member_at new n i below ∙ ap (λ x. eqb x 1) (one.others i apart) ∙ sym (member_at old n i below)
            ∙ sym (get_or-set_other (members_of old n) k i (eqb bit 1) false apart)
      ]
      | inr past ↦ member_past new n i past ∙ sym (get_or_past (set (members_of old n) k (eqb bit 1)) i false (omega (arith, length-set (members_of old n) k (eqb bit 1), members_size old n)))
    ])

module _ (count : ℕ) (leaves branches roots : List ℕ) (layered : IsLayered count leaves branches roots) where
  -- a bit of the lowest level is that of a member
  pub bit_member : (k : ℕ) → bit_of leaves k ≡ 1 → is_member (members_of leaves count) k ≡ true
  bit_member k set =
      elim (cases_lt k count) [
        | inl inside ↦ member_at leaves count k inside ∙ eq-eqb (bit_of leaves k) 1 set
        | inr past ↦ let clear : bit_of leaves k ≡ 0 = layered.none_past k past in absurd (omega arith)
      ]

  pub member_bit : (k : ℕ) → is_member (members_of leaves count) k ≡ true → bit_of leaves k ≡ 1
  member_bit k is =
      elim (cases_lt k count) [
        | inl inside ↦ eqb-true (bit_of leaves k) 1 (sym (member_at leaves count k inside) ∙ is)
        | inr past ↦ let clash : true ≡ false = sym is ∙ member_past leaves count k past in absurd (let no : ⊥ = cc in no)
      ]

  pub no_member : (k : ℕ) → bit_of leaves k ≢ 1 → is_member (members_of leaves count) k ≡ false
  no_member k clear =
      elim (cases_lt k count) [
        | inl inside ↦ member_at leaves count k inside ∙ ne_eqb (bit_of leaves k) 1 clear
        | inr past ↦ member_past leaves count k past
      ]

  pub least_member : (k : ℕ) → IsLeastBit leaves k → IsLeast (members_of leaves count) k
  least_member k least = record {
    member = bit_member k least.set;
    before = λ i below. no_member i (λ set. let clash : ⊥ = omega (arith, least.least i set) in clash);
  }

  -- nothing is in the set where the top level is empty
  pub none_member : IsEmpty roots → HasNone (members_of leaves count)
  none_member empty k =
      no_member k (λ set.
      let branch : bit_of branches (k / 64) ≡ 1 = (layered.branches_sum (k / 64)).1 (set_not_empty leaves k set) in
      let root : bit_of roots (k / 64 / 64) ≡ 1 = (layered.roots_sum (k / 64 / 64)).1 (set_not_empty branches (k / 64) branch) in
      set_not_empty roots (k / 64 / 64) root (empty (k / 64 / 64 / 64)))

  pub bit_room : (k : ℕ) → k < count → k < 64 * length leaves
  bit_room k inside = omega (arith, layered.leaf_room)

  -- a member is put in, at each level
  pub inserted : (l b r : List ℕ) (k : ℕ) → k < count → IsBitSetTo leaves l k 1 → IsBitSetTo branches b (k / 64) 1 → IsBitSetTo roots r (k / 64 / 64) 1 → IsLayered count l b r
  inserted l b r k inside low middle high = record {
    leaf_room = omega (arith, layered.leaf_room, low.size);
    branch_room = omega (arith, layered.branch_room, low.size, middle.size);
    root_room = omega (arith, layered.root_room, middle.size, high.size);
    few = (omega (arith, layered.few.0, low.size), omega (arith, layered.few.1, middle.size), omega (arith, layered.few.2, high.size));
    branches_sum = summary_set branches leaves b l k layered.branches_sum low middle;
    roots_sum = summary_set roots branches r b (k / 64) layered.roots_sum middle high;
    none_past = λ i past. low.others i (λ e. let clash : ⊥ = omega arith in clash) ∙ layered.none_past i past;
  }

  -- the bits above a member are set
  pub branch_set : (k : ℕ) → bit_of leaves k ≡ 1 → bit_of branches (k / 64) ≡ 1
  branch_set k set = (layered.branches_sum (k / 64)).1 (set_not_empty leaves k set)

  -- a member is taken out, at the lowest level and then at the one above it
  pub top_but : (b : List ℕ) (k : ℕ) → bit_of leaves k ≡ 1 → ((i : ℕ) → i ≢ k / 64 / 64 → slice_index b i ≡ slice_index branches i) → IsSummaryBut roots b (k / 64 / 64)
  top_but b k set same = record {
    here = (layered.roots_sum (k / 64 / 64)).1 (set_not_empty branches (k / 64) (branch_set k set));
    others = λ j apart. (
      λ up empty. (layered.roots_sum j).0 up (sym (same j apart) ∙ empty),
      λ some. (layered.roots_sum j).1 (λ empty. some (same j apart ∙ empty)),
    );
  }

  pub removed : (l b r : List ℕ) (k : ℕ) → k < count → IsBitSetTo leaves l k 0 → length b ≡ length branches → length r ≡ length roots → IsSummary b l → IsSummary r b → IsLayered count l b r
  removed l b r k inside low middle high below above = record {
    leaf_room = omega (arith, layered.leaf_room, low.size);
    branch_room = omega (arith, layered.branch_room, low.size, middle);
    root_room = omega (arith, layered.root_room, middle, high);
    few = (omega (arith, layered.few.0, low.size), omega (arith, layered.few.1, middle), omega (arith, layered.few.2, high));
    branches_sum = below;
    roots_sum = above;
    none_past = λ i past. low.others i (λ e. let clash : ⊥ = omega arith in clash) ∙ layered.none_past i past;
  }

-- the words of the empty set
none_there : (n j : ℕ) → slice_index (replicate n 0) j ≡ 0
none_there zero j = refl
none_there (suc n) zero = refl
none_there (suc n) (suc j) = none_there n j

pub none_set : (n k : ℕ) → bit_of (replicate n 0) k ≡ 0
none_set n k = ap (λ w. bit_at w (k % 64)) (none_there n (k / 64)) ∙ bit_at-zero (k % 64)

pub none_sums : (m n : ℕ) → IsSummary (replicate m 0) (replicate n 0)
none_sums m n j = (
  λ set. let clash : ⊥ = omega (arith, none_set m j) in absurd clash,
  λ some. absurd (some (none_there n j)),
)

pub empty_layered : (count : ℕ) → count < 2 ^ 60 → IsLayered count (replicate (count / 64 + 1) 0) (replicate ((count / 64 + 1) / 64 + 1) 0) (replicate (((count / 64 + 1) / 64 + 1) / 64 + 1) 0)
empty_layered count fits =
    let low = length-replicate {A = ℕ} (count / 64 + 1) 0 in
    let middle = length-replicate {A = ℕ} ((count / 64 + 1) / 64 + 1) 0 in
    let high = length-replicate {A = ℕ} (((count / 64 + 1) / 64 + 1) / 64 + 1) 0 in
    record {
      leaf_room = omega (arith, low);
      branch_room = omega (arith, low, middle);
      root_room = omega (arith, middle, high);
      few = (omega (arith, low), omega (arith, middle), omega (arith, high));
      branches_sum = none_sums _ _;
      roots_sum = none_sums _ _;
      none_past = λ k _. none_set (count / 64 + 1) k;
    }

pub none_members : (words : List ℕ) (n m : ℕ) → words ≡ replicate m 0 → HasNone (members_of words n)
none_members words n m same k =
    elim (cases_lt k n) [
      | inl inside ↦ member_at words n k inside ∙ ap (λ ws. eqb (bit_of ws k) 1) same ∙ ap (λ b. eqb b 1) (none_set m k)
      | inr past ↦ member_past words n k past
    ]
