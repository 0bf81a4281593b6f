-- What is known of the slots that were taken, one after another.
use Rattle.std.proofs.Common.{◌≡◌, ◌≢◌, ℕ, ◌+◌, ◌*◌, ◌<◌, ◌≤◌, inl, inr, Bool, true, false, cond, List, [], ◌∷◌, ◌++◌, length, set, refl, sym, ◌∙◌, ap, subst, arith}
use Rattle.std.specs.Prelude.{◌↔◌, ◌⊎◌, ◌&&◌, Contains, slice_index, slice_index_or, count_by, nat_le, nat_lt}
use Rattle.std.proofs.lemmas.Bool.{cases_eq}
use Rattle.std.proofs.lemmas.List.{get_or-set_other, get_or-set_same, length-set, length_push}
use Rattle.std.proofs.lemmas.List.Sums.{sum_by-cons}
use Rattle.std.proofs.lemmas.List.Elements.{Contains-push_cases}
use Rattle.code_isa.specs.declared.machine.Machine.{Machine}
use Rattle.code_isa.specs.Slots.{first_register, first_kid_output, slot_count, IsInputSlot}
use Rattle.code_isa.specs.Dependence.{reads_of, Reads, Reaches, here, along, IsPath, is_kid_slot}
use Rattle.code_check.specs.declared.flow.Regions.{Regions}
use Rattle.code_check.specs.declared.flow.Flow.{Flow}
use Rattle.code_check.specs.code.Sets.{IsIn, row_of, IsInSome}
use Rattle.code_check.specs.code.Flow.{AreRegions, IsDepth, HasInputs, IsKnown, AreKnown, IsDeepest, is_output_in, HasSet, AddsDepth, Takes}

abbrev weight : Bool → ℕ
weight b = cond b 1 0

count_first : (m : Machine) (slot : ℕ) (path : List ℕ) → count_by (is_kid_slot m) (slot ∷ path) ≡ weight (is_kid_slot m slot) + count_by (is_kid_slot m) path
count_first m slot path = sum_by-cons (λ x. cond (is_kid_slot m x) 1 0) slot path

same_region : (m : Machine) (regions : Regions) (slot : ℕ) → AreRegions m regions → is_output_in regions slot ≡ is_kid_slot m slot
same_region m regions slot are = ap (λ n. nat_le n slot && nat_lt slot regions.code) are.outputs ∙ ap (λ n. nat_le (first_kid_output m) slot && nat_lt slot n) are.code

reached_cases : (m : Machine) (a p : ℕ) → Reaches m a p → (a ≡ p) ⊎ ((b : ℕ) × Reads m a b × Reaches m b p)
reached_cases m a p here = inl refl
reached_cases m a p (along {b = b} reads reaches) = inr (b, reads, reaches)

-- ---- one slot, all of whose reads are known

module _ (m : Machine) (regions : Regions) (rows : List (List ℕ)) (depths : List ℕ) (slot : ℕ) (are : AreRegions m regions) (known : (b : ℕ) → Reads m slot b → IsKnown m rows depths b) where
  -- its set has the data inputs that it reaches
  pub taken_inputs : (row : List ℕ) → HasSet regions rows slot (row_of (reads_of m) slot) row → HasInputs m slot row
  taken_inputs row exact p input = (
    λ is. elim ((exact p).0 is) [
      | inl some ↦ along some.1 (((known some.0 some.1).inputs p input).0 some.2)
      | inr own ↦ subst (Reaches m slot) (sym own.0) here
    ],
    λ reaches. (exact p).1 (elim (reached_cases m slot p reaches) as (λ w. IsInSome rows (row_of (reads_of m) slot) p ⊎ ((p ≡ slot) × (slot < regions.inputs))) [
      | inl own ↦ inr (sym own, omega (arith, are.inputs, own, input))
      | inr step ↦ inl (step.0, step.1, ((known step.0 step.1).inputs p input).1 step.2)
    ]),
  )

  depth_most : (below : ℕ) → IsDeepest depths (row_of (reads_of m) slot) below → (path : List ℕ) → IsPath m (slot ∷ path) → count_by (is_kid_slot m) (slot ∷ path) ≤ weight (is_kid_slot m slot) + below
  depth_most below deepest [] is = omega (arith, count_first m slot [])
  depth_most below deepest (b ∷ rest) is =
      let next = (known b is.0).depth.most rest is.1 in
      let most = deepest.most b is.0 in
      omega (arith, count_first m slot (b ∷ rest), next, most)

  -- its depth is right
  pub taken_depth : (depth : ℕ) → AddsDepth regions depths slot (row_of (reads_of m) slot) depth → IsDepth m slot depth
  taken_depth depth adds =
      let sum : depth ≡ weight (is_kid_slot m slot) + adds.below = adds.sum ∙ ap (λ b. weight b + adds.below) (same_region m regions slot are) in
      elim adds.deepest.some as (λ w. IsDepth m slot depth) [
        | inl none ↦ record {
          most = λ path is. let most = depth_most adds.below adds.deepest path is in omega (arith, most, sum);
          deepest = [];
          path = tt;
          reached = let first = count_first m slot [] in omega (arith, first, sum, none);
        }
        | inr some ↦
            let next = (known some.0 some.1).depth in record {
              most = λ path is. let most = depth_most adds.below adds.deepest path is in omega (arith, most, sum);
              deepest = some.0 ∷ next.deepest;
              path = (some.1, next.path);
              reached = let first = count_first m slot (some.0 ∷ next.deepest) in omega (arith, first, sum, next.reached, some.2);
            }
      ]

-- ---- one slot more

row_same : (rows : List (List ℕ)) (slot : ℕ) (row : List ℕ) → slot < length rows → row_of (set rows slot row) slot ≡ row
row_same rows slot row inside = get_or-set_same rows slot row [] inside

row_other : (rows : List (List ℕ)) (slot s : ℕ) (row : List ℕ) → s ≢ slot → row_of (set rows slot row) s ≡ row_of rows s
row_other rows slot s row other = get_or-set_other rows slot s row [] other

-- what was known of a slot is known where its set and its depth are the same
still_known : (m : Machine) (rows more : List (List ℕ)) (depths other : List ℕ) (s : ℕ) → row_of more s ≡ row_of rows s → slice_index other s ≡ slice_index depths s → IsKnown m rows depths s → IsKnown m more other s
still_known m rows more depths other s row depth was = record {
  room = subst (λ xs. first_register m ≤ 64 * length xs) (sym row) was.room;
  inputs = subst (HasInputs m s) (sym row) was.inputs;
  depth = subst (IsDepth m s) (sym depth) was.depth;
}

module _ (m : Machine) (regions : Regions) (old new : Flow) (taken : List ℕ) (slot : ℕ) (are : AreRegions m regions) (inside : slot < slot_count m) (read : (b : ℕ) → Reads m slot b → Contains taken b) (was : AreKnown m regions.words old taken) (takes : Takes regions old new slot (row_of (reads_of m) slot)) where
  known_read : (b : ℕ) → Reads m slot b → IsKnown m old.inputs.items old.depths.items b
  known_read b reads = was.known b (read b reads)

  row_here : row_of new.inputs.items slot ≡ takes.row
  row_here = ap (λ rows. row_of rows slot) takes.rows ∙ row_same old.inputs.items slot takes.row (omega (arith, was.rows_each))

  row_kept : (s : ℕ) → s ≢ slot → row_of new.inputs.items s ≡ row_of old.inputs.items s
  row_kept s other = ap (λ rows. row_of rows s) takes.rows ∙ row_other old.inputs.items slot s takes.row other

  depth_here : slice_index new.depths.items slot ≡ takes.depth
  depth_here = ap (λ xs. slice_index xs slot) takes.depths ∙ get_or-set_same old.depths.items slot takes.depth 0 (omega (arith, was.depths_each))

  depth_kept : (s : ℕ) → s ≢ slot → slice_index new.depths.items s ≡ slice_index old.depths.items s
  depth_kept s other = ap (λ xs. slice_index xs s) takes.depths ∙ get_or-set_other old.depths.items slot s takes.depth 0 other

  known_here : IsKnown m new.inputs.items new.depths.items slot
  known_here = record {
    room = subst (λ xs. first_register m ≤ 64 * length xs) (sym row_here) (subst (λ n. first_register m ≤ 64 * n) (sym takes.sized) are.room);
    inputs = subst (HasInputs m slot) (sym row_here) (taken_inputs m regions old.inputs.items old.depths.items slot are known_read takes.row takes.exact);
    depth = subst (IsDepth m slot) (sym depth_here) (taken_depth m regions old.inputs.items old.depths.items slot are known_read takes.depth takes.adds);
  }

  earlier : (s : ℕ) → s ≢ slot → Contains (taken ++ slot ∷ []) s → Contains taken s
  earlier s other there = elim (Contains-push_cases taken slot s there) [ inl before ↦ before | inr same ↦ absurd (other (sym same)) ]

  weight_low : (b : Bool) → weight b ≤ 1
  weight_low b = elim b as (λ x. weight x ≤ 1) [ true ↦ omega arith | false ↦ omega arith ]

  low_below : takes.adds.below ≤ length taken
  low_below = elim takes.adds.deepest.some [
    | inl none ↦ omega (arith, none)
    | inr some ↦ omega (arith, some.2, was.shallow some.0)
  ]

  low_here : takes.depth ≤ length taken + 1
  low_here = omega (arith, low_below, weight_low (is_output_in regions slot), takes.adds.sum)

  pub known_more : AreKnown m regions.words new (taken ++ slot ∷ [])
  known_more = record {
    rows_each = ap length takes.rows ∙ length-set old.inputs.items slot takes.row ∙ was.rows_each;
    depths_each = ap length takes.depths ∙ length-set old.depths.items slot takes.depth ∙ was.depths_each;
    sized = λ s there. elim (cases_eq s slot) [
      | inl same ↦ ap (λ x. length (row_of new.inputs.items x)) same ∙ ap length row_here ∙ takes.sized
      | inr other ↦ ap length (row_kept s other) ∙ was.sized s (earlier s other there)
    ];
    known = λ s there. elim (cases_eq s slot) [
      | inl same ↦ subst (IsKnown m new.inputs.items new.depths.items) (sym same) known_here
      | inr other ↦ still_known m old.inputs.items new.inputs.items old.depths.items new.depths.items s (row_kept s other) (depth_kept s other) (was.known s (earlier s other there))
    ];
    shallow = λ s. elim (cases_eq s slot) [
      | inl same ↦ let here : slice_index new.depths.items s ≡ takes.depth = ap (slice_index new.depths.items) same ∙ depth_here in omega (arith, here, low_here, length_push taken slot)
      | inr other ↦ omega (arith, depth_kept s other, was.shallow s, length_push taken slot)
    ];
  }
