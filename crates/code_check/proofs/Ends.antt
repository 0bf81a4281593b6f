-- What the sets and the depths of all slots say of the machine.
use Rattle.std.proofs.Common.{◌≡◌, ℕ, suc, ◌+◌, ◌*◌, ◌<◌, ◌≤◌, inl, inr, Bool, true, false, cond, List, [], ◌∷◌, ◌++◌, length, take, get_or, replicate, refl, sym, ◌∙◌, ap, subst, arith}
use Rattle.std.specs.Prelude.{◌↔◌, ◌==◌, ◌&&◌, Contains, All, slice_index, slice_index_or, slice_get, Some, count_by, nat_le, nat_lt}
use Rattle.std.proofs.lemmas.Bool.{cases_lt, cases_eq, and_right, le-ltb, ne_eqb}
use Rattle.std.proofs.lemmas.List.{get_or_default, get_or_past, get_or-replicate, length-replicate, take_all}
use Rattle.std.proofs.lemmas.List.Sums.{sum_by-cons}
use Rattle.std.proofs.lemmas.Option.{slice_get_within, slice_get-get_or, get_or_from_slice_get}
use Rattle.levelise.specs.Graph.{ReadsOnlyNodes, IsLevelling}
use Rattle.code_isa.specs.declared.machine.Machine.{Machine}
use Rattle.code_isa.specs.Faces.{input_count}
use Rattle.code_isa.specs.Slots.{first_register, first_kid_output, first_instruction, slot_count, IsInputSlot}
use Rattle.code_isa.specs.Dependence.{reads_of, Reads, Reaches, IsPath, is_kid_slot}
use Rattle.code_isa.specs.Checks.{IsSlotOrdered, IsSummarised, IsChained, row_at}
use Rattle.code_check.specs.declared.flow.Flow.{Flow}
use Rattle.code_check.specs.code.Sets.{IsIn, row_of}
use Rattle.code_check.specs.code.Flow.{IsFlow, IsKnown, AreKnown}
use Rattle.code_check.specs.code.Verdict.{IsNamedAt}
use Rattle.code_check.proofs.Rows.{slot_total, row_total, input_total, past_reads}
use Rattle.code_check.proofs.Bits.{row_at as item_row}

abbrev weight : Bool → ℕ
weight b = cond b 1 0

-- ---- before the first slot and after the last

no_row : (n s : ℕ) → row_of (replicate n []) s ≡ []
no_row n s = elim (cases_lt s n) [
  | inl inside ↦ get_or-replicate n s [] [] inside
  | inr past ↦ get_or_past (replicate n []) s [] (omega (arith, length-replicate {A = List ℕ} n []))
]

no_depth : (n s : ℕ) → slice_index (replicate n 0) s ≡ 0
no_depth n s = elim (cases_lt s n) [
  | inl inside ↦ get_or-replicate n s 0 0 inside
  | inr past ↦ get_or_past (replicate n 0) s 0 (omega (arith, length-replicate {A = ℕ} n 0))
]

none_in : (x : ℕ) → Contains [] x → ⊥
none_in x there = let clash : ⊥ = omega (arith, there.1) in clash

pub known_none : (m : Machine) (words n : ℕ) (flow : Flow) → n ≡ slot_count m → flow.inputs.items ≡ replicate n [] → flow.depths.items ≡ replicate n 0 → AreKnown m words flow []
known_none m words n flow size rows depths = record {
  rows_each = ap length rows ∙ length-replicate {A = List ℕ} n [] ∙ size;
  depths_each = ap length depths ∙ length-replicate {A = ℕ} n 0 ∙ size;
  sized = λ slot there. absurd (none_in slot there);
  known = λ slot there. absurd (none_in slot there);
  shallow = λ slot. let none : slice_index flow.depths.items slot ≡ 0 = ap (λ xs. slice_index xs slot) depths ∙ no_depth n slot in omega (arith, none);
}

-- an element that is counted stands in the list
counted : (a : ℕ) (xs : List ℕ) → 0 < count_by (λ b. b == a) xs → Contains xs a
counted a [] some = absurd (let clash : ⊥ = omega arith in clash)
counted a (x ∷ xs) some =
    elim (cases_eq x a) [
      | inl same ↦ (0, omega arith, same)
      | inr other ↦
          let first : count_by (λ b. b == a) (x ∷ xs) ≡ weight (x == a) + count_by (λ b. b == a) xs = sum_by-cons (λ b. cond (b == a) 1 0) x xs in
          let no : weight (x == a) ≡ 0 = ap weight (ne_eqb x a other) in
          let rest = counted a xs (omega (arith, first, no, some)) in
          (suc rest.0, omega (arith, rest.1), rest.2)
    ]

pub all_known : (m : Machine) (words count : ℕ) (flow : Flow) (order : List ℕ) → IsLevelling (reads_of m) order → length order ≤ count → AreKnown m words flow (take count order) → IsFlow m flow
all_known m words count flow order level all was = record {
  rows_each = was.rows_each;
  depths_each = was.depths_each;
  known = λ slot inside.
      let there : Contains order slot = counted slot order (let once = level.each_once slot (omega (arith, row_total m)) in omega (arith, once)) in
      was.known slot (subst (λ xs. Contains xs slot) (sym (take_all count order all)) there);
}

-- ---- what one slot reads

pub reads_read : (m : Machine) (slot : ℕ) (graph rows : List (List ℕ)) (row item : List ℕ) → slot < length (reads_of m) → graph ≡ reads_of m → rows ≡ graph → row ≡ item → item ≡ get_or rows slot item → row ≡ row_of (reads_of m) slot
reads_read m slot graph rows row item low graph_is rows_are row_is item_is =
    row_is ∙ item_row rows slot item (omega (arith, ap length rows_are, ap length graph_is)) item_is ∙ ap (λ xs. row_of xs slot) (rows_are ∙ graph_is)

pub reads_inside : (m : Machine) (slot : ℕ) (row : List ℕ) (n : ℕ) → slot < length (reads_of m) → ReadsOnlyNodes (reads_of m) → n ≡ length (reads_of m) → row ≡ row_of (reads_of m) slot → All (λ s. s < n) row
reads_inside m slot row n low inside size row_is =
    subst (All (λ s. s < n)) (sym row_is) (λ k d within. let below : get_or (row_of (reads_of m) slot) k d < length (reads_of m) = inside slot [] low k d within in omega (arith, below, size))

pub reads_sized : (m : Machine) (words : ℕ) (flow : Flow) (taken : List ℕ) (slot : ℕ) (row : List ℕ) → row ≡ row_of (reads_of m) slot → ((b : ℕ) → Reads m slot b → Contains taken b) → AreKnown m words flow taken → All (λ s. length (row_of flow.inputs.items s) ≡ words) row
reads_sized m words flow taken slot row row_is read was k d within =
    let b = get_or row k d in
    let there : Contains row b = (k, within, get_or_default row k b d within) in
    was.sized b (read b (subst (λ xs. Contains xs b) row_is there))

-- ---- the chain

-- a number that is no slot is no child's output
past_no_kid : (m : Machine) (a : ℕ) → slot_count m ≤ a → is_kid_slot m a ≡ false
past_no_kid m a past = and_right (nat_le (first_kid_output m) a) (nat_lt a (first_instruction m)) (le-ltb a (first_instruction m) (omega (arith, slot_total m)))

past_path : (m : Machine) (a : ℕ) (rest : List ℕ) → slot_count m ≤ a → IsPath m (a ∷ rest) → count_by (is_kid_slot m) (a ∷ rest) ≤ m.chain
past_path m a [] past path =
    let first : count_by (is_kid_slot m) (a ∷ []) ≡ weight (is_kid_slot m a) + count_by (is_kid_slot m) [] = sum_by-cons (λ x. cond (is_kid_slot m x) 1 0) a [] in
    let no : weight (is_kid_slot m a) ≡ 0 = ap weight (past_no_kid m a past) in
    omega (arith, first, no)
past_path m a (b ∷ rest) past path = absurd (past_reads m a b past path.0)

-- every path has at most as many outputs of children as its first slot is deep
pub chained : (m : Machine) (flow : Flow) → IsFlow m flow → ((slot : ℕ) → slot < slot_count m → slice_index flow.depths.items slot ≤ m.chain) → IsChained m
chained m flow is low [] path = omega arith
chained m flow is low (a ∷ rest) path =
    elim (cases_lt a (slot_count m)) [
      | inl inside ↦ let most = (is.known a inside).depth.most rest path in omega (arith, most, low a inside)
      | inr past ↦ past_path m a rest past path
    ]

pub low_depth : (m : Machine) (flow : Flow) (slot : ℕ) → IsFlow m flow → slot < slot_count m → IsChained m → slice_index flow.depths.items slot ≤ m.chain
low_depth m flow slot is inside chain =
    let depth = (is.known slot inside).depth in
    let most = chain (slot ∷ depth.deepest) depth.path in
    omega (arith, most, depth.reached)

-- ---- the summary

out_slot : (m : Machine) (k : ℕ) → IsSlotOrdered m → k < length m.outs → slice_index m.outs k < slot_count m
out_slot m k order inside = order.outs k 0 inside

pub summarised : (m : Machine) (flow : Flow) → IsSlotOrdered m → IsFlow m flow → ((k : ℕ) → k < length m.outs → IsNamedAt m flow.inputs.items k) → IsSummarised m
summarised m flow order is named k slot input at inp reaches =
    let inside : k < length m.outs = slice_get_within m.outs k slot at in
    let same : slice_index m.outs k ≡ slot = get_or_from_slice_get m.outs k slot 0 at in
    let known = is.known slot (subst (λ s. s < slot_count m) same (out_slot m k order inside)) in
    named k inside input inp (subst (λ s. IsIn (row_of flow.inputs.items s) input) (sym same) ((known.inputs input inp).1 reaches))

pub named_at : (m : Machine) (flow : Flow) (k : ℕ) → IsSlotOrdered m → IsFlow m flow → k < length m.outs → IsSummarised m → IsNamedAt m flow.inputs.items k
named_at m flow k order is inside summary p inp there =
    let slot = slice_index m.outs k in
    let known = is.known slot (out_slot m k order inside) in
    summary k slot p (slice_get-get_or m.outs k 0 inside) inp ((known.inputs p inp).0 there)

-- ---- one output's test

pub set_read : (m : Machine) (flow : Flow) (k : ℕ) (outs set item : List ℕ) → IsSlotOrdered m → IsFlow m flow → k < length outs → outs ≡ m.outs → set ≡ item → item ≡ get_or flow.inputs.items (get_or outs k 0) item → set ≡ row_of flow.inputs.items (slice_index m.outs k)
set_read m flow k outs set item order is inside same set_is item_is =
    let within : k < length m.outs = omega (arith, ap length same) in
    let there : get_or outs k 0 < length flow.inputs.items = omega (arith, out_slot m k order within, is.rows_each, ap (λ xs. get_or xs k 0) same) in
    set_is ∙ item_row flow.inputs.items (get_or outs k 0) item there item_is ∙ ap (λ xs. row_of flow.inputs.items (get_or xs k 0)) same

pub row_read : (m : Machine) (k : ℕ) (outs : List ℕ) (rows : List (List ℕ)) (row item : List ℕ) → k < length outs → outs ≡ m.outs → rows ≡ m.summary.rows → row ≡ item → item ≡ get_or rows k item → row ≡ row_at m.summary k
row_read m k outs rows row item inside same rows_are row_is item_is =
    let within : k < length rows = omega (arith, ap length same, ap length rows_are, m.all_driven, m.summary_fits.rows) in
    row_is ∙ item_row rows k item within item_is ∙ ap (λ xs. slice_index_or xs k []) rows_are

pub named_from : (m : Machine) (inputs : List (List ℕ)) (k : ℕ) (set row : List ℕ) (n : ℕ) → n ≡ input_count m.face → set ≡ row_of inputs (slice_index m.outs k) → row ≡ row_at m.summary k → ((p : ℕ) → p < n → IsIn set p → Contains row p) → IsNamedAt m inputs k
named_from m inputs k set row n size set_is row_is all p inp there =
    subst (λ xs. Contains xs p) row_is (all p (omega (arith, input_total m, inp)) (subst (λ xs. IsIn xs p) (sym set_is) there))

pub named_to : (m : Machine) (inputs : List (List ℕ)) (k : ℕ) (set row : List ℕ) (n : ℕ) → n ≡ input_count m.face → set ≡ row_of inputs (slice_index m.outs k) → row ≡ row_at m.summary k → IsNamedAt m inputs k → (p : ℕ) → p < n → IsIn set p → Contains row p
named_to m inputs k set row n size set_is row_is named p low there =
    let inp : IsInputSlot m p = omega (arith, input_total m) in
    subst (λ xs. Contains xs p) (sym row_is) (named p inp (subst (λ xs. IsIn xs p) set_is there))
