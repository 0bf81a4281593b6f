-- Registers by their clocks, and what they sample.
use Rattle.std.proofs.Common.{◌≡◌, ◌≢◌, ℕ, zero, suc, ◌+◌, ◌<◌, ◌≤◌, inl, inr, Bool, true, false, List, [], ◌∷◌, ◌++◌, length, map, set, replicate, refl, sym, ◌∙◌, ap, subst, arith}
use Rattle.std.specs.Prelude.{◌↔◌, slice_index, slice_get, Some, Contains, if◌then◌else◌}
use Rattle.std.proofs.lemmas.Bool.{cases_eq, cases_lt, cases_Bool, cond-true, cond-false}
use Rattle.std.proofs.lemmas.List.{get_or-set_other, get_or-set_same, length-set, length-map, get_or_past, get_or-replicate, length-replicate, ext_get_or, get_or-map}
use Rattle.std.proofs.lemmas.List.Elements.{Contains-push, Contains-push_cases, Contains-append_left, Contains-append_right}
use Rattle.std.proofs.lemmas.Option.{slice_get_within, get_or_from_slice_get, same_Some, none-some}
use Rattle.bit_ops.specs.Lists.{words, widths}
use Rattle.bit_ops.specs.declared.value.Bits.{Bits}
use Rattle.code_isa.specs.declared.machine.Reg.{Reg}
use Rattle.code_isa.specs.Marks.{is_member}
use Rattle.code_isa.specs.Uses.{row_of}
use Rattle.code_isa.specs.Traces.{edge_occurs, level_at, sampled}
use Rattle.wrapper_core.specs.code.Samplings.{IsClockedBy, AreClocked, IsKept, SamplesRow}
use Rattle.wrapper_core.proofs.Blocking.{true_is_not_false, word_set, words_each, widths_kept, widths_each}

-- an item of a list by its place
pub get_or_first : {X : Type 0} (xs : List X) (i : ℕ) → i < length xs → (x : X) × (slice_get xs i ≡ Some x)
get_or_first [] i inside = absurd (let clash : ⊥ = omega (arith, inside) in clash)
get_or_first (x ∷ xs) zero inside = (x, refl)
get_or_first (x ∷ xs) (suc i) inside = get_or_first xs i (let e : i < length xs = omega (arith, inside) in e)

-- ---- rows of registers

none_in : (x : ℕ) → Contains {X = ℕ} [] x → ⊥
none_in x there = let clash : ⊥ = omega (arith, there.1) in clash

only_in : (x y : ℕ) → Contains (x ∷ []) y → x ≡ y
only_in x y there = elim (Contains-push_cases [] x y there) [ inl before ↦ absurd (none_in y before) | inr same ↦ same ]

-- the rows list the registers below k
abbrev pub AreClockedUpTo : List Reg → List (List ℕ) → ℕ → Type 0
AreClockedUpTo regs rows k = (clock r : ℕ) → Contains (row_of rows clock) r ↔ ((r < k) × IsClockedBy regs clock r)

empty_row : (n clock : ℕ) → row_of (replicate n []) clock ≡ []
empty_row n clock = elim (cases_lt clock n) [
  | inl inside ↦ get_or-replicate n clock [] [] inside
  | inr past ↦ get_or_past (replicate n []) clock [] (let e : length (replicate {A = List ℕ} n []) ≤ clock = omega (arith, length-replicate {A = List ℕ} n []) in e)
]

pub clocked_none : (regs : List Reg) (rows : List (List ℕ)) (n : ℕ) → rows ≡ replicate n [] → AreClockedUpTo regs rows 0
clocked_none regs rows n same clock r = (
  λ there. absurd (none_in r (subst (λ xs. Contains xs r) (ap (λ rs. row_of rs clock) same ∙ empty_row n clock) there)),
  λ low. absurd (let clash : ⊥ = omega (arith, low.0) in clash),
)

pub clocked_more : (regs : List Reg) (rows next : List (List ℕ)) (k : ℕ) (reg : Reg) → slice_get regs k ≡ Some reg → reg.clock < length rows → next ≡ set rows reg.clock (row_of rows reg.clock ++ k ∷ []) → AreClockedUpTo regs rows k → AreClockedUpTo regs next (k + 1)
clocked_more regs rows next k reg at inside step was clock r =
    let row = row_of rows reg.clock in
    elim (cases_eq clock reg.clock) [
      | inl same ↦
          let now : row_of next clock ≡ row ++ k ∷ [] = ap (λ rs. row_of rs clock) step ∙ ap (row_of (set rows reg.clock (row ++ k ∷ []))) same ∙ get_or-set_same rows reg.clock (row ++ k ∷ []) [] inside in
          let was_here : Contains row r ↔ ((r < k) × IsClockedBy regs clock r) = subst (λ n. Contains (row_of rows n) r ↔ ((r < k) × IsClockedBy regs clock r)) same (was clock r) in (
            λ there. elim (Contains-push_cases row k r (subst (λ xs. Contains xs r) now there)) [
              | inl before ↦ let one = was_here.0 before in (let e : r < k + 1 = omega (arith, one.0) in e, one.1)
              | inr new ↦ (let e : r < k + 1 = omega (arith, new) in e, record { reg = reg; at = ap (slice_get regs) (sym new) ∙ at; by = sym same })
            ],
            λ one. subst (λ xs. Contains xs r) (sym now) (elim (cases_eq r k) [
              | inl new ↦ subst (Contains (row ++ k ∷ [])) (sym new) (Contains-push row k)
              | inr other ↦ Contains-append_left row (k ∷ []) r (was_here.1 (let e : r < k = omega (arith, one.0, other) in e, one.1))
            ]),
          )
      | inr other ↦
          let now : row_of next clock ≡ row_of rows clock = ap (λ rs. row_of rs clock) step ∙ get_or-set_other rows reg.clock clock (row ++ k ∷ []) [] other in (
            λ there. let one = (was clock r).0 (subst (λ xs. Contains xs r) now there) in (let e : r < k + 1 = omega (arith, one.0) in e, one.1),
            λ one. subst (λ xs. Contains xs r) (sym now) ((was clock r).1 (elim (cases_eq r k) [
              | inl new ↦
                  let found : one.1.reg ≡ reg = same_Some one.1.reg reg (sym one.1.at ∙ ap (slice_get regs) new ∙ at) in
                  absurd (other (sym one.1.by ∙ ap (λ (x : Reg). x.clock) found))
              | inr before ↦ (let e : r < k = omega (arith, one.0, before) in e, one.1)
            ])),
          )
    ]

pub clocked_all : (regs : List Reg) (rows : List (List ℕ)) (k : ℕ) → length regs ≤ k → AreClockedUpTo regs rows k → AreClocked regs rows
clocked_all regs rows k long was clock r = (
  λ there. ((was clock r).0 there).1,
  λ one. (was clock r).1 (let e : r < k = omega (arith, slice_get_within regs r one.reg one.at) in e, one),
)

-- ---- one register, and a row of them

no_edge : (falling level : Bool) → edge_occurs falling level level ≡ false
no_edge true true = refl
no_edge true false = refl
no_edge false true = refl
no_edge false false = refl

pub row_without : (row : List ℕ) (regs : List Reg) (slots : List Bits) (from to : Bool) (next : List Bits) (due : List Bool) → from ≡ to → SamplesRow row regs slots from to next next due due
row_without row regs slots from to next due same = record {
  due_sized = refl;
  wide = refl;
  taken = λ r reg at there edge. absurd (true_is_not_false (edge_occurs reg.falling from to) edge (ap (edge_occurs reg.falling from) (sym same) ∙ no_edge reg.falling from));
  others = λ r none. (refl, refl);
}

pub row_empty : (regs : List Reg) (slots : List Bits) (from to : Bool) (next : List Bits) (due : List Bool) → SamplesRow [] regs slots from to next next due due
row_empty regs slots from to next due = record {
  due_sized = refl;
  wide = refl;
  taken = λ r reg at there edge. absurd (none_in r there);
  others = λ r none. (refl, refl);
}

pub one_kept : (regs : List Reg) (slots : List Bits) (from to : Bool) (next : List Bits) (due : List Bool) (r : ℕ) (reg : Reg) → slice_get regs r ≡ Some reg → edge_occurs reg.falling from to ≡ false → SamplesRow (r ∷ []) regs slots from to next next due due
one_kept regs slots from to next due r reg at none = record {
  due_sized = refl;
  wide = refl;
  taken = λ x other there_at there edge.
      let same : other ≡ reg = same_Some other reg (sym there_at ∙ ap (slice_get regs) (sym (only_in r x there)) ∙ at) in
      absurd (true_is_not_false (edge_occurs reg.falling from to) (ap (λ (y : Reg). edge_occurs y.falling from to) (sym same) ∙ edge) none);
  others = λ x never. (refl, refl);
}

pub one_taken : (regs : List Reg) (slots : List Bits) (from to : Bool) (next : List Bits) (due : List Bool) (r : ℕ) (reg : Reg) (v : Bits) (after : List Bool) → slice_get regs r ≡ Some reg → edge_occurs reg.falling from to ≡ true → widths next ≡ map (λ (x : Reg). x.width) regs → length due ≡ length regs → v.word ≡ slice_index (words slots) reg.next → v.width ≡ reg.width → after ≡ set due r true →
    SamplesRow (r ∷ []) regs slots from to next (set next r v) due after
one_taken regs slots from to next due r reg v after at edge wide sized word width marked =
    let ws = map (λ (x : Reg). x.width) regs in
    let inside : r < length regs = slice_get_within regs r reg at in
    let room : r < length next = omega (arith, inside, sym (widths_each next), ap length wide, length-map regs (λ (x : Reg). x.width)) in
    let stored : words (set next r v) ≡ set (words next) r v.word = word_set next r v in
    let width_there : slice_index ws r ≡ v.width = get_or-map (λ (x : Reg). x.width) regs r reg 0 inside ∙ ap (λ (x : Reg). x.width) (get_or_from_slice_get regs r reg reg at) ∙ sym width in
    record {
      due_sized = ap length marked ∙ length-set due r true;
      wide = widths_kept next r v ws wide room width_there ∙ sym wide;
      taken = λ x other there_at there yes_edge.
          let here : r ≡ x = only_in r x there in
          let same : other ≡ reg = same_Some other reg (sym there_at ∙ ap (slice_get regs) (sym here) ∙ at) in (
            ap (slice_index (words (set next r v))) (sym here) ∙ ap (λ us. slice_index us r) stored ∙ get_or-set_same (words next) r v.word 0 (omega (arith, room, words_each next))
                ∙ word ∙ ap (λ (y : Reg). slice_index (words slots) y.next) (sym same),
            ap (λ ms. is_member ms x) marked ∙ ap (is_member (set due r true)) (sym here) ∙ get_or-set_same due r true false (omega (arith, inside, sized)),
          );
      others = λ x never. elim (cases_eq x r) [
        | inl here ↦ absurd (true_is_not_false (edge_occurs reg.falling from to) edge (never reg (ap (slice_get regs) here ∙ at) (subst (Contains (r ∷ [])) (sym here) (Contains-push [] r))))
        | inr apart ↦ (
          ap (λ us. slice_index us x) stored ∙ get_or-set_other (words next) r x v.word 0 apart,
          ap (λ ms. is_member ms x) marked ∙ get_or-set_other due r x true false apart,
        )
      ];
    }

pub row_more : (row : List ℕ) (y : ℕ) (regs : List Reg) (slots : List Bits) (from to : Bool) (a b c : List Bits) (d e f : List Bool) → SamplesRow row regs slots from to a b d e → SamplesRow (y ∷ []) regs slots from to b c e f → SamplesRow (row ++ y ∷ []) regs slots from to a c d f
row_more row y regs slots from to a b c d e f first second = record {
  due_sized = second.due_sized ∙ first.due_sized;
  wide = second.wide ∙ first.wide;
  taken = λ r reg at there edge. elim (cases_eq r y) [
    | inl here ↦ second.taken r reg at (subst (Contains (y ∷ [])) (sym here) (Contains-push [] y)) edge
    | inr apart ↦
        let before : Contains row r = elim (Contains-push_cases row y r there) [ inl inside ↦ inside | inr same ↦ absurd (apart (sym same)) ] in
        let taken = first.taken r reg at before edge in
        let kept = second.others r (λ other other_at other_there. absurd (apart (sym (only_in y r other_there)))) in
        (kept.0 ∙ taken.0, kept.1 ∙ taken.1)
  ];
  others = λ r none.
      let one = first.others r (λ reg at there. none reg at (Contains-append_left row (y ∷ []) r there)) in
      let two = second.others r (λ reg at there. none reg at (Contains-append_right row (y ∷ []) r there)) in
      (two.0 ∙ one.0, two.1 ∙ one.1);
}

-- ---- all clocks

-- the word that a register takes
abbrev pub picked : List ℕ → List Bool → List Bool → Reg → ℕ → ℕ
picked slots old new reg word = if edge_occurs reg.falling (level_at old reg.clock) (level_at new reg.clock) then slice_index slots reg.next else word

-- the registers of the clocks below k are sampled
pub record IsSampledUpTo (regs : List Reg) (slots : List ℕ) (old new : List Bool) (k : ℕ) (before after : List ℕ) (due : List Bool) : Type 0 where
  pub done : (r : ℕ) (reg : Reg) → slice_get regs r ≡ Some reg → reg.clock < k → slice_index after r ≡ picked slots old new reg (slice_index before r)
  pub undone : (r : ℕ) (reg : Reg) → slice_get regs r ≡ Some reg → k ≤ reg.clock → slice_index after r ≡ slice_index before r
  pub kept : IsKept due after before

pub sampled_none : (regs : List Reg) (slots : List ℕ) (old new : List Bool) (before : List ℕ) (due : List Bool) → IsSampledUpTo regs slots old new 0 before before due
sampled_none regs slots old new before due = record {
  done = λ r reg at low. absurd (let clash : ⊥ = omega (arith, low) in clash);
  undone = λ r reg at past. refl;
  kept = λ r clear. refl;
}

module _ (regs : List Reg) (rows : List (List ℕ)) (slots : List Bits) (old new : List Bool) (k : ℕ) (row : List ℕ) (before : List ℕ) (mid next : List Bits) (due after : List Bool) (clocked : AreClocked regs rows) (row_is : row ≡ row_of rows k) (was : IsSampledUpTo regs (words slots) old new k before (words mid) due) (step : SamplesRow row regs slots (level_at old k) (level_at new k) mid next due after) where
  listed : (r : ℕ) (reg : Reg) → slice_get regs r ≡ Some reg → reg.clock ≡ k → Contains row r
  listed r reg at by = subst (λ xs. Contains xs r) (sym row_is) ((clocked k r).1 (record { reg = reg; at = at; by = by }))

  clock_of : (r : ℕ) (reg : Reg) → slice_get regs r ≡ Some reg → Contains row r → reg.clock ≡ k
  clock_of r reg at there =
      let one = (clocked k r).0 (subst (λ xs. Contains xs r) row_is there) in
      ap (λ (x : Reg). x.clock) (same_Some reg one.reg (sym at ∙ one.at)) ∙ one.by

  -- a register of another clock is as it was
  apart_kept : (r : ℕ) (reg : Reg) → slice_get regs r ≡ Some reg → reg.clock ≢ k → (slice_index (words next) r ≡ slice_index (words mid) r) × (is_member after r ≡ is_member due r)
  apart_kept r reg at other = step.others r (λ x x_at there. absurd (other (ap (λ (y : Reg). y.clock) (same_Some reg x (sym at ∙ x_at)) ∙ clock_of r x x_at there)))

  -- so is one whose edge does not occur
  edgeless_kept : (r : ℕ) (reg : Reg) → slice_get regs r ≡ Some reg → edge_occurs reg.falling (level_at old k) (level_at new k) ≡ false → (slice_index (words next) r ≡ slice_index (words mid) r) × (is_member after r ≡ is_member due r)
  edgeless_kept r reg at none = step.others r (λ x x_at there. ap (λ (y : Reg). edge_occurs y.falling (level_at old k) (level_at new k)) (same_Some x reg (sym x_at ∙ at)) ∙ none)

  edge_at : (reg : Reg) → reg.clock ≡ k → edge_occurs reg.falling (level_at old reg.clock) (level_at new reg.clock) ≡ edge_occurs reg.falling (level_at old k) (level_at new k)
  edge_at reg by = ap (λ c. edge_occurs reg.falling (level_at old c) (level_at new c)) by

  pub sampled_more : IsSampledUpTo regs (words slots) old new (k + 1) before (words next) after
  sampled_more = record {
    done = λ r reg at low. elim (cases_eq reg.clock k) [
      | inl by ↦ elim (cases_Bool (edge_occurs reg.falling (level_at old k) (level_at new k))) [
        | inl edge ↦ (step.taken r reg at (listed r reg at by) edge).0
            ∙ sym (cond-true (edge_occurs reg.falling (level_at old reg.clock) (level_at new reg.clock)) (slice_index (words slots) reg.next) (slice_index before r) (edge_at reg by ∙ edge))
        | inr none ↦ (edgeless_kept r reg at none).0 ∙ was.undone r reg at (let e : k ≤ reg.clock = omega (arith, by) in e)
            ∙ sym (cond-false (edge_occurs reg.falling (level_at old reg.clock) (level_at new reg.clock)) (slice_index (words slots) reg.next) (slice_index before r) (edge_at reg by ∙ none))
      ]
      | inr other ↦ (apart_kept r reg at other).0 ∙ was.done r reg at (let e : reg.clock < k = omega (arith, low, other) in e)
    ];
    undone = λ r reg at past. (apart_kept r reg at (λ by. let clash : ⊥ = omega (arith, past, by) in clash)).0 ∙ was.undone r reg at (let e : k ≤ reg.clock = omega (arith, past) in e);
    kept = λ r clear.
        let same_if : (slice_index (words next) r ≡ slice_index (words mid) r) × (is_member after r ≡ is_member due r) → slice_index (words next) r ≡ slice_index before r =
        λ kept. kept.0 ∙ was.kept r (sym kept.1 ∙ clear) in
        elim (cases_lt r (length regs)) [
          | inl inside ↦
              let reg = get_or_first regs r inside in
              elim (cases_eq reg.0.clock k) [
                | inl by ↦ elim (cases_Bool (edge_occurs reg.0.falling (level_at old k) (level_at new k))) [
                  | inl edge ↦ absurd (true_is_not_false (is_member after r) (step.taken r reg.0 reg.1 (listed r reg.0 reg.1 by) edge).1 clear)
                  | inr none ↦ same_if (edgeless_kept r reg.0 reg.1 none)
                ]
                | inr other ↦ same_if (apart_kept r reg.0 reg.1 other)
              ]
          | inr past ↦ same_if (step.others r (λ x x_at there. absurd (let clash : ⊥ = omega (arith, past, slice_get_within regs r x x_at) in clash)))
        ];
  }

-- ---- the list of what all registers take

pub sampled_size : (old new : List Bool) (slots : List ℕ) (regs : List Reg) (ws : List ℕ) → length ws ≡ length regs → length (sampled old new slots regs ws) ≡ length ws
sampled_size old new slots [] [] same = refl
sampled_size old new slots [] (w ∷ ws) same = absurd (let clash : ⊥ = omega (arith, same) in clash)
sampled_size old new slots (r ∷ regs) [] same = absurd (let clash : ⊥ = omega (arith, same) in clash)
sampled_size old new slots (r ∷ regs) (w ∷ ws) same = ap suc (sampled_size old new slots regs ws (let e : length ws ≡ length regs = omega (arith, same) in e))

sampled_at : (old new : List Bool) (slots : List ℕ) (regs : List Reg) (ws : List ℕ) (r : ℕ) (reg : Reg) → length ws ≡ length regs → slice_get regs r ≡ Some reg → slice_index (sampled old new slots regs ws) r ≡ picked slots old new reg (slice_index ws r)
sampled_at old new slots [] ws r reg same at = absurd (none-some reg at)
sampled_at old new slots (x ∷ regs) [] r reg same at = absurd (let clash : ⊥ = omega (arith, same) in clash)
sampled_at old new slots (x ∷ regs) (w ∷ ws) zero reg same at = ap (λ (y : Reg). picked slots old new y w) (same_Some x reg at)
sampled_at old new slots (x ∷ regs) (w ∷ ws) (suc r) reg same at = sampled_at old new slots regs ws r reg (let e : length ws ≡ length regs = omega (arith, same) in e) at

pub sampled_all : (regs : List Reg) (slots : List ℕ) (old new : List Bool) (k : ℕ) (before after : List ℕ) (due : List Bool) → IsSampledUpTo regs slots old new k before after due → length before ≡ length regs → length after ≡ length regs → ((r : ℕ) (reg : Reg) → slice_get regs r ≡ Some reg → reg.clock < k) → after ≡ sampled old new slots regs before
sampled_all regs slots old new k before after due was size_before size_after low =
    ext_get_or 0 after (sampled old new slots regs before) (size_after ∙ sym (sampled_size old new slots regs before size_before ∙ size_before)) (λ r inside.
    let reg = get_or_first regs r (omega (arith, inside, size_after)) in
    was.done r reg.0 reg.1 (low r reg.0 reg.1) ∙ sym (sampled_at old new slots regs before r reg.0 size_before reg.1))
