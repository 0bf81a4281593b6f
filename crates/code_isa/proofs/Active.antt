-- The run over marked instructions, in rising order.
use Rattle.std.proofs.Common.{◌≡◌, ◌≢◌, ℕ, zero, suc, ◌+◌, ◌<◌, ◌≤◌, ◌⊎◌, inl, inr, Bool, true, false, not, ◌||◌, eqb, cond, List, [], ◌∷◌, length, get_or, set, take, refl, sym, ◌∙◌, ap, subst, arith, add-one}
use Rattle.std.specs.Prelude.{min, Contains, slice_index, slice_get, Some}
use Rattle.std.specs.List.{list_any}
use Rattle.std.proofs.lemmas.Bool.{cases_eq, cases_lt, cases_Bool, eq-eqb, ne_eqb}
use Rattle.std.proofs.lemmas.List.{get_or-set_other, get_or-set_same, length-set, get_or_past, length-map, ext_get_or, get_or-take, length-take}
use Rattle.std.proofs.lemmas.Option.{slice_get-get_or}
use Rattle.std.proofs.lemmas.List.Elements.{All-contains}
use Rattle.bit_ops.specs.Lists.{words, widths}
use Rattle.bit_ops.specs.declared.value.Bits.{Bits}
use Rattle.code_isa.specs.declared.machine.Instr.{Instr}
use Rattle.code_isa.specs.declared.machine.Machine.{Machine}
use Rattle.code_isa.specs.Slots.{slot_widths, first_instruction, operand_slots}
use Rattle.code_isa.specs.Values.{HasValue, IsRun, KeepsGiven}
use Rattle.code_isa.specs.Checks.{IsSlotOrdered}
use Rattle.code_isa.specs.Marks.{is_member, IsLeast, HasNone}
use Rattle.code_isa.specs.Uses.{operands_at}
use Rattle.code_isa.specs.Activity.{HaveValuesBut, RunsOne, differs, is_due, count_below, due_count}
use Rattle.code_isa.proofs.Running.{value_same, size}
use Rattle.code_isa.proofs.Readers.{none_in, operands_there, operands_past}

-- ---- counts

pub count_same : (f g : ℕ → Bool) (n : ℕ) → ((j : ℕ) → j < n → f j ≡ g j) → count_below f n ≡ count_below g n
count_same f g zero same = refl
count_same f g (suc n) same =
    ap (λ b. count_below f n + cond b 1 0) (same n (omega arith)) ∙ ap (λ k. k + cond (g n) 1 0) (count_same f g n (λ j h. same j (omega arith)))

pub count_more : (f : ℕ → Bool) (n : ℕ) → f n ≡ true → count_below f (n + 1) ≡ count_below f n + 1
count_more f n is_so = ap (count_below f) (add-one n) ∙ ap (λ b. count_below f n + cond b 1 0) is_so

pub count_none : (f : ℕ → Bool) (p n : ℕ) → p ≤ n → ((j : ℕ) → p ≤ j → j < n → f j ≡ false) → count_below f n ≡ count_below f p
count_none f p zero h never = ap (count_below f) (let e : zero ≡ p = omega arith in e)
count_none f p (suc n) h never =
    elim (cases_lt n p) [
      | inl short ↦ ap (count_below f) (let e : suc n ≡ p = omega arith in e)
      | inr long ↦
          ap (λ b. count_below f n + cond b 1 0) (never n long (omega arith)) ∙ (let e : count_below f n + 0 ≡ count_below f n = omega arith in e)
          ∙ count_none f p n long (λ j low high. never j low (omega arith))
    ]

pub count_le : (f : ℕ → Bool) (n : ℕ) → count_below f n ≤ n
count_le f zero = omega arith
count_le f (suc n) =
    let rest = count_le f n in
    elim (cases_Bool (f n)) [
      | inl is_so ↦ let e : count_below f (suc n) ≡ count_below f n + 1 = ap (λ b. count_below f n + cond b 1 0) is_so in omega arith
      | inr not_so ↦ let e : count_below f (suc n) ≡ count_below f n + 0 = ap (λ b. count_below f n + cond b 1 0) not_so in omega arith
    ]

-- ---- what is due

bool_same : (a b : Bool) → (a ≡ true → b ≡ true) → (b ≡ true → a ≡ true) → a ≡ b
bool_same true b there back = sym (there refl)
bool_same false true there back = back refl
bool_same false false there back = refl

any_some : (p : ℕ → Bool) (xs : List ℕ) (x : ℕ) → Contains xs x → p x ≡ true → list_any p xs ≡ true
any_some p [] x there is_so = absurd (none_in x there)
any_some p (y ∷ xs) x (zero, inside, same) is_so = ap (λ b. b || list_any p xs) (ap p same ∙ is_so)
any_some p (y ∷ xs) x (suc k, inside, same) is_so =
    elim (cases_Bool (p y)) [
      | inl here ↦ ap (λ b. b || list_any p xs) here
      | inr not_here ↦ ap (λ b. b || list_any p xs) not_here ∙ any_some p xs x (k, omega (arith, inside), same) is_so
    ]

some_any : (p : ℕ → Bool) (xs : List ℕ) → list_any p xs ≡ true → (x : ℕ) × Contains xs x × (p x ≡ true)
some_any p [] h = absurd (let clash : ⊥ = cc in clash)
some_any p (y ∷ xs) h =
    elim (cases_Bool (p y)) [
      | inl here ↦ (y, (0, omega arith, refl), here)
      | inr not_here ↦
          let rest = some_any p xs (sym (ap (λ b. b || list_any p xs) not_here) ∙ h) in
          (rest.0, (suc rest.1.0, omega (arith, rest.1.1), rest.1.2), rest.2)
    ]

any_same : (p q : ℕ → Bool) (xs : List ℕ) → ((x : ℕ) → Contains xs x → p x ≡ q x) → list_any p xs ≡ list_any q xs
any_same p q [] same = refl
any_same p q (y ∷ xs) same =
    ap (λ b. b || list_any p xs) (same y (0, omega arith, refl))
    ∙ ap (λ b. q y || b) (any_same p q xs (λ x there. same x (suc there.0, omega (arith, there.1), there.2)))

differs_true : (old new : List ℕ) (s : ℕ) → slice_index old s ≢ slice_index new s → differs old new s ≡ true
differs_true old new s other = ap not (ne_eqb (slice_index old s) (slice_index new s) other)

differs_false : (old new : List ℕ) (s : ℕ) → slice_index old s ≡ slice_index new s → differs old new s ≡ false
differs_false old new s same = ap not (eq-eqb (slice_index old s) (slice_index new s) same)

true_differs : (old new : List ℕ) (s : ℕ) → differs old new s ≡ true → slice_index old s ≢ slice_index new s
true_differs old new s is same = let clash : true ≡ false = sym is ∙ differs_false old new s same in let no : ⊥ = cc in no

-- the words of the operands alone decide
pub due_same : (m : Machine) (marks : List Bool) (old u v : List ℕ) (k : ℕ) → ((s : ℕ) → Contains (operands_at m k) s → slice_index u s ≡ slice_index v s) → is_due m marks old u k ≡ is_due m marks old v k
due_same m marks old u v k same =
    ap (λ b. is_member marks k || b) (any_same (differs old u) (differs old v) (operands_at m k) (λ s there. ap (λ n. not (eqb (slice_index old s) n)) (same s there)))

or_left : (a b : Bool) → a ≡ true → (a || b) ≡ true
or_left a b is = ap (λ x. x || b) is

or_right : (a b : Bool) → b ≡ true → (a || b) ≡ true
or_right true b is = refl
or_right false b is = is

or_cases : (a b : Bool) → (a || b) ≡ true → (a ≡ true) ⊎ (b ≡ true)
or_cases true b is = inl refl
or_cases false b is = inr is

-- a member stands below the end
pub member_inside : (members : List Bool) (k : ℕ) → is_member members k ≡ true → k < length members
member_inside members k is =
    elim (cases_lt k (length members)) [
      | inl inside ↦ inside
      | inr past ↦ let clash : true ≡ false = sym is ∙ get_or_past members k false past in absurd (let no : ⊥ = cc in no)
    ]

pub found_at : {P : Type 0} (xs : List Instr) (k : ℕ) → k < length xs → ((i : Instr) → slice_get xs k ≡ Some i → P) → P
found_at [] k inside use_it = absurd (let clash : ⊥ = omega arith in clash)
found_at (x ∷ xs) k inside use_it = use_it (get_or (x ∷ xs) k x) (slice_get-get_or (x ∷ xs) k x inside)

-- an operand is below its instruction's slot
pub operand_below : (m : Machine) (k s : ℕ) → IsSlotOrdered m → Contains (operands_at m k) s → s < first_instruction m + k
operand_below m k s order there =
    elim (cases_lt k (length m.code)) [
      | inl inside ↦
          let all : (i : Instr) → slice_get m.code k ≡ Some i → s < first_instruction m + k = λ i at.
          All-contains (λ x. x < first_instruction m + k) (operand_slots i) s (order.operands k i at) (subst (λ xs. Contains xs s) (operands_there m k i at) there) in
          found_at m.code k inside all
      | inr past ↦ absurd (none_in s (subst (λ xs. Contains xs s) (operands_past m k past) there))
    ]

-- ---- the run

pub record IsActive (m : Machine) (marks_before : List Bool) (old : List ℕ) (slots : List Bits) (marks : List Bool) (done p : ℕ) : Type 0 where
  pub within : p ≤ length m.code
  pub sized : length marks ≡ length m.code
  pub shape : widths slots ≡ slot_widths m
  pub settled : HaveValuesBut m marks (words slots)
  pub kept : (s : ℕ) → (s < first_instruction m) ⊎ (first_instruction m + p ≤ s) → slice_index (words slots) s ≡ slice_index old s
  pub ahead : (k : ℕ) → is_member marks k ≡ true → p ≤ k
  pub due : (k : ℕ) → p ≤ k → is_member marks k ≡ is_due m marks_before old (words slots) k
  pub counted : done ≡ count_below (is_due m marks_before old (words slots)) p

pub active_start : (m : Machine) (marks : List Bool) (slots : List Bits) → length marks ≡ length m.code → widths slots ≡ slot_widths m → HaveValuesBut m marks (words slots) → IsActive m marks (words slots) slots marks 0 0
active_start m marks slots sized shape settled = record {
  within = omega arith;
  sized = sized;
  shape = shape;
  settled = settled;
  kept = λ s _. refl;
  ahead = λ k _. omega arith;
  due = λ k _.
      let u = words slots in
      bool_same (is_member marks k) (is_due m marks u u k) (or_left (is_member marks k) (list_any (differs u u) (operands_at m k))) (λ is.
      elim (or_cases (is_member marks k) (list_any (differs u u) (operands_at m k)) is) [
        | inl member ↦ member
        | inr some ↦ let one = some_any (differs u u) (operands_at m k) some in absurd (true_differs u u one.0 one.2 refl)
      ]);
  counted = refl;
}

-- one step: the least is taken, done, and the readers of its slot are marked where its word has changed
module _ (m : Machine) (marks_before : List Bool) (old : List ℕ) (slots more : List Bits) (marks after : List Bool) (done p k : ℕ) (order : IsSlotOrdered m) (was : IsActive m marks_before old slots marks done p) (least : IsLeast marks k) (shape : widths more ≡ slot_widths m) (one : RunsOne m k (words slots) (words more) (set marks k false) after) where
  first : ℕ
  first = first_instruction m

  inside : k < length marks
  inside = member_inside marks k least.member

  taken : (j : ℕ) → j ≢ k → is_member (set marks k false) j ≡ is_member marks j
  taken j other = get_or-set_other marks k j false false other

  taken_here : is_member (set marks k false) k ≡ false
  taken_here = get_or-set_same marks k false false inside

  -- what is marked afterwards stands later
  pub later : (j : ℕ) → is_member after j ≡ true → k + 1 ≤ j
  later j is =
      elim ((one.readers j).0 is) [
        | inl before ↦ elim (cases_lt j k) [
          | inl low ↦
              let clash : true ≡ false = sym before ∙ taken j (λ e. let no_way : ⊥ = omega arith in no_way) ∙ least.before j low in
              absurd (let no_way : ⊥ = cc in no_way)
          | inr high ↦ elim (cases_eq j k) [
            | inl same ↦
                let clash : true ≡ false = sym before ∙ ap (is_member (set marks k false)) same ∙ taken_here in
                absurd (let no_way : ⊥ = cc in no_way)
            | inr other ↦ omega arith
          ]
        ]
        | inr changed ↦ let below : first_instruction m + k < first_instruction m + j = operand_below m j (first_instruction m + k) order changed.0 in omega arith
      ]

  same_word : (j s : ℕ) → j ≤ k → Contains (operands_at m j) s → slice_index (words more) s ≡ slice_index (words slots) s
  same_word j s low there =
      let below : s < first_instruction m + j = operand_below m j s order there in
      one.others s (λ e. let no_way : ⊥ = omega arith in no_way)

  due_below : (j : ℕ) → j ≤ k → is_due m marks_before old (words more) j ≡ is_due m marks_before old (words slots) j
  due_below j low = due_same m marks_before old (words more) (words slots) j (λ s there. same_word j s low there)

  due_later : (j : ℕ) → k + 1 ≤ j → is_member after j ≡ is_due m marks_before old (words more) j
  due_later j high =
      let at_j : is_member marks j ≡ is_due m marks_before old (words slots) j = was.due j (omega (arith, was.ahead k least.member)) in
      let apart : j ≢ k = λ e. let no_way : ⊥ = omega arith in no_way in
      let held : slice_index (words slots) (first_instruction m + k) ≡ slice_index old (first_instruction m + k) = was.kept (first_instruction m + k) (inr (omega (arith, was.ahead k least.member))) in
      bool_same (is_member after j) (is_due m marks_before old (words more) j) (λ is.
      elim ((one.readers j).0 is) [
        | inl before ↦
            let before_that : is_due m marks_before old (words slots) j ≡ true = sym at_j ∙ sym (taken j apart) ∙ before in
            elim (or_cases (is_member marks_before j) (list_any (differs old (words slots)) (operands_at m j)) before_that) [
              | inl marked ↦ or_left (is_member marks_before j) (list_any (differs old (words more)) (operands_at m j)) marked
              | inr some ↦
                  let found = some_any (differs old (words slots)) (operands_at m j) some in
                  let other : slice_index old found.0 ≢ slice_index (words slots) found.0 = true_differs old (words slots) found.0 found.2 in
                  let moved : found.0 ≢ first_instruction m + k = λ e. other (ap (slice_index old) e ∙ sym held ∙ ap (slice_index (words slots)) (sym e)) in
                  or_right (is_member marks_before j) (list_any (differs old (words more)) (operands_at m j)) (any_some (differs old (words more)) (operands_at m j) found.0 found.1
                  (differs_true old (words more) found.0 (λ e. other (e ∙ one.others found.0 moved))))
            ]
        | inr changed ↦
            or_right (is_member marks_before j) (list_any (differs old (words more)) (operands_at m j)) (any_some (differs old (words more)) (operands_at m j) (first_instruction m + k) changed.0
            (differs_true old (words more) (first_instruction m + k) (λ e. changed.1 (sym e ∙ sym held))))
      ]) (λ is.
      elim (or_cases (is_member marks_before j) (list_any (differs old (words more)) (operands_at m j)) is) [
        | inl marked ↦
            let before_that : is_member marks j ≡ true = at_j ∙ or_left (is_member marks_before j) (list_any (differs old (words slots)) (operands_at m j)) marked in
            (one.readers j).1 (inl (taken j apart ∙ before_that))
        | inr some ↦
            let found = some_any (differs old (words more)) (operands_at m j) some in
            let other : slice_index old found.0 ≢ slice_index (words more) found.0 = true_differs old (words more) found.0 found.2 in
            elim (cases_eq found.0 (first_instruction m + k)) [
              | inl same ↦
                  (one.readers j).1 (inr (
                    subst (Contains (operands_at m j)) same found.1,
                    λ e. other (ap (slice_index old) same ∙ sym held ∙ sym e ∙ ap (slice_index (words more)) (sym same)),
                  ))
              | inr moved ↦
                  let differed : differs old (words slots) found.0 ≡ true = differs_true old (words slots) found.0 (λ e. other (e ∙ sym (one.others found.0 moved))) in
                  let before_that : is_member marks j ≡ true =
                  at_j ∙ or_right (is_member marks_before j) (list_any (differs old (words slots)) (operands_at m j)) (any_some (differs old (words slots)) (operands_at m j) found.0 found.1 differed) in
                  (one.readers j).1 (inl (taken j apart ∙ before_that))
            ]
      ])

  -- an unmarked instruction has its value
  has_value : (j : ℕ) → is_member after j ≡ false → HasValue m (words more) j
  has_value j is =
      elim (cases_eq j k) [
        | inl same ↦ subst (HasValue m (words more)) (sym same) one.value
        | inr other ↦
            let before : is_member marks j ≡ false =
            elim (cases_Bool (is_member marks j)) [
              | inl member ↦ let clash : true ≡ false = sym ((one.readers j).1 (inl (taken j other ∙ member))) ∙ is in absurd (let no_way : ⊥ = cc in no_way)
              | inr none ↦ none
            ] in
            λ i at.
            one.others (first_instruction m + j) (λ e. other (let back : j ≡ k = omega arith in back)) ∙ was.settled j before i at
            ∙ value_same (slot_widths m) (words slots) (words more) i (λ s there.
            let reads : Contains (operands_at m j) s = subst (λ xs. Contains xs s) (sym (operands_there m j i at)) there in
            elim (cases_eq s (first_instruction m + k)) [
              | inl here ↦ elim (cases_eq (slice_index (words more) s) (slice_index (words slots) s)) [
                | inl same ↦ sym same
                | inr changed ↦
                    let marked : is_member after j ≡ true =
                    (one.readers j).1 (inr (
                      subst (Contains (operands_at m j)) here reads,
                      λ e. changed (ap (slice_index (words more)) here ∙ e ∙ ap (slice_index (words slots)) (sym here)),
                    )) in
                    let clash : true ≡ false = sym marked ∙ is in absurd (let no_way : ⊥ = cc in no_way)
              ]
              | inr apart ↦ sym (one.others s apart)
            ])
      ]

  pub active_more : IsActive m marks_before old more after (done + 1) (k + 1)
  active_more = record {
    within = omega (arith, inside, was.sized);
    sized = one.sized ∙ length-set marks k false ∙ was.sized;
    shape = shape;
    settled = has_value;
    kept = λ s side.
        let low : p ≤ k = was.ahead k least.member in
        let apart : s ≢ first_instruction m + k = λ e. elim side [ inl below ↦ let no_way : ⊥ = omega arith in no_way | inr above ↦ let no_way : ⊥ = omega arith in no_way ] in
        one.others s apart ∙ was.kept s (elim side as (λ w. (s < first_instruction m) ⊎ (first_instruction m + p ≤ s)) [ inl below ↦ inl below | inr above ↦ inr (omega arith) ]);
    ahead = later;
    due = due_later;
    counted =
        let low : p ≤ k = was.ahead k least.member in
        let before = is_due m marks_before old (words slots) in
        let now = is_due m marks_before old (words more) in
        let here : now k ≡ true = due_below k (omega arith) ∙ sym (was.due k low) ∙ least.member in
        let between : count_below before k ≡ count_below before p = count_none before p k low (λ j from to. sym (was.due j from) ∙ least.before j to) in
        let kept : count_below now k ≡ count_below before k = count_same now before k (λ j below. due_below j (omega arith)) in
        omega (arith, count_more now k here, between, kept, was.counted);
  }

-- ---- the end

pub all_run : (m : Machine) (marks_before : List Bool) (old : List ℕ) (slots : List Bits) (marks : List Bool) (done p : ℕ) → IsActive m marks_before old slots marks done p → HasNone marks → IsRun m (words slots)
all_run m marks_before old slots marks done p was none k = was.settled k (none k)

pub all_done : (m : Machine) (marks_before : List Bool) (old : List ℕ) (slots : List Bits) (marks : List Bool) (done p : ℕ) → IsActive m marks_before old slots marks done p → HasNone marks → done ≡ due_count m marks_before old (words slots)
all_done m marks_before old slots marks done p was none =
    was.counted ∙ sym (count_none (is_due m marks_before old (words slots)) p (length m.code) was.within (λ j from _. sym (was.due j from) ∙ none j))

pub given_kept : (m : Machine) (marks_before : List Bool) (old slots : List Bits) (marks : List Bool) (done p : ℕ) → IsActive m marks_before (words old) slots marks done p → widths old ≡ slot_widths m → KeepsGiven m (words old) (words slots)
given_kept m marks_before old slots marks done p was shape =
    let n = first_instruction m in
    let long : length (words slots) ≡ length slots = length-map slots (λ (b : Bits). b.word) in
    let size_now = size m slots was.shape in
    let size_old = size m old shape in
    let sizes : length (take n (words slots)) ≡ length (take n (words old)) =
    length-take n (words slots) ∙ (let e : min n (length (words slots)) ≡ min n (length (words old)) = omega (arith, long, length-map old (λ (b : Bits). b.word)) in e) ∙ sym (length-take n (words old)) in
    ext_get_or 0 (take n (words slots)) (take n (words old)) sizes (λ i inside.
    let low : i < n = omega (arith, length-take n (words slots)) in
    get_or-take n (words slots) i 0 low ∙ was.kept i (inl low) ∙ sym (get_or-take n (words old) i 0 low))

-- ---- the measure

-- the place of the first member, or the length where there is none
abbrev pub first_member : List Bool → ℕ
first_member [] = 0
first_member (true ∷ members) = 0
first_member (false ∷ members) = suc (first_member members)

pub least_is_first : (members : List Bool) (k : ℕ) → IsLeast members k → first_member members ≡ k
least_is_first [] k least = let clash : false ≡ true = least.member in absurd (let no_way : ⊥ = cc in no_way)
least_is_first (true ∷ members) zero least = refl
least_is_first (true ∷ members) (suc k) least = let clash : true ≡ false = least.before 0 (omega arith) in absurd (let no_way : ⊥ = cc in no_way)
least_is_first (false ∷ members) zero least = let clash : false ≡ true = least.member in absurd (let no_way : ⊥ = cc in no_way)
least_is_first (false ∷ members) (suc k) least = ap suc (least_is_first members k (record { member = least.member; before = λ i h. least.before (suc i) (omega arith) }))

pub first_above : (members : List Bool) (n : ℕ) → n ≤ length members → ((j : ℕ) → is_member members j ≡ true → n ≤ j) → n ≤ first_member members
first_above [] n short above = short
first_above (true ∷ members) n short above = above 0 refl
first_above (false ∷ members) zero short above = omega arith
first_above (false ∷ members) (suc n) short above = let rest : n ≤ first_member members = first_above members n (omega arith) (λ j is. let h : suc n ≤ suc j = above (suc j) is in omega arith) in omega arith
