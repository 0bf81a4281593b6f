-- A block whose slots are given other values, and get them.
use Rattle.std.proofs.Common.{◌≡◌, ℕ, zero, suc, ◌+◌, ◌<◌, ◌≤◌, inl, inr, Bool, true, false, List, [], ◌∷◌, ◌++◌, length, map, take, drop, get_or, set, replicate, refl, sym, ◌∙◌, ap, subst, arith}
use Rattle.std.specs.Prelude.{slice_index, slice_get, Some, All}
use Rattle.std.specs.List.{flat_map}
use Rattle.code_isa.specs.declared.machine.Reg.{Reg}
use Rattle.code_isa.specs.declared.machine.Kid.{Kid}
use Rattle.code_isa.specs.Faces.{input_widths, output_widths}
use Rattle.std.specs.Vec.{with_item}
use Rattle.std.proofs.lemmas.Bool.{cases_eq, cases_lt}
use Rattle.std.proofs.lemmas.List.{get_or-set_other, get_or-set_same, length-map, length-set, length-append, get_or-map, map-set, set-get_or, get_or-take, get_or-drop, get_or_append_left, get_or_past, take_more, ext_get_or, length-take-le, map_push, replicate_more, append_assoc, get_or-append-add}
use Rattle.std.proofs.Math.Seq.{map-set_same}
use Rattle.bit_ops.specs.Lists.{words, widths}
use Rattle.bit_ops.specs.declared.value.Bits.{Bits}
use Rattle.code_isa.specs.declared.machine.Instr.{Instr}
use Rattle.code_isa.specs.declared.machine.Machine.{Machine}
use Rattle.code_isa.specs.Slots.{slot_widths, given_widths, first_register, first_instruction, width_at}
use Rattle.code_isa.specs.Marks.{is_member}
use Rattle.wrapper_core.specs.declared.block.Block.{Block}
use Rattle.std.proofs.lemmas.Option.{slice_get-get_or, slice_get_within}
use Rattle.code_isa.specs.Activity.{HaveValuesBut}
use Rattle.wrapper_core.specs.code.Blocks.{IsBlock, IsCopied, HasAll, placed}
use Rattle.wrapper_core.proofs.Lists.{placed_more}

-- the word of a value that was read
pub read_word : (xs : List Bits) (s : ℕ) (b : Bits) → s < length xs → b ≡ get_or xs s b → slice_index (words xs) s ≡ b.word
read_word xs s b inside is = get_or-map (λ (x : Bits). x.word) xs s b 0 inside ∙ ap (λ (x : Bits). x.word) (sym is)

pub read_width : (xs : List Bits) (s : ℕ) (b : Bits) → s < length xs → b ≡ get_or xs s b → slice_index (widths xs) s ≡ b.width
read_width xs s b inside is = get_or-map (λ (x : Bits). x.width) xs s b 0 inside ∙ ap (λ (x : Bits). x.width) (sym is)

pub words_each : (xs : List Bits) → length (words xs) ≡ length xs
words_each xs = length-map xs (λ (b : Bits). b.word)

pub widths_each : (xs : List Bits) → length (widths xs) ≡ length xs
widths_each xs = length-map xs (λ (b : Bits). b.width)

-- a value is written that has its word already
pub word_same : (xs : List Bits) (s n : ℕ) → slice_index (words xs) s ≡ n → words xs ≡ set (words xs) s n
word_same xs s n is = sym (ap (set (words xs) s) (sym is) ∙ set-get_or (words xs) s 0)

pub word_set : (xs : List Bits) (s : ℕ) (b : Bits) → words (set xs s b) ≡ set (words xs) s b.word
word_set xs s b = map-set (λ (x : Bits). x.word) xs s b

-- a value of the same width is written
pub widths_kept : (xs : List Bits) (s : ℕ) (b : Bits) (ws : List ℕ) → widths xs ≡ ws → s < length xs → slice_index ws s ≡ b.width → widths (set xs s b) ≡ ws
widths_kept xs s b ws shape inside wide =
    let e : b.width ≡ (get_or xs s b).width = sym wide ∙ ap (λ us. slice_index us s) (sym shape) ∙ get_or-map (λ (x : Bits). x.width) xs s b 0 inside in
    map-set_same (λ (x : Bits). x.width) xs s b b e ∙ shape

-- the widths of the slots before those of instructions are the first
pub width_before : (m : Machine) (s : ℕ) → s < first_instruction m → width_at m s ≡ slice_index (given_widths m) s
width_before m s low = get_or_append_left (given_widths m) (map (λ (i : Instr). i.width) m.code) 0 s low

pub given_size : (b : Block) → IsBlock b → length b.given.items ≡ first_instruction b.code.value
given_size b was = sym (widths_each b.given.items) ∙ ap length was.given_wide

pub slots_size : (b : Block) → IsBlock b → length b.slots.items ≡ first_instruction b.code.value + length b.code.value.code
slots_size b was =
    sym (widths_each b.slots.items) ∙ ap length was.shape ∙ length-append (given_widths b.code.value) (map (λ (i : Instr). i.width) b.code.value.code)
    ∙ ap (λ n. first_instruction b.code.value + n) (length-map b.code.value.code (λ (i : Instr). i.width))

pub true_is_not_false : (x : Bool) → x ≡ true → x ≡ false → ⊥
true_is_not_false x set_so clear_so = let clash : true ≡ false = sym set_so ∙ clear_so in let no_way : ⊥ = cc in no_way

-- ---- one slot is given another value

abbrev pub put_to : Block → ℕ → Bits → List Bool → Block
put_to b s v waiting = record { code = b.code; uses = b.uses; given = with_item b.given s v; waiting = waiting; slots = b.slots; marks = b.marks }

pub put_block : (b : Block) (s : ℕ) (v : Bits) (waiting : List Bool) → IsBlock b → s < first_instruction b.code.value → width_at b.code.value s ≡ v.width → waiting ≡ set b.waiting s true → IsBlock (put_to b s v waiting)
put_block b s v waiting was low wide more =
    let m = b.code.value in
    let inside : s < length b.given.items = omega (arith, given_size b was) in
    record {
      uses = was.uses;
      given_wide = widths_kept b.given.items s v (given_widths m) was.given_wide inside (sym (width_before m s low) ∙ wide);
      shape = was.shape;
      waiting_sized = ap length more ∙ length-set b.waiting s true ∙ was.waiting_sized;
      marks_sized = was.marks_sized;
      copied = λ t before clear. elim (cases_eq t s) [
        | inl here ↦
            let set_now : is_member waiting t ≡ true = ap (λ ms. is_member ms t) more ∙ ap (is_member (set b.waiting s true)) here ∙ get_or-set_same b.waiting s true false (omega (arith, was.waiting_sized)) in
            absurd (true_is_not_false (is_member waiting t) set_now clear)
        | inr other ↦
            let clear_before : is_member b.waiting t ≡ false = sym (get_or-set_other b.waiting s t true false other) ∙ ap (λ ms. is_member ms t) (sym more) ∙ clear in
            was.copied t before clear_before ∙ sym (get_or-set_other (words b.given.items) s t v.word 0 other) ∙ ap (λ ws. slice_index ws t) (sym (word_set b.given.items s v))
      ];
      settled = was.settled;
    }

-- ---- several are

-- the width that a slot has is that of the value that it is given
pub place_width : (m : Machine) (first k : ℕ) (values : List Bits) (v : Bits) → k < length values → v ≡ get_or values k v → first + length values ≤ first_instruction m → widths values ≡ take (length values) (drop first (given_widths m)) → width_at m (first + k) ≡ v.width
place_width m first k values v inside is low wide =
    width_before m (first + k) (omega arith)
    ∙ sym (get_or-drop first (given_widths m) k 0)
    ∙ sym (get_or-take (length values) (drop first (given_widths m)) k 0 inside)
    ∙ ap (λ ws. slice_index ws k) (sym wide)
    ∙ read_width values k v inside is

pub place_more : (given given_now : List ℕ) (first k : ℕ) (values : List Bits) (v : Bits) (next : List ℕ) → k < length values → v ≡ get_or values k v → first + length values ≤ length given →
    given_now ≡ placed given first (take k (words values)) → next ≡ set given_now (first + k) v.word → next ≡ placed given first (take (k + 1) (words values))
place_more given given_now first k values v next inside is low so_far step =
    let size : length (take k (words values)) ≡ k = length-take-le k (words values) (omega (arith, words_each values)) in
    let more : take (k + 1) (words values) ≡ take k (words values) ++ v.word ∷ [] =
    take_more (words values) k 0 (omega (arith, words_each values)) ∙ ap (λ n. take k (words values) ++ n ∷ []) (read_word values k v inside is) in
    step ∙ ap (λ gs. set gs (first + k) v.word) so_far
    ∙ ap (λ n. set (placed given first (take k (words values))) (first + n) v.word) (sym size)
    ∙ placed_more given first (take k (words values)) v.word (omega (arith, size))
    ∙ ap (placed given first) (sym more)

-- ---- the slots get what they are given

-- one slot is copied
pub copied_more : (n s : ℕ) (waiting left : List Bool) (slots given next : List ℕ) → IsCopied n waiting slots given → s < length slots → left ≡ set waiting s false → next ≡ set slots s (slice_index given s) → IsCopied n left next given
copied_more n s waiting left slots given next was inside less step t before clear =
    elim (cases_eq t s) [
      | inl here ↦ ap (λ ws. slice_index ws t) step ∙ ap (slice_index (set slots s (slice_index given s))) here ∙ get_or-set_same slots s (slice_index given s) 0 inside ∙ ap (slice_index given) (sym here)
      | inr other ↦
          ap (λ ws. slice_index ws t) step ∙ get_or-set_other slots s t (slice_index given s) 0 other
          ∙ was t before (sym (get_or-set_other waiting s t false false other) ∙ ap (λ ms. is_member ms t) (sym less) ∙ clear)
    ]

-- all are
pub all_copied : (n : ℕ) (waiting : List Bool) (slots given : List ℕ) → IsCopied n waiting slots given → ((k : ℕ) → is_member waiting k ≡ false) → length given ≡ n → n ≤ length slots → take n slots ≡ given
all_copied n waiting slots given was none size low =
    ext_get_or 0 (take n slots) given (length-take-le n slots low ∙ sym size) (λ i inside.
    let before : i < n = omega (arith, length-take-le n slots low) in
    get_or-take n slots i 0 before ∙ was i before (none i))

-- a member of a set stands inside it
pub member_inside : (members : List Bool) (k : ℕ) → is_member members k ≡ true → k < length members
member_inside members k is = elim (cases_lt k (length members)) [
  | inl inside ↦ inside
  | inr past ↦ absurd (true_is_not_false (is_member members k) is (get_or_past members k false past))
]

-- how many members a set has
pub left : List Bool → ℕ
left [] = 0
left (true ∷ members) = suc (left members)
left (false ∷ members) = left members

pub left_less : (members : List Bool) (k : ℕ) → is_member members k ≡ true → left (set members k false) < left members
unfolding left
left_less [] k is = absurd (true_is_not_false false is refl)
left_less (true ∷ members) zero is = omega arith
left_less (false ∷ members) zero is = absurd (true_is_not_false false is refl)
left_less (true ∷ members) (suc k) is = let less : left (set members k false) < left members = left_less members k is in omega arith
left_less (false ∷ members) (suc k) is = left_less members k is

pub slots_room : (m : Machine) (slots : List Bits) → widths slots ≡ slot_widths m → length slots ≡ first_instruction m + length m.code
slots_room m slots shape =
    sym (widths_each slots) ∙ ap length shape ∙ length-append (given_widths m) (map (λ (i : Instr). i.width) m.code)
    ∙ ap (λ n. first_instruction m + n) (length-map m.code (λ (i : Instr). i.width))

-- an item of a list by its place
pub item_at : {X : Type 0} (xs ys : List X) (k : ℕ) (x : X) → ys ≡ xs → k < length ys → x ≡ get_or ys k x → slice_get xs k ≡ Some x
item_at xs ys k x same inside is =
    let within : k < length xs = subst (λ zs. k < length zs) same inside in
    slice_get-get_or xs k x within ∙ ap (λ y. Some y) (sym (is ∙ ap (λ zs. get_or zs k x) same))

-- a value is added at the end
pub widths_push : (old new : List Bits) (b : Bits) (gs ws : List ℕ) (k : ℕ) → new ≡ old ++ b ∷ [] → widths old ≡ gs ++ take k ws → k < length ws → slice_index ws k ≡ b.width → widths new ≡ gs ++ take (k + 1) ws
widths_push old new b gs ws k more so_far inside wide =
    ap widths more ∙ map_push (λ (x : Bits). x.width) old b ∙ ap (λ xs. xs ++ b.width ∷ []) so_far
    ∙ append_assoc gs (take k ws) (b.width ∷ []) ∙ ap (λ n. gs ++ (take k ws ++ n ∷ [])) (sym wide) ∙ ap (λ xs. gs ++ xs) (sym (take_more ws k 0 inside))

pub words_push : (old new : List Bits) (b : Bits) (k n : ℕ) → new ≡ old ++ b ∷ [] → words old ≡ replicate k 0 → b.word ≡ 0 → n ≡ k + 1 → words new ≡ replicate n 0
words_push old new b k n more so_far zero_word next =
    ap words more ∙ map_push (λ (x : Bits). x.word) old b ∙ ap (λ xs. xs ++ b.word ∷ []) so_far ∙ ap (λ w. replicate k 0 ++ w ∷ []) zero_word
    ∙ replicate_more k 0 ∙ ap (λ j. replicate j 0) (sym next)

-- where the instructions' slots alone have changed, what was copied stays
pub copied_kept : (n : ℕ) (waiting : List Bool) (old new given : List ℕ) → IsCopied n waiting old given → take n new ≡ take n old → IsCopied n waiting new given
copied_kept n waiting old new given was same s before clear =
    sym (get_or-take n new s 0 before) ∙ ap (λ ws. slice_index ws s) same ∙ get_or-take n old s 0 before ∙ was s before clear

-- where every position is waiting, nothing is known
pub none_copied : (n : ℕ) (waiting : List Bool) (slots given : List ℕ) → HasAll waiting n → IsCopied n waiting slots given
none_copied n waiting slots given all s before clear = absurd (true_is_not_false (is_member waiting s) (all.all s before) clear)

pub none_settled : (m : Machine) (marks : List Bool) (slots : List ℕ) → HasAll marks (length m.code) → HaveValuesBut m marks slots
none_settled m marks slots all k clear i at = absurd (true_is_not_false (is_member marks k) (all.all k (slice_get_within m.code k i at)) clear)

-- what holds of all items holds of one that was read
pub all_at : {X : Type 0} (P : X → Type 0) (xs : List X) (k : ℕ) (x : X) → All P xs → k < length xs → x ≡ get_or xs k x → P x
all_at P xs k x all inside is = subst P (sym is) (all k x inside)

-- the width of a register's slot is the register's
pub register_width : (m : Machine) (r : ℕ) → r < length m.regs → width_at m (first_register m + r) ≡ slice_index (map (λ (x : Reg). x.width) m.regs) r
register_width m r inside =
    let ins = input_widths m.face in
    let regs = map (λ (x : Reg). x.width) m.regs in
    let outs = flat_map (λ (kid : Kid). output_widths kid.face) m.kids in
    let size : length regs ≡ length m.regs = length-map m.regs (λ (x : Reg). x.width) in
    let low : first_register m + r < length (ins ++ regs) = omega (arith, inside, size, length-append ins regs) in
    width_before m (first_register m + r) (let e : first_register m + r < first_instruction m = omega (arith, low, length-append (ins ++ regs) outs) in e)
    ∙ get_or_append_left (ins ++ regs) outs 0 (first_register m + r) low ∙ get_or-append-add ins regs r 0
