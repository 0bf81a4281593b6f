-- A block and its children, when one child has made a call.
use Rattle.std.proofs.Common.{◌≡◌, ℕ, zero, suc, ◌+◌, ◌<◌, ◌≤◌, ◌⊎◌, inl, inr, List, [], ◌∷◌, ◌++◌, length, map, take, drop, get_or, set, refl, sym, ◌∙◌, ap, subst, arith}
use Rattle.std.specs.Prelude.{slice_get, Some}
use Rattle.std.specs.List.{flat_map}
use Rattle.std.proofs.lemmas.List.{length-set, length-append, length-map, length-drop, take_all, take_more, append-nil, drop-drop, drop_at, get_or-set_same}
use Rattle.std.proofs.lemmas.Grind.{flat_map-append}
use Rattle.sv_base.specs.Classes.{is_output}
use Rattle.sv_base.specs.declared.face.Port.{Port}
use Rattle.std.proofs.lemmas.Option.{none-some, same_Some, slice_get_within, get_or_from_slice_get, slice_get-get_or}
use Rattle.bit_ops.specs.Lists.{words, widths}
use Rattle.bit_ops.specs.declared.value.Bits.{Bits}
use Rattle.code_isa.specs.declared.machine.Reg.{Reg}
use Rattle.code_isa.specs.declared.machine.Kid.{Kid}
use Rattle.code_isa.specs.declared.machine.Machine.{Machine}
use Rattle.code_isa.specs.Faces.{input_widths, output_widths, ports_of}
use Rattle.code_isa.specs.Slots.{given_widths, first_register, first_kid_output, first_instruction, slot_widths, width_at}
use Rattle.code_isa.specs.Checks.{IsChecked}
use Rattle.code_isa.specs.Tree.{words_at}
use Rattle.model_stage.specs.Model.{Model}
use Rattle.sequence_select.specs.Shown.{Taken, shown}
use Rattle.wrapper_core.specs.declared.block.Block.{Block}
use Rattle.wrapper_core.specs.declared.buffer.Buffer.{Buffer}
use Rattle.wrapper_core.specs.declared.wrapped.Wrapped.{Wrapped}
use Rattle.wrapper_core.specs.Snapshot.{all_shown}
use Rattle.wrapper_core.specs.code.Blocks.{IsBlock, Keeps, placed}
use Rattle.wrapper_core.specs.code.Cores.{IsSeated, HasBufferRoom, IsBuffer, IsCore, KeepsOwn}
use Rattle.wrapper_core.proofs.Lists.{placed_piece, piece, pieces_size, take_placed, drop_placed_past}
use Rattle.wrapper_core.proofs.Blocking.{given_size, words_each, widths_each, all_at}
use Rattle.wrapper_core.proofs.Clocking.{get_or_first}
use Rattle.wrapper_core.proofs.Schedules.{got_set}
use Rattle.wrapper_core.proofs.Seats.{shown_wide}

abbrev pub kid_widths : Kid → List ℕ
kid_widths kid = output_widths kid.face

-- ---- where slots stand

pub outputs_after : (m : Machine) → first_instruction m ≡ first_kid_output m + length (flat_map kid_widths m.kids)
outputs_after m =
    let before = input_widths m.face ++ map (λ (r : Reg). r.width) m.regs in
    length-append before (flat_map kid_widths m.kids)
    ∙ ap (λ n. n + length (flat_map kid_widths m.kids)) (length-append (input_widths m.face) (map (λ (r : Reg). r.width) m.regs) ∙ ap (λ n. first_register m + n) (length-map m.regs (λ (r : Reg). r.width)))

-- the widths of the slots of children's outputs
pub widths_after : (m : Machine) → drop (first_kid_output m) (given_widths m) ≡ flat_map kid_widths m.kids
widths_after m =
    let before = input_widths m.face ++ map (λ (r : Reg). r.width) m.regs in
    drop_at before (flat_map kid_widths m.kids) (first_kid_output m) (length-append (input_widths m.face) (map (λ (r : Reg). r.width) m.regs) ∙ ap (λ n. first_register m + n) (length-map m.regs (λ (r : Reg). r.width)))

-- how far the outputs of one child reach
pub piece_room : {X : Type 0} (f : X → List ℕ) (xs : List X) (i : ℕ) (x : X) → slice_get xs i ≡ Some x → length (flat_map f (take i xs)) + length (f x) ≤ length (flat_map f xs)
piece_room f [] i x at = absurd (none-some x at)
piece_room f (a ∷ xs) zero x at = let same : a ≡ x = same_Some a x at in omega (arith, length-append (f a) (flat_map f xs), ap (λ z. length (f z)) same)
piece_room f (a ∷ xs) (suc i) x at = let rest = piece_room f xs i x at in omega (arith, rest, length-append (f a) (flat_map f xs), length-append (f a) (flat_map f (take i xs)))

-- ---- what stays where a child's outputs are placed

pub kept_own : (b n : Block) (o : ℕ) (ys : List ℕ) → Keeps b n → words n.given.items ≡ placed (words b.given.items) (first_kid_output b.code.value + o) ys → first_kid_output b.code.value + o ≤ length (words b.given.items) → KeepsOwn b n
kept_own b n o ys keeps given room =
    let m = b.code.value in
    let nin = first_register m in
    let nreg = length m.regs in
    let g = words b.given.items in
    record {
      keeps = keeps;
      held = ap (λ x. take (first_register x.value) (words n.given.items)) keeps.code ∙ ap (take nin) given ∙ take_placed g nin (first_kid_output m + o) ys (omega arith) room;
      registers =
          ap (λ x. take (length x.value.regs) (drop (first_register x.value) (words n.given.items))) keeps.code ∙ ap (λ ws. take nreg (drop nin ws)) given
          ∙ ap (λ p. take nreg (drop nin (placed g p ys))) (let e : first_kid_output m + o ≡ nin + (nreg + o) = omega arith in e)
          ∙ ap (take nreg) (drop_placed_past g nin (nreg + o) ys (omega (arith, room)))
          ∙ take_placed (drop nin g) nreg (nreg + o) ys (omega arith) (omega (arith, room, length-drop nin g));
    }

module _ {X : Type 0} (model : X → Model) (ready struck : X → Type 0) where
  abbrev shown_words : Wrapped X → List ℕ
  shown_words c = words (shown c.wrapper)

  pub seat_size : (kid : Kid) (c : Wrapped X) → IsSeated model ready struck kid c → length (shown_words c) ≡ length (kid_widths kid)
  seat_size kid c seated =
      words_each (shown c.wrapper) ∙ sym (widths_each (shown c.wrapper)) ∙ ap length (shown_wide c.wrapper (output_widths kid.face) seated.combo_wide seated.seq_wide)

  -- a kid and a buffer for each child
  pub kid_for : (b : Block) (cs : List (Wrapped X)) (bs : List Buffer) (i : ℕ) → IsCore model ready struck b cs bs → i < length cs → (kid : Kid) × (slice_get b.code.value.kids i ≡ Some kid)
  kid_for b cs bs i core inside = get_or_first b.code.value.kids i (let e : i < length b.code.value.kids = omega (arith, inside, core.children_each) in e)

  module _ (b n : Block) (cs : List (Wrapped X)) (bs : List Buffer) (i : ℕ) (kid : Kid) (c d : Wrapped X) (f g : Buffer) (core : IsCore model ready struck b cs bs) (kid_at : slice_get b.code.value.kids i ≡ Some kid) (c_at : slice_get cs i ≡ Some c) (f_at : slice_get bs i ≡ Some f) (seat : IsSeated model ready struck kid d) (room : HasBufferRoom kid g) (first : g.first ≡ f.first) where
    same_total : length (flat_map shown_words (take i cs)) ≡ length (flat_map kid_widths (take i b.code.value.kids))
    same_total = pieces_size kid_widths shown_words b.code.value.kids cs core.children_each (λ j k x kj xj. seat_size k x (core.seated j k x kj xj)) i

    -- where its outputs stand
    pub place_of : f.first ≡ first_kid_output b.code.value + length (flat_map shown_words (take i cs))
    place_of = (core.buffers_fit i kid f kid_at f_at).first ∙ ap (λ k. first_kid_output b.code.value + k) (sym same_total)

    total : length (flat_map shown_words cs) ≡ length (flat_map kid_widths b.code.value.kids)
    total =
        let whole_cs : take (length cs) cs ≡ cs = take_all (length cs) cs (omega arith) in
        let whole_kids : take (length cs) b.code.value.kids ≡ b.code.value.kids = take_all (length cs) b.code.value.kids (omega (arith, core.children_each)) in
        ap (λ xs. length (flat_map shown_words xs)) (sym whole_cs)
        ∙ pieces_size kid_widths shown_words b.code.value.kids cs core.children_each (λ j k x kj xj. seat_size k x (core.seated j k x kj xj)) (length cs)
        ∙ ap (λ xs. length (flat_map kid_widths xs)) whole_kids

    pub place_room : f.first + length (shown_words d) ≤ first_instruction b.code.value
    place_room =
        omega (arith, place_of, outputs_after b.code.value, seat_size kid d seat, piece_room kid_widths b.code.value.kids i kid kid_at, same_total)

    pub place_widths : widths (shown d.wrapper) ≡ take (length (shown d.wrapper)) (drop f.first (given_widths b.code.value))
    place_widths =
        let m = b.code.value in
        let o = length (flat_map kid_widths (take i m.kids)) in
        let wide = shown_wide d.wrapper (output_widths kid.face) seat.combo_wide seat.seq_wide in
        let size : length (shown d.wrapper) ≡ length (kid_widths kid) = sym (words_each (shown d.wrapper)) ∙ seat_size kid d seat in
        wide ∙ sym (
        ap (λ k. take k (drop f.first (given_widths m))) size
        ∙ ap (λ p. take (length (kid_widths kid)) (drop p (given_widths m))) (core.buffers_fit i kid f kid_at f_at).first
        ∙ ap (take (length (kid_widths kid))) (sym (drop-drop o (first_kid_output m) (given_widths m)) ∙ ap (drop o) (widths_after m))
        ∙ piece kid_widths m.kids i kid kid_at
        )

    -- the block is the same, or is given what the child shows now
    core_set : Keeps b n → IsBlock n → drop (first_kid_output b.code.value) (words n.given.items) ≡ all_shown (set cs i d) → IsCore model ready struck n (set cs i d) (set bs i g)
    core_set keeps block given =
        let code : n.code.value ≡ b.code.value = ap (λ x. x.value) keeps.code in
        record {
          block = block;
          children_each = length-set cs i d ∙ core.children_each ∙ ap (λ (m : Machine). length m.kids) (sym code);
          buffers_each = length-set bs i g ∙ core.buffers_each ∙ ap (λ (m : Machine). length m.kids) (sym code);
          buffers_fit = λ j k h kj hj.
              let kj_b : slice_get b.code.value.kids j ≡ Some k = ap (λ (m : Machine). slice_get m.kids j) (sym code) ∙ kj in
              subst (λ (m : Machine). IsBuffer m j k h) (sym code) (elim (got_set bs i j g h hj) as (λ w. IsBuffer b.code.value j k h) [
                | inl here ↦
                    let same : kid ≡ k = same_Some kid k (sym kid_at ∙ ap (slice_get b.code.value.kids) (sym here.0) ∙ kj_b) in
                    let was = core.buffers_fit i kid f kid_at f_at in
                    subst (λ (x : Buffer). IsBuffer b.code.value j k x) (sym here.1) (subst (λ (x : Kid). IsBuffer b.code.value j x g) same (record {
                      first = first ∙ was.first ∙ ap (λ p. first_kid_output b.code.value + length (flat_map kid_widths (take p b.code.value.kids))) (sym here.0);
                      has_room = room;
                    }))
                | inr there ↦ core.buffers_fit j k h kj_b there
              ]);
          seated = λ j k x kj xj.
              let kj_b : slice_get b.code.value.kids j ≡ Some k = ap (λ (m : Machine). slice_get m.kids j) (sym code) ∙ kj in
              elim (got_set cs i j d x xj) [
                | inl here ↦
                    let same : kid ≡ k = same_Some kid k (sym kid_at ∙ ap (slice_get b.code.value.kids) (sym here.0) ∙ kj_b) in
                    subst (λ (y : Wrapped X). IsSeated model ready struck k y) (sym here.1) (subst (λ (y : Kid). IsSeated model ready struck y d) same seat)
                | inr there ↦ core.seated j k x kj_b there
              ];
          given = ap (λ (m : Machine). drop (first_kid_output m) (words n.given.items)) code ∙ given;
        }

    sizes : length (shown_words d) ≡ length (shown_words c)
    sizes = seat_size kid d seat ∙ sym (seat_size kid c (core.seated i kid c kid_at c_at))

    -- its outputs are placed
    pub core_placed : IsBlock n → Keeps b n → words n.given.items ≡ placed (words b.given.items) f.first (shown_words d) → IsCore model ready struck n (set cs i d) (set bs i g) × KeepsOwn b n
    core_placed block keeps given =
        let m = b.code.value in
        let o = length (flat_map shown_words (take i cs)) in
        let at_place : words n.given.items ≡ placed (words b.given.items) (first_kid_output m + o) (shown_words d) = given ∙ ap (λ p. placed (words b.given.items) p (shown_words d)) place_of in
        let long : first_kid_output m + o ≤ length (words b.given.items) =
        omega (arith, words_each b.given.items, given_size b core.block, outputs_after m, total, piece_room shown_words cs i c c_at) in (
          core_set keeps block (
              ap (drop (first_kid_output m)) at_place ∙ drop_placed_past (words b.given.items) (first_kid_output m) o (shown_words d) long
              ∙ ap (λ ws. placed ws o (shown_words d)) core.given ∙ placed_piece shown_words cs i c d c_at sizes
              ),
          kept_own b n o (shown_words d) keeps at_place long,
        )

    -- where the place and the outputs were read
    module _ (p : ℕ) (outs : List Bits) (p_is : p ≡ f.first) (outs_are : outs ≡ shown d.wrapper) where
      pub read_room : p + length outs ≤ first_instruction b.code.value
      read_room = omega (arith, p_is, ap length outs_are, words_each (shown d.wrapper), place_room)

      pub read_widths : widths outs ≡ take (length outs) (drop p (given_widths b.code.value))
      read_widths =
          ap widths outs_are ∙ place_widths ∙ ap (λ xs. take (length xs) (drop f.first (given_widths b.code.value))) (sym outs_are)
          ∙ ap (λ k. take (length outs) (drop k (given_widths b.code.value))) (sym p_is)

      pub read_placed : IsBlock n → Keeps b n → words n.given.items ≡ placed (words b.given.items) p (words outs) → IsCore model ready struck n (set cs i d) (set bs i g) × KeepsOwn b n
      read_placed block keeps given =
          core_placed block keeps (given ∙ ap (λ k. placed (words b.given.items) k (words outs)) p_is ∙ ap (λ xs. placed (words b.given.items) f.first (words xs)) outs_are)

  -- one piece is replaced by an equal one
  same_pieces : (f : Wrapped X → List ℕ) (cs : List (Wrapped X)) (i : ℕ) (c d : Wrapped X) → slice_get cs i ≡ Some c → f d ≡ f c → flat_map f (set cs i d) ≡ flat_map f cs
  same_pieces f [] i c d at same = absurd (none-some c at)
  same_pieces f (a ∷ cs) zero c d at same = ap (λ xs. xs ++ flat_map f cs) (same ∙ sym (ap f (same_Some a c at)))
  same_pieces f (a ∷ cs) (suc i) c d at same = ap (λ xs. f a ++ xs) (same_pieces f cs i c d at same)

  -- a child that shows what it showed
  pub core_same : (b : Block) (cs : List (Wrapped X)) (bs : List Buffer) (i : ℕ) (kid : Kid) (c d : Wrapped X) (f g : Buffer) → IsCore model ready struck b cs bs → slice_get b.code.value.kids i ≡ Some kid → slice_get cs i ≡ Some c → slice_get bs i ≡ Some f →
      IsSeated model ready struck kid d → HasBufferRoom kid g → g.first ≡ f.first → d.wrapper ≡ c.wrapper → IsCore model ready struck b (set cs i d) (set bs i g)
  core_same b cs bs i kid c d f g core kid_at c_at f_at seat room first same =
      core_set b b cs bs i kid c d f g core kid_at c_at f_at seat room first (record { code = refl; slots = refl }) core.block
      (core.given ∙ sym (same_pieces shown_words cs i c d c_at (ap (λ (w : Taken). words (shown w)) same)))

-- an item that was just written
pub read_set : {Y : Type 0} (xs : List Y) (i : ℕ) (y r : Y) → i < length xs → r ≡ get_or (set xs i y) i r → r ≡ y
read_set xs i y r inside is = is ∙ get_or-set_same xs i y r inside

-- an item that was read
pub found : {Y : Type 0} (xs : List Y) (i : ℕ) (y : Y) → i < length xs → y ≡ get_or xs i y → slice_get xs i ≡ Some y
found xs i y inside is = slice_get-get_or xs i y inside ∙ ap (λ z. Some z) (sym is)

-- the slots that a child is joined to have the widths of its inputs
pub joined_widths : (m : Machine) (slots : List Bits) (i : ℕ) (kid : Kid) → IsChecked m → widths slots ≡ slot_widths m → slice_get m.kids i ≡ Some kid → words_at (widths slots) kid.ins ≡ input_widths kid.face
joined_widths m slots i kid checked shape at =
    ap (λ ws. words_at ws kid.ins) shape
    ∙ all_at (λ (k : Kid). map (width_at m) k.ins ≡ input_widths k.face) m.kids i kid checked.slot_width.ins (slice_get_within m.kids i kid at) (sym (get_or_from_slice_get m.kids i kid kid at))

-- what stands in a list with one item more
pub got_push : {Y : Type 0} (xs : List Y) (y z : Y) (i : ℕ) → slice_get (xs ++ y ∷ []) i ≡ Some z → ((i ≡ length xs) × (z ≡ y)) ⊎ (slice_get xs i ≡ Some z)
got_push [] y z zero at = inl (refl, sym (same_Some y z at))
got_push [] y z (suc i) at = absurd (none-some z at)
got_push (x ∷ xs) y z zero at = inr at
got_push (x ∷ xs) y z (suc i) at = elim (got_push xs y z i at) [ inl here ↦ inl (ap suc here.0, here.1) | inr there ↦ inr there ]

pub kid_size : (kid : Kid) → length kid.summary.rows ≡ length (kid_widths kid)
kid_size kid = kid.summary_fits.rows ∙ sym (length-map (ports_of is_output kid.face) (λ (p : Port). p.width))

-- one child more
pub total_more : (kids : List Kid) (k : ℕ) (kid : Kid) → slice_get kids k ≡ Some kid → length (flat_map kid_widths (take (k + 1) kids)) ≡ length (flat_map kid_widths (take k kids)) + length (kid_widths kid)
total_more kids k kid at =
    let inside : k < length kids = slice_get_within kids k kid at in
    let more : take (k + 1) kids ≡ take k kids ++ kid ∷ [] = take_more kids k kid inside ∙ ap (λ x. take k kids ++ x ∷ []) (get_or_from_slice_get kids k kid kid at) in
    ap (λ xs. length (flat_map kid_widths xs)) more ∙ ap length (flat_map-append kid_widths (take k kids) (kid ∷ []))
    ∙ length-append (flat_map kid_widths (take k kids)) (flat_map kid_widths (kid ∷ []))
    ∙ ap (λ xs. length (flat_map kid_widths (take k kids)) + length xs) (append-nil (kid_widths kid))

pub buffer_more : (m : Machine) (bs new : List Buffer) (k : ℕ) (kid : Kid) (b : Buffer) → slice_get m.kids k ≡ Some kid → length bs ≡ k → new ≡ bs ++ b ∷ [] → IsBuffer m k kid b →
    ((i : ℕ) (x : Kid) (f : Buffer) → slice_get m.kids i ≡ Some x → slice_get bs i ≡ Some f → IsBuffer m i x f) → (i : ℕ) (x : Kid) (f : Buffer) → slice_get m.kids i ≡ Some x → slice_get new i ≡ Some f → IsBuffer m i x f
buffer_more m bs new k kid b kid_at size step fits was i x f xi fi =
    elim (got_push bs b f i (ap (λ xs. slice_get xs i) (sym step) ∙ fi)) [
      | inl here ↦
          let place : i ≡ k = here.0 ∙ size in
          let same : kid ≡ x = same_Some kid x (sym kid_at ∙ ap (slice_get m.kids) (sym place) ∙ xi) in
          subst (λ y. IsBuffer m i x y) (sym here.1) (subst (λ (y : Kid). IsBuffer m i y b) same (subst (λ n. IsBuffer m n kid b) (sym place) fits))
      | inr there ↦ was i x f xi there
    ]

-- the item at which what is left of a list begins
pub at_front : {Y : Type 0} (xs : List Y) (n : ℕ) (y : Y) (ys : List Y) → drop n xs ≡ y ∷ ys → slice_get xs n ≡ Some y
at_front xs zero y ys e = ap (λ zs. slice_get zs 0) e
at_front [] (suc n) y ys e = ap (λ zs. slice_get zs 0) e
at_front (x ∷ xs) (suc n) y ys e = at_front xs n y ys e

pub front_taken : {Y : Type 0} (xs : List Y) (n : ℕ) (y : Y) (ys : List Y) → drop n xs ≡ y ∷ ys → ys ≡ drop (n + 1) xs
front_taken xs n y ys e = sym (ap (drop 1) e) ∙ drop-drop 1 n xs
