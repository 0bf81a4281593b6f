-- What is known of a world, before and after an event.
use Rattle.std.proofs.Common.{◌≡◌, ℕ, ◌<◌, ◌≤◌, inl, inr, Bool, true, false, List, ◌++◌, length, take, drop, refl, sym, ◌∙◌, ap, subst, arith}
use Rattle.std.specs.Prelude.{slice_get, Option, Some, None, if◌then◌else◌}
use Rattle.std.proofs.lemmas.List.{length-take-le, length-drop, length-map, ext_get_or, drop-drop, take-append-drop, append_assoc}
use Rattle.std.proofs.lemmas.Option.{same_Some, slice_get_within}
use Rattle.bit_ops.specs.Lists.{words}
use Rattle.code_isa.specs.declared.machine.Reg.{Reg}
use Rattle.code_isa.specs.declared.machine.Kid.{Kid}
use Rattle.code_isa.specs.declared.machine.Machine.{Machine}
use Rattle.code_isa.specs.Faces.{input_widths, clock_count}
use Rattle.code_isa.specs.Slots.{first_register, first_kid_output, first_instruction, slot_count}
use Rattle.code_isa.specs.Values.{IsRun}
use Rattle.code_isa.specs.Marks.{HasNone}
use Rattle.code_isa.specs.Traces.{levels_at}
use Rattle.code_isa.specs.Settled.{IsFilled, IsSettled}
use Rattle.model_stage.specs.Model.{Model, IsReady}
use Rattle.wrapper_core.specs.declared.block.Block.{Block}
use Rattle.wrapper_core.specs.declared.buffer.Buffer.{Buffer}
use Rattle.wrapper_core.specs.declared.sampling.Sampling.{Sampling}
use Rattle.wrapper_core.specs.declared.wrapped.Wrapped.{Wrapped}
use Rattle.wrapper_core.specs.declared.world.World.{World}
use Rattle.wrapper_core.specs.Snapshot.{Phase, Calm, Striking, Snapshot, all_shown, tree_in, state_in}
use Rattle.wrapper_core.specs.Events.{UpdatesAt, StrikesAt, ArePublished, IsQuiescent}
use Rattle.wrapper_core.specs.World.{phase_of, moment_of, levels_before, levels_by, IsWorld}
use Rattle.wrapper_core.specs.code.Blocks.{IsBlock, Keeps, placed}
use Rattle.wrapper_core.specs.code.Samplings.{IsSampling, registers_of_block, held_of_block}
use Rattle.wrapper_core.specs.code.Cores.{IsBuffer, IsCore}
use Rattle.wrapper_core.proofs.Lists.{take_placed, drop_placed, placed_middle}
use Rattle.wrapper_core.proofs.Blocking.{given_size, words_each, widths_each, true_is_not_false}
use Rattle.wrapper_core.proofs.Clocking.{get_or_first}
use Rattle.wrapper_core.proofs.Schedules.{got_set, calm_strikes, unsampled_sampled, sampled_parts, published_at}
use Rattle.wrapper_core.proofs.Seats.{stands_ready}
use Rattle.wrapper_core.proofs.Settling.{quiescent_settled}
use Rattle.wrapper_core.proofs.Cores.{outputs_after}

-- ---- phases

pub phase_calm : (striking : Bool) (before : List Bool) (s : Option (List ℕ)) → (if striking then Striking before s else Calm) ≡ Calm → striking ≡ false
phase_calm true before s e = absurd (calm_strikes before s (sym e))
phase_calm false before s e = refl

pub phase_striking : (striking : Bool) (before other : List Bool) (s z : Option (List ℕ)) → (if striking then Striking before s else Calm) ≡ Striking other z → striking ≡ true
phase_striking true before other s z e = refl
phase_striking false before other s z e = absurd (calm_strikes other z e)

pub calm_phase : (striking : Bool) (before : List Bool) (s : Option (List ℕ)) → striking ≡ false → (if striking then Striking before s else Calm) ≡ Calm
calm_phase true before s e = absurd (true_is_not_false true refl e)
calm_phase false before s e = refl

-- of a phase whose registers are not sampled
pub unsampled_parts : (striking sampled_yet : Bool) (before other : List Bool) (ws : List ℕ) → (if striking then Striking before (if sampled_yet then Some ws else None) else Calm) ≡ Striking other None →
    (striking ≡ true) × (sampled_yet ≡ false) × ((if striking then Striking before (if sampled_yet then Some ws else None) else Calm) ≡ Striking before None)
unsampled_parts true true before other ws e = absurd (unsampled_sampled other before ws (sym e))
unsampled_parts true false before other ws e = (refl, refl, refl)
unsampled_parts false sampled_yet before other ws e = absurd (calm_strikes other None e)

-- of one whose registers are
pub sampled_parts_of : (striking sampled_yet : Bool) (before other : List Bool) (ws vs : List ℕ) → (if striking then Striking before (if sampled_yet then Some ws else None) else Calm) ≡ Striking other (Some vs) →
    (striking ≡ true) × (sampled_yet ≡ true) × (vs ≡ ws)
sampled_parts_of true true before other ws vs e = (refl, refl, sym (sampled_parts before other ws vs e))
sampled_parts_of true false before other ws vs e = absurd (unsampled_sampled before other vs e)
sampled_parts_of false sampled_yet before other ws vs e = absurd (calm_strikes other (Some vs) e)

-- the levels before do not depend on what is sampled
pub before_same : (striking : Bool) (before levels : List Bool) (s z : Option (List ℕ)) → levels_before (if striking then Striking before s else Calm) levels ≡ levels_before (if striking then Striking before z else Calm) levels
before_same true before levels s z = refl
before_same false before levels s z = refl

pub striking_phase : (striking : Bool) (before : List Bool) (s : Option (List ℕ)) → striking ≡ true → (if striking then Striking before s else Calm) ≡ Striking before s
striking_phase true before s e = refl
striking_phase false before s e = absurd (true_is_not_false false e refl)

-- ---- moments

-- a moment is the list of its parts
pub same_parts : {X : Type 0} (m n : Machine) (h i r q u : List ℕ) (l : List Bool) (p : Phase) (cs : List (Wrapped X)) (v : List Bool) → n ≡ m → i ≡ h → q ≡ r →
    ◌≡◌ {A = Snapshot X} (record { code = n; held = i; registers = q; slots = u; levels = l; phase = p; children = cs; visited = v }) (record { code = m; held = h; registers = r; slots = u; levels = l; phase = p; children = cs; visited = v })
same_parts {X} m n h i r q u l p cs v code held registers =
    ap (λ x. record { code = x; held = i; registers = q; slots = u; levels = l; phase = p; children = cs; visited = v }) code
    ∙ ap (λ x. record { code = m; held = x; registers = q; slots = u; levels = l; phase = p; children = cs; visited = v }) held
    ∙ ap (λ x. record { code = m; held = h; registers = x; slots = u; levels = l; phase = p; children = cs; visited = v }) registers

module _ {X : Type 0} (model : X → Model) (ready struck : X → Type 0) where
  -- ---- a block that has the same code and is given the same outputs

  pub core_given : (b n : Block) (cs : List (Wrapped X)) (bs : List Buffer) → IsCore model ready struck b cs bs → IsBlock n → n.code ≡ b.code → drop (first_kid_output b.code.value) (words n.given.items) ≡ drop (first_kid_output b.code.value) (words b.given.items) → IsCore model ready struck n cs bs
  core_given b n cs bs core block same given =
      let code : n.code.value ≡ b.code.value = ap (λ x. x.value) same in
      record {
        block = block;
        children_each = core.children_each ∙ ap (λ (m : Machine). length m.kids) (sym code);
        buffers_each = core.buffers_each ∙ ap (λ (m : Machine). length m.kids) (sym code);
        buffers_fit = λ i kid f ki fi. subst (λ (m : Machine). IsBuffer m i kid f) (sym code) (core.buffers_fit i kid f (ap (λ (m : Machine). slice_get m.kids i) (sym code) ∙ ki) fi);
        seated = λ i kid c ki ci. core.seated i kid c (ap (λ (m : Machine). slice_get m.kids i) (sym code) ∙ ki) ci;
        given = ap (λ (m : Machine). drop (first_kid_output m) (words n.given.items)) code ∙ given ∙ core.given;
      }

  -- what the sampling knows of registers that are the same
  sampling_same : (b n : Block) (s : Sampling) → n.code ≡ b.code → registers_of_block n ≡ registers_of_block b → IsSampling b.code.value s (registers_of_block b) → IsSampling n.code.value s (registers_of_block n)
  sampling_same b n s code registers was = subst (IsSampling n.code.value s) (sym registers) (subst (λ x. IsSampling x.value s (registers_of_block b)) (sym code) was)

  -- ---- the block, the children and the buffers change, and the phase does not

  abbrev pub moved : World X → Block → List (Wrapped X) → Snapshot X
  moved w n cs = record { code = n.code.value; held = held_of_block n; registers = registers_of_block n; slots = words n.slots.items; levels = w.levels.items; phase = phase_of w; children = cs; visited = w.visited.items }

  -- the world's own fields are as they were
  pub record SameRest (w z : World X) : Type 0 where
    pub sampling : z.sampling ≡ w.sampling
    pub levels : z.levels ≡ w.levels
    pub before : z.before ≡ w.before
    pub striking : z.striking ≡ w.striking
    pub sampled : z.sampled ≡ w.sampled
    pub visited : z.visited ≡ w.visited

  -- the levels of the children are those that they were joined to
  abbrev pub AreAt : Machine → List Bool → List Bool → List (Wrapped X) → Type 0
  AreAt m before now cs = (i : ℕ) (kid : Kid) (c : Wrapped X) → slice_get m.kids i ≡ Some kid → slice_get cs i ≡ Some c → (model c.child).levels ≡ levels_at (levels_by before now c.struck) kid.clocks

  pub world_moved : (w v : World X) → IsWorld model ready struck w → v.block.code ≡ w.block.code → registers_of_block v.block ≡ registers_of_block w.block → IsCore model ready struck v.block v.children.items v.buffers.items →
      AreAt w.block.code.value (levels_before (phase_of w) w.levels.items) w.levels.items v.children.items →
      (w.striking ≡ false → (i : ℕ) (c : Wrapped X) → slice_get v.children.items i ≡ Some c → c.struck ≡ false) →
      IsWorld model ready struck (record { block = v.block; sampling = w.sampling; levels = w.levels; before = w.before; striking = w.striking; sampled = w.sampled; children = v.children; buffers = v.buffers; visited = w.visited })
  world_moved w v was same registers core joined calm =
      let code : v.block.code.value ≡ w.block.code.value = ap (λ x. x.value) same in
      record {
        core = core;
        joined = λ i kid c ki ci. joined i kid c (ap (λ (m : Machine). slice_get m.kids i) (sym code) ∙ ki) ci;
        sampling = sampling_same w.block v.block w.sampling same registers was.sampling;
        unsampled = was.unsampled;
        levels_each = was.levels_each ∙ ap (λ (m : Machine). clock_count m.face) (sym code);
        before_each = was.before_each ∙ ap (λ (m : Machine). clock_count m.face) (sym code);
        visited_each = was.visited_each ∙ ap (λ (m : Machine). length m.kids) (sym code);
        calm = λ still. ((was.calm still).0, calm still);
      }

  -- ---- one child is updated or struck

  pub updated_at : (m : Machine) (slots : List ℕ) (before now : List Bool) (i : ℕ) (cs ds : List (Wrapped X)) → UpdatesAt model i m slots cs ds → AreAt m before now cs → AreAt m before now ds
  updated_at m slots before now i cs ds one was j kid d kj dj =
      elim (got_set cs i j one.now d (ap (λ xs. slice_get xs j) (sym one.rest) ∙ dj)) [
        | inl here ↦
            let same : one.kid ≡ kid = same_Some one.kid kid (sym one.kid_at ∙ ap (slice_get m.kids) (sym here.0) ∙ kj) in
            ap (λ (x : Wrapped X). (model x.child).levels) here.1 ∙ one.updates.levels ∙ was j kid one.was kj (ap (slice_get cs) here.0 ∙ one.was_at)
            ∙ ap (λ b. levels_at (levels_by before now b) kid.clocks) (sym one.struck ∙ ap (λ (x : Wrapped X). x.struck) (sym here.1))
        | inr there ↦ was j kid d kj there
      ]

  pub struck_at : (m : Machine) (before now : List Bool) (i : ℕ) (cs ds : List (Wrapped X)) → StrikesAt model i m now cs ds → AreAt m before now cs → AreAt m before now ds
  struck_at m before now i cs ds one was j kid d kj dj =
      elim (got_set cs i j one.now d (ap (λ xs. slice_get xs j) (sym one.rest) ∙ dj)) [
        | inl here ↦
            let same : one.kid ≡ kid = same_Some one.kid kid (sym one.kid_at ∙ ap (slice_get m.kids) (sym here.0) ∙ kj) in
            ap (λ (x : Wrapped X). (model x.child).levels) here.1 ∙ one.strikes.levels ∙ ap (λ (k : Kid). levels_at now k.clocks) same
            ∙ ap (λ b. levels_at (levels_by before now b) kid.clocks) (sym one.struck ∙ ap (λ (x : Wrapped X). x.struck) (sym here.1))
        | inr there ↦ was j kid d kj there
      ]

  pub unstruck_at : (m : Machine) (slots : List ℕ) (i : ℕ) (cs ds : List (Wrapped X)) → UpdatesAt model i m slots cs ds → ((j : ℕ) (c : Wrapped X) → slice_get cs j ≡ Some c → c.struck ≡ false) → (j : ℕ) (d : Wrapped X) → slice_get ds j ≡ Some d → d.struck ≡ false
  unstruck_at m slots i cs ds one was j d dj =
      elim (got_set cs i j one.now d (ap (λ xs. slice_get xs j) (sym one.rest) ∙ dj)) [
        | inl here ↦ ap (λ (x : Wrapped X). x.struck) here.1 ∙ one.struck ∙ was i one.was one.was_at
        | inr there ↦ was j d there
      ]

  -- ---- all are published

  pub published_levels : (m : Machine) (before now : List Bool) (cs ds : List (Wrapped X)) → ArePublished model cs ds → ((i : ℕ) (c : Wrapped X) → slice_get cs i ≡ Some c → c.struck ≡ true) → AreAt m before now cs → AreAt m now now ds
  published_levels m before now cs ds all set_so was i kid d ki di =
      let one = published_at model cs ds i d all di in
      ap (λ (x : Model). x.levels) one.2.publishes ∙ was i kid one.0 ki one.1 ∙ ap (λ b. levels_at (levels_by before now b) kid.clocks) (set_so i one.0 one.1)
      ∙ ap (λ b. levels_at (levels_by now now b) kid.clocks) (sym one.2.unstruck)

  pub published_free : (cs ds : List (Wrapped X)) → ArePublished model cs ds → (i : ℕ) (d : Wrapped X) → slice_get ds i ≡ Some d → d.struck ≡ false
  published_free cs ds all i d di = let one = published_at model cs ds i d all di in one.2.unstruck

  -- ---- the registers as they are sampled

  pub registers_size : (b : Block) → IsBlock b → length (registers_of_block b) ≡ length b.code.value.regs
  registers_size b was =
      let m = b.code.value in
      let g = words b.given.items in
      length-take-le (length m.regs) (drop (first_register m) g) (omega (arith, length-drop (first_register m) g, words_each b.given.items, given_size b was, outputs_after m))

  pub next_size : (m : Machine) (s : Sampling) (registers : List ℕ) → IsSampling m s registers → length (words s.next.items) ≡ length m.regs
  next_size m s registers was = words_each s.next.items ∙ sym (widths_each s.next.items) ∙ ap length was.wide ∙ length-map m.regs (λ (r : Reg). r.width)

  pub next_registers : (b : Block) (s : Sampling) → IsBlock b → IsSampling b.code.value s (registers_of_block b) → HasNone s.due → words s.next.items ≡ registers_of_block b
  next_registers b s block was none =
      ext_get_or 0 (words s.next.items) (registers_of_block b) (next_size b.code.value s (registers_of_block b) was ∙ sym (registers_size b block)) (λ i inside. was.kept i (none i))

  pub sampling_of_next : (m : Machine) (s : Sampling) (registers : List ℕ) → IsSampling m s registers → IsSampling m s (words s.next.items)
  sampling_of_next m s registers was = record { rows_sized = was.rows_sized; rows = was.rows; wide = was.wide; due_sized = was.due_sized; kept = λ r clear. refl }

  -- the registers get what was sampled
  pub registers_placed : (b n : Block) (next : List ℕ) → IsBlock b → Keeps b n → length next ≡ length b.code.value.regs → words n.given.items ≡ placed (words b.given.items) (first_register b.code.value) next →
      (registers_of_block n ≡ next) × (held_of_block n ≡ held_of_block b) × (drop (first_kid_output b.code.value) (words n.given.items) ≡ drop (first_kid_output b.code.value) (words b.given.items))
  registers_placed b n next block keeps size given =
      let m = b.code.value in
      let g = words b.given.items in
      let room : first_register m ≤ length g = omega (arith, words_each b.given.items, given_size b block, outputs_after m) in (
        ap (λ x. take (length x.value.regs) (drop (first_register x.value) (words n.given.items))) keeps.code ∙ ap (λ ws. take (length m.regs) (drop (first_register m) ws)) given
            ∙ ap (λ k. take k (drop (first_register m) (placed g (first_register m) next))) (sym size) ∙ placed_middle g (first_register m) next room,
        ap (λ x. take (first_register x.value) (words n.given.items)) keeps.code ∙ ap (take (first_register m)) given ∙ take_placed g (first_register m) (first_register m) next (omega arith) room,
        ap (drop (first_kid_output m)) given ∙ drop_placed g (first_kid_output m) (first_register m) next (omega (arith, size)) room,
      )

  -- the held inputs are replaced
  pub held_placed : (b n : Block) (inputs : List ℕ) → IsBlock b → Keeps b n → length inputs ≡ first_register b.code.value → words n.given.items ≡ placed (words b.given.items) 0 inputs →
      (held_of_block n ≡ inputs) × (registers_of_block n ≡ registers_of_block b) × (drop (first_kid_output b.code.value) (words n.given.items) ≡ drop (first_kid_output b.code.value) (words b.given.items))
  held_placed b n inputs block keeps size given =
      let m = b.code.value in
      let g = words b.given.items in (
        ap (λ x. take (first_register x.value) (words n.given.items)) keeps.code ∙ ap (take (first_register m)) given
            ∙ ap (λ k. take k (placed g 0 inputs)) (sym size) ∙ placed_middle g 0 inputs (omega arith),
        ap (λ x. take (length x.value.regs) (drop (first_register x.value) (words n.given.items))) keeps.code ∙ ap (λ ws. take (length m.regs) (drop (first_register m) ws)) given
            ∙ ap (take (length m.regs)) (drop_placed g (first_register m) 0 inputs (omega (arith, size)) (omega arith)),
        ap (drop (first_kid_output m)) given ∙ drop_placed g (first_kid_output m) 0 inputs (omega (arith, size)) (omega arith),
      )

  -- ---- quiescence

  -- what stands before the slots of instructions
  pub given_parts : (b : Block) (cs : List (Wrapped X)) (bs : List Buffer) → IsCore model ready struck b cs bs → words b.given.items ≡ held_of_block b ++ registers_of_block b ++ all_shown cs
  given_parts b cs bs core =
      let m = b.code.value in
      let g = words b.given.items in
      let rest = drop (first_register m) g in
      sym (take-append-drop (first_register m) g)
      ∙ ap (λ xs. held_of_block b ++ xs) (sym (take-append-drop (length m.regs) rest))
      ∙ sym (append_assoc (held_of_block b) (registers_of_block b) (drop (length m.regs) rest))
      ∙ ap (λ xs. (held_of_block b ++ registers_of_block b) ++ xs) (drop-drop (length m.regs) (first_register m) g ∙ core.given)

  pub held_size_of : (b : Block) → IsBlock b → length (held_of_block b) ≡ length (input_widths b.code.value.face)
  held_size_of b was =
      let g = words b.given.items in
      length-take-le (first_register b.code.value) g (omega (arith, words_each b.given.items, given_size b was, outputs_after b.code.value))

  pub world_settled : (w : World X) → ((c : X) → ready c → IsReady (model c)) → IsWorld model ready struck w → IsQuiescent model (moment_of w) → IsSettled (tree_in model (moment_of w)) (state_in model (moment_of w))
  world_settled w law was quiet =
      let still : w.striking ≡ false = phase_calm w.striking w.before.items (if w.sampled then Some (words w.sampling.next.items) else None) quiet.calm in
      let m = w.block.code.value in
      quiescent_settled model (moment_of w) was.core.children_each
      (λ i kid c ki ci.
      let seat = was.core.seated i kid c ki ci in
      let now = law c.child (stands_ready model ready struck kid c seat ((was.calm still).1 i c ci)).ready_now in
      (seat.shown_is ∙ now.shown, now.model.settled))
      (λ i c ci. get_or_first m.kids i (let e : i < length m.kids = omega (arith, slice_get_within w.children.items i c ci, was.core.children_each) in e))
      quiet

  -- ---- what the own code does

  pub own_does : (w : World X) (n : Block) → IsWorld model ready struck w → IsBlock n → n.code ≡ w.block.code → n.given ≡ w.block.given →
      take (first_instruction w.block.code.value) (words n.slots.items) ≡ words w.block.given.items → IsRun w.block.code.value (words n.slots.items) →
      IsFilled w.block.code.value (held_of_block w.block) (registers_of_block w.block) (words n.slots.items) (all_shown w.children.items)
  own_does w n was block code given filled run = record {
    sized = words_each n.slots.items ∙ sym (widths_each n.slots.items) ∙ ap length block.shape ∙ ap (λ x. slot_count x.value) code;
    held_each = held_size_of w.block was.core.block;
    registers_each = registers_size w.block was.core.block;
    given_slots = filled ∙ given_parts w.block w.children.items w.buffers.items was.core;
    run = run;
  }

  pub held_same : (b n : Block) → n.code ≡ b.code → n.given ≡ b.given → held_of_block n ≡ held_of_block b
  held_same b n code given = ap (λ x. take (first_register x.value) (words n.given.items)) code ∙ ap (λ x. take (first_register b.code.value) (words x.items)) given

  pub registers_same : (b n : Block) → n.code ≡ b.code → n.given ≡ b.given → registers_of_block n ≡ registers_of_block b
  registers_same b n code given =
      ap (λ x. take (length x.value.regs) (drop (first_register x.value) (words n.given.items))) code ∙ ap (λ x. take (length b.code.value.regs) (drop (first_register b.code.value) (words x.items))) given
