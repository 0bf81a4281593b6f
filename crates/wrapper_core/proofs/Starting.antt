-- A world at its start: what its block is given, and that its parts fit.
use Rattle.std.proofs.Common.{◌≡◌, ℕ, zero, suc, ◌+◌, List, [], ◌∷◌, ◌++◌, length, map, take, drop, refl, sym, ◌∙◌, ap, subst, arith}
use Rattle.std.specs.Prelude.{slice_get, Some}
use Rattle.std.specs.List.{flat_map}
use Rattle.std.proofs.lemmas.List.{length-append, length-map, map-append, append_assoc, take_at, drop_at}
use Rattle.std.proofs.lemmas.Option.{none-some, same_Some}
use Rattle.bit_ops.specs.Lists.{words, widths}
use Rattle.bit_ops.specs.declared.value.Bits.{Bits}
use Rattle.code_isa.specs.declared.machine.Reg.{Reg}
use Rattle.code_isa.specs.declared.machine.Kid.{Kid}
use Rattle.code_isa.specs.declared.machine.Machine.{Machine}
use Rattle.code_isa.specs.Faces.{input_widths, output_widths}
use Rattle.code_isa.specs.Slots.{given_widths, first_register, first_kid_output}
use Rattle.model_stage.specs.Model.{Model}
use Rattle.sequence_select.specs.Shown.{shown}
use Rattle.wrapper_core.specs.declared.block.Block.{Block}
use Rattle.wrapper_core.specs.declared.buffer.Buffer.{Buffer}
use Rattle.wrapper_core.specs.declared.wrapped.Wrapped.{Wrapped}
use Rattle.wrapper_core.specs.Snapshot.{all_shown}
use Rattle.wrapper_core.specs.code.Blocks.{IsBlock}
use Rattle.wrapper_core.specs.code.Cores.{IsSeated, IsBuffer, IsCore}
use Rattle.wrapper_core.proofs.Blocking.{words_each, widths_each}
use Rattle.wrapper_core.proofs.Cores.{kid_widths}
use Rattle.wrapper_core.proofs.Seats.{shown_wide}

-- the values that wrappers show
abbrev pub values_shown : {X : Type 0} → List (Wrapped X) → List Bits
values_shown {X = X} cs = flat_map (λ (c : Wrapped X). shown c.wrapper) cs

pub words_shown : {X : Type 0} (cs : List (Wrapped X)) → words (values_shown cs) ≡ all_shown cs
words_shown [] = refl
words_shown (c ∷ cs) =
    map-append (λ (b : Bits). b.word) (shown c.wrapper) (values_shown cs)
    ∙ ap (λ xs. words (shown c.wrapper) ++ xs) (words_shown cs)

module _ (m : Machine) (inputs regs : List Bits) (inputs_wide : widths inputs ≡ input_widths m.face) (regs_wide : widths regs ≡ map (λ (r : Reg). r.width) m.regs) where
  inputs_size : length (words inputs) ≡ first_register m
  inputs_size = words_each inputs ∙ sym (widths_each inputs) ∙ ap length inputs_wide

  regs_size : length (words regs) ≡ length m.regs
  regs_size = words_each regs ∙ sym (widths_each regs) ∙ ap length regs_wide ∙ length-map m.regs (λ (r : Reg). r.width)

  module _ {X : Type 0} (cs : List (Wrapped X)) (g : List Bits) (parts : g ≡ (inputs ++ regs) ++ values_shown cs) where
    -- the words of what a block is given, part by part
    words_parts : words g ≡ (words inputs ++ words regs) ++ all_shown cs
    words_parts =
        ap words parts ∙ map-append (λ (b : Bits). b.word) (inputs ++ regs) (values_shown cs)
        ∙ ap (λ xs. xs ++ words (values_shown cs)) (map-append (λ (b : Bits). b.word) inputs regs)
        ∙ ap (λ xs. (words inputs ++ words regs) ++ xs) (words_shown cs)

    tail_parts : words g ≡ words inputs ++ (words regs ++ all_shown cs)
    tail_parts = words_parts ∙ append_assoc (words inputs) (words regs) (all_shown cs)

    pub first_inputs : take (first_register m) (words g) ≡ words inputs
    first_inputs = ap (take (first_register m)) tail_parts ∙ take_at (words inputs) (words regs ++ all_shown cs) (first_register m) inputs_size

    pub then_registers : take (length m.regs) (drop (first_register m) (words g)) ≡ words regs
    then_registers =
        ap (λ xs. take (length m.regs) (drop (first_register m) xs)) tail_parts
        ∙ ap (take (length m.regs)) (drop_at (words inputs) (words regs ++ all_shown cs) (first_register m) inputs_size)
        ∙ take_at (words regs) (all_shown cs) (length m.regs) regs_size

    pub last_shown : drop (first_kid_output m) (words g) ≡ all_shown cs
    last_shown =
        let size : length (words inputs ++ words regs) ≡ first_kid_output m =
        length-append (words inputs) (words regs) ∙ ap (λ n. n + length (words regs)) inputs_size ∙ ap (λ n. first_register m + n) regs_size in
        ap (drop (first_kid_output m)) words_parts ∙ drop_at (words inputs ++ words regs) (all_shown cs) (first_kid_output m) size

    -- its values have the widths of the slots
    pub all_wide : widths (values_shown cs) ≡ flat_map kid_widths m.kids → widths g ≡ given_widths m
    all_wide wide =
        ap widths parts ∙ map-append (λ (b : Bits). b.width) (inputs ++ regs) (values_shown cs)
        ∙ ap (λ xs. xs ++ widths (values_shown cs)) (map-append (λ (b : Bits). b.width) inputs regs)
        ∙ ap (λ xs. (xs ++ widths regs) ++ widths (values_shown cs)) inputs_wide
        ∙ ap (λ xs. (input_widths m.face ++ xs) ++ widths (values_shown cs)) regs_wide
        ∙ ap (λ xs. (input_widths m.face ++ map (λ (r : Reg). r.width) m.regs) ++ xs) wide

module _ {X : Type 0} (model : X → Model) (ready struck : X → Type 0) where
  -- each child shows values of the widths of its outputs
  pub widths_shown : (kids : List Kid) (cs : List (Wrapped X)) → length cs ≡ length kids →
      ((i : ℕ) (kid : Kid) (c : Wrapped X) → slice_get kids i ≡ Some kid → slice_get cs i ≡ Some c → IsSeated model ready struck kid c) →
      widths (values_shown cs) ≡ flat_map kid_widths kids
  widths_shown [] [] size seated = refl
  widths_shown [] (c ∷ cs) size seated = let clash : ⊥ = omega (arith, size) in absurd clash
  widths_shown (kid ∷ kids) [] size seated = let clash : ⊥ = omega (arith, size) in absurd clash
  widths_shown (kid ∷ kids) (c ∷ cs) size seated =
      let seat = seated 0 kid c refl refl in
      map-append (λ (b : Bits). b.width) (shown c.wrapper) (values_shown cs)
      ∙ ap (λ xs. xs ++ widths (values_shown cs)) (shown_wide c.wrapper (output_widths kid.face) seat.combo_wide seat.seq_wide)
      ∙ ap (λ xs. output_widths kid.face ++ xs) (widths_shown kids cs (let e : length cs ≡ length kids = omega (arith, size) in e) (λ i k x ki xi. seated (suc i) k x ki xi))

  -- a block of this machine, with children and buffers that fit
  pub core_new : (b : Block) (m : Machine) (cs : List (Wrapped X)) (bs : List Buffer) → b.code.value ≡ m → IsBlock b →
      length cs ≡ length m.kids → length bs ≡ length m.kids →
      ((i : ℕ) (kid : Kid) (f : Buffer) → slice_get m.kids i ≡ Some kid → slice_get bs i ≡ Some f → IsBuffer m i kid f) →
      ((i : ℕ) (kid : Kid) (c : Wrapped X) → slice_get m.kids i ≡ Some kid → slice_get cs i ≡ Some c → IsSeated model ready struck kid c) →
      drop (first_kid_output m) (words b.given.items) ≡ all_shown cs → IsCore model ready struck b cs bs
  core_new b m cs bs code block children buffers fit seated given = record {
    block = block;
    children_each = children ∙ ap (λ (x : Machine). length x.kids) (sym code);
    buffers_each = buffers ∙ ap (λ (x : Machine). length x.kids) (sym code);
    buffers_fit = λ i kid f ki fi.
        subst (λ (x : Machine). IsBuffer x i kid f) (sym code) (fit i kid f (ap (λ (x : Machine). slice_get x.kids i) (sym code) ∙ ki) fi);
    seated = λ i kid c ki ci. seated i kid c (ap (λ (x : Machine). slice_get x.kids i) (sym code) ∙ ki) ci;
    given = ap (λ (x : Machine). drop (first_kid_output x) (words b.given.items)) code ∙ given;
  }

-- a child behind its wrapper is the one that was given
pub child_of : {X : Type 0} (cs : List (Wrapped X)) (children : List X) (i : ℕ) (c : Wrapped X) → map (λ (w : Wrapped X). w.child) cs ≡ children →
    slice_get cs i ≡ Some c → slice_get children i ≡ Some c.child
child_of [] children i c same at = absurd (none-some c at)
child_of {X = X} (a ∷ cs) children zero c same at =
    ap (λ xs. slice_get xs 0) (sym same) ∙ ap (λ (w : Wrapped X). Some w.child) (same_Some a c at)
child_of {X = X} (a ∷ cs) children (suc i) c same at =
    ap (λ xs. slice_get xs (suc i)) (sym same) ∙ child_of cs (map (λ (w : Wrapped X). w.child) cs) i c refl at
