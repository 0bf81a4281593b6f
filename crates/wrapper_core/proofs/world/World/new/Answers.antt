use Rattle.std.proofs.Common.{◌≡◌, ◌∙◌, ◌++◌, length, take, drop, replicate, false, refl, sym, ap, subst, arith}
use Rattle.std.specs.Prelude.{slice_get, Some}
use Rattle.std.proofs.lemmas.List.{length-map}
use Rattle.bit_ops.specs.Lists.{words}
use Rattle.code_isa.specs.declared.machine.Machine.{Machine}
use Rattle.code_isa.specs.Faces.{clock_count}
use Rattle.code_isa.specs.Slots.{first_register}
use Rattle.code_isa.specs.Traces.{levels_at}
use Rattle.wrapper_core.specs.declared.wrapped.Wrapped.{Wrapped}
use Rattle.wrapper_core.specs.World.{levels_by}
use Rattle.wrapper_core.specs.code.Samplings.{IsSampling, registers_of_block}
use Rattle.wrapper_core.specs.code.Cores.{IsBuffer}
use Rattle.wrapper_core.proofs.Starting.{values_shown, all_wide, first_inputs, then_registers, last_shown, widths_shown, core_new, child_of}
use Rattle.wrapper_core.proofs.world.World.new.Goals as goal

pub wrap_all-requires-clause-joined : goal.wrap_all-requires-clause-joined
wrap_all-requires-clause-joined g c = λ i kid child ki ci.
    let kids : c.as_slice.result.now ≡ c.args.code.value.kids =
    c.as_slice.ensures ∙ ap (λ (x : Machine). x.kids) (c.machine-3.ensures.same ∙ c.as_ref-m.ensures) in
    let one = c.requires.children.joined i kid child (ap (λ xs. slice_get xs i) (sym kids) ∙ ki) ci in
    (one.ready_now, one.face, one.summary)

pub new-requires-2 : goal.new-requires-2
new-requires-2 g c =
    let m = c.args.code.value in
    let cs = c.in_ok-children.children.items in
    let inputs = c.args.inputs.now in
    let regs = c.args.regs.now in
    let kids : c.as_slice.result.now ≡ m.kids = c.as_slice.ensures ∙ ap (λ (x : Machine). x.kids) (c.machine-3.ensures.same ∙ c.as_ref-m.ensures) in
    let size : length cs ≡ length m.kids =
    sym (length-map cs (λ (w : Wrapped g.row.C.Denot). w.child)) ∙ ap length c.in_ok-children.ensures.children ∙ c.requires.children.each in
    let parts : c.add_shown.new.given.items ≡ (inputs ++ regs) ++ values_shown cs =
    c.in_ok-add_shown.ensures
    ∙ ap (λ xs. c.extend_from_slice-2.new.self.items ++ values_shown xs) c.as_slice-2.ensures.value
    ∙ ap (λ xs. xs ++ values_shown cs) c.in_ok-extend_from_slice-2.ensures.items
    ∙ ap (λ xs. (xs ++ regs) ++ values_shown cs) c.in_ok-extend_from_slice.ensures.items
    ∙ ap (λ xs. ((xs ++ inputs) ++ regs) ++ values_shown cs) c.in_ok-given.ensures.items in
    all_wide m inputs regs c.requires.inputs c.requires.registers cs c.add_shown.new.given.items parts
    (widths_shown g.C.Child.model g.C.Child.ready g.C.Child.struck m.kids cs size
    (λ i kid w ki wi. c.in_ok-children.ensures.seated i kid w (ap (λ xs. slice_get xs i) kids ∙ ki) wi))

pub returns-clause-world : goal.returns-clause-world
returns-clause-world g c =
    let m = c.args.code.value in
    let b = c.in_ok-block.block in
    let cs = c.in_ok-children.children.items in
    let inputs = c.args.inputs.now in
    let regs = c.args.regs.now in
    let code : b.code.value ≡ m = c.in_ok-block.ensures.code in
    let size : length cs ≡ length m.kids =
    sym (length-map cs (λ (w : Wrapped g.row.C.Denot). w.child)) ∙ ap length c.in_ok-children.ensures.children ∙ c.requires.children.each in
    let parts : b.given.items ≡ (inputs ++ regs) ++ values_shown cs =
    c.in_ok-block.ensures.given ∙ c.in_ok-add_shown.ensures
    ∙ ap (λ xs. c.extend_from_slice-2.new.self.items ++ values_shown xs) c.as_slice-2.ensures.value
    ∙ ap (λ xs. xs ++ values_shown cs) c.in_ok-extend_from_slice-2.ensures.items
    ∙ ap (λ xs. (xs ++ regs) ++ values_shown cs) c.in_ok-extend_from_slice.ensures.items
    ∙ ap (λ xs. ((xs ++ inputs) ++ regs) ++ values_shown cs) c.in_ok-given.ensures.items in
    let registers : registers_of_block b ≡ words regs =
    ap (λ (x : Machine). take (length x.regs) (drop (first_register x) (words b.given.items))) code
    ∙ then_registers m inputs regs c.requires.inputs c.requires.registers cs b.given.items parts in
    let count : c.len-2.result ≡ length m.kids = omega (arith, c.len-2.ensures, c.in_ok-children.children.ok.0, size) in
    let kids : c.as_slice.result.now ≡ m.kids = c.as_slice.ensures ∙ ap (λ (x : Machine). x.kids) (c.machine-3.ensures.same ∙ c.as_ref-m.ensures) in
    let read : c.machine-2.result.now ≡ m = c.machine-2.ensures.same ∙ c.as_ref-m.ensures in
    let bs = c.in_ok-buffers.buffers.items in
    let s = c.in_ok-sampling.sampling in
    let levels : c.in_ok-levels.levels.items ≡ c.args.levels.now = c.in_ok-levels.ensures.items in
    record {
      core = core_new g.C.Child.model g.C.Child.ready g.C.Child.struck b m cs bs code c.in_ok-block.ensures.block size
          (c.in_ok-buffers.ensures.each ∙ ap (λ (x : Machine). length x.kids) read)
          (λ i kid f ki fi.
          subst (λ (x : Machine). IsBuffer x i kid f) read
          (c.in_ok-buffers.ensures.fit i kid f (ap (λ (x : Machine). slice_get x.kids i) read ∙ ki) fi))
          (λ i kid w ki wi. c.in_ok-children.ensures.seated i kid w (ap (λ xs. slice_get xs i) kids ∙ ki) wi)
          (last_shown m inputs regs c.requires.inputs c.requires.registers cs b.given.items parts);
      joined = λ i kid w ki wi.
          let ki_m : slice_get m.kids i ≡ Some kid = ap (λ (x : Machine). slice_get x.kids i) (sym code) ∙ ki in
          let fresh = c.in_ok-children.ensures.wrappers i w wi in
          let one = c.requires.children.joined i kid w.child ki_m (child_of cs c.args.children.items i w c.in_ok-children.ensures.children wi) in
          one.levels_are ∙ ap (λ xs. levels_at xs kid.clocks) (sym levels)
          ∙ ap (λ x. levels_at (levels_by c.in_ok-levels.levels.items c.in_ok-levels.levels.items x) kid.clocks) (sym fresh.1);
      sampling = subst (λ (x : Machine). IsSampling x s (registers_of_block b)) (c.as_ref-m.ensures ∙ sym code)
          (subst (IsSampling c.as_ref-m.result.now s) (sym registers) c.in_ok-sampling.ensures.sampling);
      unsampled = λ calm. c.in_ok-sampling.ensures.none;
      levels_each = ap length levels ∙ c.requires.levels ∙ ap (λ (x : Machine). clock_count x.face) (sym code);
      before_each = ap length c.in_ok-before.ensures.items ∙ c.requires.levels ∙ ap (λ (x : Machine). clock_count x.face) (sym code);
      visited_each =
          (let e : length c.in_ok-visited.visited.items ≡ length m.kids = omega (arith, c.in_ok-visited.ensures.len, c.in_ok-visited.visited.ok.0, count) in e)
          ∙ ap (λ (x : Machine). length x.kids) (sym code);
      calm = λ still. (refl, λ i w wi. let fresh = c.in_ok-children.ensures.wrappers i w wi in fresh.1);
    }

pub returns-clause-start : goal.returns-clause-start
returns-clause-start g c =
    let m = c.args.code.value in
    let b = c.in_ok-block.block in
    let cs = c.in_ok-children.children.items in
    let inputs = c.args.inputs.now in
    let regs = c.args.regs.now in
    let code : b.code.value ≡ m = c.in_ok-block.ensures.code in
    let size : length cs ≡ length m.kids =
    sym (length-map cs (λ (w : Wrapped g.row.C.Denot). w.child)) ∙ ap length c.in_ok-children.ensures.children ∙ c.requires.children.each in
    let parts : b.given.items ≡ (inputs ++ regs) ++ values_shown cs =
    c.in_ok-block.ensures.given ∙ c.in_ok-add_shown.ensures
    ∙ ap (λ xs. c.extend_from_slice-2.new.self.items ++ values_shown xs) c.as_slice-2.ensures.value
    ∙ ap (λ xs. xs ++ values_shown cs) c.in_ok-extend_from_slice-2.ensures.items
    ∙ ap (λ xs. (xs ++ regs) ++ values_shown cs) c.in_ok-extend_from_slice.ensures.items
    ∙ ap (λ xs. ((xs ++ inputs) ++ regs) ++ values_shown cs) c.in_ok-given.ensures.items in
    let registers : registers_of_block b ≡ words regs =
    ap (λ (x : Machine). take (length x.regs) (drop (first_register x) (words b.given.items))) code
    ∙ then_registers m inputs regs c.requires.inputs c.requires.registers cs b.given.items parts in
    let count : c.len-2.result ≡ length m.kids = omega (arith, c.len-2.ensures, c.in_ok-children.children.ok.0, size) in
    record {
      code = code;
      held_are = ap (λ (x : Machine). take (first_register x) (words b.given.items)) code
          ∙ first_inputs m inputs regs c.requires.inputs c.requires.registers cs b.given.items parts;
      registers_are = registers;
      slots = c.in_ok-block.ensures.slots;
      levels_are = c.in_ok-levels.ensures.items;
      phase = refl;
      children_are = c.in_ok-children.ensures.children;
      wrappers = λ i w wi. let fresh = c.in_ok-children.ensures.wrappers i w wi in fresh.0;
      visited = c.in_ok-visited.ensures.items_if_clones_equal (λ y e. e) ∙ ap (λ n. replicate n false) count;
    }
