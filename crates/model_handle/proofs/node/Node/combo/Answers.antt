use Rattle.std.proofs.Common.{ℕ, ◌+◌, ◌≤◌, refl, sym, ◌∙◌, ap, subst, arith}
use Rattle.bit_ops.specs.Lists.{words}
use Rattle.code_isa.specs.declared.machine.Machine.{Machine}
use Rattle.code_isa.specs.Faces.{output_count}
use Rattle.code_isa.specs.Checks.{IsChecked}
use Rattle.wrapper_core.specs.Snapshot.{Snapshot, with_held}
use Rattle.wrapper_core.specs.Events.{HasRoom}
use Rattle.wrapper_core.specs.World.{moment_of}
use Rattle.settle_loop.specs.Kept.{Keeps}
use Rattle.model_handle.proofs.Moves.{tree_kept, registers_kept, room_fits, room_number, room_less}
use Rattle.model_handle.proofs.node.Node.combo.Goals as goal

pub settle-requires-clause-room : goal.settle-requires-clause-room
settle-requires-clause-room g c =
    let model = g.C.Child.model in
    let s = moment_of c.args.self.now.world in
    let fits = room_fits model c.args.self.now.number s c.requires.room in
    subst (λ x. HasRoom model (x.code.chain + 1) x) (sym c.set_inputs.ensures.set) (λ i d di. let low = fits i d di in omega (arith, low))

pub returns-clause-ready : goal.returns-clause-ready
returns-clause-ready g c =
    let s = moment_of c.args.self.now.world in
    let code = c.settle.ensures.keeps.code ∙ ap (λ (x : Snapshot _). x.code) c.set_inputs.ensures.set in
    let number = room_number g.C.Child.model c.args.self.now.number s c.requires.room in
    record {
      rest = record {
        world = c.settle.ensures.world;
        checked = subst IsChecked (sym code) c.requires.ready.rest.checked;
        quiescent = c.settle.ensures.quiescent;
        numbers = omega (arith, number);
      };
      each = c.requires.ready.each ∙ ap (λ (m : Machine). output_count m.face) (sym code);
    }

pub returns-clause-updates : goal.returns-clause-updates
returns-clause-updates g c =
    let model = g.C.Child.model in
    let s = moment_of c.args.self.now.world in
    let z = moment_of c.settle.new.w in
    let t = with_held s (words c.args.inputs.now) in
    let sweeps : ℕ = c.settle.result in
    let keeps : Keeps model sweeps t z = subst (λ x. Keeps model sweeps x z) c.set_inputs.ensures.set c.settle.ensures.keeps in
    let within : sweeps ≤ s.code.chain + 1 = subst (λ (x : Snapshot _). sweeps ≤ x.code.chain + 1) c.set_inputs.ensures.set c.settle.ensures.within in
    record {
      tree = tree_kept model sweeps t z keeps;
      levels = keeps.levels;
      held = keeps.held;
      registers = registers_kept model sweeps t z keeps;
      number = refl;
      room = room_less model c.args.self.now.number s z keeps.code keeps.each (λ i x y xi yi. let low = (keeps.children i x y xi yi).room in omega (arith, low, within));
    }
