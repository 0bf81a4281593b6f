use Rattle.std.proofs.Common.{◌≡◌, ℕ, refl, sym, ◌∙◌, ap, subst, arith}
use Rattle.code_isa.specs.declared.machine.Machine.{Machine}
use Rattle.code_isa.specs.Faces.{output_widths}
use Rattle.code_isa.specs.Checks.{IsChecked}
use Rattle.wrapper_core.specs.Snapshot.{tree_in, state_in}
use Rattle.wrapper_core.specs.World.{moment_of}
use Rattle.wrapper_core.proofs.Schedules.{takes_kept}
use Rattle.model_handle.proofs.Moves.{tree_kept, registers_kept, room_fits, room_number, room_less}
use Rattle.model_handle.proofs.Strikes.{tree_stepped, room_after, call_takes}
use Rattle.model_handle.proofs.node.Node.strike.Goals as goal

pub step_clocks-requires-clause-room : goal.step_clocks-requires-clause-room
step_clocks-requires-clause-room g c =
    let fits = room_fits g.C.Child.model c.args.self.number (moment_of c.args.self.world) c.requires.room in
    λ i d di. let low = fits i d di in omega (arith, low)

pub settle-requires-clause-room : goal.settle-requires-clause-room
settle-requires-clause-room g c =
    let model = g.C.Child.model in
    let s = moment_of c.args.self.world in
    room_after model c.args.clocks.now s (moment_of c.step_clocks.new.w) c.step_clocks.ensures.steps (room_fits model c.args.self.number s c.requires.room)

pub returns-clause-struck : goal.returns-clause-struck
returns-clause-struck g c =
    let s = moment_of c.args.self.world in
    let code : (moment_of c.settle.new.w).code ≡ s.code = c.settle.ensures.keeps.code ∙ c.step_clocks.ensures.steps.code in
    let number = room_number g.C.Child.model c.args.self.number s c.requires.room in
    record {
      rest = record {
        world = c.settle.ensures.world;
        checked = subst IsChecked (sym code) c.requires.ready.rest.checked;
        quiescent = c.settle.ensures.quiescent;
        numbers = omega (arith, number);
      };
      wide = c.keep.ensures.widths ∙ ap (λ (m : Machine). output_widths m.face) (sym code);
    }

pub returns-clause-strikes : goal.returns-clause-strikes
returns-clause-strikes g c =
    let model = g.C.Child.model in
    let s = moment_of c.args.self.world in
    let t = moment_of c.step_clocks.new.w in
    let z = moment_of c.settle.new.w in
    let clocks = c.args.clocks.now in
    let steps = c.step_clocks.ensures.steps in
    let keeps = c.settle.ensures.keeps in
    let sweeps : ℕ = c.settle.result in
    record {
      tree = tree_kept model sweeps t z keeps ∙ tree_stepped model clocks s t steps;
      levels = keeps.levels ∙ steps.levels_are;
      held = keeps.held ∙ steps.held;
      registers = takes_kept (tree_in model s) s.levels clocks (state_in model s) (state_in model t) (state_in model z) c.step_clocks.ensures.edges (registers_kept model sweeps t z keeps);
      shown = c.keep.ensures.words;
      number = refl;
      room = room_less model c.args.self.number s z (keeps.code ∙ steps.code) (keeps.each ∙ steps.each) (call_takes model clocks s t steps sweeps z c.settle.ensures.within keeps);
    }
