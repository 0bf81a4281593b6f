use Rattle.std.proofs.Common.{◌∙◌, length, take, ap}
use Rattle.code_isa.specs.declared.machine.Machine.{Machine}
use Rattle.code_isa.specs.Faces.{input_widths, clock_count, output_count}
use Rattle.leaf_model.specs.Leaf.{model_of}
use Rattle.wrapper_core.specs.World.{moment_of}
use Rattle.settle_loop_tests.proofs.Kept.{schedule_code}
use Rattle.settle_loop_tests.proofs.board.Board.run.Goals as goal

pub returns : goal.returns
returns g c =
    let code =
    schedule_code model_of (take c.run_events.result c.args.events.now.items) (moment_of c.args.self.now.world)
    (moment_of c.run_events.new.w) c.run_events.ensures.schedule in
    record {
      world = c.run_events.ensures.world;
      inputs_are = ap (λ (x : Machine). input_widths x.face) code ∙ c.requires.inputs_are;
      clocks_are = ap (λ (x : Machine). clock_count x.face) code ∙ c.requires.clocks_are;
      outputs_are = ap (λ (x : Machine). output_count x.face) code ∙ c.requires.outputs_are;
      registers_are = ap (λ (x : Machine). length x.regs) code ∙ c.requires.registers_are;
    }
