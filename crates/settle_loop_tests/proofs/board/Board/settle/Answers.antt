use Rattle.std.proofs.Common.{◌∙◌, length, ap}
use Rattle.code_isa.specs.declared.machine.Machine.{Machine}
use Rattle.code_isa.specs.Faces.{input_widths, clock_count, output_count}
use Rattle.settle_loop_tests.proofs.board.Board.settle.Goals as goal

pub returns : goal.returns
returns g c =
    let code = c.settle.ensures.keeps.code in
    record {
      world = c.settle.ensures.world;
      inputs_are = ap (λ (x : Machine). input_widths x.face) code ∙ c.requires.board.inputs_are;
      clocks_are = ap (λ (x : Machine). clock_count x.face) code ∙ c.requires.board.clocks_are;
      outputs_are = ap (λ (x : Machine). output_count x.face) code ∙ c.requires.board.outputs_are;
      registers_are = ap (λ (x : Machine). length x.regs) code ∙ c.requires.board.registers_are;
    }
