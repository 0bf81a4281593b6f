use Rattle.std.proofs.Common.{◌≡◌, ◌∙◌, true, List, ℕ, length, replicate, sym, ap, subst}
use Rattle.std.proofs.lemmas.List.{length-map}
use Rattle.code_isa.specs.declared.machine.Machine.{Machine}
use Rattle.code_isa.specs.declared.machine.Reg.{Reg}
use Rattle.code_isa.specs.Faces.{input_widths, clock_count, output_count}
use Rattle.wrapper_core.specs.World.{moment_of}
use Rattle.wrapper_core.proofs.Blocking.{widths_each}
use Rattle.settle_loop_tests.specs.Board.{AreReady}
use Rattle.settle_loop_tests.proofs.board.Board.new.Goals as goal

pub are_joined-requires : goal.are_joined-requires
are_joined-requires g c = subst AreReady (sym c.as_slice-4.ensures.value) c.requires

pub returns : goal.returns
returns g c =
    let m = c.machine-m.result.now in
    let w = c.in_ok-world.world in
    let code : (moment_of w).code ≡ m = c.in_ok-world.ensures.start.code ∙ c.in_ok-code.ensures.ok ∙ sym c.machine-m.ensures.same in
    let yes : c.are_all.result ≡ true = cc in
    let same : c.as_slice-2.result.now ≡ input_widths m.face = c.as_slice-2.ensures.value ∙ c.in_ok-input_widths.ensures in
    let all : input_widths m.face ≡ replicate (length (input_widths m.face)) 4 =
    subst (λ (ws : List ℕ). ws ≡ replicate (length ws) 4) same (c.are_all.ensures yes) in
    let inputs : length (input_widths m.face) ≡ c.len.result =
    ap length (sym c.in_ok-inputs.ensures.widths) ∙ widths_each c.in_ok-inputs.inputs.items
    ∙ ap length (sym c.as_slice-5.ensures.value) ∙ c.as_slice-5.ensures.len ∙ sym c.len.ensures in
    let clocks : clock_count m.face ≡ c.len-2.result = sym c.clock_count.ensures ∙ sym c.in_ok-levels.ensures.len ∙ sym c.len-2.ensures in
    let outputs : output_count m.face ≡ c.len-outputs.result = sym m.all_driven ∙ sym c.len-outputs.ensures in
    let registers : length m.regs ≡ c.len-3.result =
    ap length (sym c.as_slice.ensures) ∙ sym (length-map c.as_slice.result.now (λ (r : Reg). r.width))
    ∙ ap length (sym c.in_ok-regs.ensures.widths) ∙ widths_each c.in_ok-regs.regs.items
    ∙ ap length (sym c.as_slice-7.ensures.value) ∙ c.as_slice-7.ensures.len ∙ sym c.len-3.ensures in
    record {
      world = c.in_ok-world.ensures.world;
      inputs_are = ap (λ (x : Machine). input_widths x.face) code ∙ all ∙ ap (λ n. replicate n 4) inputs;
      clocks_are = ap (λ (x : Machine). clock_count x.face) code ∙ clocks;
      outputs_are = ap (λ (x : Machine). output_count x.face) code ∙ outputs;
      registers_are = ap (λ (x : Machine). length x.regs) code ∙ registers;
    }
