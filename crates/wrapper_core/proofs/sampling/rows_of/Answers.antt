use Rattle.std.proofs.Common.{◌≡◌, ◌<◌, ◌∙◌, ◌++◌, ◌∷◌, [], length, set, refl, sym, ap, arith}
use Rattle.std.proofs.lemmas.List.{length-set}
use Rattle.code_isa.specs.declared.machine.Reg.{Reg}
use Rattle.code_isa.specs.Uses.{row_of}
use Rattle.wrapper_core.proofs.Blocking.{item_at, all_at}
use Rattle.wrapper_core.proofs.Clocking.{clocked_more, clocked_all}
use Rattle.wrapper_core.proofs.sampling.rows_of.Goals as goal

pub loop-r-preserved : goal.loop-r-preserved
loop-r-preserved c =
    let regs = c.args.regs.now in
    let rows = c.loop-r.rows.items in
    let k = c.loop-r.r in
    let reg = c.index-regs-r.result in
    let low : reg.clock < c.args.clocks = all_at (λ (x : Reg). x.clock < c.args.clocks) regs k reg c.requires c.loop-r-test.true c.index-regs-r.is in
    let inside : reg.clock < length rows = omega (arith, low, c.loop-r.invariant.sized) in
    let step : c.add_register.new.rows.items ≡ set rows reg.clock (row_of rows reg.clock ++ k ∷ []) =
    c.in_ok-add_register.ensures ∙ ap (λ (x : Reg). set rows x.clock (row_of rows x.clock ++ k ∷ [])) (sym c.index-regs-r.is) in
    record {
      sized = ap length step ∙ length-set rows reg.clock (row_of rows reg.clock ++ k ∷ []) ∙ c.loop-r.invariant.sized;
      clocked = clocked_more regs rows c.add_register.new.rows.items k reg (item_at regs regs k reg refl c.loop-r-test.true c.index-regs-r.is) inside step c.loop-r.invariant.clocked;
    }

pub returns-clause-clocked : goal.returns-clause-clocked
returns-clause-clocked c = clocked_all c.args.regs.now c.loop-r.rows.items c.loop-r.r (omega (arith, c.loop-r-test.false)) c.loop-r.invariant.clocked
