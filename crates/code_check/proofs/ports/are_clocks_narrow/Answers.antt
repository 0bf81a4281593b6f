use Rattle.std.proofs.Common.{subst, sym, ◌≡◌, Bool, true}
use Rattle.std.specs.Prelude.{All}
use Rattle.sv_base.specs.Classes.{is_clock}
use Rattle.sv_base.specs.declared.face.Port.{Port}
use Rattle.code_check.proofs.Tests.{all_passing, passing_all}
use Rattle.code_check.proofs.ports.are_clocks_narrow.Goals as goal

abbrev is_clock_port : Port → Bool
is_clock_port p = is_clock p.class

pub returns : goal.returns
returns c =
    let P = λ (p : Port). p.width ≡ 1 in
    let Q = λ (p : Port). is_clock_port p ≡ true → P p in (
      λ holds. all_passing is_clock_port P c.args.face.now.ports (subst (All Q) c.as_slice.ensures (c.are_narrow.ensures.0 holds)),
      λ all. c.are_narrow.ensures.1 (subst (All Q) (sym c.as_slice.ensures) (passing_all is_clock_port P c.args.face.now.ports all)),
    )
