use Rattle.std.proofs.Common.{◌≡◌, ◌∙◌, ap, arith, codes, get_or, refl}
use Rattle.code_isa.specs.declared.machine.Machine.{Machine}
use Rattle.code_isa.proofs.Worked.{inverters_checked, one_bit_each, first_is_one}
use Rattle.code_isa.proofs.tests.inverters.Goals as goal

pub of-requires : goal.of-requires
of-requires c =
    inverters_checked _ (codes "a") (codes "y") _ c.args.count (record {
      differ = λ e. let heads : 97 ≡ 121 = ap (λ xs. get_or xs 0 0) e in omega arith;
      ports = c.in_ok-face.ensures.ports;
      rows = c.in_ok-summary.ensures;
      regs = c.new.ensures;
      kids = c.new-2.ensures;
      code = c.in_ok-code.ensures;
      some = c.requires;
      outs = c.in_ok-outs.ensures;
      op = refl;
      width = refl;
      first = refl;
    })

pub returns-clause-shape : goal.returns-clause-shape
returns-clause-shape c =
    one_bit_each c.of.result (codes "a") (codes "y") _ c.args.count (record {
      differ = λ e. let heads : 97 ≡ 121 = ap (λ xs. get_or xs 0 0) e in omega arith;
      ports = ap (λ (x : Machine). x.face.ports) c.of.ensures ∙ c.in_ok-face.ensures.ports;
      rows = ap (λ (x : Machine). x.summary.rows) c.of.ensures ∙ c.in_ok-summary.ensures;
      regs = ap (λ (x : Machine). x.regs) c.of.ensures ∙ c.new.ensures;
      kids = ap (λ (x : Machine). x.kids) c.of.ensures ∙ c.new-2.ensures;
      code = ap (λ (x : Machine). x.code) c.of.ensures ∙ c.in_ok-code.ensures;
      some = c.requires;
      outs = ap (λ (x : Machine). x.outs) c.of.ensures ∙ c.in_ok-outs.ensures;
      op = refl;
      width = refl;
      first = refl;
    })

pub returns-clause-first : goal.returns-clause-first
returns-clause-first c =
    first_is_one c.of.result (codes "a") (codes "y") _ c.args.count (record {
      differ = λ e. let heads : 97 ≡ 121 = ap (λ xs. get_or xs 0 0) e in omega arith;
      ports = ap (λ (x : Machine). x.face.ports) c.of.ensures ∙ c.in_ok-face.ensures.ports;
      rows = ap (λ (x : Machine). x.summary.rows) c.of.ensures ∙ c.in_ok-summary.ensures;
      regs = ap (λ (x : Machine). x.regs) c.of.ensures ∙ c.new.ensures;
      kids = ap (λ (x : Machine). x.kids) c.of.ensures ∙ c.new-2.ensures;
      code = ap (λ (x : Machine). x.code) c.of.ensures ∙ c.in_ok-code.ensures;
      some = c.requires;
      outs = ap (λ (x : Machine). x.outs) c.of.ensures ∙ c.in_ok-outs.ensures;
      op = refl;
      width = refl;
      first = refl;
    })
