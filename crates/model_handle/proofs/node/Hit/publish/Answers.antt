use Rattle.std.proofs.Common.{length, sym, ◌∙◌, ap}
use Rattle.std.proofs.lemmas.List.{length-map}
use Rattle.bit_ops.specs.declared.value.Bits.{Bits}
use Rattle.sv_base.specs.declared.face.Port.{Port}
use Rattle.model_handle.proofs.node.Hit.publish.Goals as goal

pub returns-clause-ready : goal.returns-clause-ready
returns-clause-ready g c = record {
  rest = c.requires.struck.rest;
  each = sym (length-map c.args.self.shown.items (λ (b : Bits). b.width)) ∙ ap length c.requires.struck.wide ∙ length-map _ (λ (p : Port). p.width);
}
