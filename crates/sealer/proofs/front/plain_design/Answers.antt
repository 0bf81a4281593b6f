use Rattle.sealer.proofs.Fronts.{specialised_so}
use Rattle.sealer.proofs.front.plain_design.Goals as goal

pub is_plain-requires : goal.is_plain-requires
is_plain-requires c = record {
  lawful =
      c.specialisations_are_lawful.ensures.lawful c.args.module.now c.in_ok-spec.spec (specialised_so c.args.module.now c.in_ok-spec.spec c.in_ok-spec.ensures);
}
