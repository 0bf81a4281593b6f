use Rattle.std.proofs.Common.{map, sym, subst, ◌≡◌}
use Rattle.linked_units.specs.Units.{Units, AreChecked, AreWithinLimits, AreLinkedUnits}
use Rattle.linked_units.specs.code.Sharing.{unit_of}
use Rattle.linked_units.proofs.linked.from_units.Goals as goal

pub invariant_of-result : goal.invariant_of-result
invariant_of-result c =
    let checked : AreChecked c.as_slice.result.now = c.in_ok-judge.ensures.checked in
    let within : AreWithinLimits c.as_slice.result.now = c.in_ok-judge.ensures.within in
    let value : c.as_slice.result.now ≡ c.args.units.items = c.as_slice.ensures.value in
    let known : AreLinkedUnits c.args.units.items = record {
      few = c.requires.few;
      joined = c.requires.joined;
      checked = subst (λ (units : Units). AreChecked units) value checked;
      within = subst (λ (units : Units). AreWithinLimits units) value within;
    } in
    let same : map unit_of c.in_ok-units.units.items ≡ c.args.units.items = c.in_ok-units.ensures in
    subst (λ (units : Units). AreLinkedUnits units) (sym same) known
