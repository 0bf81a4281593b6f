use Rattle.std.proofs.Common.{◌≡◌, ◌<◌, ◌^◌, drop, Some}
use Rattle.stimulus_reader.specs.Stimulus.{number_from}
use Rattle.stimulus_reader.proofs.setting.number.Given as goal

abbrev pub invariant-loop-b : goal.invariant-loop-b
invariant-loop-b l = record {
  below : l.number < 16 ^ l.b-index;
  rest : number_from (Some l.number) (drop l.b-index l.digits) ≡ number_from (Some 0) l.digits;
}
