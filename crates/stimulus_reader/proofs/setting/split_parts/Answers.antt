use Rattle.std.proofs.Common.{sym}
use Rattle.stimulus_reader.proofs.StimulusSettings.{parts_none, parts_split}
use Rattle.stimulus_reader.proofs.setting.split_parts.Goals as goal

pub returns-in_err-at : goal.returns-in_err-at
returns-in_err-at c = rw c.from_residual.ensures (sym (parts_none c.args.word.now _ c.equals_sign.ensures c.in_err-at.was))

pub returns : goal.returns
returns c = parts_split c.args.word.now _ _ _ _ c.in_ok-at.at c.equals_sign.ensures c.in_ok-at.was c.split_at.ensures.front c.split_at.ensures.back c.split_at-2.ensures.back
