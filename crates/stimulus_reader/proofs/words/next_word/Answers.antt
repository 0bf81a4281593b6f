use Rattle.std.proofs.Common.{sym, ◌∙◌}
use Rattle.stimulus_reader.proofs.StimulusWords.{front_none, front_parts}
use Rattle.stimulus_reader.proofs.words.next_word.Goals as goal

pub returns-in_err-start-clause-words : goal.returns-in_err-start-clause-words
returns-in_err-start-clause-words c = rw c.from_residual.ensures (front_none c.args.text.now (sym c.word_start.ensures ∙ c.in_err-start.was))

pub returns-clause-words : goal.returns-clause-words
returns-clause-words c = (front_parts c.args.text.now _ _ _ _ _ _ _ c.word_start.ensures c.in_ok-start.was c.split_at.ensures.back c.word_end.ensures c.unwrap_or-end.ensures c.split_at-2.ensures.front c.split_at-2.ensures.back).0

pub returns-clause-shorter : goal.returns-clause-shorter
returns-clause-shorter c = (front_parts c.args.text.now _ _ _ _ _ _ _ c.word_start.ensures c.in_ok-start.was c.split_at.ensures.back c.word_end.ensures c.unwrap_or-end.ensures c.split_at-2.ensures.front c.split_at-2.ensures.back).1
