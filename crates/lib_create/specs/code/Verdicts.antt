-- Verdicts as the program keeps them.
use Rattle.lib_create.specs.declared.verdict.BadLine as kept_line
use Rattle.lib_create.specs.declared.verdict.Verdict as kept
use Rattle.lib_create.specs.declared.verdict.Verdict.TheVariants as ends
use Rattle.lib_create.specs.code.CommandWords.{misuse_seen}
use Rattle.stimulus_reader.specs.Stimulus.{BadLine}
use Rattle.lib_create.specs.Outcome.{Verdict, Done, Misused, SourceAbsent, SourceRefused, StimulusAbsent, Bad}

-- a bad line without where its word lies
abbrev pub bad_seen : kept_line.BadLine → BadLine
bad_seen b = record { line = b.line; reason = b.reason; word = b.word.items }

-- a verdict without where its words lie
abbrev pub verdict_seen : kept.Verdict → Verdict
verdict_seen ends.Done = Done
verdict_seen (ends.Misused misuse) = Misused (misuse_seen misuse)
verdict_seen (ends.SourceAbsent file) = SourceAbsent file.now
verdict_seen (ends.SourceRefused file refusal) = SourceRefused file.now refusal
verdict_seen ends.StimulusAbsent = StimulusAbsent
verdict_seen (ends.Bad bad) = Bad (bad_seen bad)
