use Rattle.std.proofs.Common.{◌≡◌, drop, map}
use Rattle.std.specs.List.{find}
use Rattle.std.specs.String.{string_bytes}
use Rattle.lib_create.specs.Command.{is_option}
use Rattle.lib_create.proofs.command.first_option.Given as goal

-- no word so far is an option
abbrev pub invariant-loop-word : goal.invariant-loop-word
invariant-loop-word l = find is_option (map string_bytes (drop l.word-index l.words)) ≡ find is_option (map string_bytes l.words)
