-- The words of the command line as the program keeps them.
use Rattle.std.specs.Prelude.{Result, Ok, Err}
use Rattle.lib_create.specs.declared.command.Sim as kept
use Rattle.lib_create.specs.declared.command.Misuse as refused
use Rattle.lib_create.specs.declared.command.Misuse.TheVariants as cause
use Rattle.lib_create.specs.Command.{Sim, Misuse, Wrong, TooFew}

-- a command without where its words lie
abbrev pub sim_seen : kept.Sim → Sim
sim_seen s = record { stimulus = s.stimulus.now; top = s.top.now; file = s.file.now }

-- a misuse without where its word lies
abbrev pub misuse_seen : refused.Misuse → Misuse
misuse_seen (cause.Wrong word) = Wrong word.now
misuse_seen cause.TooFew = TooFew

-- what was read of words
abbrev pub said : Result kept.Sim refused.Misuse → Result Sim Misuse
said (Ok s) = Ok (sim_seen s)
said (Err m) = Err (misuse_seen m)
