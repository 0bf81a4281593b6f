use Rattle.lib_create.proofs.PlayedOut.{over_folder}
use Rattle.lib_create.proofs.playing.play_file.Goals as goal

pub returns-clause-played : goal.returns-clause-played
returns-clause-played g c =
    over_folder (g.D.Folder.content c.args.folder.now) c.args.stimulus.now (g.B.Bench.meaning c.args.bench.now) c.play.result _ _ _ _ c.play.ensures.played
