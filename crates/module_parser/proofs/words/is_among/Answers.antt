use Rattle.std.proofs.Common.{◌∙◌}
use Rattle.module_parser.proofs.Among.{among}
use Rattle.module_parser.proofs.words.is_among.Goals as goal

pub returns : goal.returns
returns c = c.contains.ensures ∙ among c.args.text.now c.args.texts.now
