use Rattle.std.proofs.Common.{◌∙◌, ap}
use Rattle.expr_parser.proofs.Last.{last_place-index}
use Rattle.expr_parser.proofs.cursor.last_place.Goals as goal

pub returns-in-len1-up : goal.returns-in-len1-up
returns-in-len1-up c = ap (λ t. t.place) c.token-item.is ∙ last_place-index c.args.tokens.now _ c.in-len1-up.len_at_least
