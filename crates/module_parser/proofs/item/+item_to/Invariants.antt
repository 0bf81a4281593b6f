use Rattle.module_parser.proofs.item.+item_to.Given as goal

abbrev pub decreases-item_to : goal.decreases-item_to
decreases-item_to l = l.depth
