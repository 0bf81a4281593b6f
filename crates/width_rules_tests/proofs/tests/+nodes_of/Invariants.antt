use Rattle.width_rules_tests.proofs.tests.+nodes_of.Given as goal

abbrev pub decreases-nodes_of : goal.decreases-nodes_of
decreases-nodes_of l = goal.size-nodes_of l
