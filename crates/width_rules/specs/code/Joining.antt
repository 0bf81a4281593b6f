-- Parts that are joined.
use Rattle.std.specs.Prelude.{ℕ}
use Rattle.width_rules.specs.declared.joined.Joined.{Joined}
use Rattle.width_rules.specs.declared.joined.Joined.TheVariants.{Nothing, Whole, TooWide}
use Rattle.width_rules.specs.Nodes.{nodes_of}

-- how many nodes the parts have together
abbrev pub joined_nodes : Joined → ℕ
joined_nodes Nothing = 0
joined_nodes (Whole w term) = nodes_of term
joined_nodes TooWide = 0
