-- what a search tells that has met every node
use Rattle.std.proofs.Common.{◌≡◌, ℕ, ◌<◌, List, length, get_or, ◌∙◌, sym, arith}
use Rattle.std.specs.Prelude.{None, Some}
use Rattle.std.proofs.lemmas.Option.{same_Some}
use Rattle.std.proofs.lemmas.List.Elements.{All-from_get_or, Contains-get_or}
use Rattle.levelise.specs.declared.search.Mark.TheVariants.{New, Done}
use Rattle.levelise.specs.declared.search.Search.{Search}
use Rattle.levelise.specs.Graph.{IsLeastOnCycle, IsLevelling}
use Rattle.levelise.specs.Search.{mark_of, IsSound}
use Rattle.levelise.proofs.Lists.{count_some}
use Rattle.levelise.proofs.Paths.{node_from_Path}
use Rattle.levelise.proofs.Steps.{node_from_mark}

module _ (rows : List (List ℕ)) (s : Search) (sound : IsSound rows s) (all : (a : ℕ) → a < length rows → mark_of s.marks.items a ≡ Done) where
  listed_node : (k : ℕ) → k < length s.done.items → get_or s.done.items k 0 < length rows
  listed_node k h =
      let a = get_or s.done.items k 0 in
      let stands = Contains-get_or s.done.items k 0 h in
      let some = count_some a s.done.items stands in
      let met : mark_of s.marks.items a ≡ New → ⊥ =
      λ unmet. let none = sound.only_done a (λ finished. let bad : ⊥ = cc in bad) in omega (arith, some, none) in
      omega (arith, sound.sized, node_from_mark s.marks.items a met)

  pub levelling_found : s.least ≡ None → IsLevelling rows s.done.items
  levelling_found none = record {
    only_nodes = All-from_get_or (λ a. a < length rows) s.done.items 0 listed_node;
    each_once = λ a h. sound.done_once a (all a h);
    after_reads = sound.levelled none;
  }

  pub least_found : (n : ℕ) → s.least ≡ Some n → IsLeastOnCycle rows n
  least_found n known = record {
    on_cycle = sound.least_found n known;
    least = λ b cycle.
        let noted = sound.least_noted b (all b (node_from_Path cycle)) cycle in
        let same : noted.0 ≡ n = same_Some noted.0 n (sym noted.1 ∙ known) in
        omega (arith, noted.2);
  }
