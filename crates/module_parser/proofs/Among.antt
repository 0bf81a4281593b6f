-- A text among those that references show.
use Rattle.std.proofs.Common.{◌≡◌, ℕ, ◌||◌, List, [], ◌∷◌, map, Bor, refl, ap}
use Rattle.std.specs.List.{list_any}
use Rattle.std.specs.Str.{bytes_eq}
use Rattle.expr_parser.specs.Spelling.{is_among}

pub among : (text : List ℕ) (texts : List (Bor (List ℕ))) → list_any (λ t. bytes_eq text t.now) texts ≡ is_among (map (λ t. t.now) texts) text
among text [] = refl
among text (t ∷ ts) = ap (λ b. bytes_eq text t.now || b) (among text ts)
