use Rattle.std.proofs.Common.{ℕ, List, [], ◌∷◌, rules}
use Rattle.std.specs.List.{IsDistinct}
use Rattle.std.specs.Str.{bytes_eq}
use Rattle.session.proofs.untold_tests.face.Goals as goal

-- the names of the ports
abbrev names : List (List ℕ)
names = (97 ∷ []) ∷ (121 ∷ []) ∷ []

apart : IsDistinct bytes_eq names
unfolding IsDistinct
apart = search rules

pub returns-clause-distinct : goal.returns-clause-distinct
returns-clause-distinct c = rw (c.in_ok-push-2.ensures.ok, c.in_ok-push.ensures.ok, c.new-ports.ensures, c.in_ok-port.ensures.name, c.in_ok-port-2.ensures.name)
    apart
