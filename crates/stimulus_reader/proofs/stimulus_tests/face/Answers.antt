use Rattle.std.proofs.Common.{ℕ, List, [], ◌∷◌, rules}
use Rattle.std.specs.List.{IsDistinct}
use Rattle.std.specs.Str.{bytes_eq}
use Rattle.stimulus_reader.proofs.stimulus_tests.face.Goals as goal

-- the names of the ports
abbrev names : List (List ℕ)
names = (97 ∷ []) ∷ (121 ∷ []) ∷ (119 ∷ []) ∷ (113 ∷ []) ∷ (99 ∷ 108 ∷ 107 ∷ []) ∷ (101 ∷ []) ∷ (105 ∷ []) ∷ []

apart : IsDistinct bytes_eq names
unfolding IsDistinct
apart = search rules

pub returns-clause-distinct : goal.returns-clause-distinct
returns-clause-distinct c = rw (c.in_ok-push-7.ensures.ok, c.in_ok-push-6.ensures.ok, c.in_ok-push-5.ensures.ok, c.in_ok-push-4.ensures.ok, c.in_ok-push-3.ensures.ok, c.in_ok-push-2.ensures.ok, c.in_ok-push.ensures.ok, c.new-ports.ensures, c.in_ok-port.ensures.name, c.in_ok-port-2.ensures.name, c.in_ok-port-3.ensures.name, c.in_ok-port-4.ensures.name, c.in_ok-port-5.ensures.name, c.in_ok-port-6.ensures.name, c.in_ok-port-7.ensures.name) apart
