use Rattle.std.proofs.Common.{◌≡◌, ◌+◌, [], length}
use Rattle.search_walks.specs.Layers.{Found, nones}
use Rattle.search_walks.proofs.distance.distances_over.Given as goal

abbrev pub invariant-layers : goal.invariant-layers
invariant-layers l = record { found : Found l.checked l.tac l.covered l.distance l.distances.items l.front.passed.items l.next.items; none_open : l.front.open.items ≡ [] }

abbrev pub decreases-layers : goal.decreases-layers
decreases-layers l = nones l.distances.items + length l.next.items
