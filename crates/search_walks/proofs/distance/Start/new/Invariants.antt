use Rattle.search_walks.specs.Layers.{Starts}
use Rattle.search_walks.proofs.distance.Start.new.Given as goal

abbrev pub invariant-loop-outcome : goal.invariant-loop-outcome
invariant-loop-outcome l = Starts l.checked l.covered l.outcome l.start.distances.items l.start.next.items
