use Rattle.std.proofs.Common.{◌+◌, length}
use Rattle.search_walks.specs.Layers.{Passing, unpassed}
use Rattle.search_walks.proofs.distance.Front.pass.Given as goal

abbrev pub invariant-loop-at : goal.invariant-loop-at
invariant-loop-at l = Passing l.flow.before.rows.items l.flow.outcomes.rows.items l.flow.decisions.rows.items l.distance l.initial.distances.items l.initial.self.passed.items l.initial.self.open.items l.initial.next.items l.distances.items l.self.passed.items l.self.open.items l.next.items

abbrev pub decreases-loop-at : goal.decreases-loop-at
decreases-loop-at l = unpassed l.self.passed.items + length l.self.open.items
