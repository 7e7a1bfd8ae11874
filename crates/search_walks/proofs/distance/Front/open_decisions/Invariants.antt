use Rattle.std.proofs.Common.{take}
use Rattle.search_walks.specs.Layers.{Opens, DecisionsOf}
use Rattle.search_walks.proofs.distance.Front.open_decisions.Given as goal

abbrev pub invariant-loop-outcome : goal.invariant-loop-outcome
invariant-loop-outcome l = Opens l.initial.self.passed.items l.initial.self.open.items l.self.passed.items l.self.open.items (DecisionsOf l.flow.decisions.rows.items (take l.outcome-index l.outcomes))
