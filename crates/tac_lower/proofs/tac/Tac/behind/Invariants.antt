-- The places behind the calls so far.
use Rattle.std.proofs.Common.{◌-◌, length}
use Rattle.tac_lower.specs.Flow.{AreThose}
use Rattle.tac_lower.specs.Edges.{BehindUpTo}
use Rattle.tac_lower.proofs.tac.Tac.behind.Given as goal

abbrev pub invariant-loop-at : goal.invariant-loop-at
invariant-loop-at l = AreThose (BehindUpTo l.self l.first l.at) l.places

abbrev pub decreases-loop-at : goal.decreases-loop-at
decreases-loop-at l = length l.self.code - l.at
