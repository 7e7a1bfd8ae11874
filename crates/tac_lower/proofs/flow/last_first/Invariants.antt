-- The functions from `left` on are looked at.
use Rattle.std.proofs.Common.{◌≡◌, ◌≤◌, length, drop}
use Rattle.tac_lower.specs.Flow.{last_first}
use Rattle.tac_lower.proofs.flow.last_first.Given as goal

abbrev pub invariant-loop-left : goal.invariant-loop-left
invariant-loop-left l = record {
  within : l.left ≤ length l.functions;
  done : l.last ≡ last_first l.at (drop l.left l.functions);
}

abbrev pub decreases-loop-left : goal.decreases-loop-left
decreases-loop-left l = l.left
