-- What comes from `left` on is there, the other way round.
use Rattle.std.proofs.Common.{◌≡◌, ◌≤◌, length, drop, map, reverse}
use Rattle.tac_lower.specs.Finished.{placed}
use Rattle.tac_lower.proofs.finish.in_order.Given as goal

abbrev pub invariant-loop-left : goal.invariant-loop-left
invariant-loop-left l = record {
  within : l.left ≤ length l.written;
  done : l.code ≡ map (placed l.total) (reverse (drop l.left l.written));
}

abbrev pub decreases-loop-left : goal.decreases-loop-left
decreases-loop-left l = l.left
