-- What comes from `left` on names temporaries below `top`.
use Rattle.std.proofs.Common.{◌≤◌, length, drop}
use Rattle.tac_lower.specs.Finished.{AllBelow}
use Rattle.tac_lower.proofs.finish.temporaries.Given as goal

abbrev pub invariant-loop-left : goal.invariant-loop-left
invariant-loop-left l = record {
  within : l.left ≤ length l.code;
  below : AllBelow l.top (drop l.left l.code);
}

abbrev pub decreases-loop-left : goal.decreases-loop-left
decreases-loop-left l = l.left
