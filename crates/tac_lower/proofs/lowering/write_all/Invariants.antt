-- The functions from `left` on are written.
use Rattle.std.proofs.Common.{◌≤◌, length}
use Rattle.tac_lower.specs.Written.{AreWritten}
use Rattle.tac_lower.proofs.lowering.write_all.Given as goal

abbrev pub invariant-loop-left : goal.invariant-loop-left
invariant-loop-left l = record {
  within : l.left ≤ length (l.checked).funcs;
  written : AreWritten l.checked l.left l.code l.funcs;
}

abbrev pub decreases-loop-left : goal.decreases-loop-left
decreases-loop-left l = l.left
