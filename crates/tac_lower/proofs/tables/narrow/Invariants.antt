-- The types from `left` on are narrow.
use Rattle.std.proofs.Common.{◌≤◌, length}
use Rattle.tac_lower.specs.Marking.{NarrowFrom}
use Rattle.tac_lower.proofs.tables.narrow.Given as goal

abbrev pub invariant-loop-left : goal.invariant-loop-left
invariant-loop-left l = record {
  within : l.left ≤ length (l.checked).layouts;
  narrow : NarrowFrom l.checked l.left;
}

abbrev pub decreases-loop-left : goal.decreases-loop-left
decreases-loop-left l = l.left
