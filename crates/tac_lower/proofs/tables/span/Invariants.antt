-- The tokens of the sites from `left` on are below the span.
use Rattle.std.proofs.Common.{◌≤◌, length}
use Rattle.tac_lower.specs.Marking.{IsSpan}
use Rattle.tac_lower.proofs.tables.span.Given as goal

abbrev pub invariant-loop-left : goal.invariant-loop-left
invariant-loop-left l = record {
  within : l.left ≤ length (l.checked).sites;
  spans : IsSpan l.checked l.left l.span;
}

abbrev pub decreases-loop-left : goal.decreases-loop-left
decreases-loop-left l = l.left
