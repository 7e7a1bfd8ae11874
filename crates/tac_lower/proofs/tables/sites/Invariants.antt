-- The sites from `left` on are in the table.
use Rattle.std.proofs.Common.{◌≤◌, length}
use Rattle.tac_lower.specs.Marking.{AreMarked}
use Rattle.tac_lower.proofs.tables.sites.Given as goal

abbrev pub invariant-loop-left : goal.invariant-loop-left
invariant-loop-left l = record {
  within : l.left ≤ length (l.checked).sites;
  marked : AreMarked l.checked l.left l.table;
}

abbrev pub decreases-loop-left : goal.decreases-loop-left
decreases-loop-left l = l.left
