-- The tokens from `left` on have their first numbers, and all of them are in the table.
use Rattle.std.proofs.Common.{ℕ, ◌<◌, ◌≤◌, length, get_or}
use Rattle.tac_lower.specs.Marking.{AreNumbered}
use Rattle.tac_lower.proofs.tables.numbers.Given as goal

abbrev pub invariant-loop-left : goal.invariant-loop-left
invariant-loop-left l = record {
  within : l.left ≤ length l.tokens;
  covers : (k : ℕ) → k < length l.tokens → get_or l.tokens k 0 < length l.table;
  numbered : AreNumbered l.tokens l.left l.table;
}

abbrev pub decreases-loop-left : goal.decreases-loop-left
decreases-loop-left l = l.left
