-- The table has what the notes from `left` on say.
use Rattle.std.proofs.Common.{◌≤◌, length, drop}
use Rattle.c_scopes.specs.Noted.{Tells}
use Rattle.c_scopes.proofs.noted.gather.Given as goal

abbrev pub invariant-loop-left : goal.invariant-loop-left
invariant-loop-left l = record {
  within : l.left ≤ length l.notes;
  told : Tells l.left (drop l.left l.notes) l.table;
}

abbrev pub decreases-loop-left : goal.decreases-loop-left
decreases-loop-left l = l.left
