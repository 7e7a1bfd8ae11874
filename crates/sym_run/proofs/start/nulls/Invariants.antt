use Rattle.std.proofs.Common.{◌≡◌, ℕ, Some, slice_get}
use Rattle.checked_memory.specs.declared.values.Cell.{Cell}
use Rattle.sym_run.specs.Starting.{null_cell}
use Rattle.sym_run.proofs.start.nulls.Given as goal

abbrev pub invariant-loop-number : goal.invariant-loop-number
invariant-loop-number l = (n : ℕ) (c : Cell) → slice_get l.cells n ≡ Some c → c ≡ null_cell
