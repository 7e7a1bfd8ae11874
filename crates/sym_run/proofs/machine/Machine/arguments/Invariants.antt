use Rattle.std.proofs.Common.{◌≡◌, ◌+◌, ℕ, Some, slice_get, length}
use Rattle.checked_memory.specs.declared.values.Cell.{Cell}
use Rattle.sym_run.proofs.machine.Machine.arguments.Given as goal

-- the arguments so far
abbrev pub invariant-loop-number : goal.invariant-loop-number
invariant-loop-number l = record {
  count : length l.cells ≡ l.number;
  there : (n : ℕ) (c : Cell) → slice_get l.cells n ≡ Some c → slice_get l.self.temps (l.first + n) ≡ Some c;
}
