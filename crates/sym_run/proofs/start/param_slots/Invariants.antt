use Rattle.std.proofs.Common.{◌≡◌, ℕ, Some, slice_get, length}
use Rattle.checked_memory.specs.declared.values.Cell.{Cell}
use Rattle.sym_run.specs.Starting.{pointer_to_param}
use Rattle.sym_run.proofs.start.param_slots.Given as goal

abbrev pub invariant-loop-number : goal.invariant-loop-number
invariant-loop-number l = record {
  count : length l.slots ≡ l.number;
  set : (n : ℕ) (c : Cell) → slice_get l.slots n ≡ Some (Some c) → c ≡ pointer_to_param n;
}
