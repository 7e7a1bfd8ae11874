use Rattle.std.proofs.Common.{◌≡◌, ◌+◌, ℕ, length}
use Rattle.pointer_solver.specs.Forest.{up}
use Rattle.pointer_solver.proofs.forest.Forest.new.Given as goal

abbrev pub invariant-loop-place : goal.invariant-loop-place
invariant-loop-place l = record {
  len : length l.parents.items ≡ l.place + 1;
  roots : (x : ℕ) → up l.parents.items x ≡ x;
}
