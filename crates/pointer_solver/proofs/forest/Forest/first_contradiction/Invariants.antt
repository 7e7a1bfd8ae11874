use Rattle.std.proofs.Common.{◌≡◌, ℕ, length}
use Rattle.sym_expr.specs.AtomsSeen.{atoms_of}
use Rattle.pointer_solver.specs.Forest.{IsForest, IsRooted, NoneBefore}
use Rattle.pointer_solver.proofs.forest.Forest.first_contradiction.Given as goal

abbrev pub invariant-loop-i : goal.invariant-loop-i
invariant-loop-i l = record {
  forest : IsForest l.self.parents.items l.self.ranks.items;
  len : length l.self.parents.items ≡ length l.fn.self.parents.items;
  found : (root : ℕ → ℕ) → IsRooted l.fn.self.parents.items root → IsRooted l.self.parents.items root × NoneBefore root (atoms_of l.atoms) l.i;
}
