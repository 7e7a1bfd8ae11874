use Rattle.std.proofs.Common.{◌≡◌, ℕ, length, take}
use Rattle.sym_expr.specs.AtomsSeen.{atoms_of}
use Rattle.pointer_solver.specs.Forest.{IsForest, IsRooted}
use Rattle.pointer_solver.specs.Marks.{marked_all}
use Rattle.pointer_solver.proofs.forest.Forest.mark_all.Given as goal

abbrev pub invariant-loop-atom : goal.invariant-loop-atom
invariant-loop-atom l = record {
  forest : IsForest l.self.parents.items l.self.ranks.items;
  len : length l.self.parents.items ≡ length l.fn.self.parents.items;
  size : length l.classes ≡ length l.fn.classes;
  marked : (root : ℕ → ℕ) → IsRooted l.fn.self.parents.items root → IsRooted l.self.parents.items root × (l.classes ≡ marked_all root (atoms_of (take l.atom-index l.atoms)) l.fn.classes);
}
