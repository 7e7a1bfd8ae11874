use Rattle.std.proofs.Common.{◌≡◌, ◌≤◌, length, take}
use Rattle.std.specs.List.{All}
use Rattle.sym_expr.specs.AtomsSeen.{atoms_of}
use Rattle.pointer_solver.specs.Forest.{IsForest, Solves}
use Rattle.pointer_solver.proofs.forest.Forest.state_all.Given as goal

abbrev pub invariant-loop-atom : goal.invariant-loop-atom
invariant-loop-atom l = record {
  forest : IsForest l.self.parents.items l.self.ranks.items;
  len : length l.self.parents.items ≡ length l.fn.self.parents.items;
  bound : All (λ r. r ≤ l.atom-index) l.self.ranks.items;
  solved : Solves l.self.parents.items (atoms_of (take l.atom-index l.atoms));
}
