use Rattle.std.proofs.Common.{◌≡◌, ◌<◌, ◌-◌, ℕ, length, sum, get_or}
use Rattle.pointer_solver.specs.Forest.{up, IsForest, IsRooted}
use Rattle.pointer_solver.proofs.forest.Forest.find.Given as goal

abbrev pub invariant-climb : goal.invariant-climb
invariant-climb l = record {
  inside : l.at < length l.self.parents.items;
  forest : IsForest l.self.parents.items l.self.ranks.items;
  ranks : l.self.ranks.items ≡ l.fn.self.ranks.items;
  len : length l.self.parents.items ≡ length l.fn.self.parents.items;
  rooted : (root : ℕ → ℕ) → IsRooted l.fn.self.parents.items root → IsRooted l.self.parents.items root × (root l.at ≡ root l.node);
  fixed : (x : ℕ) → up l.fn.self.parents.items x ≡ x → up l.self.parents.items x ≡ x;
}

abbrev pub decreases-climb : goal.decreases-climb
decreases-climb l = sum l.self.ranks.items - get_or l.self.ranks.items l.at 0
