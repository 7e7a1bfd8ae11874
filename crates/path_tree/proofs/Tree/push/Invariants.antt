use Rattle.std.proofs.Common.{◌≡◌, ◌≤◌, ◌∷◌, length, drop}
use Rattle.path_tree.proofs.Tree.push.Given as goal

-- the deepest level has the outcomes from left on
abbrev pub invariant-loop-left : goal.invariant-loop-left
invariant-loop-left l = (l.left ≤ length l.outcomes) × (l.self ≡ record { most = l.fn.self.most; levels = drop l.left l.outcomes ∷ l.fn.self.levels })

abbrev pub decreases-loop-left : goal.decreases-loop-left
decreases-loop-left l = l.left
