use Rattle.std.proofs.Common.{◌*◌, ◌≤◌, subst}
use Rattle.path_tree.specs.Branches.{Branches}
use Rattle.path_tree.proofs.Turns.{live_few}
use Rattle.path_tree.proofs.Tree.live.Goals as goal

pub returns-clause-bound : goal.returns-clause-bound
returns-clause-bound c = subst (λ (b : Branches). c.self.inside.live ≤ 30 * b.most) c.self.view_is (live_few _ _ _ _ _ _ _ c.self.invariant)
