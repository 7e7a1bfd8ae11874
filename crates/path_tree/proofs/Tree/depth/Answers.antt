use Rattle.std.proofs.Common.{subst}
use Rattle.path_tree.specs.Branches.{Branches, EachAscends}
use Rattle.path_tree.proofs.Turns.{all_ascend}
use Rattle.path_tree.proofs.Tree.depth.Goals as goal

pub returns-clause-ascending : goal.returns-clause-ascending
returns-clause-ascending c = subst (λ (b : Branches). EachAscends b.levels) c.self.view_is (all_ascend _ (c.self.invariant).fits)
