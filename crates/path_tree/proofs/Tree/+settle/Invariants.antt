use Rattle.path_tree.proofs.Settles.{open_below}
use Rattle.path_tree.proofs.Tree.+settle.Given as goal

abbrev pub decreases-settle : goal.decreases-settle
decreases-settle l = open_below l.self.now.levels
