use Rattle.std.proofs.Common.{◌-◌, length}
use Rattle.linear_solver.proofs.choice.+tried_of.Given as goal

abbrev pub decreases-tried_of : goal.decreases-tried_of
decreases-tried_of l = length l.atoms.now - l.from
