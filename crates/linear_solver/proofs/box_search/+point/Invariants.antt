use Rattle.std.proofs.Common.{◌-◌, length}
use Rattle.linear_solver.proofs.box_search.+point.Given as goal

abbrev pub decreases-point : goal.decreases-point
decreases-point l = length l.places.now - l.from
