use Rattle.linear_solver.proofs.FirstList.{wide_number}
use Rattle.linear_solver.proofs.one_place.whole.Goals as goal

pub returns-clause-low : goal.returns-clause-low
returns-clause-low c = wide_number c.args.lo c.ranges.lo

pub returns-clause-high : goal.returns-clause-high
returns-clause-high c = wide_number c.args.hi c.ranges.hi
