use Rattle.pointer_solver.proofs.Solved.{Solves-none}
use Rattle.pointer_solver.proofs.forest.Forest.new.Goals as goal

pub returns-clause-solved : goal.returns-clause-solved
returns-clause-solved c = Solves-none c.loop-place.parents.items c.loop-place.invariant.roots
