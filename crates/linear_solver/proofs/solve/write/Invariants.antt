use Rattle.std.proofs.Common.{take}
use Rattle.linear_solver.specs.Parts.{Wrote}
use Rattle.linear_solver.specs.Seen.{at_places}
use Rattle.linear_solver.proofs.solve.write.Given as goal

abbrev pub invariant-loop-x : goal.invariant-loop-x
invariant-loop-x l = Wrote (take l.x-index l.part) (at_places l.values) l.fn.answers.items l.answers.items
