use Rattle.linear_solver.specs.Atoms.{seen_atoms}
use Rattle.linear_solver.specs.Spans.{EnclosesAll}
use Rattle.linear_solver.proofs.one_place.all_enclosed.Given as goal

abbrev pub invariant-loop-a : goal.invariant-loop-a
invariant-loop-a l = EnclosesAll l.place (seen_atoms l.atoms) l.fn.span l.rest
