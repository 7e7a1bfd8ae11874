use Rattle.linear_solver.specs.Atoms.{seen_atoms}
use Rattle.linear_solver.specs.Spans.{ExcludesOnly}
use Rattle.linear_solver.proofs.one_place.marks_of.Given as goal

abbrev pub invariant-loop-a : goal.invariant-loop-a
invariant-loop-a l = ExcludesOnly l.place l.low (seen_atoms l.atoms) l.marks.items
