use Rattle.std.proofs.Common.{◌↔◌, drop}
use Rattle.cc_base.specs.Groups.{HoldAll}
use Rattle.linear_solver.specs.Atoms.{seen_atoms}
use Rattle.linear_solver.specs.Seen.{at_places}
use Rattle.linear_solver.proofs.holding.hold_all.Given as goal

abbrev pub invariant-loop-a : goal.invariant-loop-a
invariant-loop-a l = HoldAll (at_places l.values) (seen_atoms l.atoms) ↔ HoldAll (at_places l.values) (seen_atoms (drop l.a-index l.atoms))
