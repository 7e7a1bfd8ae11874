use Rattle.std.proofs.Common.{◌≡◌, ◌++◌, drop, reverse}
use Rattle.cc_base.specs.Groups.{atoms_on}
use Rattle.linear_solver.specs.Atoms.{seen_atoms}
use Rattle.linear_solver.proofs.parts.group_of.Given as goal

abbrev pub invariant-loop-a : goal.invariant-loop-a
invariant-loop-a l = seen_atoms l.out.items ++ atoms_on (reverse l.part) (seen_atoms (drop l.a-index l.atoms)) ≡ atoms_on (reverse l.part) (seen_atoms l.atoms)
