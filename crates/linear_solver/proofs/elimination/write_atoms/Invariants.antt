use Rattle.std.proofs.Common.{◌≡◌, ◌++◌, drop}
use Rattle.cc_base.specs.Need.{all_written}
use Rattle.linear_solver.specs.Atoms.{seen_atoms}
use Rattle.linear_solver.specs.Seen.{seen_all}
use Rattle.linear_solver.proofs.elimination.write_atoms.Given as goal

abbrev pub invariant-loop-a : goal.invariant-loop-a
invariant-loop-a l = seen_all l.out.items ++ all_written (seen_atoms (drop l.a-index l.atoms)) ≡ seen_all l.fn.out.items ++ all_written (seen_atoms l.atoms)
