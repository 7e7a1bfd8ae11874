use Rattle.std.proofs.Common.{◌++◌, take, vec_len}
use Rattle.cc_base.specs.Groups.{groups_of, parts, placeless}
use Rattle.linear_solver.specs.Atoms.{seen_atoms}
use Rattle.linear_solver.specs.Standing.{Stands}
use Rattle.linear_solver.proofs.solve.settle_alone.Given as goal

abbrev pub invariant-loop-a : goal.invariant-loop-a
invariant-loop-a l = Stands l.lo l.hi l.budget (vec_len l.fn.progress.answers) l.progress.answers.items l.progress.spent (parts (seen_atoms l.atoms)) (groups_of (parts (seen_atoms l.atoms)) (seen_atoms l.atoms) ++ placeless (seen_atoms (take l.a-index l.atoms)))
