use Rattle.std.proofs.Common.{take, vec_len}
use Rattle.cc_base.specs.Groups.{groups_of}
use Rattle.linear_solver.specs.Atoms.{seen_atoms}
use Rattle.linear_solver.specs.Parts.{all_backwards}
use Rattle.linear_solver.specs.Standing.{Stands}
use Rattle.linear_solver.proofs.solve.settle_parts.Given as goal

abbrev pub invariant-loop-part : goal.invariant-loop-part
invariant-loop-part l = Stands l.lo l.hi l.budget (vec_len l.fn.progress.answers) l.progress.answers.items l.progress.spent (all_backwards (take l.part-index l.cut)) (groups_of (all_backwards (take l.part-index l.cut)) (seen_atoms l.atoms))
