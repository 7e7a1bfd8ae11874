use Rattle.std.proofs.Common.{◌≡◌, ◌++◌, drop}
use Rattle.cc_base.specs.Need.{bounds, first_list}
use Rattle.linear_solver.specs.Atoms.{seen_atoms}
use Rattle.linear_solver.specs.Seen.{seen_all}
use Rattle.linear_solver.proofs.elimination.first_list_of.Given as goal

abbrev pub invariant-loop-x : goal.invariant-loop-x
invariant-loop-x l = seen_all l.out.items ++ bounds l.lo l.hi (drop l.x-index l.places) ≡ first_list l.lo l.hi (seen_atoms l.atoms)
