use Rattle.std.proofs.Common.{◌≡◌, ◌++◌, drop}
use Rattle.cc_base.specs.Pass.{others}
use Rattle.linear_solver.specs.Seen.{seen_all}
use Rattle.linear_solver.proofs.eliminate.others_of.Given as goal

abbrev pub invariant-loop-i : goal.invariant-loop-i
invariant-loop-i l = seen_all l.out.items ++ others l.place (seen_all (drop l.i-index l.list)) ≡ others l.place (seen_all l.list)
