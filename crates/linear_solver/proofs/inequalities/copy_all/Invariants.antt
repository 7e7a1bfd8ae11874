use Rattle.std.proofs.Common.{◌≡◌, ◌++◌, drop}
use Rattle.linear_solver.specs.Seen.{seen_all}
use Rattle.linear_solver.proofs.inequalities.copy_all.Given as goal

abbrev pub invariant-loop-i : goal.invariant-loop-i
invariant-loop-i l = seen_all l.out.items ++ seen_all (drop l.i-index l.list) ≡ seen_all l.list
