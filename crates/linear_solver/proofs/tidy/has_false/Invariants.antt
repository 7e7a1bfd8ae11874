use Rattle.std.proofs.Common.{◌≡◌, drop}
use Rattle.cc_base.specs.Pass.{some_false}
use Rattle.linear_solver.specs.Seen.{seen_all}
use Rattle.linear_solver.proofs.tidy.has_false.Given as goal

abbrev pub invariant-loop-i : goal.invariant-loop-i
invariant-loop-i l = some_false (seen_all (drop l.i-index l.list)) ≡ some_false (seen_all l.list)
