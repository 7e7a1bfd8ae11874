use Rattle.std.proofs.Common.{◌≡◌, ◌++◌, drop}
use Rattle.cc_base.specs.Pass.{eliminate, all_paired, lowers, uppers}
use Rattle.linear_solver.specs.Seen.{seen_all}
use Rattle.linear_solver.proofs.eliminate.eliminate_of.Given as goal

abbrev pub invariant-loop-i : goal.invariant-loop-i
invariant-loop-i l = seen_all l.out.items ++ all_paired l.mode l.place (lowers l.place (seen_all (drop l.i-index l.list))) (uppers l.place (seen_all l.list)) ≡ eliminate l.mode l.place (seen_all l.list)
