use Rattle.std.proofs.Common.{◌≡◌, ◌++◌, drop}
use Rattle.cc_base.specs.Pass.{paired_with, uppers}
use Rattle.linear_solver.specs.Seen.{seen, seen_all}
use Rattle.linear_solver.proofs.eliminate.pair_with.Given as goal

abbrev pub invariant-loop-other : goal.invariant-loop-other
invariant-loop-other l = seen_all l.out.items ++ paired_with l.mode l.place (seen l.lower) (uppers l.place (seen_all (drop l.other-index l.list))) ≡
    seen_all l.fn.out.items ++ paired_with l.mode l.place (seen l.lower) (uppers l.place (seen_all l.list))
