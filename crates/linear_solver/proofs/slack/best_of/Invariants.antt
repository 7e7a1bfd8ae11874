use Rattle.std.proofs.Common.{◌≡◌, drop}
use Rattle.cc_base.specs.Pass.{best}
use Rattle.linear_solver.specs.Seen.{seen_all}
use Rattle.linear_solver.specs.Ranks.{Known}
use Rattle.linear_solver.proofs.slack.best_of.Given as goal

abbrev pub invariant-loop-i : goal.invariant-loop-i
invariant-loop-i l = record {
  known : Known (seen_all l.list) l.best;
  same : best (seen_all l.list) l.best.rank.place (seen_all (drop l.i-index l.list)) ≡ best (seen_all l.list) l.first (seen_all l.list);
}
