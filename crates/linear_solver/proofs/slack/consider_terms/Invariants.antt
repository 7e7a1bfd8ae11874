use Rattle.std.proofs.Common.{◌≡◌, drop}
use Rattle.cc_base.specs.Pass.{best_in}
use Rattle.linear_solver.specs.Seen.{seen_all}
use Rattle.linear_solver.specs.Ranks.{Known}
use Rattle.linear_solver.proofs.slack.consider_terms.Given as goal

abbrev pub invariant-loop-t : goal.invariant-loop-t
invariant-loop-t l = record {
  known : Known (seen_all l.list) l.best;
  same : best_in (seen_all l.list) l.best.rank.place (drop l.t-index l.terms) ≡ best_in (seen_all l.list) l.fn.best.rank.place l.terms;
}
