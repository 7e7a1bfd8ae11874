use Rattle.std.proofs.Common.{◌∙◌, ap}
use Rattle.linear_solver.specs.declared.slack.Rank.{Rank}
use Rattle.linear_solver.proofs.Ranking.{rank_pairs}
use Rattle.linear_solver.specs.Seen.{seen_all}
use Rattle.linear_solver.proofs.eliminate.pairs_of.Goals as goal

pub returns : goal.returns
returns c = ap (λ (r : Rank). r.pairs) c.rank_of.ensures ∙ rank_pairs (seen_all c.args.list.now) c.args.place
