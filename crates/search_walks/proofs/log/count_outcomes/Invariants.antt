use Rattle.std.proofs.Common.{◌≡◌, ◌+◌, ◌*◌, drop}
use Rattle.search_walks.specs.Output.{decision_count}
use Rattle.search_walks.proofs.log.count_outcomes.Given as goal

abbrev pub invariant-loop-site : goal.invariant-loop-site
invariant-loop-site l = l.count + 2 * decision_count (drop l.site-index l.sites) ≡ 2 * decision_count l.sites
