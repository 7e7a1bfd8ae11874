use Rattle.search_walks.specs.Nearest.{IsLeast, IsAtToken}
use Rattle.search_walks.proofs.directed.distance_at_token.Given as goal

abbrev pub invariant-loop-site : goal.invariant-loop-site
invariant-loop-site l = IsLeast (IsAtToken l.checked l.distances l.token l.side l.site) l.least
