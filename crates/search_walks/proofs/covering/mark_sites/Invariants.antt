use Rattle.search_walks.specs.Covering.{Marks, IsAmong}
use Rattle.search_walks.proofs.covering.mark_sites.Given as goal

abbrev pub invariant-loop-site : goal.invariant-loop-site
invariant-loop-site l = Marks l.initial.covered.items l.covered.items (IsAmong l.checked l.token l.side l.site) l.is_new
