use Rattle.std.proofs.Common.{◌≡◌, ◌++◌, drop}
use Rattle.search_walks.specs.Offers.{offers_from}
use Rattle.search_walks.proofs.candidates.candidates.Given as goal

abbrev pub invariant-loop-at : goal.invariant-loop-at
invariant-loop-at l = l.all.items ++ offers_from l.at (drop l.at l.events) ≡ offers_from 0 l.events
