use Rattle.std.proofs.Common.{◌≡◌, ◌++◌, take}
use Rattle.search_walks.specs.Offers.{offers_at}
use Rattle.search_walks.proofs.candidates.add_all.Given as goal

abbrev pub invariant-loop-choice : goal.invariant-loop-choice
invariant-loop-choice l = l.all.items ≡ l.initial.all.items ++ offers_at l.event l.site (take l.choice-index l.others)
