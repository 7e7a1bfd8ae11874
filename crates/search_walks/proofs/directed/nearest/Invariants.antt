use Rattle.search_walks.specs.Nearest.{IsFirstUpTo, IsAtPlace}
use Rattle.search_walks.proofs.directed.nearest.Given as goal

abbrev pub invariant-loop-at : goal.invariant-loop-at
invariant-loop-at l = IsFirstUpTo (IsAtPlace l.checked l.distances l.open) l.at l.least
