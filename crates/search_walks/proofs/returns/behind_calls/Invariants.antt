use Rattle.search_walks.specs.Returns.{BehindUpTo}
use Rattle.search_walks.proofs.returns.behind_calls.Given as goal

abbrev pub invariant-loop-at : goal.invariant-loop-at
invariant-loop-at l = BehindUpTo l.tac l.at l.behind.rows.items
