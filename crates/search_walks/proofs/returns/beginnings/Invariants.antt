use Rattle.search_walks.specs.Returns.{BeginsUpTo}
use Rattle.search_walks.proofs.returns.beginnings.Given as goal

abbrev pub invariant-loop-function : goal.invariant-loop-function
invariant-loop-function l = BeginsUpTo l.tac l.function-index l.begins.items
