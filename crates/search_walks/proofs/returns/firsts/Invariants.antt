use Rattle.std.proofs.Common.{◌≡◌, ◌-◌}
use Rattle.tac_lower.specs.Flow.{last_first}
use Rattle.search_walks.specs.Returns.{FirstsUpTo}
use Rattle.search_walks.proofs.returns.firsts.Given as goal

abbrev pub invariant-loop-at : goal.invariant-loop-at
invariant-loop-at l = record { done : FirstsUpTo l.tac l.at l.firsts.items; before : l.last ≡ last_first (l.at - 1) l.tac.funcs }
