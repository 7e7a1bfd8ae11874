use Rattle.std.proofs.Common.{◌≡◌, map, take}
use Rattle.search_base.proofs.choices.outcomes.Given as goal

abbrev pub invariant-loop-choice : goal.invariant-loop-choice
invariant-loop-choice l = l.outcomes.items ≡ map (λ c. c.outcome) (take l.choice-index l.choices)
