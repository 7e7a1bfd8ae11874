use Rattle.search_walks.specs.Backwards.{FlowUpTo}
use Rattle.search_walks.proofs.flow.Flow.new.Given as goal

abbrev pub invariant-loop-at : goal.invariant-loop-at
invariant-loop-at l = FlowUpTo l.checked l.tac l.at l.flow.before.rows.items l.flow.outcomes.rows.items l.flow.decisions.rows.items
