use Rattle.search_walks.specs.Covering.{Marks, IsTakenUpTo}
use Rattle.search_walks.proofs.covering.mark_events.Given as goal

abbrev pub invariant-loop-event : goal.invariant-loop-event
invariant-loop-event l = Marks l.initial.covered.items l.covered.items (IsTakenUpTo l.checked l.events l.event-index) l.is_new
