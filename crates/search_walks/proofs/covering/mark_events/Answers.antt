use Rattle.std.proofs.Common.{◌∙◌}
use Rattle.search_base.proofs.TermLaws.{there_is}
use Rattle.search_walks.proofs.CoverLaws.{taken_none, taken_more}
use Rattle.search_walks.proofs.covering.mark_events.Goals as goal

pub loop-event-init : goal.loop-event-init
loop-event-init c = taken_none _ _ _

pub mark_event-requires : goal.mark_event-requires
mark_event-requires c = (c.loop-event.invariant).size ∙ c.requires

pub loop-event-preserved : goal.loop-event-preserved
loop-event-preserved c = taken_more _ _ _ _ _ _ _ _ _ (c.event-item.result) (there_is _ _ _ c.loop-event-test.true c.event-item.is) c.either-is_new.ensures c.loop-event.invariant c.mark_event.ensures
