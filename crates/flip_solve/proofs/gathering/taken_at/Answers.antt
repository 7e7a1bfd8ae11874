use Rattle.std.proofs.Common.{◌∙◌, ap}
use Rattle.sym_expr.specs.AtomsSeen.{atoms_of}
use Rattle.flip_solve.proofs.Steps.{taken_none, taken_more}
use Rattle.flip_solve.proofs.gathering.taken_at.Goals as goal

pub loop-event-init : goal.loop-event-init
loop-event-init c = ap atoms_of c.new-atoms.ensures ∙ taken_none c.args.events.now

pub loop-event-preserved : goal.loop-event-preserved
loop-event-preserved c = taken_more c.args.events.now c.loop-event.event-index c.event-item.result c.loop-event.atoms c.as_slice.result.now _ c.loop-event-test.true c.loop-event.invariant c.event-item.is c.as_slice.ensures c.in_ok-push_all.ensures
