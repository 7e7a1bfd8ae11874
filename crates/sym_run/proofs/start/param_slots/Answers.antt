use Rattle.sym_run.proofs.StartLaws.{slots_step}
use Rattle.sym_run.proofs.start.param_slots.Goals as goal

pub loop-number-preserved : goal.loop-number-preserved
loop-number-preserved c =
    let r = slots_step c.loop-number.slots c.push.new.self c.slot.result c.loop-number.number c.in_ok-push.ensures.ok c.slot.ensures c.loop-number.invariant.count c.loop-number.invariant.set in
    record { count = r.0; set = r.1 }
