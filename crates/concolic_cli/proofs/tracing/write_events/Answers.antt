use Rattle.std.proofs.Common.{arith}
use Rattle.std.proofs.lemmas.Result.{err_from_is_err_and}
use Rattle.concolic_cli.proofs.TraceLines.{one_more, part_written, next_read, byte_read}
use Rattle.concolic_cli.proofs.tracing.write_events.Goals as goal

pub write_event-requires : goal.write_event-requires
write_event-requires g c = byte_read c.args.events.now c.loop-at.at c.index-events-at.result c.requires (omega arith) c.index-events-at.is

pub returns-in_err-write_event-clause-part : goal.returns-in_err-write_event-clause-part
returns-in_err-write_event-clause-part g c =
    let p = err_from_is_err_and c.from_residual.result c.from_residual.ensures.1 in
    rw p.1 (part_written _ _ _ _ _ _ _ c.loop-at.invariant.so_far (next_read c.args.checked.now c.args.events.now c.loop-at.at c.index-events-at.result (omega arith) c.index-events-at.is) c.in_err-write_event.ensures.part)

pub loop-at-preserved : goal.loop-at-preserved
loop-at-preserved g c = record {
  so_far = one_more _ _ _ _ _ _ _ c.loop-at.invariant.so_far (next_read c.args.checked.now c.args.events.now c.loop-at.at c.index-events-at.result (omega arith) c.index-events-at.is) c.in_ok-write_event.ensures.ok;
  falls = omega (arith, c.loop-at.invariant.falls, c.in_ok-write_event.ensures.never_falls);
}
