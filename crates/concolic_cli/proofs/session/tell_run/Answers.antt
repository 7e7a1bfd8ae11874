use Rattle.std.proofs.lemmas.Result.{err_from_is_err_and}
use Rattle.concolic_cli.proofs.Causes.{write_failed}
use Rattle.concolic_cli.proofs.Reports.{trace_begun, trace_written}
use Rattle.concolic_cli.proofs.session.tell_run.Goals as goal

pub returns-in_err-status-clause-ends : goal.returns-in_err-status-clause-ends
returns-in_err-status-clause-ends g c =
    let q = err_from_is_err_and c.from_residual-in_err-status.result c.from_residual-in_err-status.ensures.1 in
    rw (q.1, q.2) (write_failed _ _ c.in_err-status.field-0.0 (trace_begun _ _ _ c.args.file.now c.args.entry.now c.in_ok-source.source.items c.deref.result.now _ c.deref.ensures.value c.in_ok-source.ensures.read _ c.in_ok-traced.traced c.in_ok-traced.ensures.traced c.in_err-status.ensures.part) c.in_err-status.ensures.cause)

pub returns-clause-ends : goal.returns-clause-ends
returns-clause-ends g c =
    trace_written _ _ _ c.args.file.now c.args.entry.now c.in_ok-source.source.items c.deref.result.now _ c.deref.ensures.value c.in_ok-source.ensures.read _ c.in_ok-traced.traced _ c.in_ok-traced.ensures.traced c.in_ok-status.ensures.status c.in_ok-status.ensures.ok
