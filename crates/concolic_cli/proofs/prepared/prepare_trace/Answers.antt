-- The causes of refusals, and the run.
use Rattle.std.proofs.Common.{sym}
use Rattle.std.proofs.lemmas.Result.{err_from_is_err_and}
use Rattle.concolic_cli.specs.Tasks.{trace}
use Rattle.concolic_cli.proofs.Causes.{no_program_cause, map_cause}
use Rattle.concolic_cli.proofs.Reports.{traced_is}
use Rattle.concolic_cli.proofs.prepared.prepare_trace.Goals as goal

pub returns-in_err-read-clause-refused : goal.returns-in_err-read-clause-refused
returns-in_err-read-clause-refused c =
    let q = err_from_is_err_and c.from_residual.result c.from_residual.ensures.1 in
    rw (q.1, q.2) (no_program_cause c.args.source.now c.args.entry.now (trace c.args.bounds.now c.args.map.now) c.in_err-read.field-0.0 c.in_err-read.ensures.source_refused)

pub returns-in_err-input-clause-refused : goal.returns-in_err-input-clause-refused
returns-in_err-input-clause-refused c =
    let q = err_from_is_err_and c.from_residual-in_err-input.result c.from_residual-in_err-input.ensures.1 in
    let e = c.in_err-input.ensures in
    let same = c.as_bytes.ensures.value in
    rw (q.1, q.2) (map_cause c.args.source.now c.args.entry.now c.in_ok-read.read.tokens.items c.in_ok-read.read.checked c.args.bounds.now c.args.map.now c.in_err-input.field-0.0 c.in_ok-read.ensures.read
    (rw same at e.map_refused) (λ h m w. e.whole h (rw (sym same) at m) w))

pub returns-in-Ok-clause-traced : goal.returns-in-Ok-clause-traced
returns-in-Ok-clause-traced c =
    let e = c.in_ok-input.ensures in
    traced_is c.args.source.now c.args.entry.now c.as_bytes.result.now c.args.map.now c.in_ok-read.read.tokens.items c.in_ok-read.read.checked c.args.bounds.now c.in_ok-input.input c.in-Ok.trace
    c.in_ok-read.ensures.read c.as_bytes.ensures.value e.read.0 e.refused c.in-Ok.ensures.run c.in-Ok.ensures.same
