-- What is written is the trace's text, or a first part of it.
use Rattle.std.proofs.Common.{◌∙◌}
use Rattle.std.proofs.lemmas.Result.{err_from_is_err_and}
use Rattle.concolic_cli.proofs.TraceLines.{text_is, text_with, first_of, second_of, third_of, all_of}
use Rattle.concolic_cli.proofs.tracing.write_trace.Goals as goal

pub returns-in_err-write_line-clause-part : goal.returns-in_err-write_line-clause-part
returns-in_err-write_line-clause-part g c =
    let p = err_from_is_err_and c.from_residual.result c.from_residual.ensures.1 in
    let t = text_is c.args.checked.now c.args.bounds.now c.args.trace.now c.deref.result.now c.in-Ok-last_line.last.items c.requires.plain c.requires.end (c.deref.ensures.value ∙ c.in-Ok.ensures) c.in-Ok-last_line.ensures in
    rw p.1 (first_of _ _ _ _ _ t c.in_err-write_line.ensures.part)

pub returns-in_err-write_events-clause-part : goal.returns-in_err-write_events-clause-part
returns-in_err-write_events-clause-part g c =
    let p = err_from_is_err_and c.from_residual-in_err-write_events.result c.from_residual-in_err-write_events.ensures.1 in
    let t = text_with c.args.checked.now c.args.bounds.now c.args.trace.now c.as_slice.result.now c.deref.result.now c.in-Ok-last_line.last.items c.as_slice.ensures c.requires.plain c.requires.end (c.deref.ensures.value ∙ c.in-Ok.ensures) c.in-Ok-last_line.ensures in
    rw p.1 (second_of _ _ _ _ _ _ _ t c.in_ok-write_line.ensures.ok c.in_err-write_events.ensures.part)

pub returns-in_err-write_line-2-clause-part : goal.returns-in_err-write_line-2-clause-part
returns-in_err-write_line-2-clause-part g c =
    let p = err_from_is_err_and c.from_residual-in_err-write_line-2.result c.from_residual-in_err-write_line-2.ensures.1 in
    let t = text_with c.args.checked.now c.args.bounds.now c.args.trace.now c.as_slice.result.now c.deref.result.now c.deref-2.result.now c.as_slice.ensures c.requires.plain c.requires.end (c.deref.ensures.value ∙ c.in-Ok.ensures) (c.deref-2.ensures.value ∙ c.in-Ok-last_line.ensures) in
    rw p.1 (third_of _ _ _ _ _ _ _ _ t c.in_ok-write_line.ensures.ok c.in_ok-write_events.ensures.ok c.in_err-write_line-2.ensures.part)

pub returns-clause-ok : goal.returns-clause-ok
returns-clause-ok g c =
    let t = text_with c.args.checked.now c.args.bounds.now c.args.trace.now c.as_slice.result.now c.deref.result.now c.deref-2.result.now c.as_slice.ensures c.requires.plain c.requires.end (c.deref.ensures.value ∙ c.in-Ok.ensures) (c.deref-2.ensures.value ∙ c.in-Ok-last_line.ensures) in
    all_of _ _ _ _ _ _ _ _ t c.in_ok-write_line.ensures.ok c.in_ok-write_events.ensures.ok c.in_ok-write_line-2.ensures.ok
