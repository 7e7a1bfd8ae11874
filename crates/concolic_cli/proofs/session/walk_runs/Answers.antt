use Rattle.std.proofs.Common.{refl}
use Rattle.std.proofs.lemmas.Result.{err_from_is_err_and}
use Rattle.concolic_cli.specs.Tasks.{walk}
use Rattle.concolic_cli.proofs.Causes.{source_refused, write_failed}
use Rattle.concolic_cli.proofs.WalkTexts.{walk_written, walk_begun}
use Rattle.concolic_cli.proofs.session.walk_runs.Goals as goal

pub returns-in_err-compiled-clause-ends : goal.returns-in_err-compiled-clause-ends
returns-in_err-compiled-clause-ends g c =
    let q = err_from_is_err_and c.from_residual-in_err-compiled.result c.from_residual-in_err-compiled.ensures.1 in
    rw (q.1, q.2) (source_refused _ (record { file = c.args.file.now; entry = c.args.entry.now; work = walk c.args.words.now.strategy c.args.words.now.bounds c.args.words.now.runs c.args.words.now.budget c.args.words.now.seed }) c.in_err-compiled.field-0.0 c.in_ok-source.source.items c.deref.result.now c.deref.ensures.value c.in_ok-source.ensures.read c.in_err-compiled.ensures.refused refl)

pub returns-clause-ends : goal.returns-clause-ends
returns-clause-ends g c =
    walk_written _ _ _ c.args.file.now c.args.entry.now c.in_ok-source.source.items c.deref.result.now c.args.words.now.strategy c.args.words.now.bounds c.args.words.now.runs c.args.words.now.budget c.args.words.now.seed c.deref.ensures.value c.in_ok-source.ensures.read c.in_ok-compiled.compiled c.in_ok-compiled.ensures.compiled c.in_ok-status.status.0 c.in_ok-status.ensures.ok

pub returns-in_err-status-clause-ends : goal.returns-in_err-status-clause-ends
returns-in_err-status-clause-ends g c =
    let q = err_from_is_err_and c.from_residual-in_err-status.result c.from_residual-in_err-status.ensures.1 in
    rw (q.1, q.2) (write_failed _ (record { file = c.args.file.now; entry = c.args.entry.now; work = walk c.args.words.now.strategy c.args.words.now.bounds c.args.words.now.runs c.args.words.now.budget c.args.words.now.seed }) c.in_err-status.field-0.0
    (walk_begun _ _ _ c.args.file.now c.args.entry.now c.in_ok-source.source.items c.deref.result.now c.args.words.now.strategy c.args.words.now.bounds c.args.words.now.runs c.args.words.now.budget c.args.words.now.seed c.deref.ensures.value c.in_ok-source.ensures.read c.in_ok-compiled.compiled c.in_ok-compiled.ensures.compiled c.in_err-status.ensures.part)
    c.in_err-status.ensures.cause)
