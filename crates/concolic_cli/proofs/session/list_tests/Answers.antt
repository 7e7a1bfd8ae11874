use Rattle.std.proofs.Common.{refl}
use Rattle.concolic_cli.specs.Session.{nothing}
use Rattle.concolic_cli.specs.Tasks.{list}
use Rattle.std.proofs.lemmas.Result.{err_from_is_err_and}
use Rattle.concolic_cli.proofs.Causes.{file_cause, source_refused, write_failed}
use Rattle.concolic_cli.proofs.Sessions.{lent, list_written, list_begun}
use Rattle.concolic_cli.proofs.session.list_tests.Goals as goal

pub returns-in_default-clause-ends : goal.returns-in_default-clause-ends
returns-in_default-clause-ends g c = λ p h. nothing refl

pub returns-in_err-source-clause-ends : goal.returns-in_err-source-clause-ends
returns-in_err-source-clause-ends g c = λ p h.
    let q = err_from_is_err_and c.from_residual.result c.from_residual.ensures.1 in
    rw (q.1, q.2) (file_cause _ (record { file = c.args.file.now; entry = c.args.entry.now; work = list c.args.words.now.bounds c.args.words.now.runs c.args.words.now.budget p }) c.in_err-source.field-0.0 c.in_err-source.ensures.file_refused refl)

pub returns-in_err-compiled-clause-ends : goal.returns-in_err-compiled-clause-ends
returns-in_err-compiled-clause-ends g c = λ p h.
    let q = err_from_is_err_and c.from_residual-in_err-compiled.result c.from_residual-in_err-compiled.ensures.1 in
    rw (q.1, q.2) (source_refused _ (record { file = c.args.file.now; entry = c.args.entry.now; work = list c.args.words.now.bounds c.args.words.now.runs c.args.words.now.budget p }) c.in_err-compiled.field-0.0 c.in_ok-source.source.items c.deref.result.now c.deref.ensures.value c.in_ok-source.ensures.read c.in_err-compiled.ensures.refused refl)

pub returns-in_err-status-clause-ends : goal.returns-in_err-status-clause-ends
returns-in_err-status-clause-ends g c = λ p h.
    let same = lent c.as_ref.result _ p c.as_ref.ensures.value (c.in-Ok.ensures p h) in
    let q = err_from_is_err_and c.from_residual-in_err-status.result c.from_residual-in_err-status.ensures.1 in
    rw (q.1, q.2) (write_failed _ (record { file = c.args.file.now; entry = c.args.entry.now; work = list c.args.words.now.bounds c.args.words.now.runs c.args.words.now.budget p }) c.in_err-status.field-0.0
    (list_begun _ _ _ c.args.file.now c.args.entry.now c.in_ok-source.source.items c.deref.result.now c.args.words.now.bounds c.args.words.now.runs c.args.words.now.budget p c.deref.ensures.value c.in_ok-source.ensures.read c.in_ok-compiled.compiled c.in_ok-compiled.ensures.compiled
    _ same c.in_err-status.ensures.part)
    c.in_err-status.ensures.cause)

pub returns-clause-ends : goal.returns-clause-ends
returns-clause-ends g c = λ p h.
    let same = lent c.as_ref.result _ p c.as_ref.ensures.value (c.in-Ok.ensures p h) in
    list_written _ _ _ c.args.file.now c.args.entry.now c.in_ok-source.source.items c.deref.result.now c.args.words.now.bounds c.args.words.now.runs c.args.words.now.budget p c.deref.ensures.value c.in_ok-source.ensures.read c.in_ok-compiled.compiled c.in_ok-compiled.ensures.compiled
    _ c.in_ok-status.status.0 same c.in_ok-status.ensures.ok
