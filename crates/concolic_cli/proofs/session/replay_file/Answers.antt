use Rattle.std.proofs.Common.{refl}
use Rattle.std.proofs.lemmas.Result.{err_from_is_err_and}
use Rattle.concolic_cli.specs.Tasks.{replay}
use Rattle.concolic_cli.proofs.Causes.{source_refused}
use Rattle.concolic_cli.proofs.Replays.{seen_at, file_refused, text_refused, replay_written, write_refused}
use Rattle.concolic_cli.proofs.session.replay_file.Goals as goal

pub returns-in_err-compiled-clause-ends : goal.returns-in_err-compiled-clause-ends
returns-in_err-compiled-clause-ends g c =
    let q = err_from_is_err_and c.from_residual-in_err-compiled.result c.from_residual-in_err-compiled.ensures.1 in
    rw (q.1, q.2) (source_refused _ (record { file = c.args.file.now; entry = c.args.entry.now; work = replay c.args.tests.now }) c.in_err-compiled.field-0.0 c.in_ok-source.source.items c.deref.result.now c.deref.ensures.value c.in_ok-source.ensures.read c.in_err-compiled.ensures.refused refl)

pub returns-in_err-text-clause-ends : goal.returns-in_err-text-clause-ends
returns-in_err-text-clause-ends g c =
    let q = err_from_is_err_and c.from_residual-in_err-text.result c.from_residual-in_err-text.ensures.1 in
    rw (q.1, q.2) (file_refused _ c.args.file.now c.args.entry.now c.args.tests.now c.in_ok-source.source.items c.deref.result.now c.deref.ensures.value c.in_ok-source.ensures.read c.in_ok-compiled.compiled c.in_ok-compiled.ensures.compiled
    _ _ c.in_err-text.field-0.0 c.read_source.ensures.held c.read_source.ensures.never_falls c.in_err-text.ensures.refused refl)

pub returns-in_err-held-clause-ends : goal.returns-in_err-held-clause-ends
returns-in_err-held-clause-ends g c =
    let q = err_from_is_err_and c.from_residual-in_err-held.result c.from_residual-in_err-held.ensures.1 in
    rw (q.1, q.2) (text_refused _ c.args.file.now c.args.entry.now c.args.tests.now c.in_ok-source.source.items c.deref.result.now c.deref.ensures.value c.in_ok-source.ensures.read c.in_ok-compiled.compiled c.in_ok-compiled.ensures.compiled
    _ c.read_source.ensures.held c.in_ok-text.text.items c.deref-2.result.now c.deref-2.ensures.value c.in_ok-text.ensures.read c.in_err-held.field-0.0 c.in_err-held.ensures.refused refl)

pub returns-clause-ends : goal.returns-clause-ends
returns-clause-ends g c =
    replay_written (seen_at (g.F.Files.held c.args.files.now) (g.F.Files.faults c.args.files.now) (g.F.Files.faults c.load_tests.new.files) (g.K.Sink.written c.args.out.now) (g.K.Sink.written c.write_replay.new.out) (g.K.Sink.faults c.args.out.now) (g.K.Sink.faults c.write_replay.new.out)) c.args.file.now c.args.entry.now c.args.tests.now c.in_ok-source.source.items c.deref.result.now c.deref.ensures.value c.in_ok-source.ensures.read c.in_ok-compiled.compiled c.in_ok-compiled.ensures.compiled
    _ c.read_source.ensures.held c.in_ok-text.text.items c.deref-2.result.now c.deref-2.ensures.value c.in_ok-text.ensures.read c.in_ok-held.held c.in_ok-held.ensures.read c.in_ok-held.ensures.unrefused
    c.in_ok-status.status.0 c.in_ok-status.ensures.ok

pub returns-in_err-status-clause-ends : goal.returns-in_err-status-clause-ends
returns-in_err-status-clause-ends g c =
    let q = err_from_is_err_and c.from_residual-in_err-status.result c.from_residual-in_err-status.ensures.1 in
    rw (q.1, q.2) (write_refused _ c.args.file.now c.args.entry.now c.args.tests.now c.in_ok-source.source.items c.deref.result.now c.deref.ensures.value c.in_ok-source.ensures.read c.in_ok-compiled.compiled c.in_ok-compiled.ensures.compiled
    _ c.read_source.ensures.held c.in_ok-text.text.items c.deref-2.result.now c.deref-2.ensures.value c.in_ok-text.ensures.read c.in_ok-held.held c.in_ok-held.ensures.read c.in_ok-held.ensures.unrefused
    c.in_err-status.field-0.0 c.in_err-status.ensures.refused)
