use Rattle.std.proofs.Common.{◌≤◌, ◌∷◌, length, refl, sym, ap, ◌∙◌, subst, arith}
use Rattle.search_dfs.specs.Setting.{TraceOf, ChoicesOf}
use Rattle.search_dfs.specs.Output.{out}
use Rattle.search_dfs.specs.Stack.{path_of_run}
use Rattle.search_dfs.specs.Task.{setting_of, after_of}
use Rattle.search_dfs.specs.Turns.{Ended, EndedSome, test_at}
use Rattle.search_dfs.proofs.Following.{runs_there, went_ended, refused_ended, push_some, push_few, push_ascending, push_room}
use Rattle.search_base.proofs.OnLaws.{on_err}
use Rattle.search_dfs.proofs.Down.{refused, went_on}
use Rattle.search_dfs.proofs.open.Open.go_down.Goals as goal

pub list_run-requires : goal.list_run-requires
list_run-requires g c = subst (λ x. TraceOf (setting_of (c.args.task).now) x.from x.trace x.path) (sym (c.last_run-run.ensures c.requires.0 c.requires.1 (c.requires.2).runs)) (c.requires.2).trace

pub returns-in_err-list_run-clause-err : goal.returns-in_err-list_run-clause-err
returns-in_err-list_run-clause-err g c =
    let e = c.last_run-run.ensures c.requires.0 c.requires.1 (c.requires.2).runs in
    let n = c.len.ensures in
    let f = ap (λ x. length (path_of_run x)) e in
    on_err c.from_residual.result (λ limit. refused_ended (setting_of (c.args.task).now) (after_of (c.args.task).now) limit (c.args.self).now c.requires.0 c.requires.1 _ _ c.requires.2 (c.if-self-len.true ∙ n ∙ f)
    (subst (λ x. EndedSome (setting_of (c.args.task).now) (after_of (c.args.task).now) (test_at x) (out (g.K.Sink.written (c.args.sink).now) (g.K.Sink.faults (c.args.sink).now) (c.args.tally).now) (out (g.K.Sink.written c.list_run.new.sink) (g.K.Sink.faults c.list_run.new.sink) c.list_run.new.tally)) e c.in_err-list_run.ensures.err))

pub leave-requires : goal.leave-requires
leave-requires g c = runs_there ((c.args.self).now).runs c.requires.0 c.requires.1 (c.requires.2).runs

pub returns-then-self-len-clause-ok : goal.returns-then-self-len-clause-ok
returns-then-self-len-clause-ok g c = λ limit.
    let e = c.last_run-run.ensures c.requires.0 c.requires.1 (c.requires.2).runs in
    let n = c.len.ensures in
    let f = ap (λ x. length (path_of_run x)) e in
    went_ended (setting_of (c.args.task).now) (after_of (c.args.task).now) limit (c.args.self).now _ c.requires.0 c.requires.1 _ _ c.requires.2 (refl, refl, refl, refl, c.leave.ensures c.requires.0 c.requires.1 (c.requires.2).runs)
    (c.if-self-len.true ∙ n ∙ f)
    (subst (λ x. Ended (setting_of (c.args.task).now) (after_of (c.args.task).now) (test_at x) (out (g.K.Sink.written (c.args.sink).now) (g.K.Sink.faults (c.args.sink).now) (c.args.tally).now) (out (g.K.Sink.written c.list_run.new.sink) (g.K.Sink.faults c.list_run.new.sink) c.list_run.new.tally)) e c.in_ok-list_run.ensures.ok)

pub choices_of-requires-clause-trace : goal.choices_of-requires-clause-trace
choices_of-requires-clause-trace g c = subst (λ x. TraceOf (setting_of (c.args.task).now) x.from x.trace x.path) (sym (c.last_run-run.ensures c.requires.0 c.requires.1 (c.requires.2).runs)) (c.requires.2).trace

pub choices_of-requires-clause-entered : goal.choices_of-requires-clause-entered
choices_of-requires-clause-entered g c = subst (λ x. x.from ≤ ((c.args.self).now).depth) (sym (c.last_run-run.ensures c.requires.0 c.requires.1 (c.requires.2).runs)) (c.requires.2).from

pub choices_of-requires-clause-event : goal.choices_of-requires-clause-event
choices_of-requires-clause-event g c =
    let e = c.last_run-run.ensures c.requires.0 c.requires.1 (c.requires.2).runs in
    let n = c.len.ensures in
    let f = ap (λ x. length (path_of_run x)) e in
    let s = (c.requires.2).short in
    let h = c.if-self-len.false in
    omega (arith, n, f, s, h)

pub returns-in_err-choices-clause-err : goal.returns-in_err-choices-clause-err
returns-in_err-choices-clause-err g c = on_err c.from_residual-in_err-choices.result (λ limit. refused (setting_of (c.args.task).now) (after_of (c.args.task).now) limit (c.args.self).now c.requires.0 c.requires.1 _ _ c.requires.2 refl)

pub push-requires-clause-some : goal.push-requires-clause-some
push-requires-clause-some g c =
    let e = c.last_run-run.ensures c.requires.0 c.requires.1 (c.requires.2).runs in
    push_some (setting_of (c.args.task).now) (c.args.self).now c.requires.0 c.requires.1 c.requires.2 c.in_ok-choices.choices _
    (subst (λ x. ChoicesOf (setting_of (c.args.task).now) (x.trace).input ((c.args.self).now).depth c.in_ok-choices.choices) e c.in_ok-choices.ensures) c.as_slice.ensures

pub push-requires-clause-few : goal.push-requires-clause-few
push-requires-clause-few g c =
    let e = c.last_run-run.ensures c.requires.0 c.requires.1 (c.requires.2).runs in
    push_few (setting_of (c.args.task).now) (c.args.self).now c.requires.0 c.requires.1 c.requires.2 c.in_ok-choices.choices _
    (subst (λ x. ChoicesOf (setting_of (c.args.task).now) (x.trace).input ((c.args.self).now).depth c.in_ok-choices.choices) e c.in_ok-choices.ensures) c.as_slice.ensures

pub push-requires-clause-ascending : goal.push-requires-clause-ascending
push-requires-clause-ascending g c =
    let e = c.last_run-run.ensures c.requires.0 c.requires.1 (c.requires.2).runs in
    push_ascending (setting_of (c.args.task).now) (c.args.self).now c.requires.0 c.requires.1 c.requires.2 c.in_ok-choices.choices _
    (subst (λ x. ChoicesOf (setting_of (c.args.task).now) (x.trace).input ((c.args.self).now).depth c.in_ok-choices.choices) e c.in_ok-choices.ensures) c.as_slice.ensures

pub push-requires-clause-room : goal.push-requires-clause-room
push-requires-clause-room g c =
    let e = c.last_run-run.ensures c.requires.0 c.requires.1 (c.requires.2).runs in
    let n = c.len.ensures in
    let f = ap (λ x. length (path_of_run x)) e in
    let h = c.if-self-len.false in
    push_room (setting_of (c.args.task).now) (c.args.self).now c.requires.0 c.requires.1 c.requires.2 c.in_ok-choices.choices c.as_slice.result.now
    (subst (λ x. ChoicesOf (setting_of (c.args.task).now) (x.trace).input ((c.args.self).now).depth c.in_ok-choices.choices) e c.in_ok-choices.ensures) c.as_slice.ensures
    (λ k. h (k ∙ sym f ∙ sym n))

pub returns-clause-ok : goal.returns-clause-ok
returns-clause-ok g c = λ limit.
    let e = c.last_run-run.ensures c.requires.0 c.requires.1 (c.requires.2).runs in
    let n = c.len.ensures in
    let f = ap (λ x. length (path_of_run x)) e in
    let h = c.if-self-len.false in
    went_on (setting_of (c.args.task).now) (after_of (c.args.task).now) limit (c.args.self).now _ c.requires.0 c.requires.1 c.in_ok-choices.choices _ _ c.requires.2
    (λ k. h (k ∙ sym f ∙ sym n))
    (subst (λ x. ChoicesOf (setting_of (c.args.task).now) (x.trace).input ((c.args.self).now).depth c.in_ok-choices.choices) e c.in_ok-choices.ensures)
    (ap (λ t. t.levels) c.push.ensures ∙ ap (λ v. v ∷ (((c.args.self).now).tree).levels) c.as_slice.ensures)
    (ap (λ t. t.most) c.push.ensures) refl refl refl refl refl
