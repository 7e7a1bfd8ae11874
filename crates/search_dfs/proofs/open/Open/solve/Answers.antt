use Rattle.std.proofs.Common.{◌<◌, ◌≤◌, ◌-◌, length, refl, sym, subst}
use Rattle.cc_base.specs.Paths.{In}
use Rattle.search_base.specs.Setting.{others_of}
use Rattle.search_dfs.specs.Setting.{TraceOf}
use Rattle.search_dfs.specs.Task.{setting_of, after_of}
use Rattle.flip_solve.proofs.Bared.{fewer_needed}
use Rattle.search_dfs.proofs.Following.{none_turn, never_turn, spent_turn, spent_some}
use Rattle.search_dfs.proofs.Choices.{within_input, event_offered}
use Rattle.search_base.proofs.OnLaws.{on_err, ok_map, err_map}
use Rattle.search_dfs.proofs.Solved.{is_never, is_spent, is_turned}
use Rattle.search_dfs.proofs.Step.{entered_before, in_prefix, offered_at}
use Rattle.search_dfs.proofs.open.Open.solve.Goals as goal

pub turn-requires-clause-points : goal.turn-requires-clause-points
turn-requires-clause-points g c = c.requires.known.points

pub turn-requires-clause-input : goal.turn-requires-clause-input
turn-requires-clause-input g c =
    let T = (c.requires.solving.4).taken in
    let e = c.last_run-run.ensures c.requires.solving.2 c.requires.solving.3 T.runs in
    let tr = subst (λ x. TraceOf (setting_of (c.args.task).now) x.from x.trace x.path) (sym e) (T.level).trace in
    within_input (setting_of (c.args.task).now) _ tr.within

pub turn-requires-clause-trace : goal.turn-requires-clause-trace
turn-requires-clause-trace g c =
    let T = (c.requires.solving.4).taken in
    let e = c.last_run-run.ensures c.requires.solving.2 c.requires.solving.3 T.runs in
    let tr = subst (λ x. TraceOf (setting_of (c.args.task).now) x.from x.trace x.path) (sym e) (T.level).trace in
    fewer_needed _ _ _ _ _ _ (subst (λ x. x.from ≤ ((c.args.self).now).depth - 1) (sym e) (entered_before (setting_of (c.args.task).now) (c.args.self).now c.args.outcome c.requires.solving.0 c.requires.solving.1 c.requires.solving.2 c.requires.solving.3 T)) tr.is_trace

pub turn-requires-clause-lawful : goal.turn-requires-clause-lawful
turn-requires-clause-lawful g c =
    let T = (c.requires.solving.4).taken in
    let e = c.last_run-run.ensures c.requires.solving.2 c.requires.solving.3 T.runs in
    let tr = subst (λ x. TraceOf (setting_of (c.args.task).now) x.from x.trace x.path) (sym e) (T.level).trace in
    c.a_run_is_lawful.ensures _ _ _ c.requires.known.points (within_input (setting_of (c.args.task).now) _ tr.within)

pub turn-requires-clause-offered : goal.turn-requires-clause-offered
turn-requires-clause-offered g c =
    let S = c.requires.solving.4 in
    let e = c.last_run-run.ensures c.requires.solving.2 c.requires.solving.3 (S.taken).runs in
    let tr = subst (λ x. TraceOf (setting_of (c.args.task).now) x.from x.trace x.path) (sym e) ((S.taken).level).trace in
    event_offered (setting_of (c.args.task).now) _ _ _ tr (((c.args.self).now).depth - 1) c.args.outcome
    (subst (λ x. x.from ≤ ((c.args.self).now).depth - 1) (sym e) (entered_before (setting_of (c.args.task).now) (c.args.self).now c.args.outcome c.requires.solving.0 c.requires.solving.1 c.requires.solving.2 c.requires.solving.3 S.taken))
    (subst (λ x. ((c.args.self).now).depth - 1 < length x.path) (sym e) (in_prefix (setting_of (c.args.task).now) (c.args.self).now c.args.outcome c.requires.solving.0 c.requires.solving.1 c.requires.solving.2 c.requires.solving.3 S.taken))
    (subst (λ x. In c.args.outcome (others_of (setting_of (c.args.task).now) (x.trace).input (((c.args.self).now).depth - 1))) (sym e) (offered_at (setting_of (c.args.task).now) (c.args.self).now c.args.outcome c.requires.solving.0 c.requires.solving.1 c.requires.solving.2 c.requires.solving.3 S.taken S.other))

pub returns-in_err-turn-clause-err : goal.returns-in_err-turn-clause-err
returns-in_err-turn-clause-err g c = on_err c.from_residual.result (λ os ls r rs S. none_turn (setting_of (c.args.task).now) (after_of (c.args.task).now) ((c.args.task).now).limit (c.args.self).now c.args.outcome (c.args.prefix).now os ls r rs S _ _ refl)

pub returns-in-Never-clause-ok : goal.returns-in-Never-clause-ok
returns-in-Never-clause-ok g c = λ os ls r rs S.
    let e = c.last_run-run.ensures r rs (S.taken).runs in
    (never_turn (setting_of (c.args.task).now) (after_of (c.args.task).now) ((c.args.task).now).limit (c.args.self).now c.args.outcome (c.args.prefix).now os ls r rs S _ (is_never (setting_of (c.args.task).now) (after_of (c.args.task).now) (c.args.self).now c.args.outcome (c.args.prefix).now os ls r rs S _ e _ c.in_ok-turn.ensures.answer c.in_ok-turn.ensures.turned c.in-Never.is), c.requires.room)

pub list_spent-requires : goal.list_spent-requires
list_spent-requires g c = (c.requires.solving.4).bytes

pub returns-in-Spent-clause-ok : goal.returns-in-Spent-clause-ok
returns-in-Spent-clause-ok g c = ok_map c.list_spent.result c.list_spent.ensures.ok (λ k os ls r rs S.
    let e = c.last_run-run.ensures r rs (S.taken).runs in
    (spent_turn (setting_of (c.args.task).now) (after_of (c.args.task).now) ((c.args.task).now).limit (c.args.self).now c.args.outcome (c.args.prefix).now os ls r rs S _ _ (is_spent (setting_of (c.args.task).now) (after_of (c.args.task).now) (c.args.self).now c.args.outcome (c.args.prefix).now os ls r rs S _ e _ c.in_ok-turn.ensures.answer c.in_ok-turn.ensures.turned c.in-Spent.is) k, c.requires.room))

pub returns-in-Spent-clause-err : goal.returns-in-Spent-clause-err
returns-in-Spent-clause-err g c = err_map c.list_spent.result c.list_spent.ensures.err (λ k os ls r rs S.
    let e = c.last_run-run.ensures r rs (S.taken).runs in
    spent_some (setting_of (c.args.task).now) (after_of (c.args.task).now) ((c.args.task).now).limit (c.args.self).now c.args.outcome (c.args.prefix).now os ls r rs S _ _ (is_spent (setting_of (c.args.task).now) (after_of (c.args.task).now) (c.args.self).now c.args.outcome (c.args.prefix).now os ls r rs S _ e _ c.in_ok-turn.ensures.answer c.in_ok-turn.ensures.turned c.in-Spent.is) k)

pub follow-requires-clause-solving : goal.follow-requires-clause-solving
follow-requires-clause-solving g c =
    let S = c.requires.solving.4 in
    let e = c.last_run-run.ensures c.requires.solving.2 c.requires.solving.3 (S.taken).runs in (
      c.requires.solving.0,
      c.requires.solving.1,
      c.requires.solving.2,
      c.requires.solving.3,
      S,
      is_turned (setting_of (c.args.task).now) (after_of (c.args.task).now) (c.args.self).now c.args.outcome (c.args.prefix).now c.requires.solving.0 c.requires.solving.1 c.requires.solving.2 c.requires.solving.3 S _ e _ c.in_ok-turn.ensures.answer c.in_ok-turn.ensures.turned c.in-Turned.input c.in-Turned.is,
    )

pub returns-in-Turned-clause-ok : goal.returns-in-Turned-clause-ok
returns-in-Turned-clause-ok g c = ok_map c.follow.result c.follow.ensures.ok (λ f os ls r rs S.
    let e = c.last_run-run.ensures r rs (S.taken).runs in
    f os ls r rs S (is_turned (setting_of (c.args.task).now) (after_of (c.args.task).now) (c.args.self).now c.args.outcome (c.args.prefix).now os ls r rs S _ e _ c.in_ok-turn.ensures.answer c.in_ok-turn.ensures.turned c.in-Turned.input c.in-Turned.is))

pub returns-in-Turned-clause-err : goal.returns-in-Turned-clause-err
returns-in-Turned-clause-err g c = err_map c.follow.result c.follow.ensures.err (λ f os ls r rs S.
    let e = c.last_run-run.ensures r rs (S.taken).runs in
    f os ls r rs S (is_turned (setting_of (c.args.task).now) (after_of (c.args.task).now) (c.args.self).now c.args.outcome (c.args.prefix).now os ls r rs S _ e _ c.in_ok-turn.ensures.answer c.in_ok-turn.ensures.turned c.in-Turned.input c.in-Turned.is))
