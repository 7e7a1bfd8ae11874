use Rattle.std.proofs.Common.{refl, sym, subst, arith}
use Rattle.cc_base.specs.Paths.{BeginsWith}
use Rattle.search_dfs.specs.Task.{setting_of, after_of}
use Rattle.search_base.proofs.OnLaws.{on_err, ok_map, err_map}
use Rattle.search_dfs.proofs.Following.{none_turn, unrun_turn, unrun_some, stray_turn, stray_some, gone_ready, gone_turn, gone_some}
use Rattle.search_dfs.proofs.open.Open.follow.Goals as goal

pub list_unrun-requires-clause-prefix : goal.list_unrun-requires-clause-prefix
list_unrun-requires-clause-prefix g c = (c.requires.solving.4).bytes

pub list_unrun-requires-clause-few : goal.list_unrun-requires-clause-few
list_unrun-requires-clause-few g c = (c.requires.solving.5).3

pub returns-in_err-list_unrun-clause-err : goal.returns-in_err-list_unrun-clause-err
returns-in_err-list_unrun-clause-err g c = on_err c.from_residual.result (λ os ls r rs S M. unrun_some (setting_of (c.args.task).now) (after_of (c.args.task).now) ((c.args.task).now).limit (c.args.self).now c.args.outcome (c.args.prefix).now os ls r rs S (c.args.input).now M _ _ c.if-self-task.true c.in_err-list_unrun.ensures.err)

pub returns-then-self-task-clause-ok : goal.returns-then-self-task-clause-ok
returns-then-self-task-clause-ok g c = λ os ls r rs S M. (unrun_turn (setting_of (c.args.task).now) (after_of (c.args.task).now) ((c.args.task).now).limit (c.args.self).now c.args.outcome (c.args.prefix).now os ls r rs S (c.args.input).now M _ _ _ refl refl refl refl refl c.if-self-task.true c.in_ok-list_unrun.ensures.ok, c.requires.room)

pub made_run-requires-clause-within : goal.made_run-requires-clause-within
made_run-requires-clause-within g c = (c.requires.solving.5).1

pub made_run-requires-clause-few : goal.made_run-requires-clause-few
made_run-requires-clause-few g c = (c.requires.solving.5).3

pub returns-in_err-fresh-clause-err : goal.returns-in_err-fresh-clause-err
returns-in_err-fresh-clause-err g c = on_err c.from_residual-in_err-fresh.result (λ os ls r rs S M. none_turn (setting_of (c.args.task).now) (after_of (c.args.task).now) ((c.args.task).now).limit (c.args.self).now c.args.outcome (c.args.prefix).now os ls r rs S _ _ refl)

pub list_stray-requires-clause-prefix : goal.list_stray-requires-clause-prefix
list_stray-requires-clause-prefix g c = (c.requires.solving.4).bytes

pub returns-then-not-begins-clause-ok : goal.returns-then-not-begins-clause-ok
returns-then-not-begins-clause-ok g c = ok_map c.list_stray.result c.list_stray.ensures.ok (λ k os ls r rs S M.
    let le = c.requires.room in
    let ne = c.if-self-task.false in (
      stray_turn (setting_of (c.args.task).now) (after_of (c.args.task).now) ((c.args.task).now).limit (c.args.self).now c.args.outcome (c.args.prefix).now os ls r rs S (c.args.input).now M c.in_ok-fresh.fresh c.in_ok-fresh.ensures.trace c.in_ok-fresh.ensures.input (omega (arith, le, ne)) _ _ _ refl refl refl refl refl
          (λ h. c.begins.ensures.no c.if-not-begins.true (subst (λ l. BeginsWith l c.as_slice-2.result.now) (sym c.as_slice.ensures) (subst (BeginsWith (c.in_ok-fresh.fresh).path) (sym c.as_slice-2.ensures) h))) k,
      omega (arith, le, ne),
    ))

pub returns-then-not-begins-clause-err : goal.returns-then-not-begins-clause-err
returns-then-not-begins-clause-err g c = err_map c.list_stray.result c.list_stray.ensures.err (λ k os ls r rs S M.
    let le = c.requires.room in
    let ne = c.if-self-task.false in
    stray_some (setting_of (c.args.task).now) (after_of (c.args.task).now) ((c.args.task).now).limit (c.args.self).now c.args.outcome (c.args.prefix).now os ls r rs S (c.args.input).now M c.in_ok-fresh.fresh c.in_ok-fresh.ensures.trace c.in_ok-fresh.ensures.input (omega (arith, le, ne)) _ _
    (λ h. c.begins.ensures.no c.if-not-begins.true (subst (λ l. BeginsWith l c.as_slice-2.result.now) (sym c.as_slice.ensures) (subst (BeginsWith (c.in_ok-fresh.fresh).path) (sym c.as_slice-2.ensures) h))) k)

pub returns-in_err-push-clause-err : goal.returns-in_err-push-clause-err
returns-in_err-push-clause-err g c = on_err c.from_residual-in_err-push.result (λ os ls r rs S M. none_turn (setting_of (c.args.task).now) (after_of (c.args.task).now) ((c.args.task).now).limit (c.args.self).now c.args.outcome (c.args.prefix).now os ls r rs S _ _ refl)

pub go_down-requires : goal.go_down-requires
go_down-requires g c =
    let le = c.requires.room in
    let ne = c.if-self-task.false in
    let bg = subst (BeginsWith (c.in_ok-fresh.fresh).path) c.as_slice-2.ensures (subst (λ l. BeginsWith l c.as_slice-2.result.now) c.as_slice.ensures (c.begins.ensures.yes c.if-not-begins.false)) in
    (c.in_ok-fresh.fresh, _, gone_ready (setting_of (c.args.task).now) (after_of (c.args.task).now) ((c.args.task).now).limit (c.args.self).now c.args.outcome (c.args.prefix).now c.requires.solving.0 c.requires.solving.1 c.requires.solving.2 c.requires.solving.3 c.requires.solving.4 (c.args.input).now c.requires.solving.5 c.in_ok-fresh.fresh c.in_ok-fresh.ensures.trace c.in_ok-fresh.ensures.input (omega (arith, le, ne)) c.in_ok-fresh.ensures.from bg _ refl refl refl refl c.in_ok-push.ensures.ok)

pub returns-clause-ok : goal.returns-clause-ok
returns-clause-ok g c = ok_map c.go_down.result c.go_down.ensures.ok (λ w os ls r rs S M.
    let le = c.requires.room in
    let ne = c.if-self-task.false in
    let m = (w ((c.args.task).now).limit).made in
    let bg = subst (BeginsWith (c.in_ok-fresh.fresh).path) c.as_slice-2.ensures (subst (λ l. BeginsWith l c.as_slice-2.result.now) c.as_slice.ensures (c.begins.ensures.yes c.if-not-begins.false)) in
    (gone_turn (setting_of (c.args.task).now) (after_of (c.args.task).now) ((c.args.task).now).limit (c.args.self).now c.args.outcome (c.args.prefix).now os ls r rs S (c.args.input).now M c.in_ok-fresh.fresh c.in_ok-fresh.ensures.trace c.in_ok-fresh.ensures.input (omega (arith, le, ne)) c.in_ok-fresh.ensures.from bg _ refl refl refl refl c.in_ok-push.ensures.ok _ _ _ (w ((c.args.task).now).limit), omega (arith, m, le, ne)))

pub returns-clause-err : goal.returns-clause-err
returns-clause-err g c = err_map c.go_down.result c.go_down.ensures.err (λ w os ls r rs S M.
    let le = c.requires.room in
    let ne = c.if-self-task.false in
    let bg = subst (BeginsWith (c.in_ok-fresh.fresh).path) c.as_slice-2.ensures (subst (λ l. BeginsWith l c.as_slice-2.result.now) c.as_slice.ensures (c.begins.ensures.yes c.if-not-begins.false)) in
    gone_some (setting_of (c.args.task).now) (after_of (c.args.task).now) ((c.args.task).now).limit (c.args.self).now c.args.outcome (c.args.prefix).now os ls r rs S (c.args.input).now M c.in_ok-fresh.fresh c.in_ok-fresh.ensures.trace c.in_ok-fresh.ensures.input (omega (arith, le, ne)) c.in_ok-fresh.ensures.from bg _ refl refl refl refl c.in_ok-push.ensures.ok _ _ (w ((c.args.task).now).limit))
