use Rattle.std.proofs.Common.{◌<◌, ◌-◌, length, take, sym, ap, ◌∙◌, subst, arith}
use Rattle.cc_base.specs.Paths.{next}
use Rattle.cc_model.specs.Listing.{PassedOver, Reached}
use Rattle.search_dfs.specs.Task.{setting_of, after_of}
use Rattle.search_base.proofs.OnLaws.{on_err, ok_map, err_map}
use Rattle.search_dfs.proofs.Step.{in_prefix, ready_mine}
use Rattle.search_dfs.proofs.Tried.{nothing_tried, mine_turn, mine_some, stopped_turn, passed_turn, solving_here}
use Rattle.search_dfs.proofs.open.Open.try_one.Goals as goal

pub own_outcome-requires : goal.own_outcome-requires
own_outcome-requires g c = subst (λ x. ((c.args.self).now).depth - 1 < length x.path) (sym (c.last_run-run.ensures c.requires.taken.2 c.requires.taken.3 (c.requires.taken.4).runs)) (in_prefix (setting_of (c.args.task).now) (c.args.self).now c.args.outcome c.requires.taken.0 c.requires.taken.1 c.requires.taken.2 c.requires.taken.3 c.requires.taken.4)

pub go_down-requires : goal.go_down-requires
go_down-requires g c = (c.requires.taken.2, c.requires.taken.3, ready_mine (setting_of (c.args.task).now) (after_of (c.args.task).now) ((c.args.task).now).limit (c.args.self).now c.args.outcome c.requires.taken.0 c.requires.taken.1 c.requires.taken.2 c.requires.taken.3 c.requires.taken.4)

pub returns-then-same-clause-ok : goal.returns-then-same-clause-ok
returns-then-same-clause-ok g c = ok_map c.go_down.result c.go_down.ensures.ok (λ w os ls r rs T.
    let e = c.last_run-run.ensures r rs T.runs in
    let m = (w ((c.args.task).now).limit).made in
    let k = c.requires.room in
    (mine_turn (setting_of (c.args.task).now) (after_of (c.args.task).now) ((c.args.task).now).limit (c.args.self).now c.args.outcome os ls r rs T _ e _ c.own_outcome.ensures (c.same.ensures.same c.if-same.true) _ _ _ (w ((c.args.task).now).limit), omega (arith, m, k)))

pub returns-then-same-clause-err : goal.returns-then-same-clause-err
returns-then-same-clause-err g c = err_map c.go_down.result c.go_down.ensures.err (λ w os ls r rs T.
    let e = c.last_run-run.ensures r rs T.runs in
    mine_some (setting_of (c.args.task).now) (after_of (c.args.task).now) ((c.args.task).now).limit (c.args.self).now c.args.outcome os ls r rs T _ e _ c.own_outcome.ensures (c.same.ensures.same c.if-same.true) _ _ (w ((c.args.task).now).limit))

pub returns-then-self-clause-ok : goal.returns-then-self-clause-ok
returns-then-self-clause-ok g c = λ os ls r rs T.
    let e = c.last_run-run.ensures r rs T.runs in
    (stopped_turn (setting_of (c.args.task).now) (after_of (c.args.task).now) ((c.args.task).now).limit (c.args.self).now c.args.outcome os ls r rs T _ e _ c.own_outcome.ensures (c.same.ensures.other c.if-same.false) c.if-self.true _, c.requires.room)

pub prefix_of-requires : goal.prefix_of-requires
prefix_of-requires g c =
    let h = subst (λ x. ((c.args.self).now).depth - 1 < length x.path) (sym (c.last_run-run.ensures c.requires.taken.2 c.requires.taken.3 (c.requires.taken.4).runs)) (in_prefix (setting_of (c.args.task).now) (c.args.self).now c.args.outcome c.requires.taken.0 c.requires.taken.1 c.requires.taken.2 c.requires.taken.3 c.requires.taken.4) in
    let n = ap length c.as_slice.ensures in
    omega (arith, h, n)

pub returns-in_err-prefix-clause-err : goal.returns-in_err-prefix-clause-err
returns-in_err-prefix-clause-err g c = on_err c.from_residual.result (λ os ls r rs T. nothing_tried (setting_of (c.args.task).now) (after_of (c.args.task).now) ((c.args.task).now).limit (c.args.self).now c.args.outcome os ls r rs T _ (c.last_run-run.ensures r rs T.runs) _)

pub returns-then-is_passed-clause-ok : goal.returns-then-is_passed-clause-ok
returns-then-is_passed-clause-ok g c = λ os ls r rs T.
    let e = c.last_run-run.ensures r rs T.runs in
    let k = c.in_ok-prefix.ensures ∙ ap (λ l. next (take (((c.args.self).now).depth - 1) l) c.args.outcome) c.as_slice.ensures in (
      passed_turn (setting_of (c.args.task).now) (after_of (c.args.task).now) ((c.args.task).now).limit (c.args.self).now c.args.outcome os ls r rs T _ e _ c.own_outcome.ensures (c.same.ensures.other c.if-same.false) c.in_ok-prefix.prefix k
          (subst (PassedOver (after_of (c.args.task).now)) c.as_slice-2.ensures (c.is_passed.ensures.passed c.if-is_passed.true)) _,
      c.requires.room,
    )

pub solve-requires-clause-solving : goal.solve-requires-clause-solving
solve-requires-clause-solving g c =
    let e = c.last_run-run.ensures c.requires.taken.2 c.requires.taken.3 (c.requires.taken.4).runs in
    let k = c.in_ok-prefix.ensures ∙ ap (λ l. next (take (((c.args.self).now).depth - 1) l) c.args.outcome) c.as_slice.ensures in (
      c.requires.taken.0,
      c.requires.taken.1,
      c.requires.taken.2,
      c.requires.taken.3,
      solving_here (setting_of (c.args.task).now) (after_of (c.args.task).now) ((c.args.task).now).limit (c.args.self).now c.args.outcome c.requires.taken.0 c.requires.taken.1 c.requires.taken.2 c.requires.taken.3 c.requires.taken.4 _ e _ c.own_outcome.ensures (c.same.ensures.other c.if-same.false) c.in_ok-prefix.prefix k c.if-self.false
          (subst (Reached (after_of (c.args.task).now)) c.as_slice-2.ensures (c.is_passed.ensures.reached c.if-is_passed.false)),
    )

pub returns-clause-ok : goal.returns-clause-ok
returns-clause-ok g c = ok_map c.solve.result c.solve.ensures.ok (λ f os ls r rs T.
    let e = c.last_run-run.ensures r rs T.runs in
    let k = c.in_ok-prefix.ensures ∙ ap (λ l. next (take (((c.args.self).now).depth - 1) l) c.args.outcome) c.as_slice.ensures in
    f os ls r rs (solving_here (setting_of (c.args.task).now) (after_of (c.args.task).now) ((c.args.task).now).limit (c.args.self).now c.args.outcome os ls r rs T _ e _ c.own_outcome.ensures (c.same.ensures.other c.if-same.false) c.in_ok-prefix.prefix k c.if-self.false
    (subst (Reached (after_of (c.args.task).now)) c.as_slice-2.ensures (c.is_passed.ensures.reached c.if-is_passed.false))))

pub returns-clause-err : goal.returns-clause-err
returns-clause-err g c = err_map c.solve.result c.solve.ensures.err (λ f os ls r rs T.
    let e = c.last_run-run.ensures r rs T.runs in
    let k = c.in_ok-prefix.ensures ∙ ap (λ l. next (take (((c.args.self).now).depth - 1) l) c.args.outcome) c.as_slice.ensures in
    f os ls r rs (solving_here (setting_of (c.args.task).now) (after_of (c.args.task).now) ((c.args.task).now).limit (c.args.self).now c.args.outcome os ls r rs T _ e _ c.own_outcome.ensures (c.same.ensures.other c.if-same.false) c.in_ok-prefix.prefix k c.if-self.false
    (subst (Reached (after_of (c.args.task).now)) c.as_slice-2.ensures (c.is_passed.ensures.reached c.if-is_passed.false))))
