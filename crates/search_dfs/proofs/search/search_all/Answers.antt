use Rattle.std.proofs.Common.{[], refl, arith}
use Rattle.search_dfs.specs.Task.{setting_of, after_of}
use Rattle.search_dfs.proofs.Choices.{input_within, base_there}
use Rattle.search_base.proofs.OnLaws.{on_err}
use Rattle.search_dfs.proofs.Running.{turned, broken, done, begins_ready, begun, begun_some, nothing_yet}
use Rattle.search_dfs.proofs.search.search_all.Goals as goal

pub returns-in_err-base-clause-err : goal.returns-in_err-base-clause-err
returns-in_err-base-clause-err g c = on_err _ (nothing_yet (setting_of (c.args.task).now) c.requires.laws (after_of (c.args.task).now) ((c.args.task).now).limit _ _ refl)

pub begin-requires-clause-within : goal.begin-requires-clause-within
begin-requires-clause-within g c = input_within (setting_of (c.args.task).now) _ c.in_ok-base.ensures.input

pub begin-requires-clause-base : goal.begin-requires-clause-base
begin-requires-clause-base g c = base_there (setting_of (c.args.task).now) _ c.in_ok-base.ensures.base

pub returns-in_err-open-clause-err : goal.returns-in_err-open-clause-err
returns-in_err-open-clause-err g c = on_err _ (nothing_yet (setting_of (c.args.task).now) c.requires.laws (after_of (c.args.task).now) ((c.args.task).now).limit _ _ refl)

pub go_down-requires : goal.go_down-requires
go_down-requires g c = let b = c.in_ok-open.ensures in (b.0, [], begins_ready (setting_of (c.args.task).now) c.requires.laws (after_of (c.args.task).now) ((c.args.task).now).limit c.in_ok-open.open b.0 b.1)

pub returns-in_err-go_down-clause-err : goal.returns-in_err-go_down-clause-err
returns-in_err-go_down-clause-err g c = let b = c.in_ok-open.ensures in on_err _ (begun_some (setting_of (c.args.task).now) c.requires.laws (after_of (c.args.task).now) ((c.args.task).now).limit c.in_ok-open.open b.0 _ _ b.1 (c.in_err-go_down.ensures.err ((c.args.task).now).limit))

pub turns-init : goal.turns-init
turns-init g c =
    let b = c.in_ok-open.ensures in
    let w = c.in_ok-go_down.ensures.ok ((c.args.task).now).limit in
    let m = w.made in
    let n = (b.1).made in
    let le = c.requires.runs in
    record { running = begun (setting_of (c.args.task).now) c.requires.laws (after_of (c.args.task).now) ((c.args.task).now).limit c.in_ok-open.open _ b.0 _ _ b.1 w; room = omega (arith, m, n, le); falls = (w.wrote).faults }

pub step-requires-clause-fits : goal.step-requires-clause-fits
step-requires-clause-fits g c = (c.turns.invariant.running).fits

pub turns-preserved : goal.turns-preserved
turns-preserved g c =
    let f = c.turns.invariant.falls in
    let h = ((c.in_ok-step.ensures.ok).wrote).faults in
    record { running = turned (setting_of (c.args.task).now) c.requires.laws (after_of (c.args.task).now) ((c.args.task).now).limit c.turns.open c.step.new.self _ _ _ c.turns.invariant.running c.in_ok-step.ensures.ok; room = c.in_ok-step.ensures.room; falls = omega (arith, f, h) }

pub turns-smaller : goal.turns-smaller
turns-smaller g c = (c.in_ok-step.ensures.ok).less

pub returns-in_err-step-clause-err : goal.returns-in_err-step-clause-err
returns-in_err-step-clause-err g c = on_err _ (broken (setting_of (c.args.task).now) c.requires.laws (after_of (c.args.task).now) ((c.args.task).now).limit c.turns.open _ _ _ c.turns.invariant.running c.in_err-step.ensures.err)

pub returns-clause-ok : goal.returns-clause-ok
returns-clause-ok g c = let h = c.turns-test.false in done (setting_of (c.args.task).now) c.requires.laws (after_of (c.args.task).now) ((c.args.task).now).limit c.turns.open _ _ c.requires.runs c.turns.invariant.running (omega (arith, h))
