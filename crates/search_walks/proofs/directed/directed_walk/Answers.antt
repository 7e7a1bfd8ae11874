use Rattle.std.proofs.Common.{refl, arith, subst, ◌∙◌}
use Rattle.search_walks.specs.Course.{Went}
use Rattle.search_walks.specs.Task.{setting_of}
use Rattle.search_base.proofs.OnLaws.{on_err}
use Rattle.search_walks.proofs.LedLaws.{cut_at_base, cut_after_base, led_first, ready_fresh}
use Rattle.search_walks.proofs.directed.directed_walk.Goals as goal

pub begin-requires-clause-room : goal.begin-requires-clause-room
begin-requires-clause-room g c = let e = c.requires.nothing.made in omega (arith, e)

pub begin-requires-clause-size : goal.begin-requires-clause-size
begin-requires-clause-size g c = c.requires.nothing.size

pub returns-in_err-base-clause-err : goal.returns-in_err-base-clause-err
returns-in_err-base-clause-err g c = on_err _ (cut_at_base (setting_of (c.args.task).now) ((c.args.task).now).limit ((c.args.task).now).tac.now _ c.lo-lowest.ensures.in_range _ c.in_err-base.ensures.err)

pub returns-in_err-flow-clause-err : goal.returns-in_err-flow-clause-err
returns-in_err-flow-clause-err g c = on_err _ (cut_after_base (setting_of (c.args.task).now) ((c.args.task).now).limit ((c.args.task).now).tac.now _ _ _ _ _ _ c.requires.nothing c.in_ok-base.ensures.ok refl)

pub new-requires-2-clause-size : goal.new-requires-2-clause-size
new-requires-2-clause-size g c = c.in_ok-base.ensures.ok.counted.covered.size ∙ c.requires.nothing.size

pub new-requires-2-clause-run : goal.new-requires-2-clause-run
new-requires-2-clause-run g c = c.in_ok-base.ensures.ok.run

pub returns-in_err-course-clause-err : goal.returns-in_err-course-clause-err
returns-in_err-course-clause-err g c = on_err _ (cut_after_base (setting_of (c.args.task).now) ((c.args.task).now).limit ((c.args.task).now).tac.now _ _ _ _ _ _ c.requires.nothing c.in_ok-base.ensures.ok refl)

pub steps-init : goal.steps-init
steps-init g c = record {
  ready = ready_fresh (setting_of (c.args.task).now) ((c.args.task).now).tac.now _ _ _ c.in_ok-base.ensures.ok.run (c.in_ok-base.ensures.ok.counted.covered.size ∙ c.requires.nothing.size) c.in_ok-course.ensures;
  led = led_first (setting_of (c.args.task).now) ((c.args.task).now).limit ((c.args.task).now).tac.now _ _ _ _ _ _ c.requires.runs c.requires.nothing c.in_ok-base.ensures.ok c.in_ok-course.ensures;
  falls = c.in_ok-base.ensures.never_falls;
}

pub steps-preserved : goal.steps-preserved
steps-preserved g c = record {
  ready = c.in_ok-goes_on.ensures.ready;
  led = subst (Went (setting_of (c.args.task).now) ((c.args.task).now).limit ((c.args.task).now).tac.now _ _ _ _) c.if-not-goes_on.false (c.in_ok-goes_on.ensures.ok _ c.steps.invariant.led);
  falls = let f = c.steps.invariant.falls in let h = c.in_ok-goes_on.ensures.never_falls in omega (arith, f, h);
}

pub steps-smaller : goal.steps-smaller
steps-smaller g c = c.in_ok-goes_on.ensures.fewer c.if-not-goes_on.false

pub step-requires-clause-ready : goal.step-requires-clause-ready
step-requires-clause-ready g c = c.steps.invariant.ready

pub returns-in_err-goes_on-clause-err : goal.returns-in_err-goes_on-clause-err
returns-in_err-goes_on-clause-err g c = on_err _ (c.in_err-goes_on.ensures.err _ c.steps.invariant.led)

pub returns-then-not-goes_on-clause-ok : goal.returns-then-not-goes_on-clause-ok
returns-then-not-goes_on-clause-ok g c = subst (Went (setting_of (c.args.task).now) ((c.args.task).now).limit ((c.args.task).now).tac.now _ _ _ _) c.if-not-goes_on.true (c.in_ok-goes_on.ensures.ok _ c.steps.invariant.led)
