use Rattle.std.proofs.Common.{◌<◌, refl, arith, ap, ◌∙◌, Some, None, length}
use Rattle.search_walks.specs.Task.{setting_of}
use Rattle.search_walks.specs.declared.log.Log.{Log}
use Rattle.search_walks.proofs.LedLaws.{on_led, place_there, found, less_few, first_at, event_there, is_other, ready_less, ready_fresh, fewer_none, fewer_run, same_log, tried_as, is_made, full, ends_here, cut_within, cut_new, led_none, led_old, led_new}
use Rattle.search_walks.proofs.directed.Course.step.Goals as goal

pub returns-then-log-task-clause-ok : goal.returns-then-log-task-clause-ok
returns-then-log-task-clause-ok g c = λ start led. full (setting_of (c.args.task).now) ((c.args.task).now).limit ((c.args.task).now).tac.now start (c.args.self).now (c.args.log).now _ c.requires.ready led c.if-log-task.true

pub returns-in_default-clause-ok : goal.returns-in_default-clause-ok
returns-in_default-clause-ok g c = λ start led. ends_here (setting_of (c.args.task).now) ((c.args.task).now).limit ((c.args.task).now).tac.now start (c.args.self).now (c.args.log).now _ c.requires.ready led (first_at _ _ _ _ _ None c.deref-2.ensures.value c.deref.ensures.value c.in_default.ensures)

pub remove-candidate-requires : goal.remove-candidate-requires
remove-candidate-requires g c =
    let h : c.in-Some.at < length c.deref.result.now = place_there _ _ _ _ c.in-Some.ensures in
    let n = c.deref.ensures.len in
    omega (arith, h, n)

pub try_one-requires-clause-there : goal.try_one-requires-clause-there
try_one-requires-clause-there g c = event_there (setting_of (c.args.task).now) (c.args.log).now (c.args.self).now c.requires.ready c.in-Some.at c.remove-candidate.result (found _ _ _ _ _ _ c.deref.ensures.value c.in-Some.ensures c.remove-candidate.ensures.value)

pub try_one-requires-clause-offered : goal.try_one-requires-clause-offered
try_one-requires-clause-offered g c = is_other (setting_of (c.args.task).now) (c.args.log).now (c.args.self).now c.requires.ready c.in-Some.at c.remove-candidate.result (found _ _ _ _ _ _ c.deref.ensures.value c.in-Some.ensures c.remove-candidate.ensures.value)

pub try_one-requires-clause-room : goal.try_one-requires-clause-room
try_one-requires-clause-room g c = omega arith

pub returns-in_err-tried-clause-err : goal.returns-in_err-tried-clause-err
returns-in_err-tried-clause-err g c = on_led _ (setting_of (c.args.task).now) ((c.args.task).now).limit ((c.args.task).now).tac.now _ _ (c.args.log).now (c.args.self).now (λ start led. cut_within (setting_of (c.args.task).now) ((c.args.task).now).limit ((c.args.task).now).tac.now start (c.args.self).now (c.args.log).now _ c.requires.ready led c.if-log-task.false c.in-Some.at c.remove-candidate.result (found _ _ _ _ _ _ c.deref.ensures.value c.in-Some.ensures c.remove-candidate.ensures.value) (first_at _ _ _ _ _ (Some c.in-Some.at) c.deref-2.ensures.value c.deref.ensures.value c.in-Some.ensures) _ c.in_err-tried.ensures.err)

pub new-requires-clause-run : goal.new-requires-clause-run
new-requires-clause-run g c = (is_made _ _ _ _ _ _ _ _ (tried_as _ _ _ _ _ _ _ _ _ c.in-Some-tried.is c.in_ok-tried.ensures.ok)).run

pub new-requires-clause-size : goal.new-requires-clause-size
new-requires-clause-size g c = (is_made _ _ _ _ _ _ _ _ (tried_as _ _ _ _ _ _ _ _ _ c.in-Some-tried.is c.in_ok-tried.ensures.ok)).size ∙ c.requires.ready.size

pub returns-in_err-self-clause-err : goal.returns-in_err-self-clause-err
returns-in_err-self-clause-err g c = on_led _ (setting_of (c.args.task).now) ((c.args.task).now).limit ((c.args.task).now).tac.now _ _ (c.args.log).now (c.args.self).now (λ start led. cut_new (setting_of (c.args.task).now) ((c.args.task).now).limit ((c.args.task).now).tac.now start (c.args.self).now (c.args.log).now _ c.requires.ready led c.if-log-task.false c.in-Some.at c.remove-candidate.result (found _ _ _ _ _ _ c.deref.ensures.value c.in-Some.ensures c.remove-candidate.ensures.value) (first_at _ _ _ _ _ (Some c.in-Some.at) c.deref-2.ensures.value c.deref.ensures.value c.in-Some.ensures) _ _ c.in-Some-tried.tried c.if-tried.true _ (tried_as _ _ _ _ _ _ _ _ _ c.in-Some-tried.is c.in_ok-tried.ensures.ok) refl)

pub returns-in_ok-self-clause-ready : goal.returns-in_ok-self-clause-ready
returns-in_ok-self-clause-ready g c =
    let w = is_made _ _ _ _ _ _ _ _ (tried_as _ _ _ _ _ _ _ _ _ c.in-Some-tried.is c.in_ok-tried.ensures.ok) in
    ready_fresh (setting_of (c.args.task).now) ((c.args.task).now).tac.now _ _ _ w.run (w.size ∙ c.requires.ready.size) c.in_ok-self.ensures

pub returns-in_ok-self-clause-fewer : goal.returns-in_ok-self-clause-fewer
returns-in_ok-self-clause-fewer g c = λ e.
    let w = is_made _ _ _ _ _ _ _ _ (tried_as _ _ _ _ _ _ _ _ _ c.in-Some-tried.is c.in_ok-tried.ensures.ok) in
    fewer_run ((c.args.task).now).limit _ _ _ _ w.made c.if-log-task.false (ready_fresh (setting_of (c.args.task).now) ((c.args.task).now).tac.now _ _ _ w.run (w.size ∙ c.requires.ready.size) c.in_ok-self.ensures).few

pub returns-in_ok-self-clause-ok : goal.returns-in_ok-self-clause-ok
returns-in_ok-self-clause-ok g c = λ start led. led_new (setting_of (c.args.task).now) ((c.args.task).now).limit ((c.args.task).now).tac.now start (c.args.self).now (c.args.log).now _ c.requires.ready led c.if-log-task.false c.in-Some.at c.remove-candidate.result (found _ _ _ _ _ _ c.deref.ensures.value c.in-Some.ensures c.remove-candidate.ensures.value) (first_at _ _ _ _ _ (Some c.in-Some.at) c.deref-2.ensures.value c.deref.ensures.value c.in-Some.ensures) _ _ c.in-Some-tried.tried c.if-tried.true _ (tried_as _ _ _ _ _ _ _ _ _ c.in-Some-tried.is c.in_ok-tried.ensures.ok) c.in_ok-self.ensures

pub returns-else-tried-clause-ready : goal.returns-else-tried-clause-ready
returns-else-tried-clause-ready g c =
    let w = is_made _ _ _ _ _ _ _ _ (tried_as _ _ _ _ _ _ _ _ _ c.in-Some-tried.is c.in_ok-tried.ensures.ok) in
    ready_less (setting_of (c.args.task).now) (c.args.log).now (c.args.self).now c.requires.ready c.in-Some.at c.remove-candidate.result (found _ _ _ _ _ _ c.deref.ensures.value c.in-Some.ensures c.remove-candidate.ensures.value) _ _ c.remove-candidate.ensures.items refl refl (w.size ∙ c.requires.ready.size)

pub returns-else-tried-clause-fewer : goal.returns-else-tried-clause-fewer
returns-else-tried-clause-fewer g c = λ e.
    let w = is_made _ _ _ _ _ _ _ _ (tried_as _ _ _ _ _ _ _ _ _ c.in-Some-tried.is c.in_ok-tried.ensures.ok) in
    fewer_run ((c.args.task).now).limit _ _ _ _ w.made c.if-log-task.false (less_few _ _ _ _ c.remove-candidate.ensures.items (found _ _ _ _ _ _ c.deref.ensures.value c.in-Some.ensures c.remove-candidate.ensures.value) c.requires.ready.few)

pub returns-else-tried-clause-ok : goal.returns-else-tried-clause-ok
returns-else-tried-clause-ok g c = λ start led. led_old (setting_of (c.args.task).now) ((c.args.task).now).limit ((c.args.task).now).tac.now start (c.args.self).now (c.args.log).now _ c.requires.ready led c.if-log-task.false c.in-Some.at c.remove-candidate.result (found _ _ _ _ _ _ c.deref.ensures.value c.in-Some.ensures c.remove-candidate.ensures.value) (first_at _ _ _ _ _ (Some c.in-Some.at) c.deref-2.ensures.value c.deref.ensures.value c.in-Some.ensures) _ _ _ refl refl c.remove-candidate.ensures.items c.in-Some-tried.tried c.if-tried.false (tried_as _ _ _ _ _ _ _ _ _ c.in-Some-tried.is c.in_ok-tried.ensures.ok)

pub returns-in_default-tried-clause-ready : goal.returns-in_default-tried-clause-ready
returns-in_default-tried-clause-ready g c =
    let e = same_log _ _ _ _ _ _ _ _ c.in_default-tried.is c.in_ok-tried.ensures.ok in
    ready_less (setting_of (c.args.task).now) (c.args.log).now (c.args.self).now c.requires.ready c.in-Some.at c.remove-candidate.result (found _ _ _ _ _ _ c.deref.ensures.value c.in-Some.ensures c.remove-candidate.ensures.value) _ _ c.remove-candidate.ensures.items refl refl (ap (λ (y : Log). length (y.covered).items) e ∙ c.requires.ready.size)

pub returns-in_default-tried-clause-fewer : goal.returns-in_default-tried-clause-fewer
returns-in_default-tried-clause-fewer g c = λ h.
    let e = same_log _ _ _ _ _ _ _ _ c.in_default-tried.is c.in_ok-tried.ensures.ok in
    fewer_none ((c.args.task).now).limit _ _ _ _ _ c.remove-candidate.result (ap (λ (y : Log). y.made) e) c.remove-candidate.ensures.items (found _ _ _ _ _ _ c.deref.ensures.value c.in-Some.ensures c.remove-candidate.ensures.value)

pub returns-in_default-tried-clause-ok : goal.returns-in_default-tried-clause-ok
returns-in_default-tried-clause-ok g c = λ start led. led_none (setting_of (c.args.task).now) ((c.args.task).now).limit ((c.args.task).now).tac.now start (c.args.self).now (c.args.log).now _ c.requires.ready led c.if-log-task.false c.in-Some.at c.remove-candidate.result (found _ _ _ _ _ _ c.deref.ensures.value c.in-Some.ensures c.remove-candidate.ensures.value) (first_at _ _ _ _ _ (Some c.in-Some.at) c.deref-2.ensures.value c.deref.ensures.value c.in-Some.ensures) _ _ _ refl refl c.remove-candidate.ensures.items _ c.in_default-tried.is c.in_ok-tried.ensures.ok
