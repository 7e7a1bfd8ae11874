use Rattle.std.proofs.Common.{◌≡◌, None, subst, arith, refl, rules}
use Rattle.search_walks.specs.Passing.{current_of, DrawnAt}
use Rattle.search_walks.specs.Steps.{TriedOne}
use Rattle.search_walks.specs.Task.{setting_of}
use Rattle.search_base.proofs.OnLaws.{on_err}
use Rattle.search_walks.proofs.ComesLaws.{none_made, none_size, run_made, run_size, run_is}
use Rattle.search_walks.proofs.DrawLaws.{drawn_in, path_short}
use Rattle.search_walks.proofs.PassLaws.{run_there, below_there, event_on, event_none, event_run, event_some, stands_next, stands_run, falls_on, falls_back, event_cut}
use Rattle.search_walks.proofs.passing.Standing.step.Goals as goal

pub draw_at-requires-clause-run : goal.draw_at-requires-clause-run
draw_at-requires-clause-run g c =
    let s = setting_of (c.args.task).now in
    let limit = ((c.args.task).now).limit in
    let cur = current_of (c.args.self).now (c.args.base).now in
    let r = (c.current-run.result).now in
    let k = ((c.args.self).now).event in
    run_there s limit cur r c.current-run.ensures k c.requires.stands c.requires.there

pub draw_at-requires-clause-there : goal.draw_at-requires-clause-there
draw_at-requires-clause-there g c =
    let s = setting_of (c.args.task).now in
    let limit = ((c.args.task).now).limit in
    let cur = current_of (c.args.self).now (c.args.base).now in
    let r = (c.current-run.result).now in
    let k = ((c.args.self).now).event in
    below_there s limit cur r c.current-run.ensures k c.requires.stands c.requires.there

pub try_one-requires-clause-run : goal.try_one-requires-clause-run
try_one-requires-clause-run g c =
    let s = setting_of (c.args.task).now in
    let limit = ((c.args.task).now).limit in
    let cur = current_of (c.args.self).now (c.args.base).now in
    let r = (c.current-run.result).now in
    let k = ((c.args.self).now).event in
    run_there s limit cur r c.current-run.ensures k c.requires.stands c.requires.there

pub try_one-requires-clause-there : goal.try_one-requires-clause-there
try_one-requires-clause-there g c =
    let s = setting_of (c.args.task).now in
    let limit = ((c.args.task).now).limit in
    let cur = current_of (c.args.self).now (c.args.base).now in
    let r = (c.current-run.result).now in
    let k = ((c.args.self).now).event in
    below_there s limit cur r c.current-run.ensures k c.requires.stands c.requires.there

pub try_one-requires-clause-offered : goal.try_one-requires-clause-offered
try_one-requires-clause-offered g c =
    let s = setting_of (c.args.task).now in
    let limit = ((c.args.task).now).limit in
    let cur = current_of (c.args.self).now (c.args.base).now in
    let r = (c.current-run.result).now in
    let k = ((c.args.self).now).event in
    let d = subst (DrawnAt s _ _ _ _) c.in-Some.is c.in_ok-drawn.ensures in
    drawn_in s r k _ _ c.in-Some.outcome d

pub returns-in_err-drawn-clause-err : goal.returns-in_err-drawn-clause-err
returns-in_err-drawn-clause-err g c =
    let s = setting_of (c.args.task).now in
    let limit = ((c.args.task).now).limit in
    let cur = current_of (c.args.self).now (c.args.base).now in
    let r = (c.current-run.result).now in
    let k = ((c.args.self).now).event in
    on_err _ (event_cut s limit (cur.trace).input k (c.args.words).now _ (c.args.log).now)

pub returns-in_default-clause-came : goal.returns-in_default-clause-came
returns-in_default-clause-came g c =
    let s = setting_of (c.args.task).now in
    let limit = ((c.args.task).now).limit in
    let cur = current_of (c.args.self).now (c.args.base).now in
    let r = (c.current-run.result).now in
    let k = ((c.args.self).now).event in
    let e : c.in_ok-drawn.drawn ≡ None = search rules in
    let d = subst (DrawnAt s _ _ _ _) e c.in_ok-drawn.ensures in
    event_on s limit cur r c.current-run.ensures k c.requires.stands c.requires.there (c.args.words).now c.draw_at.new.words (c.args.log).now c.requires.room _ refl d _

pub returns-in_default-clause-stands : goal.returns-in_default-clause-stands
returns-in_default-clause-stands g c =
    let s = setting_of (c.args.task).now in
    let limit = ((c.args.task).now).limit in
    let cur = current_of (c.args.self).now (c.args.base).now in
    let r = (c.current-run.result).now in
    let k = ((c.args.self).now).event in
    stands_next s limit cur r c.current-run.ensures k c.requires.stands c.requires.there _ refl

pub returns-in_default-clause-falls : goal.returns-in_default-clause-falls
returns-in_default-clause-falls g c =
    let s = setting_of (c.args.task).now in
    let limit = ((c.args.task).now).limit in
    let cur = current_of (c.args.self).now (c.args.base).now in
    let r = (c.current-run.result).now in
    let k = ((c.args.self).now).event in
    falls_on limit _ _ k _ _ refl refl c.requires.there

pub returns-in_err-tried-clause-err : goal.returns-in_err-tried-clause-err
returns-in_err-tried-clause-err g c =
    let s = setting_of (c.args.task).now in
    let limit = ((c.args.task).now).limit in
    let cur = current_of (c.args.self).now (c.args.base).now in
    let r = (c.current-run.result).now in
    let k = ((c.args.self).now).event in
    let d = subst (DrawnAt s _ _ _ _) c.in-Some.is c.in_ok-drawn.ensures in
    on_err _ (event_some s limit cur r c.current-run.ensures k c.requires.stands c.requires.there (c.args.words).now c.draw_at.new.words (c.args.log).now c.requires.room c.in-Some.outcome d _ _ c.in_err-tried.ensures.err)

pub returns-in_default-tried-clause-came : goal.returns-in_default-tried-clause-came
returns-in_default-tried-clause-came g c =
    let s = setting_of (c.args.task).now in
    let limit = ((c.args.task).now).limit in
    let cur = current_of (c.args.self).now (c.args.base).now in
    let r = (c.current-run.result).now in
    let k = ((c.args.self).now).event in
    let d = subst (DrawnAt s _ _ _ _) c.in-Some.is c.in_ok-drawn.ensures in
    let e : c.in_ok-tried.tried ≡ None = search rules in
    let t = subst (TriedOne s _ _ _ _ _ _) e c.in_ok-tried.ensures.ok in
    event_none s limit cur r c.current-run.ensures k c.requires.stands c.requires.there (c.args.words).now c.draw_at.new.words (c.args.log).now c.requires.room c.in-Some.outcome d _ refl _ _ _ t

pub returns-in_default-tried-clause-stands : goal.returns-in_default-tried-clause-stands
returns-in_default-tried-clause-stands g c =
    let s = setting_of (c.args.task).now in
    let limit = ((c.args.task).now).limit in
    let cur = current_of (c.args.self).now (c.args.base).now in
    let r = (c.current-run.result).now in
    let k = ((c.args.self).now).event in
    stands_next s limit cur r c.current-run.ensures k c.requires.stands c.requires.there _ refl

pub returns-in_default-tried-clause-within : goal.returns-in_default-tried-clause-within
returns-in_default-tried-clause-within g c =
    let s = setting_of (c.args.task).now in
    let limit = ((c.args.task).now).limit in
    let cur = current_of (c.args.self).now (c.args.base).now in
    let r = (c.current-run.result).now in
    let k = ((c.args.self).now).event in
    let d = subst (DrawnAt s _ _ _ _) c.in-Some.is c.in_ok-drawn.ensures in
    let e : c.in_ok-tried.tried ≡ None = search rules in
    let t = subst (TriedOne s _ _ _ _ _ _) e c.in_ok-tried.ensures.ok in
    let m = none_made s _ _ _ _ _ _ t in
    let h = c.requires.room in
    omega (arith, m, h)

pub returns-in_default-tried-clause-size : goal.returns-in_default-tried-clause-size
returns-in_default-tried-clause-size g c =
    let s = setting_of (c.args.task).now in
    let limit = ((c.args.task).now).limit in
    let cur = current_of (c.args.self).now (c.args.base).now in
    let r = (c.current-run.result).now in
    let k = ((c.args.self).now).event in
    let d = subst (DrawnAt s _ _ _ _) c.in-Some.is c.in_ok-drawn.ensures in
    let e : c.in_ok-tried.tried ≡ None = search rules in
    let t = subst (TriedOne s _ _ _ _ _ _) e c.in_ok-tried.ensures.ok in
    none_size s _ _ _ _ _ _ t

pub returns-in_default-tried-clause-falls : goal.returns-in_default-tried-clause-falls
returns-in_default-tried-clause-falls g c =
    let s = setting_of (c.args.task).now in
    let limit = ((c.args.task).now).limit in
    let cur = current_of (c.args.self).now (c.args.base).now in
    let r = (c.current-run.result).now in
    let k = ((c.args.self).now).event in
    let d = subst (DrawnAt s _ _ _ _) c.in-Some.is c.in_ok-drawn.ensures in
    let e : c.in_ok-tried.tried ≡ None = search rules in
    let t = subst (TriedOne s _ _ _ _ _ _) e c.in_ok-tried.ensures.ok in
    falls_on limit _ _ k _ _ (none_made s _ _ _ _ _ _ t) refl c.requires.there

pub returns-clause-came : goal.returns-clause-came
returns-clause-came g c =
    let s = setting_of (c.args.task).now in
    let limit = ((c.args.task).now).limit in
    let cur = current_of (c.args.self).now (c.args.base).now in
    let r = (c.current-run.result).now in
    let k = ((c.args.self).now).event in
    let d = subst (DrawnAt s _ _ _ _) c.in-Some.is c.in_ok-drawn.ensures in
    let t = subst (TriedOne s _ _ _ _ _ _) c.in-Some-tried.is c.in_ok-tried.ensures.ok in
    event_run s limit cur r c.current-run.ensures k c.requires.stands c.requires.there (c.args.words).now c.draw_at.new.words (c.args.log).now c.requires.room c.in-Some.outcome d c.event_behind-self.result _ _ _ c.in-Some-tried.tried t c.event_behind-self.ensures.kept c.event_behind-self.ensures.left

pub returns-clause-stands : goal.returns-clause-stands
returns-clause-stands g c =
    let s = setting_of (c.args.task).now in
    let limit = ((c.args.task).now).limit in
    let cur = current_of (c.args.self).now (c.args.base).now in
    let r = (c.current-run.result).now in
    let k = ((c.args.self).now).event in
    let d = subst (DrawnAt s _ _ _ _) c.in-Some.is c.in_ok-drawn.ensures in
    let t = subst (TriedOne s _ _ _ _ _ _) c.in-Some-tried.is c.in_ok-tried.ensures.ok in
    stands_run s (r.trace).input k c.event_behind-self.result c.in-Some.outcome r.path _ _ _ _ c.in-Some-tried.tried (run_there s limit cur r c.current-run.ensures k c.requires.stands c.requires.there).path (below_there s limit cur r c.current-run.ensures k c.requires.stands c.requires.there) t c.event_behind-self.ensures.kept c.event_behind-self.ensures.left

pub returns-clause-within : goal.returns-clause-within
returns-clause-within g c =
    let s = setting_of (c.args.task).now in
    let limit = ((c.args.task).now).limit in
    let cur = current_of (c.args.self).now (c.args.base).now in
    let r = (c.current-run.result).now in
    let k = ((c.args.self).now).event in
    let d = subst (DrawnAt s _ _ _ _) c.in-Some.is c.in_ok-drawn.ensures in
    let t = subst (TriedOne s _ _ _ _ _ _) c.in-Some-tried.is c.in_ok-tried.ensures.ok in
    let m = run_made s _ _ _ _ _ _ c.in-Some-tried.tried t in
    let h = c.requires.room in
    omega (arith, m, h)

pub returns-clause-size : goal.returns-clause-size
returns-clause-size g c =
    let s = setting_of (c.args.task).now in
    let limit = ((c.args.task).now).limit in
    let cur = current_of (c.args.self).now (c.args.base).now in
    let r = (c.current-run.result).now in
    let k = ((c.args.self).now).event in
    let d = subst (DrawnAt s _ _ _ _) c.in-Some.is c.in_ok-drawn.ensures in
    let t = subst (TriedOne s _ _ _ _ _ _) c.in-Some-tried.is c.in_ok-tried.ensures.ok in
    run_size s _ _ _ _ _ _ c.in-Some-tried.tried t

pub returns-clause-falls : goal.returns-clause-falls
returns-clause-falls g c =
    let s = setting_of (c.args.task).now in
    let limit = ((c.args.task).now).limit in
    let cur = current_of (c.args.self).now (c.args.base).now in
    let r = (c.current-run.result).now in
    let k = ((c.args.self).now).event in
    let d = subst (DrawnAt s _ _ _ _) c.in-Some.is c.in_ok-drawn.ensures in
    let t = subst (TriedOne s _ _ _ _ _ _) c.in-Some-tried.is c.in_ok-tried.ensures.ok in
    falls_back limit _ _ k _ _ _ (run_made s _ _ _ _ _ _ c.in-Some-tried.tried t) c.requires.room (path_short s (c.in-Some-tried.tried).run (run_is s _ _ _ _ _ _ c.in-Some-tried.tried t))
