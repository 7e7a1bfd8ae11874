use Rattle.std.proofs.Common.{◌≡◌, ◌+◌, ◌<◌, None, length, ap, ◌∙◌, subst, arith, rules}
use Rattle.search_walks.specs.Draws.{draw}
use Rattle.search_walks.specs.Steps.{TriedOne}
use Rattle.search_walks.specs.Task.{setting_of}
use Rattle.search_base.proofs.OnLaws.{on_err}
use Rattle.search_walks.proofs.OfferLaws.{in_at, got_at, few_events, gathered, fewer_offering}
use Rattle.search_walks.proofs.ComesLaws.{none_made, run_made, run_is}
use Rattle.search_walks.proofs.BranchLaws.{drew, came_none, came_run, step_some, step_cut, falls_none, falls_run}
use Rattle.search_walks.proofs.branching.Branching.step.Goals as goal

pub try_one-requires-clause-there : goal.try_one-requires-clause-there
try_one-requires-clause-there g c =
    let s = setting_of (c.args.task).now in
    let v = (c.args.self).now.open in
    let l = v.ok.0 in
    let a = c.len.ensures in
    let n : c.len.result ≡ length v.items = omega (arith, a, l) in
    let b = c.draw-at.ensures.below in
    let below : c.draw-at.result < length v.items = omega (arith, b, n) in
    (c.requires.offering.each c.remove-candidate.result (in_at c.remove-candidate.result c.draw-at.result v.items (got_at c.remove-candidate.result c.draw-at.result v.items below c.remove-candidate.ensures.value))).there

pub try_one-requires-clause-offered : goal.try_one-requires-clause-offered
try_one-requires-clause-offered g c =
    let s = setting_of (c.args.task).now in
    let v = (c.args.self).now.open in
    let l = v.ok.0 in
    let a = c.len.ensures in
    let n : c.len.result ≡ length v.items = omega (arith, a, l) in
    let b = c.draw-at.ensures.below in
    let below : c.draw-at.result < length v.items = omega (arith, b, n) in
    (c.requires.offering.each c.remove-candidate.result (in_at c.remove-candidate.result c.draw-at.result v.items (got_at c.remove-candidate.result c.draw-at.result v.items below c.remove-candidate.ensures.value))).offered

pub candidates-requires : goal.candidates-requires
candidates-requires g c =
    let s = setting_of (c.args.task).now in
    let t = subst (TriedOne s _ _ _ _ _ _) c.in-Some.is c.in_ok-tried.ensures.ok in
    few_events s (c.in-Some.tried).run (run_is s _ _ _ _ _ _ c.in-Some.tried t) _ c.as_slice.ensures

pub returns-in_err-tried-clause-err : goal.returns-in_err-tried-clause-err
returns-in_err-tried-clause-err g c =
    let s = setting_of (c.args.task).now in
    let v = (c.args.self).now.open in
    let l = v.ok.0 in
    let a = c.len.ensures in
    let n : c.len.result ≡ length v.items = omega (arith, a, l) in
    let b = c.draw-at.ensures.below in
    let below : c.draw-at.result < length v.items = omega (arith, b, n) in
    let d = drew v.items (c.remove-candidate.new.self).items c.remove-candidate.result (c.args.words).now c.draw-at.new.words c.draw-at.result (c.draw-at.ensures.value ∙ ap (λ m. draw m (c.args.words).now) n) below
    c.remove-candidate.ensures.value c.remove-candidate.ensures.items c.draw-at.ensures.taken in
    on_err _ (step_some s ((c.args.task).now).limit (c.args.self).now.current v.items (c.remove-candidate.new.self).items c.remove-candidate.result (c.args.words).now c.draw-at.new.words _ _ (c.args.log).now c.requires.room d c.in_err-tried.ensures.err)

pub returns-in_err-self-clause-err : goal.returns-in_err-self-clause-err
returns-in_err-self-clause-err g c =
    let s = setting_of (c.args.task).now in
    let v = (c.args.self).now.open in
    let l = v.ok.0 in
    let a = c.len.ensures in
    let n : c.len.result ≡ length v.items = omega (arith, a, l) in
    let b = c.draw-at.ensures.below in
    let below : c.draw-at.result < length v.items = omega (arith, b, n) in
    let d = drew v.items (c.remove-candidate.new.self).items c.remove-candidate.result (c.args.words).now c.draw-at.new.words c.draw-at.result (c.draw-at.ensures.value ∙ ap (λ m. draw m (c.args.words).now) n) below
    c.remove-candidate.ensures.value c.remove-candidate.ensures.items c.draw-at.ensures.taken in
    let t = subst (TriedOne s _ _ _ _ _ _) c.in-Some.is c.in_ok-tried.ensures.ok in
    on_err _ (step_cut s ((c.args.task).now).limit (c.args.self).now.current v.items (c.remove-candidate.new.self).items c.remove-candidate.result (c.args.words).now c.draw-at.new.words _ _ (c.args.log).now c.requires.room d _ c.in-Some.tried t)

pub returns-in_default-clause-came : goal.returns-in_default-clause-came
returns-in_default-clause-came g c =
    let s = setting_of (c.args.task).now in
    let v = (c.args.self).now.open in
    let l = v.ok.0 in
    let a = c.len.ensures in
    let n : c.len.result ≡ length v.items = omega (arith, a, l) in
    let b = c.draw-at.ensures.below in
    let below : c.draw-at.result < length v.items = omega (arith, b, n) in
    let d = drew v.items (c.remove-candidate.new.self).items c.remove-candidate.result (c.args.words).now c.draw-at.new.words c.draw-at.result (c.draw-at.ensures.value ∙ ap (λ m. draw m (c.args.words).now) n) below
    c.remove-candidate.ensures.value c.remove-candidate.ensures.items c.draw-at.ensures.taken in
    let e : c.in_ok-tried.tried ≡ None = search rules in
    let t = subst (TriedOne s _ _ _ _ _ _) e c.in_ok-tried.ensures.ok in
    λ start before came. came_none s ((c.args.task).now).limit start before (c.args.self).now.current v.items (c.remove-candidate.new.self).items c.remove-candidate.result (c.args.words).now c.draw-at.new.words _ (c.args.log).now c.requires.room d came _ _ t

pub returns-in_default-clause-offering : goal.returns-in_default-clause-offering
returns-in_default-clause-offering g c =
    let s = setting_of (c.args.task).now in
    let p = c.remove-candidate.ensures.len in
    let q = (c.remove-candidate.new.self).ok.0 in
    let l = ((c.args.self).now.open).ok.0 in
    let f : length (c.remove-candidate.new.self).items + 1 ≡ length ((c.args.self).now.open).items = omega (arith, p, q, l) in
    fewer_offering s (c.args.self).now.current ((c.args.self).now.open).items (c.remove-candidate.new.self).items c.draw-at.result c.remove-candidate.ensures.items f c.requires.offering

pub returns-in_default-clause-within : goal.returns-in_default-clause-within
returns-in_default-clause-within g c =
    let s = setting_of (c.args.task).now in
    let e : c.in_ok-tried.tried ≡ None = search rules in
    let t = subst (TriedOne s _ _ _ _ _ _) e c.in_ok-tried.ensures.ok in
    let m = none_made s _ _ _ _ _ _ t in
    let h = c.requires.room in
    omega (arith, m, h)

pub returns-in_default-clause-falls : goal.returns-in_default-clause-falls
returns-in_default-clause-falls g c =
    let s = setting_of (c.args.task).now in
    let e : c.in_ok-tried.tried ≡ None = search rules in
    let t = subst (TriedOne s _ _ _ _ _ _) e c.in_ok-tried.ensures.ok in
    let p = c.remove-candidate.ensures.len in
    let q = (c.remove-candidate.new.self).ok.0 in
    let l = ((c.args.self).now.open).ok.0 in
    let f : length (c.remove-candidate.new.self).items + 1 ≡ length ((c.args.self).now.open).items = omega (arith, p, q, l) in
    falls_none ((c.args.task).now).limit _ _ _ _ (none_made s _ _ _ _ _ _ t) f

pub returns-clause-came : goal.returns-clause-came
returns-clause-came g c =
    let s = setting_of (c.args.task).now in
    let v = (c.args.self).now.open in
    let l = v.ok.0 in
    let a = c.len.ensures in
    let n : c.len.result ≡ length v.items = omega (arith, a, l) in
    let b = c.draw-at.ensures.below in
    let below : c.draw-at.result < length v.items = omega (arith, b, n) in
    let d = drew v.items (c.remove-candidate.new.self).items c.remove-candidate.result (c.args.words).now c.draw-at.new.words c.draw-at.result (c.draw-at.ensures.value ∙ ap (λ m. draw m (c.args.words).now) n) below
    c.remove-candidate.ensures.value c.remove-candidate.ensures.items c.draw-at.ensures.taken in
    let t = subst (TriedOne s _ _ _ _ _ _) c.in-Some.is c.in_ok-tried.ensures.ok in
    let k = gathered s (c.in-Some.tried).run (run_is s _ _ _ _ _ _ c.in-Some.tried t) (c.in_ok-self.field-0).items _ c.in_ok-self.ensures c.as_slice.ensures in
    λ start before came. came_run s ((c.args.task).now).limit start before (c.args.self).now.current v.items (c.remove-candidate.new.self).items c.remove-candidate.result (c.args.words).now c.draw-at.new.words _ (c.args.log).now c.requires.room d came _ _ c.in-Some.tried (c.in_ok-self.field-0).items t k.1

pub returns-clause-offering : goal.returns-clause-offering
returns-clause-offering g c =
    let s = setting_of (c.args.task).now in
    let t = subst (TriedOne s _ _ _ _ _ _) c.in-Some.is c.in_ok-tried.ensures.ok in
    let k = gathered s (c.in-Some.tried).run (run_is s _ _ _ _ _ _ c.in-Some.tried t) (c.in_ok-self.field-0).items _ c.in_ok-self.ensures c.as_slice.ensures in
    k.0

pub returns-clause-within : goal.returns-clause-within
returns-clause-within g c =
    let s = setting_of (c.args.task).now in
    let t = subst (TriedOne s _ _ _ _ _ _) c.in-Some.is c.in_ok-tried.ensures.ok in
    let m = run_made s _ _ _ _ _ _ c.in-Some.tried t in
    let h = c.requires.room in
    omega (arith, m, h)

pub returns-clause-falls : goal.returns-clause-falls
returns-clause-falls g c =
    let s = setting_of (c.args.task).now in
    let t = subst (TriedOne s _ _ _ _ _ _) c.in-Some.is c.in_ok-tried.ensures.ok in
    let k = gathered s (c.in-Some.tried).run (run_is s _ _ _ _ _ _ c.in-Some.tried t) (c.in_ok-self.field-0).items _ c.in_ok-self.ensures c.as_slice.ensures in
    falls_run ((c.args.task).now).limit _ _ _ _ (run_made s _ _ _ _ _ _ c.in-Some.tried t) c.requires.room k.0.few
