use Rattle.std.proofs.Common.{◌≡◌, inl, [], length, slice_get, ap, sym, ◌∙◌, refl, arith, rules}
use Rattle.search_walks.specs.Task.{setting_of}
use Rattle.sym_run.specs.Traces.{outcome_at}
use Rattle.search_walks.proofs.DrawLaws.{events_below, some_in, drawn_none, drawn_own, drawn_other}
use Rattle.search_walks.proofs.passing.draw_at.Goals as goal

pub event_of-event-requires : goal.event_of-event-requires
event_of-event-requires c =
    let s = setting_of (c.args.task).now in
    events_below s (c.args.run).now c.requires.run c.args.at c.requires.there

pub all_outcomes-requires : goal.all_outcomes-requires
all_outcomes-requires c =
    c.requires.run.few _ _ c.event_of-event.ensures

pub draw-drawn-requires : goal.draw-drawn-requires
draw-drawn-requires c =
    let a = some_in (outcome_at (c.event_of-event.result).now) c.in_ok-all.all ((c.in_ok-all.ensures.all (outcome_at (c.event_of-event.result).now)).1 (inl refl)) in
    let b = c.len.ensures in
    omega (arith, a, b)

pub outcome_of-outcome-requires : goal.outcome_of-outcome-requires
outcome_of-outcome-requires c =
    let a = ap length c.as_slice.ensures in
    let b = c.len.ensures in
    let h = c.draw-drawn.ensures.below in
    omega (arith, a, b, h)

pub returns-then-is_empty : goal.returns-then-is_empty
returns-then-is_empty c =
    let s = setting_of (c.args.task).now in
    let f : (c.event_of-event.result.now).others ≡ [] = search rules in
    drawn_none s (c.args.run).now c.requires.run c.args.at (c.event_of-event.result).now c.event_of-event.ensures (c.args.words).now (c.args.words).now f refl

pub returns-then-same : goal.returns-then-same
returns-then-same c =
    let s = setting_of (c.args.task).now in
    let is = ap (λ l. slice_get l c.draw-drawn.result) (sym c.as_slice.ensures) ∙ c.outcome_of-outcome.ensures in
    let f : (c.event_of-event.result.now).others ≡ [] → ⊥ = search rules in
    let e : c.outcome_of-outcome.result ≡ outcome_at (c.event_of-event.result).now = search rules in
    drawn_own s (c.args.run).now c.requires.run c.args.at (c.event_of-event.result).now c.event_of-event.ensures (c.args.words).now c.draw-drawn.new.words c.in_ok-all.all c.in_ok-all.ensures.ascend c.in_ok-all.ensures.all c.draw-drawn.result c.len.result c.outcome_of-outcome.result c.draw-drawn.ensures.value c.len.ensures is c.draw-drawn.ensures.taken f e

pub returns : goal.returns
returns c =
    let s = setting_of (c.args.task).now in
    let is = ap (λ l. slice_get l c.draw-drawn.result) (sym c.as_slice.ensures) ∙ c.outcome_of-outcome.ensures in
    drawn_other s (c.args.run).now c.requires.run c.args.at (c.event_of-event.result).now c.event_of-event.ensures (c.args.words).now c.draw-drawn.new.words c.in_ok-all.all c.in_ok-all.ensures.ascend c.in_ok-all.ensures.all c.draw-drawn.result c.len.result c.outcome_of-outcome.result c.draw-drawn.ensures.value c.len.ensures is c.draw-drawn.ensures.taken (c.same.ensures.other c.if-same.false)
