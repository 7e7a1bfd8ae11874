use Rattle.std.proofs.Common.{rules, SFits, w32, refl}
use Rattle.sym_run.proofs.StartLaws.{came_begin, at_least_word, at_most_word, no_events}
use Rattle.sym_run.proofs.start.begin.Goals as goal

pub returns : goal.returns
returns c =
    let low : SFits w32 c.lo-low.result = search rules in
    let high : SFits w32 c.hi-high.result = search rules in
    came_begin _ c.requires.points c.requires.input (at_least_word c.lo-low.result _ low c.lo-low.ensures.value, at_most_word c.hi-high.result _ high c.hi-high.ensures.value) _ c.in_ok-code.code c.in_ok-code.ensures.code c.in_ok-code.ensures.function refl
    c.in_ok-nulls.ensures c.in_ok-param_slots.ensures c.new.ensures c.steps.ensures.value c.depth.ensures.value c.in_ok-objects.ensures (no_events c.new-2.result c.new-3.result c.new-2.ensures c.new-3.ensures)
