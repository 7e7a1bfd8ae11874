use Rattle.std.proofs.Common.{◌≡◌, ◌∙◌, ap, SFits, to_z, of_z, arith, rules, unsigned_abs, ℤ, pos, ◌<◌, length, slice_index_or}
use Rattle.std.proofs.lemmas.Int.{to_z-of_z}
use mir.Syntax.{w128}
use Rattle.cc_base.specs.Inequality.{floor}
use Rattle.cc_base.specs.declared.forms.Multiple.{Multiple}
use Rattle.linear_solver.proofs.Steps.{divide_step}
use Rattle.linear_solver.proofs.normalise.divide.Goals as goal

pub loop-t-preserved : goal.loop-t-preserved
loop-t-preserved c =
    let d : Multiple = record { place = 0; coefficient = pos 0 } in
    let x = slice_index_or c.loop-t.terms c.loop-t.t-index d in
    let h : c.loop-t.t-index < length c.args.terms.now = omega arith in
    let fx : SFits w128 x.coefficient = search rules in
    let fr : SFits w128 c.floor_of-t.result = search rules in
    let g : to_z w128 (of_z w128 c.args.g) ≡ c.args.g = to_z-of_z w128 c.args.g c.ranges.g in
    let e : to_z w128 (of_z w128 c.floor_of-t.result) ≡ floor x.coefficient (unsigned_abs (to_z w128 (of_z w128 c.args.g))) =
    to_z-of_z w128 c.floor_of-t.result fr ∙ c.floor_of-t.ensures ∙ ap (λ (n : ℤ). floor n (unsigned_abs (to_z w128 (of_z w128 c.args.g)))) (to_z-of_z w128 x.coefficient fx) in
    divide_step (unsigned_abs (to_z w128 (of_z w128 c.args.g))) c.args.terms.now c.loop-t.terms c.loop-t.t-index d (to_z w128 (of_z w128 c.floor_of-t.result)) h c.loop-t.invariant e
