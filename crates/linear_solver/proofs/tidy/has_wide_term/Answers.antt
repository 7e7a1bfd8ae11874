use Rattle.std.proofs.Common.{◌∙◌, ap, refl, rules, SFits, pos, get_or, unsigned_abs}
use Rattle.std.proofs.lemmas.Int.{to_z-of_z}
use mir.Syntax.{w128}
use Rattle.cc_base.specs.Pass.{wide_term}
use Rattle.cc_base.specs.declared.forms.Multiple.{Multiple}
use Rattle.linear_solver.proofs.TidySteps.{wide_here, wide_on, wide_end}
use Rattle.linear_solver.proofs.tidy.has_wide_term.Goals as goal

pub loop-t-init : goal.loop-t-init
loop-t-init c = refl

pub returns-then-unsigned_abs-gt-COEFFICIENT_LIMIT : goal.returns-then-unsigned_abs-gt-COEFFICIENT_LIMIT
returns-then-unsigned_abs-gt-COEFFICIENT_LIMIT c =
    let d : Multiple = record { place = 0; coefficient = pos 0 } in
    let f : SFits w128 (get_or c.args.terms.now c.loop-t.t-index d).coefficient = search rules in
    wide_here c.args.terms.now c.loop-t.t-index c.unsigned_abs.result d (wide_term c.args.terms.now) c.loop-t-test.true (c.unsigned_abs.ensures.value ∙ ap unsigned_abs (to_z-of_z w128 (get_or c.args.terms.now c.loop-t.t-index d).coefficient f)) c.if-unsigned_abs-gt-COEFFICIENT_LIMIT.true c.loop-t.invariant

pub loop-t-preserved : goal.loop-t-preserved
loop-t-preserved c =
    let d : Multiple = record { place = 0; coefficient = pos 0 } in
    let f : SFits w128 (get_or c.args.terms.now c.loop-t.t-index d).coefficient = search rules in
    wide_on c.args.terms.now c.loop-t.t-index c.unsigned_abs.result d (wide_term c.args.terms.now) c.loop-t-test.true (c.unsigned_abs.ensures.value ∙ ap unsigned_abs (to_z-of_z w128 (get_or c.args.terms.now c.loop-t.t-index d).coefficient f)) c.if-unsigned_abs-gt-COEFFICIENT_LIMIT.false c.loop-t.invariant

pub returns : goal.returns
returns c = wide_end c.args.terms.now c.loop-t.t-index (wide_term c.args.terms.now) c.loop-t-test.false c.loop-t.invariant
