use Rattle.std.proofs.Common.{◌∙◌, refl, rules, pos, get_or, SFits}
use Rattle.std.proofs.lemmas.Int.{to_z-of_z}
use mir.Syntax.{w128}
use Rattle.cc_base.specs.Inequality.{coefficient}
use Rattle.cc_base.specs.declared.forms.Multiple.{Multiple}
use Rattle.linear_solver.proofs.Loops.{ordered_rest, coefficient_found, coefficient_next, coefficient_end}
use Rattle.linear_solver.proofs.inequalities.coefficient_of.Goals as goal

pub loop-t-init : goal.loop-t-init
loop-t-init c = record { ordered = c.requires; same = refl }

pub returns-then-t-place : goal.returns-then-t-place
returns-then-t-place c =
    let d : Multiple = record { place = 0; coefficient = pos 0 } in
    let t = get_or c.args.terms.now c.loop-t.t-index d in
    let f : SFits w128 t.coefficient = search rules in
    to_z-of_z w128 t.coefficient f ∙ coefficient_found c.args.place c.args.terms.now c.loop-t.t-index d (coefficient c.args.place c.args.terms.now) c.loop-t-test.true c.if-t-place.true c.loop-t.invariant.ordered c.loop-t.invariant.same

pub loop-t-preserved : goal.loop-t-preserved
loop-t-preserved c =
    let d : Multiple = record { place = 0; coefficient = pos 0 } in
    record {
      ordered = ordered_rest c.args.terms.now c.loop-t.t-index d c.loop-t-test.true c.loop-t.invariant.ordered;
      same = coefficient_next c.args.place c.args.terms.now c.loop-t.t-index d (coefficient c.args.place c.args.terms.now) c.loop-t-test.true c.if-t-place.false c.loop-t.invariant.same;
    }

pub returns : goal.returns
returns c = coefficient_end c.args.place c.args.terms.now c.loop-t.t-index (coefficient c.args.place c.args.terms.now) c.loop-t-test.false c.loop-t.invariant.same
