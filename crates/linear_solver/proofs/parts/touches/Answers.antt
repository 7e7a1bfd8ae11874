use Rattle.std.proofs.Common.{◌∙◌, sym, refl, reverse, get_or, pos}
use Rattle.cc_base.specs.declared.forms.Multiple.{Multiple}
use Rattle.cc_base.specs.Groups.{shares, named}
use Rattle.linear_solver.proofs.Parting.{contains_reverse}
use Rattle.linear_solver.proofs.PartSteps.{touch_here, touch_on, touch_end}
use Rattle.linear_solver.proofs.parts.touches.Goals as goal

pub loop-t-init : goal.loop-t-init
loop-t-init c = refl

pub returns-then-is_in : goal.returns-then-is_in
returns-then-is_in c =
    let d : Multiple = record { place = 0; coefficient = pos 0 } in
    touch_here c.args.terms.now (reverse c.args.part.now) c.loop-t.t-index d (shares (named c.args.terms.now) (reverse c.args.part.now)) c.loop-t-test.true (contains_reverse c.args.part.now (get_or c.args.terms.now c.loop-t.t-index d).place ∙ sym c.is_in.ensures ∙ c.if-is_in.true) c.loop-t.invariant

pub loop-t-preserved : goal.loop-t-preserved
loop-t-preserved c =
    let d : Multiple = record { place = 0; coefficient = pos 0 } in
    touch_on c.args.terms.now (reverse c.args.part.now) c.loop-t.t-index d (shares (named c.args.terms.now) (reverse c.args.part.now)) c.loop-t-test.true (contains_reverse c.args.part.now (get_or c.args.terms.now c.loop-t.t-index d).place ∙ sym c.is_in.ensures ∙ c.if-is_in.false) c.loop-t.invariant

pub returns : goal.returns
returns c = touch_end c.args.terms.now (reverse c.args.part.now) c.loop-t.t-index (shares (named c.args.terms.now) (reverse c.args.part.now)) c.loop-t-test.false c.loop-t.invariant
