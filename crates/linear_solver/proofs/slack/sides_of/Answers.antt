use Rattle.std.proofs.Common.{◌∙◌, sym, ap, subst, refl, arith, List}
use Rattle.cc_base.specs.Inequality.{coefficient}
use Rattle.cc_base.specs.declared.forms.Multiple.{Multiple}
use Rattle.linear_solver.specs.Ordered.{Ordered}
use Rattle.linear_solver.specs.Seen.{seen_all}
use Rattle.linear_solver.specs.declared.slack.Side.{Side}
use Rattle.linear_solver.specs.Sides.{side, side_step, sides, no_sides}
use Rattle.linear_solver.proofs.Loops.{narrow_at}
use Rattle.linear_solver.proofs.SideSteps.{sides_more, sides_end, lowers_within, uppers_within}
use Rattle.linear_solver.proofs.slack.sides_of.Goals as goal

pub loop-i-init : goal.loop-i-init
unfolding sides no_sides
loop-i-init c = record { lowers = omega arith; uppers = omega arith; same = refl }

pub side_of-requires : goal.side_of-requires
side_of-requires c = subst (λ (y : List Multiple). Ordered 0 y) (sym c.deref.ensures.value) (narrow_at c.args.list.now c.loop-i.i-index c.i-item.result c.requires c.loop-i-test.true c.i-item.is).ordered

pub loop-i-preserved : goal.loop-i-preserved
loop-i-preserved c =
    let s = side (coefficient c.args.place c.i-item.result.terms.items) in
    let e = c.with_side-all.ensures ∙ ap (λ (y : Side). side_step y c.loop-i.all) (c.side_of.ensures ∙ ap (λ (y : List Multiple). side (coefficient c.args.place y)) c.deref.ensures.value) in
    record {
      lowers = lowers_within s c.loop-i.all c.with_side-all.result c.loop-i.i-index e c.loop-i.invariant.lowers;
      uppers = uppers_within s c.loop-i.all c.with_side-all.result c.loop-i.i-index e c.loop-i.invariant.uppers;
      same = sides_more c.args.place c.loop-i.all c.with_side-all.result c.args.list.now c.loop-i.i-index c.i-item.result (sides c.args.place (seen_all c.args.list.now)) c.loop-i-test.true c.i-item.is e c.loop-i.invariant.same;
    }

pub returns : goal.returns
returns c = sides_end c.args.place c.loop-i.all (sides c.args.place (seen_all c.args.list.now)) c.args.list.now c.loop-i.i-index c.loop-i-test.false c.loop-i.invariant.same
