use Rattle.std.proofs.Common.{◌∙◌, sym, refl}
use Rattle.cc_base.specs.Groups.{shares}
use Rattle.linear_solver.proofs.PartSteps.{share_here, share_on, share_end}
use Rattle.linear_solver.proofs.parts.share.Goals as goal

pub loop-x-init : goal.loop-x-init
loop-x-init c = refl

pub returns-then-is_in : goal.returns-then-is_in
returns-then-is_in c = share_here c.args.p.now c.args.q.now c.loop-x.x-index (shares c.args.p.now c.args.q.now) c.loop-x-test.true (sym c.is_in.ensures ∙ c.if-is_in.true) c.loop-x.invariant

pub loop-x-preserved : goal.loop-x-preserved
loop-x-preserved c = share_on c.args.p.now c.args.q.now c.loop-x.x-index (shares c.args.p.now c.args.q.now) c.loop-x-test.true (sym c.is_in.ensures ∙ c.if-is_in.false) c.loop-x.invariant

pub returns : goal.returns
returns c = share_end c.args.p.now c.args.q.now c.loop-x.x-index (shares c.args.p.now c.args.q.now) c.loop-x-test.false c.loop-x.invariant
