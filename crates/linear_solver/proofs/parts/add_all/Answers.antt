use Rattle.std.proofs.Common.{refl, reverse}
use Rattle.cc_base.specs.Groups.{put_all}
use Rattle.linear_solver.proofs.PartSteps.{add_more, add_end}
use Rattle.linear_solver.proofs.parts.add_all.Goals as goal

pub loop-x-init : goal.loop-x-init
loop-x-init c = refl

pub loop-x-preserved : goal.loop-x-preserved
loop-x-preserved c = add_more c.args.more.now c.loop-x.x-index (reverse c.loop-x.list.items) (reverse c.add_place.new.list.items) (put_all (reverse c.args.more.now) (reverse c.args.list.now.items)) c.loop-x-test.true c.in_ok-add_place.ensures c.loop-x.invariant

pub returns : goal.returns
returns c = add_end c.args.more.now c.loop-x.x-index (reverse c.loop-x.list.items) (put_all (reverse c.args.more.now) (reverse c.args.list.now.items)) c.loop-x-test.false c.loop-x.invariant
