use Rattle.std.proofs.Common.{refl}
use Rattle.cc_base.specs.Groups.{contains}
use Rattle.linear_solver.proofs.Members.{found_here, not_here, none_left}
use Rattle.linear_solver.proofs.places.is_in.Goals as goal

pub loop-y-init : goal.loop-y-init
loop-y-init c = refl

pub returns-then-y-place : goal.returns-then-y-place
returns-then-y-place c = found_here c.args.list.now c.loop-y.y-index c.args.place (contains c.args.list.now c.args.place) c.loop-y-test.true c.if-y-place.true c.loop-y.invariant

pub loop-y-preserved : goal.loop-y-preserved
loop-y-preserved c = not_here c.args.list.now c.loop-y.y-index c.args.place (contains c.args.list.now c.args.place) c.loop-y-test.true c.if-y-place.false c.loop-y.invariant

pub returns : goal.returns
returns c = none_left c.args.list.now c.loop-y.y-index c.args.place (contains c.args.list.now c.args.place) c.loop-y-test.false c.loop-y.invariant
