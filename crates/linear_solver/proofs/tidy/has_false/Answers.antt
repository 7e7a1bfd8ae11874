use Rattle.std.proofs.Common.{◌∙◌, sym, refl}
use Rattle.cc_base.specs.Pass.{some_false}
use Rattle.linear_solver.specs.Seen.{seen_all}
use Rattle.linear_solver.proofs.TidySteps.{some_false_here, some_false_on, some_false_end}
use Rattle.linear_solver.proofs.tidy.has_false.Goals as goal

pub loop-i-init : goal.loop-i-init
loop-i-init c = refl

pub returns-then-cannot_hold : goal.returns-then-cannot_hold
returns-then-cannot_hold c = some_false_here c.args.list.now c.loop-i.i-index c.i-item.result (some_false (seen_all c.args.list.now)) c.loop-i-test.true c.i-item.is (sym c.cannot_hold.ensures ∙ c.if-cannot_hold.true) c.loop-i.invariant

pub loop-i-preserved : goal.loop-i-preserved
loop-i-preserved c = some_false_on c.args.list.now c.loop-i.i-index c.i-item.result (some_false (seen_all c.args.list.now)) c.loop-i-test.true c.i-item.is (sym c.cannot_hold.ensures ∙ c.if-cannot_hold.false) c.loop-i.invariant

pub returns : goal.returns
returns c = some_false_end c.args.list.now c.loop-i.i-index (some_false (seen_all c.args.list.now)) c.loop-i-test.false c.loop-i.invariant
