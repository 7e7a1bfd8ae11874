use Rattle.std.proofs.Common.{◌∙◌, sym, refl}
use Rattle.cc_base.specs.Pass.{some_wide}
use Rattle.linear_solver.specs.Seen.{seen_all}
use Rattle.linear_solver.proofs.TidySteps.{some_wide_here, some_wide_on, some_wide_end}
use Rattle.linear_solver.proofs.tidy.has_wide.Goals as goal

pub loop-i-init : goal.loop-i-init
loop-i-init c = refl

pub returns-then-is_too_wide : goal.returns-then-is_too_wide
returns-then-is_too_wide c = some_wide_here c.args.list.now c.loop-i.i-index c.i-item.result (some_wide (seen_all c.args.list.now)) c.loop-i-test.true c.i-item.is (sym c.is_too_wide.ensures ∙ c.if-is_too_wide.true) c.loop-i.invariant

pub loop-i-preserved : goal.loop-i-preserved
loop-i-preserved c = some_wide_on c.args.list.now c.loop-i.i-index c.i-item.result (some_wide (seen_all c.args.list.now)) c.loop-i-test.true c.i-item.is (sym c.is_too_wide.ensures ∙ c.if-is_too_wide.false) c.loop-i.invariant

pub returns : goal.returns
returns c = some_wide_end c.args.list.now c.loop-i.i-index (some_wide (seen_all c.args.list.now)) c.loop-i-test.false c.loop-i.invariant
