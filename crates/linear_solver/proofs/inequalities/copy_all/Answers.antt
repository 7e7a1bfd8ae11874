use Rattle.std.proofs.Common.{◌∙◌, ap, List, ◌+◌, ◌++◌, drop}
use Rattle.cc_base.specs.Inequality as plain
use Rattle.linear_solver.specs.Seen.{seen_all}
use Rattle.linear_solver.specs.declared.inequalities.Inequality.{Inequality}
use Rattle.linear_solver.proofs.Loops.{seen_none, copied, copied_all}
use Rattle.linear_solver.proofs.inequalities.copy_all.Goals as goal

pub loop-i-init : goal.loop-i-init
loop-i-init c = ap (λ (y : List plain.Inequality). y ++ seen_all c.args.list.now) (seen_none c.new-out.result.items c.new-out.ensures.items)

pub loop-i-preserved : goal.loop-i-preserved
loop-i-preserved c =
    ap (λ (y : List Inequality). seen_all y ++ seen_all (drop (c.loop-i.i-index + 1) c.args.list.now)) c.in_ok-push.ensures.items
    ∙ copied c.loop-i.out.items c.args.list.now c.loop-i.i-index c.i-item.result c.in_ok-copy_of.field-0 (seen_all c.args.list.now) c.loop-i-test.true c.i-item.is c.in_ok-copy_of.ensures c.loop-i.invariant

pub returns : goal.returns
returns c = copied_all c.loop-i.out.items c.args.list.now c.loop-i.i-index (seen_all c.args.list.now) c.loop-i-test.false c.loop-i.invariant
