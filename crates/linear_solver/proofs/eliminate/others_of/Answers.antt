use Rattle.std.proofs.Common.{ap, List, ◌++◌}
use Rattle.cc_base.specs.Inequality as plain
use Rattle.cc_base.specs.Pass.{others}
use Rattle.linear_solver.specs.Seen.{seen_all}
use Rattle.linear_solver.proofs.Loops.{narrow_at, seen_none}
use Rattle.linear_solver.proofs.Pairing.{added, added_all, others_split, others_none}
use Rattle.linear_solver.proofs.eliminate.others_of.Goals as goal

pub loop-i-init : goal.loop-i-init
loop-i-init c = ap (λ (m : List plain.Inequality). m ++ others c.args.place (seen_all c.args.list.now)) (seen_none c.new-out.result.items c.new-out.ensures.items)

pub add_other-requires : goal.add_other-requires
add_other-requires c = narrow_at c.args.list.now c.loop-i.i-index c.i-item.result c.requires c.loop-i-test.true c.i-item.is

pub loop-i-preserved : goal.loop-i-preserved
loop-i-preserved c = added (others c.args.place) (others_split c.args.place) c.loop-i.out.items c.add_other.new.out.items c.args.list.now c.loop-i.i-index c.i-item.result
    (others c.args.place (seen_all c.args.list.now)) c.loop-i-test.true c.i-item.is c.in_ok-add_other.ensures c.loop-i.invariant

pub returns : goal.returns
returns c = added_all (others c.args.place) (others_split c.args.place) c.loop-i.out.items c.args.list.now c.loop-i.i-index
    (others c.args.place (seen_all c.args.list.now)) (others_none c.args.place) c.loop-i-test.false c.loop-i.invariant
