use Rattle.std.proofs.Common.{refl, List, ◌++◌}
use Rattle.cc_base.specs.Inequality as plain
use Rattle.cc_base.specs.Pass.{paired_with, uppers}
use Rattle.linear_solver.specs.Seen.{seen, seen_all}
use Rattle.linear_solver.proofs.Loops.{narrow_at}
use Rattle.linear_solver.proofs.Pairing.{added, added_all, with_split, with_none}
use Rattle.linear_solver.proofs.eliminate.pair_with.Goals as goal

pub loop-other-init : goal.loop-other-init
loop-other-init c = refl

pub add_pair-requires-clause-other : goal.add_pair-requires-clause-other
add_pair-requires-clause-other c = narrow_at c.args.list.now c.loop-other.other-index c.other-item.result c.requires.narrow c.loop-other-test.true c.other-item.is

pub loop-other-preserved : goal.loop-other-preserved
loop-other-preserved c =
    let m = c.args.mode in let x = c.args.place in let i = seen c.args.lower.now in
    added (λ (l : List plain.Inequality). paired_with m x i (uppers x l)) (with_split m x i) c.loop-other.out.items c.add_pair.new.out.items c.args.list.now c.loop-other.other-index c.other-item.result
    (seen_all c.args.out.now.items ++ paired_with m x i (uppers x (seen_all c.args.list.now))) c.loop-other-test.true c.other-item.is c.in_ok-add_pair.ensures c.loop-other.invariant

pub returns : goal.returns
returns c =
    let m = c.args.mode in let x = c.args.place in let i = seen c.args.lower.now in
    added_all (λ (l : List plain.Inequality). paired_with m x i (uppers x l)) (with_split m x i) c.loop-other.out.items c.args.list.now c.loop-other.other-index
    (seen_all c.args.out.now.items ++ paired_with m x i (uppers x (seen_all c.args.list.now))) (with_none m x i) c.loop-other-test.false c.loop-other.invariant
