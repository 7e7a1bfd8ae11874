use Rattle.std.proofs.Common.{ap, List, ◌++◌}
use Rattle.cc_base.specs.Inequality as plain
use Rattle.cc_base.specs.Pass.{eliminate, all_paired, lowers, uppers}
use Rattle.linear_solver.specs.Seen.{seen_all}
use Rattle.linear_solver.proofs.Loops.{narrow_at}
use Rattle.linear_solver.proofs.Pairing.{added, added_all, pairs_split, pairs_none}
use Rattle.linear_solver.proofs.eliminate.eliminate_of.Goals as goal

pub loop-i-init : goal.loop-i-init
unfolding eliminate
loop-i-init c = ap (λ (m : List plain.Inequality). m ++ all_paired c.args.mode c.args.place (lowers c.args.place (seen_all c.args.list.now)) (uppers c.args.place (seen_all c.args.list.now))) c.in_ok-out.ensures

pub add_pairs-requires-clause-one : goal.add_pairs-requires-clause-one
add_pairs-requires-clause-one c = narrow_at c.args.list.now c.loop-i.i-index c.i-item.result c.requires c.loop-i-test.true c.i-item.is

pub loop-i-preserved : goal.loop-i-preserved
loop-i-preserved c =
    let m = c.args.mode in let x = c.args.place in let us = uppers x (seen_all c.args.list.now) in
    added (λ (l : List plain.Inequality). all_paired m x (lowers x l) us) (pairs_split m x us) c.loop-i.out.items c.add_pairs.new.out.items c.args.list.now c.loop-i.i-index c.i-item.result
    (eliminate m x (seen_all c.args.list.now)) c.loop-i-test.true c.i-item.is c.in_ok-add_pairs.ensures c.loop-i.invariant

pub returns : goal.returns
returns c =
    let m = c.args.mode in let x = c.args.place in let us = uppers x (seen_all c.args.list.now) in
    added_all (λ (l : List plain.Inequality). all_paired m x (lowers x l) us) (pairs_split m x us) c.loop-i.out.items c.args.list.now c.loop-i.i-index
    (eliminate m x (seen_all c.args.list.now)) (pairs_none m x us) c.loop-i-test.false c.loop-i.invariant
