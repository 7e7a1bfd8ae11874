use Rattle.std.proofs.Common.{◌≡◌, length, ap, ◌∙◌, arith}
use Rattle.search_walks.proofs.FlowLaws.{is_at}
use Rattle.search_walks.proofs.ReturnLaws.{none_behind, more_behind, behind_at}
use Rattle.search_walks.proofs.returns.behind_calls.Goals as goal

pub loop-at-init : goal.loop-at-init
loop-at-init c = none_behind c.args.tac.now _ (c.in_ok-behind.ensures.places ∙ c.len.ensures) c.in_ok-behind.ensures.none

pub add_behind-requires-clause-is : goal.add_behind-requires-clause-is
add_behind-requires-clause-is c = is_at _ _ _ _ c.as_slice-instruction-items.ensures c.loop-at-test.true

pub loop-at-preserved : goal.loop-at-preserved
loop-at-preserved c = more_behind c.args.tac.now _ _ _ c.loop-at.invariant c.in_ok-add_behind.ensures

pub returns : goal.returns
returns c =
    let n = ap length c.as_slice-instruction-items.ensures in
    let e : c.loop-at.at ≡ length c.args.tac.now.code = omega (arith, n) in
    behind_at c.args.tac.now _ _ _ e c.loop-at.invariant
