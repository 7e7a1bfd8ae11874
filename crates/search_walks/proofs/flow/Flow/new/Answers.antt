use Rattle.std.proofs.Common.{◌≡◌, suc, ◌+◌, length, ap, ◌∙◌, arith}
use Rattle.search_walks.proofs.FlowLaws.{no_flow, flow_at, is_at}
use Rattle.search_walks.proofs.flow.Flow.new.Goals as goal

pub loop-at-init : goal.loop-at-init
loop-at-init c = no_flow c.args.checked.now c.args.tac.now _ _ _ (c.in_ok-new.ensures.places ∙ c.len-length.ensures) (c.in_ok-new-2.ensures.places ∙ c.len-length.ensures) (c.in_ok-new-3.ensures.places ∙ c.len.ensures) c.in_ok-new.ensures.none c.in_ok-new-2.ensures.none c.in_ok-new-3.ensures.none

pub loop-at-preserved : goal.loop-at-preserved
loop-at-preserved c =
    let e : suc c.loop-at.at ≡ c.loop-at.at + 1 = omega arith in
    flow_at c.args.checked.now c.args.tac.now _ _ _ _ _ e c.in_ok-add.ensures

pub add-requires-clause-is : goal.add-requires-clause-is
add-requires-clause-is c = is_at _ _ _ _ c.as_slice-instruction-items.ensures c.loop-at-test.true

pub returns : goal.returns
returns c =
    let n = ap length c.as_slice-instruction-items.ensures in
    let e : c.loop-at.at ≡ length c.args.tac.now.code = omega (arith, n) in
    flow_at c.args.checked.now c.args.tac.now _ _ _ _ _ e c.loop-at.invariant
