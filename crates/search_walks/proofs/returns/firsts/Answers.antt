use Rattle.std.proofs.Common.{◌≡◌, ◌+◌, ◌-◌, ◌∙◌, ap, arith}
use Rattle.tac_lower.specs.Flow.{last_first}
use Rattle.search_walks.proofs.FlowLaws.{is_at}
use Rattle.search_walks.proofs.ReturnLaws.{no_firsts, no_last, more_firsts, next_last}
use Rattle.search_walks.proofs.returns.firsts.Goals as goal

pub loop-at-init : goal.loop-at-init
loop-at-init c = record { done = no_firsts c.args.tac.now _ c.new-firsts.ensures.items; before = no_last c.args.tac.now }

pub loop-at-preserved : goal.loop-at-preserved
loop-at-preserved c =
    let own = next_last c.args.tac.now _ _ _ _ _ c.in_ok-begins.ensures (is_at _ _ _ _ c.deref-is_first-items.ensures.value c.loop-at-test.true) c.loop-at.invariant.before c.later_first-last.ensures in
    let e : c.loop-at.at ≡ c.loop-at.at + 1 - 1 = omega arith in
    record { done = more_firsts c.args.tac.now _ _ _ _ c.loop-at.invariant.done c.in_ok-push.ensures.items own; before = own ∙ ap (λ k. last_first k c.args.tac.now.funcs) e }
