use Rattle.std.proofs.Common.{refl}
use Rattle.search_walks.proofs.StepLaws.{opens_none, opens_decisions_more, opens_decisions_end}
use Rattle.search_walks.proofs.distance.Front.open_decisions.Goals as goal

pub loop-outcome-init : goal.loop-outcome-init
loop-outcome-init c = opens_none _ _ _ (λ a x. x.is_in)

pub loop-outcome-preserved : goal.loop-outcome-preserved
loop-outcome-preserved c = opens_decisions_more _ _ _ _ _ _ _ _ _ _ _ c.loop-outcome-test.true refl c.of.ensures c.loop-outcome.invariant c.in_ok-open_all.ensures

pub returns : goal.returns
returns c = opens_decisions_end _ _ _ _ _ _ _ c.loop-outcome-test.false c.loop-outcome.invariant
