use Rattle.std.proofs.Common.{refl}
use Rattle.search_walks.proofs.StepLaws.{gives_none, gives_more, gives_end}
use Rattle.search_walks.proofs.distance.give_all.Goals as goal

pub loop-outcome-init : goal.loop-outcome-init
loop-outcome-init c = gives_none _ _ _ _ (λ a x. x)

pub loop-outcome-preserved : goal.loop-outcome-preserved
loop-outcome-preserved c = gives_more _ _ _ _ _ _ _ _ _ _ c.loop-outcome-test.true refl c.loop-outcome.invariant c.in_ok-give.ensures

pub returns : goal.returns
returns c = gives_end _ _ _ _ _ _ _ c.loop-outcome-test.false c.loop-outcome.invariant
