use Rattle.std.proofs.Common.{refl}
use Rattle.search_walks.proofs.StepLaws.{opens_none, opens_more, opens_end}
use Rattle.search_walks.proofs.distance.Front.open_all.Goals as goal

pub loop-place-init : goal.loop-place-init
loop-place-init c = opens_none _ _ _ (λ a x. x)

pub loop-place-preserved : goal.loop-place-preserved
loop-place-preserved c = opens_more _ _ _ _ _ _ _ _ _ c.loop-place-test.true refl c.loop-place.invariant c.in_ok-open.ensures

pub returns : goal.returns
returns c = opens_end _ _ _ _ _ _ c.loop-place-test.false c.loop-place.invariant
