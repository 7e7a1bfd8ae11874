use Rattle.std.proofs.Common.{refl}
use Rattle.search_walks.proofs.RowLaws.{any_none, any_more}
use Rattle.search_walks.proofs.flow.add_return.Goals as goal

pub loop-place-init : goal.loop-place-init
loop-place-init c = any_none _ _

pub loop-place-preserved : goal.loop-place-preserved
loop-place-preserved c = any_more _ _ _ _ _ _ _ c.loop-place-test.true refl c.loop-place.invariant c.in_ok-add.ensures
