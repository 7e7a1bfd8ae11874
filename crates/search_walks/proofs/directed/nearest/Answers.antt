use Rattle.std.proofs.lemmas.Option.{slice_get-get_or}
use Rattle.search_walks.proofs.NearLaws.{place_first, place_more, none_first, some_first}
use Rattle.search_walks.proofs.directed.nearest.Goals as goal

pub loop-at-init : goal.loop-at-init
loop-at-init c = place_first _ _ _

pub loop-at-preserved : goal.loop-at-preserved
loop-at-preserved c = place_more _ _ _ _ _ _ _ _ (slice_get-get_or _ _ _ c.loop-at-test.true) c.nearer-least.ensures c.loop-at.invariant c.distance_of.ensures

pub returns-in-Some : goal.returns-in-Some
returns-in-Some c = some_first _ _ _ _ _ _ _ c.in-Some.is c.loop-at-test.false c.loop-at.invariant

pub returns-in-None : goal.returns-in-None
returns-in-None c = none_first _ _ _ _ _ c.in-None.is c.loop-at-test.false c.loop-at.invariant
