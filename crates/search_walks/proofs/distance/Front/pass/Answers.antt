use Rattle.search_walks.proofs.LayerLaws.{passing_none, passing_more}
use Rattle.search_walks.proofs.distance.Front.pass.Goals as goal

pub loop-at-init : goal.loop-at-init
loop-at-init c = passing_none _ _ _ _ _ _ _ _

pub loop-at-preserved : goal.loop-at-preserved
loop-at-preserved c = passing_more _ _ _ _ _ _ _ _ _ _ _ _ c.pop.new.self.items c.in-Some.at _ _ _ _ _ _ c.loop-at.invariant c.in-Some.ensures.items c.of.ensures c.of-in-Some.ensures c.in_ok-give_all.ensures c.in_ok-open_all.ensures
