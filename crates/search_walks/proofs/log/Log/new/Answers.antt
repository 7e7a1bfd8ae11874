use Rattle.search_walks.proofs.CoverLaws.{none_two}
use Rattle.search_walks.proofs.log.Log.new.Goals as goal

pub loop-site-preserved : goal.loop-site-preserved
loop-site-preserved c =
    let r = none_two _ _ _ _ c.in_ok-push.ensures.items c.in_ok-push-2.ensures.items c.loop-site.invariant.size c.loop-site.invariant.none in
    record { size = r.0; none = r.1 }
