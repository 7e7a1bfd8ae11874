use Rattle.search_walks.proofs.RowLaws.{rows_push}
use Rattle.search_walks.proofs.rows.Rows.new.Goals as goal

pub loop-place-preserved : goal.loop-place-preserved
loop-place-preserved c =
    let p = rows_push _ _ _ _ c.new.ensures c.in_ok-push.ensures.items c.loop-place.invariant.count c.loop-place.invariant.none in
    record { count = p.0; none = p.1 }
