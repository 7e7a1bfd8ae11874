use Rattle.std.proofs.Common.{length, get_or, ap, ◌∙◌, arith}
use Rattle.search_walks.proofs.OfferLaws.{got_at}
use Rattle.search_walks.proofs.passing.event_of.Goals as goal

pub bounds-events-at : goal.bounds-events-at
bounds-events-at c =
    let e = ap length c.as_slice-events.ensures in
    let h = c.requires in
    omega (arith, e, h)

pub returns : goal.returns
returns c =
    let e = ap length c.as_slice-events.ensures in
    let h = c.requires in
    got_at _ _ _ h (c.index-events-at.is ∙ ap (λ l. get_or l c.args.at c.index-events-at.result) c.as_slice-events.ensures)
