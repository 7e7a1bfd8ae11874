use Rattle.std.proofs.Common.{arith, refl, sym, ap, ◌∙◌, slice_get, length, ◌<◌}
use Rattle.std.proofs.lemmas.Bool.{false≢true}
use Rattle.std.proofs.lemmas.Option.{slice_get-get_or}
use Rattle.search_walks.proofs.NearLaws.{entry_below, site_none, site_other, site_is}
use Rattle.search_walks.proofs.directed.distance_at_site.Goals as goal

pub returns-then-not-is_decision_site : goal.returns-then-not-is_decision_site
returns-then-not-is_decision_site c = site_none _ _ _ _ _ (λ i. false≢true (c.if-not-is_decision_site.ensures.1 i))

pub returns-then-own-token : goal.returns-then-own-token
returns-then-own-token c = site_other _ _ _ _ _ (λ e. c.if-own-token.true (c.token_of-own.ensures ∙ e))

pub number_at-at-requires : goal.number_at-at-requires
number_at-at-requires c = omega arith

pub bounds-distances-at : goal.bounds-distances-at
bounds-distances-at c =
    let b = entry_below c.args.site (length c.args.checked.now.sites) c.args.side c.requires.site in
    let e = c.number_at-at.ensures in
    omega (arith, b, e)

pub returns : goal.returns
returns c =
    let b = entry_below c.args.site (length c.args.checked.now.sites) c.args.side c.requires.site in
    let e = c.number_at-at.ensures in
    let h : c.number_at-at.result < length c.args.distances.now = omega (arith, b, e) in
    site_is _ _ _ _ _ _ (c.if-not-is_decision_site.ensures.0 refl) (sym c.token_of-own.ensures ∙ c.if-own-token.false) (ap (slice_get c.args.distances.now) (sym e) ∙ slice_get-get_or _ _ _ h)
