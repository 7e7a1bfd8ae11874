use Rattle.std.proofs.Common.{◌≡◌, length, arith}
use Rattle.search_walks.proofs.NearLaws.{token_first, token_more, token_all}
use Rattle.search_walks.proofs.directed.distance_at_token.Goals as goal

pub loop-site-init : goal.loop-site-init
loop-site-init c = token_first _ _ _ _

pub loop-site-preserved : goal.loop-site-preserved
loop-site-preserved c = token_more _ _ _ _ _ _ _ _ c.lesser-least.ensures c.loop-site.invariant c.distance_at_site.ensures

pub returns : goal.returns
returns c =
    let e : c.loop-site.site ≡ length c.args.checked.now.sites = omega arith in
    token_all _ _ _ _ _ _ _ e c.loop-site.invariant
