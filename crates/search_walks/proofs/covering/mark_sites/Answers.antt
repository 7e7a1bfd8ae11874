use Rattle.std.proofs.Common.{◌≡◌, ◌∙◌, length, arith}
use Rattle.search_walks.proofs.CoverLaws.{among_none, among_more, among_at}
use Rattle.search_walks.proofs.covering.mark_sites.Goals as goal

pub loop-site-init : goal.loop-site-init
loop-site-init c = among_none _ _ _ _

pub mark_site-requires : goal.mark_site-requires
mark_site-requires c = (c.loop-site.invariant).size ∙ c.requires

pub loop-site-preserved : goal.loop-site-preserved
loop-site-preserved c = among_more _ _ _ _ _ _ _ _ _ _ c.either-is_new.ensures c.loop-site.invariant c.mark_site.ensures

pub returns : goal.returns
returns c =
    let e : c.loop-site.site ≡ length c.args.checked.now.sites = omega arith in
    among_at c.args.checked.now c.args.token c.args.side _ _ _ _ _ e c.loop-site.invariant
