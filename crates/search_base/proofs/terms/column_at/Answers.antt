use Rattle.std.proofs.Common.{sym, ◌∙◌, arith}
use Rattle.cc_model.specs.declared.checked.SiteKind.TheVariants.{Decision}
use Rattle.search_base.proofs.TermLaws.{column_here, column_on, column_end}
use Rattle.search_base.proofs.terms.column_at.Goals as goal

pub returns-then-site-token : goal.returns-then-site-token
returns-then-site-token c = column_here c.args.sites.now c.loop-site.site-index c.args.token _ c.loop-site-test.true (let h = c.if-site-token.true in omega (arith, h)) ∙ sym c.loop-site.invariant

pub loop-site-preserved : goal.loop-site-preserved
loop-site-preserved c = c.loop-site.invariant ∙ column_on c.args.sites.now c.loop-site.site-index c.args.token (record { token = 0; line = 0; col = 0; kind = Decision }) c.loop-site-test.true (λ k. let h = c.if-site-token.false in absurd (omega (arith, h, k)))

pub returns : goal.returns
returns c = column_end c.args.sites.now c.loop-site.site-index c.args.token (let h = c.loop-site-test.false in omega (arith, h)) ∙ sym c.loop-site.invariant
