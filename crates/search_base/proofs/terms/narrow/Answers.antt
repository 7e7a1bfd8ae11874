use Rattle.std.proofs.Common.{get_or, arith, below_more}
use Rattle.cc_model.specs.declared.terms.TermKind.TheVariants.{Product}
use Rattle.search_base.specs.Readable.{IsNarrow}
use Rattle.search_base.specs.Terms.{seen_term}
use Rattle.search_base.proofs.LineLaws.{all_narrow}
use Rattle.search_base.proofs.terms.narrow.Goals as goal

pub loop-term-preserved : goal.loop-term-preserved
loop-term-preserved c = below_more (λ k. IsNarrow (seen_term (get_or c.args.terms.now k (record { line = 0; col = 0; kind = Product })))) c.loop-term.term-index c.loop-term.invariant c.narrow_one.ensures

pub returns : goal.returns
returns c = all_narrow c.args.terms.now (record { line = 0; col = 0; kind = Product }) (λ k lt. c.loop-term.invariant k (let f = c.loop-term-test.false in omega (arith, lt, f)))
