use Rattle.std.proofs.Common.{arith}
use Rattle.search_base.specs.Terms.{found_at}
use Rattle.search_base.proofs.TermLaws.{found_more, found_all}
use Rattle.search_base.proofs.terms.add_terms.Goals as goal

pub loop-term-preserved : goal.loop-term-preserved
loop-term-preserved c = record {
  all = found_more (found_at (c.args.checked).now) c.args.terms.now c.loop-term.term-index _ _ _ _ c.found.result c.loop-term-test.true c.found.ensures c.loop-term.invariant.all c.in_ok-add_term.ensures.all;
  order = λ o. c.in_ok-add_term.ensures.order (c.loop-term.invariant.order o);
}

pub returns-clause-all : goal.returns-clause-all
returns-clause-all c = found_all (found_at (c.args.checked).now) c.args.terms.now c.loop-term.term-index _ _ (let h = c.loop-term-test.false in omega (arith, h)) c.loop-term.invariant.all
