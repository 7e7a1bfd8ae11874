use Rattle.std.proofs.Common.{arith}
use Rattle.cc_model.specs.declared.terms.TermKind.TheVariants.{Product}
use Rattle.search_base.proofs.OnLaws.{on_err}
use Rattle.search_base.proofs.LineLaws.{one_more, part_written, terms_next}
use Rattle.search_base.proofs.lines.write_terms.Goals as goal

pub returns-in_err-write_term-clause-part : goal.returns-in_err-write_term-clause-part
returns-in_err-write_term-clause-part g c = on_err _ (part_written _ _ _ _ _ _ _ c.loop-term.invariant.so_far (terms_next c.args.terms.now c.loop-term.term-index (record { line = 0; col = 0; kind = Product }) c.loop-term-test.true) c.in_err-write_term.ensures.part)

pub loop-term-preserved : goal.loop-term-preserved
loop-term-preserved g c = record {
  so_far = one_more _ _ _ _ _ _ _ c.loop-term.invariant.so_far (terms_next c.args.terms.now c.loop-term.term-index (record { line = 0; col = 0; kind = Product }) c.loop-term-test.true) c.in_ok-write_term.ensures.ok;
  falls = let a = c.loop-term.invariant.falls in let b = c.in_ok-write_term.ensures.never_falls in omega (arith, a, b);
}
