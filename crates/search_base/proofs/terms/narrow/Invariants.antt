use Rattle.std.proofs.Common.{ℕ, ◌<◌, get_or}
use Rattle.cc_model.specs.declared.terms.TermKind.TheVariants.{Product}
use Rattle.search_base.specs.Readable.{IsNarrow}
use Rattle.search_base.specs.Terms.{seen_term}
use Rattle.search_base.proofs.terms.narrow.Given as goal

abbrev pub invariant-loop-term : goal.invariant-loop-term
invariant-loop-term l = (k : ℕ) → k < l.term-index → IsNarrow (seen_term (get_or l.terms k (record { line = 0; col = 0; kind = Product })))
