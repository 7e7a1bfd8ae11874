use Rattle.std.proofs.Common.{◌≤◌, map, drop}
use Rattle.cc_model.specs.Report.{term_lines}
use Rattle.search_base.specs.Terms.{seen_term}
use Rattle.search_base.proofs.LineLaws.{SoFar}
use Rattle.search_base.proofs.lines.write_terms.Given as goal

-- the lines so far are written, and the faults did not fall
abbrev pub invariant-loop-term : goal.invariant-loop-term
invariant-loop-term g l = record {
  so_far : SoFar (g.K.Sink.written l.fn.sink) (g.K.Sink.written l.sink) (term_lines (map seen_term l.terms)) (term_lines (map seen_term (drop l.term-index l.terms)));
  falls : g.K.Sink.faults l.fn.sink ≤ g.K.Sink.faults l.sink;
}
