-- What comes of the rest comes of the whole.
use Rattle.std.proofs.Common.{◌≤◌, ◌-◌, List}
use Rattle.cc_model.specs.declared.tokens.Punct.TheVariants as punct
use Rattle.cc_model.specs.declared.trees.Length.{Length}
use Rattle.cc_model.specs.Spots.{kind_at, shallow}
use Rattle.c_expressions.specs.Descent.{Got, Ends}
use Rattle.c_statements.specs.DescentStatements as st
use Rattle.c_expressions.specs.Shown.{place}
use Rattle.c_statements.proofs.declarations.lengths.Given as goal

abbrev pub invariant-loop-here : goal.invariant-loop-here
invariant-loop-here l = record {
  onward : l.initial.here.at ≤ l.here.at;
  goes : (r : Got (List Length)) → Ends (λ n. st.many (kind_at l.parser.tokens.now) shallow (st.lacks (kind_at l.parser.tokens.now) shallow punct.OpenSquare) (st.length (kind_at l.parser.tokens.now) shallow) n l.items) (place l.here) r → Ends (λ n. st.many (kind_at l.parser.tokens.now) shallow (st.lacks (kind_at l.parser.tokens.now) shallow punct.OpenSquare) (st.length (kind_at l.parser.tokens.now) shallow) n l.initial.items) (place l.initial.here) r;
}

abbrev pub decreases-loop-here : goal.decreases-loop-here
decreases-loop-here l = 4294967296 - l.here.at
