-- Each call stands further on in the file, or is of a smaller rule at the same token.
use Rattle.std.proofs.Common.{◌+◌, ◌*◌, ◌≤◌, ◌-◌, List}
use Rattle.cc_model.specs.declared.trees.Part.{Part}
use Rattle.cc_model.specs.Spots.{kind_at, shallow}
use Rattle.c_expressions.specs.Descent.{Got, Ends}
use Rattle.c_statements.specs.DescentStatements as st
use Rattle.c_expressions.specs.Shown.{place}
use Rattle.c_statements.proofs.statements.+blocks.Given as goal

abbrev pub decreases-statement : goal.decreases-statement
decreases-statement l = 8 * (4294967296 - l.spot.at) + 2

abbrev pub decreases-if_stmt : goal.decreases-if_stmt
decreases-if_stmt l = 8 * (4294967296 - l.spot.at) + 1

abbrev pub decreases-else_part : goal.decreases-else_part
decreases-else_part l = 8 * (4294967296 - l.here.at) + 1

abbrev pub decreases-while_stmt : goal.decreases-while_stmt
decreases-while_stmt l = 8 * (4294967296 - l.spot.at) + 1

abbrev pub decreases-do_stmt : goal.decreases-do_stmt
decreases-do_stmt l = 8 * (4294967296 - l.spot.at) + 1

abbrev pub decreases-for_stmt : goal.decreases-for_stmt
decreases-for_stmt l = 8 * (4294967296 - l.spot.at) + 1

abbrev pub decreases-block : goal.decreases-block
decreases-block l = 8 * (4294967296 - l.spot.at) + 1

abbrev pub decreases-parts : goal.decreases-parts
decreases-parts l = 8 * (4294967296 - l.spot.at) + 4

abbrev pub decreases-part : goal.decreases-part
decreases-part l = 8 * (4294967296 - l.spot.at) + 3

abbrev pub invariant-parts-loop-here : goal.invariant-parts-loop-here
invariant-parts-loop-here l = record {
  onward : l.initial.here.at ≤ l.here.at;
  goes : (r : Got (List Part)) → Ends (λ n. st.parts (kind_at l.parser.tokens.now) shallow n l.items) (place l.here) r → Ends (λ n. st.parts (kind_at l.parser.tokens.now) shallow n l.initial.items) (place l.initial.here) r;
}

abbrev pub decreases-parts-loop-here : goal.decreases-parts-loop-here
decreases-parts-loop-here l = 4294967296 - l.here.at
