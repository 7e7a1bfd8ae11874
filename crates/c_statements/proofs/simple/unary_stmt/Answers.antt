use Rattle.cc_model.specs.Spots.{kind_at, shallow, back}
use Rattle.c_expressions.specs.Descent.{Got, got, failed, Ends, pure, leave, ◌>>◌, ◌>>=◌, is_sign, is_key, is_name}
use Rattle.c_expressions.specs.Descent as of
use Rattle.c_statements.specs.DescentStatements as st
use Rattle.c_expressions.specs.Shown.{place}
use Rattle.c_statements.proofs.Pieces.{ends_bind, ends_fail, ends_then, leave_is, ends_here}
use Rattle.c_statements.proofs.StmtSteps.{leaves, passes}
use Rattle.c_statements.proofs.simple.unary_stmt.Goals as goal

pub returns-in_err-value-clause-shown : goal.returns-in_err-value-clause-shown
unfolding st.unary_stmt
returns-in_err-value-clause-shown c =
    leaves (λ m. of.unary (kind_at c.args.parser.now.tokens.now) shallow m) (place c.args.spot) (λ m. st.unary_stmt (kind_at c.args.parser.now.tokens.now) shallow m) (place c.args.spot) _ _ c.from_residual.ensures c.in_err-value.ensures.shown (λ x h. (ends_here _ (ends_fail _ _ h)))

pub returns-clause-shown : goal.returns-clause-shown
unfolding st.unary_stmt
returns-clause-shown c =
    passes (λ m. st.behind_unary (kind_at c.args.parser.now.tokens.now) shallow m (place c.args.spot) c.in_ok-value.value) (back (place c.in_ok-value.end) c.args.spot.level) (λ m. st.unary_stmt (kind_at c.args.parser.now.tokens.now) shallow m) (place c.args.spot) _ c.behind_unary.ensures.shown (λ q h. (ends_here _ (ends_bind _ _ c.in_ok-value.ensures.shown (ends_then _ _ (leave_is c.args.spot.level tt (place c.in_ok-value.end)) h))))
