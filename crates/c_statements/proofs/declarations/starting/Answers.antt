use Rattle.cc_model.specs.Spots.{kind_at, shallow}
use Rattle.c_expressions.specs.Descent.{Got, got, failed, Ends, pure, leave, ◌>>◌, ◌>>=◌, is_sign, is_key, is_name}
use Rattle.c_expressions.specs.Descent as of
use Rattle.c_statements.specs.DescentStatements as st
use Rattle.c_expressions.specs.Shown.{place}
use Rattle.c_statements.proofs.Pieces.{ends_bind, ends_fail, ends_then, ends_stop, ends_leave, ends_here}
use Rattle.c_statements.proofs.StmtSteps.{leaves, leaves_take}
use Rattle.c_statements.proofs.declarations.starting.Goals as goal

pub returns-in_err-inner-clause-shown : goal.returns-in_err-inner-clause-shown
unfolding st.starting
returns-in_err-inner-clause-shown c =
    leaves_take _ (λ m. st.starting (kind_at c.args.parser.now.tokens.now) shallow m c.args.level c.args.declarator) (place c.args.here) _ _ c.from_residual.ensures c.in_err-inner.ensures.shown (λ x h. (ends_here _ (ends_stop _ _ h)))

pub returns-in_err-value-clause-shown : goal.returns-in_err-value-clause-shown
unfolding st.starting
returns-in_err-value-clause-shown c =
    leaves (λ m. of.chain (kind_at c.args.parser.now.tokens.now) shallow m 6) (place c.in_ok-inner.inner) (λ m. st.starting (kind_at c.args.parser.now.tokens.now) shallow m c.args.level c.args.declarator) (place c.args.here) _ _ c.from_residual-in_err-value.ensures c.in_err-value.ensures.shown (λ x h. (ends_here _ (ends_then _ _ c.in_ok-inner.ensures.shown (ends_fail _ _ h))))

pub returns-clause-shown : goal.returns-clause-shown
unfolding st.starting
returns-clause-shown c =
    (ends_here _ (ends_then _ _ c.in_ok-inner.ensures.shown (ends_bind _ _ c.in_ok-value.ensures.shown (ends_leave _ _ _))))
