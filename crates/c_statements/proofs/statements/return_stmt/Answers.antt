use Rattle.cc_model.specs.Spots.{kind_at, shallow}
use Rattle.c_statements.specs.DescentStatements as st
use Rattle.c_expressions.specs.Shown.{place}
use Rattle.c_statements.proofs.Pieces.{ends_bind, ends_fail, ends_then, ends_stop, ends_pure}
use Rattle.c_statements.proofs.StmtSteps.{leaves, leaves_take}
use Rattle.c_statements.proofs.StmtComplete as sc
use Rattle.c_statements.proofs.statements.return_stmt.Goals as goal

pub returns-in_err-inner-clause-shown : goal.returns-in_err-inner-clause-shown
returns-in_err-inner-clause-shown c =
    leaves_take _ (λ m. st.statement_of (kind_at c.args.parser.now.tokens.now) shallow m st.a_return) (place c.args.spot) _ _ c.from_residual.ensures c.in_err-inner.ensures.shown (λ x h. (sc.of_return (kind_at c.args.parser.now.tokens.now) shallow (place c.args.spot) (ends_stop _ _ h)))

pub returns-in_err-value-clause-shown : goal.returns-in_err-value-clause-shown
returns-in_err-value-clause-shown c =
    leaves (λ m. st.opt_expr (kind_at c.args.parser.now.tokens.now) shallow m) (place c.in_ok-inner.inner) (λ m. st.statement_of (kind_at c.args.parser.now.tokens.now) shallow m st.a_return) (place c.args.spot) _ _ c.from_residual-in_err-value.ensures c.in_err-value.ensures.shown (λ x h. (sc.of_return (kind_at c.args.parser.now.tokens.now) shallow (place c.args.spot) (ends_then _ _ c.in_ok-inner.ensures.shown (ends_fail _ _ h))))

pub returns-in_err-after-clause-shown : goal.returns-in_err-after-clause-shown
returns-in_err-after-clause-shown c =
    leaves_take _ (λ m. st.statement_of (kind_at c.args.parser.now.tokens.now) shallow m st.a_return) (place c.args.spot) _ _ c.from_residual-in_err-after.ensures c.in_err-after.ensures.shown (λ x h. (sc.of_return (kind_at c.args.parser.now.tokens.now) shallow (place c.args.spot) (ends_then _ _ c.in_ok-inner.ensures.shown (ends_bind _ _ c.in_ok-value.ensures.shown (ends_stop _ _ h)))))

pub returns-clause-shown : goal.returns-clause-shown
returns-clause-shown c =
    rw (c.into_inner.ensures, c.in_ok-held.ensures) (sc.of_return (kind_at c.args.parser.now.tokens.now) shallow (place c.args.spot) (ends_then _ _ c.in_ok-inner.ensures.shown (ends_bind _ _ c.in_ok-value.ensures.shown (ends_then _ _ c.in_ok-after.ensures.shown (ends_pure _ _)))))
