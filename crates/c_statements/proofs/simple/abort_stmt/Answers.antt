use Rattle.cc_model.specs.Spots.{kind_at, shallow}
use Rattle.c_statements.specs.DescentStatements as st
use Rattle.c_expressions.specs.Shown.{place}
use Rattle.c_statements.proofs.Pieces.{ends_then, ends_stop, ends_pure, ends_here}
use Rattle.c_statements.proofs.StmtSteps.{leaves_take}
use Rattle.c_statements.proofs.simple.abort_stmt.Goals as goal

pub returns-in_err-bracket-clause-shown : goal.returns-in_err-bracket-clause-shown
unfolding st.simple_of
returns-in_err-bracket-clause-shown c =
    leaves_take _ (λ m. st.simple_of (kind_at c.args.parser.now.tokens.now) shallow m st.an_abort) (place c.args.spot) _ _ c.from_residual.ensures c.in_err-bracket.ensures.shown (λ x h. (ends_here _ (ends_stop _ _ h)))

pub returns-in_err-inner-clause-shown : goal.returns-in_err-inner-clause-shown
unfolding st.simple_of
returns-in_err-inner-clause-shown c =
    leaves_take _ (λ m. st.simple_of (kind_at c.args.parser.now.tokens.now) shallow m st.an_abort) (place c.args.spot) _ _ c.from_residual-in_err-inner.ensures c.in_err-inner.ensures.shown (λ x h. (ends_here _ (ends_then _ _ c.in_ok-bracket.ensures.shown (ends_stop _ _ h))))

pub returns-in_err-after-clause-shown : goal.returns-in_err-after-clause-shown
unfolding st.simple_of
returns-in_err-after-clause-shown c =
    leaves_take _ (λ m. st.simple_of (kind_at c.args.parser.now.tokens.now) shallow m st.an_abort) (place c.args.spot) _ _ c.from_residual-in_err-after.ensures c.in_err-after.ensures.shown (λ x h. (ends_here _ (ends_then _ _ c.in_ok-bracket.ensures.shown (ends_then _ _ c.in_ok-inner.ensures.shown (ends_stop _ _ h)))))

pub returns-clause-shown : goal.returns-clause-shown
unfolding st.simple_of
returns-clause-shown c =
    (ends_here _ (ends_then _ _ c.in_ok-bracket.ensures.shown (ends_then _ _ c.in_ok-inner.ensures.shown (ends_then _ _ c.in_ok-after.ensures.shown (ends_pure _ _)))))
