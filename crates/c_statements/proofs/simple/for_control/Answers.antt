use Rattle.cc_model.specs.Spots.{kind_at, shallow}
use Rattle.c_statements.specs.DescentStatements as st
use Rattle.c_expressions.specs.Shown.{place}
use Rattle.c_statements.proofs.Pieces.{ends_bind, ends_fail, ends_then, ends_stop, ends_pure, ends_here}
use Rattle.c_statements.proofs.StmtSteps.{leaves, leaves_take}
use Rattle.c_statements.proofs.simple.for_control.Goals as goal

pub returns-in_err-inner-clause-shown : goal.returns-in_err-inner-clause-shown
unfolding st.for_control
returns-in_err-inner-clause-shown c =
    leaves_take _ (λ m. st.for_control (kind_at c.args.parser.now.tokens.now) shallow m) (place c.args.spot) _ _ c.from_residual.ensures c.in_err-inner.ensures.shown (λ x h. (ends_here _ (ends_stop _ _ h)))

pub returns-in_err-head-clause-shown : goal.returns-in_err-head-clause-shown
unfolding st.for_control
returns-in_err-head-clause-shown c =
    leaves (λ m. st.for_head (kind_at c.args.parser.now.tokens.now) shallow m) (place c.in_ok-inner.inner) (λ m. st.for_control (kind_at c.args.parser.now.tokens.now) shallow m) (place c.args.spot) _ _ c.from_residual-in_err-head.ensures c.in_err-head.ensures.shown (λ x h. (ends_here _ (ends_then _ _ c.in_ok-inner.ensures.shown (ends_fail _ _ h))))

pub returns-in_err-condition-clause-shown : goal.returns-in_err-condition-clause-shown
unfolding st.for_control
returns-in_err-condition-clause-shown c =
    leaves (λ m. st.opt_expr (kind_at c.args.parser.now.tokens.now) shallow m) (place c.in_ok-head.first) (λ m. st.for_control (kind_at c.args.parser.now.tokens.now) shallow m) (place c.args.spot) _ _ c.from_residual-in_err-condition.ensures c.in_err-condition.ensures.shown (λ x h. (ends_here _ (ends_then _ _ c.in_ok-inner.ensures.shown (ends_bind _ _ c.in_ok-head.ensures.shown (ends_fail _ _ h)))))

pub returns-in_err-third-clause-shown : goal.returns-in_err-third-clause-shown
unfolding st.for_control
returns-in_err-third-clause-shown c =
    leaves_take _ (λ m. st.for_control (kind_at c.args.parser.now.tokens.now) shallow m) (place c.args.spot) _ _ c.from_residual-in_err-third.ensures c.in_err-third.ensures.shown (λ x h. (ends_here _ (ends_then _ _ c.in_ok-inner.ensures.shown (ends_bind _ _ c.in_ok-head.ensures.shown (ends_bind _ _ c.in_ok-condition.ensures.shown (ends_stop _ _ h))))))

pub returns-in_err-step-clause-shown : goal.returns-in_err-step-clause-shown
unfolding st.for_control
returns-in_err-step-clause-shown c =
    leaves (λ m. st.opt_simple (kind_at c.args.parser.now.tokens.now) shallow m) (place c.in_ok-third.third) (λ m. st.for_control (kind_at c.args.parser.now.tokens.now) shallow m) (place c.args.spot) _ _ c.from_residual-in_err-step.ensures c.in_err-step.ensures.shown (λ x h. (ends_here _ (ends_then _ _ c.in_ok-inner.ensures.shown (ends_bind _ _ c.in_ok-head.ensures.shown (ends_bind _ _ c.in_ok-condition.ensures.shown (ends_then _ _ c.in_ok-third.ensures.shown (ends_fail _ _ h)))))))

pub returns-in_err-after-clause-shown : goal.returns-in_err-after-clause-shown
unfolding st.for_control
returns-in_err-after-clause-shown c =
    leaves_take _ (λ m. st.for_control (kind_at c.args.parser.now.tokens.now) shallow m) (place c.args.spot) _ _ c.from_residual-in_err-after.ensures c.in_err-after.ensures.shown (λ x h. (ends_here _ (ends_then _ _ c.in_ok-inner.ensures.shown (ends_bind _ _ c.in_ok-head.ensures.shown (ends_bind _ _ c.in_ok-condition.ensures.shown (ends_then _ _ c.in_ok-third.ensures.shown (ends_bind _ _ c.in_ok-step.ensures.shown (ends_stop _ _ h))))))))

pub returns-clause-shown : goal.returns-clause-shown
unfolding st.for_control
returns-clause-shown c =
    rw (c.in_ok-head-2.ensures, c.in_ok-condition-2.ensures, c.in_ok-step-2.ensures) (ends_here _ (ends_then _ _ c.in_ok-inner.ensures.shown (ends_bind _ _ c.in_ok-head.ensures.shown (ends_bind _ _ c.in_ok-condition.ensures.shown (ends_then _ _ c.in_ok-third.ensures.shown (ends_bind _ _ c.in_ok-step.ensures.shown (ends_then _ _ c.in_ok-after.ensures.shown (ends_pure _ _))))))))
