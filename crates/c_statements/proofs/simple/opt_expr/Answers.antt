use Rattle.std.proofs.Common.{◌∙◌, sym}
use Rattle.cc_model.specs.Spots.{kind_at, shallow}
use Rattle.c_expressions.specs.Descent.{Got, got, failed, Ends, pure, leave, ◌>>◌, ◌>>=◌, is_sign, is_key, is_name}
use Rattle.c_expressions.specs.Descent as of
use Rattle.c_statements.specs.DescentStatements as st
use Rattle.c_expressions.specs.Shown.{place}
use Rattle.c_statements.proofs.Pieces.{ends_bind, ends_fail, ends_pure, ends_leave, ends_here, ends_yes, ends_no}
use Rattle.c_statements.proofs.StmtSteps.{leaves}
use Rattle.c_statements.proofs.simple.opt_expr.Goals as goal

pub returns-then-is_sign-clause-shown : goal.returns-then-is_sign-clause-shown
unfolding st.opt_expr st.has
returns-then-is_sign-clause-shown c =
    let e = sym (rw c.kind.ensures.value at c.is_sign.ensures.value) ∙ c.if-is_sign.true in (ends_yes _ _ _ e (ends_pure _ _))

pub returns-in_err-value-clause-shown : goal.returns-in_err-value-clause-shown
unfolding st.opt_expr st.has
returns-in_err-value-clause-shown c =
    let e = sym (rw c.kind.ensures.value at c.is_sign.ensures.value) ∙ c.if-is_sign.false in leaves (λ m. of.chain (kind_at c.args.parser.now.tokens.now) shallow m 6) (place c.args.spot) (λ m. st.opt_expr (kind_at c.args.parser.now.tokens.now) shallow m) (place c.args.spot) _ _ c.from_residual.ensures c.in_err-value.ensures.shown (λ x h. (ends_no _ _ _ e (ends_here _ (ends_fail _ _ h))))

pub returns-clause-shown : goal.returns-clause-shown
unfolding st.opt_expr st.has
returns-clause-shown c =
    let e = sym (rw c.kind.ensures.value at c.is_sign.ensures.value) ∙ c.if-is_sign.false in (ends_no _ _ _ e (ends_here _ (ends_bind _ _ c.in_ok-value.ensures.shown (ends_leave _ _ _))))
