use Rattle.std.proofs.Common.{◌∙◌, sym}
use Rattle.cc_model.specs.Spots.{kind_at, shallow}
use Rattle.c_statements.specs.DescentStatements as st
use Rattle.c_expressions.specs.Shown.{place}
use Rattle.c_statements.proofs.Pieces.{ends_bind, ends_fail, ends_pure, ends_yes, ends_no}
use Rattle.c_statements.proofs.StmtSteps.{leaves}
use Rattle.c_statements.proofs.simple.opt_simple.Goals as goal

pub returns-then-is_left_out-clause-shown : goal.returns-then-is_left_out-clause-shown
unfolding st.opt_simple
returns-then-is_left_out-clause-shown c =
    let e = sym (rw c.kind.ensures.value at c.is_left_out.ensures.value) ∙ c.if-is_left_out.true in (ends_yes _ _ _ e (ends_pure _ _))

pub returns-in_err-value-clause-shown : goal.returns-in_err-value-clause-shown
unfolding st.opt_simple
returns-in_err-value-clause-shown c =
    let e = sym (rw c.kind.ensures.value at c.is_left_out.ensures.value) ∙ c.if-is_left_out.false in leaves (λ m. st.simple_stmt (kind_at c.args.parser.now.tokens.now) shallow m) (place c.args.spot) (λ m. st.opt_simple (kind_at c.args.parser.now.tokens.now) shallow m) (place c.args.spot) _ _ c.from_residual.ensures c.in_err-value.ensures.shown (λ x h. (ends_no _ _ _ e (ends_fail _ _ h)))

pub returns-clause-shown : goal.returns-clause-shown
unfolding st.opt_simple
returns-clause-shown c =
    let e = sym (rw c.kind.ensures.value at c.is_left_out.ensures.value) ∙ c.if-is_left_out.false in (ends_no _ _ _ e (ends_bind _ _ c.in_ok-value.ensures.shown (ends_pure _ _)))
