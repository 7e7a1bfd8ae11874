use Rattle.std.proofs.Common.{◌∙◌, arith, sym}
use Rattle.std.proofs.lemmas.Grind.{common_steps}
use Rattle.cc_model.specs.Spots.{kind_at, shallow}
use Rattle.c_statements.specs.DescentStatements as st
use Rattle.c_parse.specs.DescentItems as it
use Rattle.c_expressions.specs.Shown.{place}
use Rattle.c_statements.proofs.Pieces.{ends_bind, ends_fail, ends_then, ends_stop, ends_pure, ends_here, ends_yes, ends_no}
use Rattle.c_statements.proofs.StmtSteps.{leaves, leaves_take}
use Rattle.c_parse.proofs.globals.global_from.Goals as goal

pub returns-then-not-is_sign-clause-shown : goal.returns-then-not-is_sign-clause-shown
unfolding it.global_from st.has
returns-then-not-is_sign-clause-shown c =
    let e = sym (rw c.kind.ensures.value at c.is_sign.ensures.value) ∙ grind (arith, common_steps) in (ends_no _ _ _ e (ends_pure _ _))

pub returns-in_err-inner-clause-shown : goal.returns-in_err-inner-clause-shown
unfolding it.global_from st.has
returns-in_err-inner-clause-shown c =
    let e = sym (rw c.kind.ensures.value at c.is_sign.ensures.value) ∙ grind (arith, common_steps) in leaves_take _ (λ m. it.global_from (kind_at c.args.parser.now.tokens.now) shallow m c.args.declarator) (place c.args.here) _ _ c.from_residual.ensures c.in_err-inner.ensures.shown (λ x h. (ends_yes _ _ _ e (ends_here _ (ends_stop _ _ h))))

pub returns-in_err-value-clause-shown : goal.returns-in_err-value-clause-shown
unfolding it.global_from st.has
returns-in_err-value-clause-shown c =
    let e = sym (rw c.kind.ensures.value at c.is_sign.ensures.value) ∙ grind (arith, common_steps) in leaves (λ m. it.start_value (kind_at c.args.parser.now.tokens.now) shallow m) (place c.in_ok-inner.inner) (λ m. it.global_from (kind_at c.args.parser.now.tokens.now) shallow m c.args.declarator) (place c.args.here) _ _ c.from_residual-in_err-value.ensures c.in_err-value.ensures.shown (λ x h. (ends_yes _ _ _ e (ends_here _ (ends_then _ _ c.in_ok-inner.ensures.shown (ends_fail _ _ h)))))

pub returns-clause-shown : goal.returns-clause-shown
unfolding it.global_from st.has
returns-clause-shown c =
    let e = sym (rw c.kind.ensures.value at c.is_sign.ensures.value) ∙ grind (arith, common_steps) in (ends_yes _ _ _ e (ends_here _ (ends_then _ _ c.in_ok-inner.ensures.shown (ends_bind _ _ c.in_ok-value.ensures.shown (ends_pure _ _)))))
