use Rattle.std.proofs.Common.{◌∙◌, sym}
use Rattle.cc_model.specs.Spots.{kind_at, shallow}
use Rattle.c_statements.specs.DescentStatements as st
use Rattle.c_expressions.specs.Shown.{place}
use Rattle.c_statements.proofs.Pieces.{ends_bind, ends_fail, ends_pure, ends_here, ends_yes, ends_no}
use Rattle.c_statements.proofs.StmtSteps.{leaves, passes}
use Rattle.c_statements.proofs.declarations.initialised.Goals as goal

pub returns-in_err-declarator-clause-shown : goal.returns-in_err-declarator-clause-shown
unfolding st.initialised st.has
returns-in_err-declarator-clause-shown c =
    leaves (λ m. st.declarator (kind_at c.args.parser.now.tokens.now) shallow m) (place c.args.spot) (λ m. st.initialised (kind_at c.args.parser.now.tokens.now) shallow m) (place c.args.spot) _ _ c.from_residual.ensures c.in_err-declarator.ensures.shown (λ x h. (ends_here _ (ends_fail _ _ h)))

pub returns-then-is_sign-clause-shown : goal.returns-then-is_sign-clause-shown
unfolding st.initialised st.has
returns-then-is_sign-clause-shown c =
    let e = sym (rw c.kind.ensures.value at c.is_sign.ensures.value) ∙ c.if-is_sign.true in passes (λ m. st.starting (kind_at c.args.parser.now.tokens.now) shallow m c.args.spot.level c.in_ok-declarator.declarator) (place c.in_ok-declarator.here) (λ m. st.initialised (kind_at c.args.parser.now.tokens.now) shallow m) (place c.args.spot) _ c.starting.ensures.shown (λ q h. (ends_here _ (ends_bind _ _ c.in_ok-declarator.ensures.shown (ends_yes _ _ _ e h))))

pub returns-clause-shown : goal.returns-clause-shown
unfolding st.initialised st.has
returns-clause-shown c =
    let e = sym (rw c.kind.ensures.value at c.is_sign.ensures.value) ∙ c.if-is_sign.false in (ends_here _ (ends_bind _ _ c.in_ok-declarator.ensures.shown (ends_no _ _ _ e (ends_pure _ _))))
