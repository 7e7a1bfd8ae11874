use Rattle.std.proofs.Common.{◌∙◌, sym}
use Rattle.cc_model.specs.Spots.{kind_at, shallow}
use Rattle.c_statements.specs.DescentStatements as st
use Rattle.c_parse.specs.DescentItems as it
use Rattle.c_expressions.specs.Shown.{place}
use Rattle.c_statements.proofs.Pieces.{ends_then, ends_stop, ends_pure, ends_yes, ends_no}
use Rattle.c_statements.proofs.StmtSteps.{leaves_take, passes}
use Rattle.c_parse.proofs.functions.ending.Goals as goal

pub returns-then-is_sign-clause-shown : goal.returns-then-is_sign-clause-shown
unfolding it.ending st.has
returns-then-is_sign-clause-shown c =
    let e = sym (rw c.kind.ensures.value at c.is_sign.ensures.value) ∙ c.if-is_sign.true in passes (λ m. it.bodied (kind_at c.args.parser.now.tokens.now) shallow m c.args.returned c.args.name c.args.protos) (place c.args.here) (λ m. it.ending (kind_at c.args.parser.now.tokens.now) shallow m c.args.returned c.args.name c.args.protos) (place c.args.here) _ c.bodied.ensures.shown (λ q h. (ends_yes _ _ _ e h))

pub returns-in_err-after-clause-shown : goal.returns-in_err-after-clause-shown
unfolding it.ending st.has
returns-in_err-after-clause-shown c =
    let e = sym (rw c.kind.ensures.value at c.is_sign.ensures.value) ∙ c.if-is_sign.false in leaves_take _ (λ m. it.ending (kind_at c.args.parser.now.tokens.now) shallow m c.args.returned c.args.name c.args.protos) (place c.args.here) _ _ c.from_residual.ensures c.in_err-after.ensures.shown (λ x h. (ends_no _ _ _ e (ends_stop _ _ h)))

pub returns-clause-shown : goal.returns-clause-shown
unfolding it.ending st.has
returns-clause-shown c =
    let e = sym (rw c.kind.ensures.value at c.is_sign.ensures.value) ∙ c.if-is_sign.false in (ends_no _ _ _ e (ends_then _ _ c.in_ok-after.ensures.shown (ends_pure _ _)))
