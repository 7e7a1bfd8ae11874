use Rattle.std.proofs.Common.{rules}
use Rattle.std.proofs.lemmas.Int.{to_z-of_z}
use mir.Syntax.{w32}
use mir.Val.{SFits}
use Rattle.cc_model.specs.Spots.{kind_at, shallow}
use Rattle.c_statements.specs.DescentStatements as st
use Rattle.c_parse.specs.DescentItems as it
use Rattle.c_expressions.specs.Shown.{place}
use Rattle.c_statements.proofs.Pieces.{ends_bind, ends_fail, ends_then, ends_stop, ends_pure, ends_here}
use Rattle.c_statements.proofs.StmtSteps.{leaves, leaves_take}
use Rattle.c_parse.proofs.globals.negative_value.Goals as goal

pub returns-in_err-inner-clause-shown : goal.returns-in_err-inner-clause-shown
unfolding it.negative_value
returns-in_err-inner-clause-shown c =
    leaves_take _ (λ _. it.negative_value (kind_at c.args.parser.now.tokens.now) shallow) (place c.args.spot) _ _ c.from_residual.ensures c.in_err-inner.ensures.shown (λ x h. (ends_here _ (ends_stop _ _ h)))

pub returns-in_err-value-clause-shown : goal.returns-in_err-value-clause-shown
unfolding it.negative_value
returns-in_err-value-clause-shown c =
    leaves (λ _. st.expect_number (kind_at c.args.parser.now.tokens.now) shallow) (place c.in_ok-inner.inner) (λ _. it.negative_value (kind_at c.args.parser.now.tokens.now) shallow) (place c.args.spot) _ _ c.from_residual-in_err-value.ensures c.in_err-value.ensures.shown (λ x h. (ends_here _ (ends_then _ _ c.in_ok-inner.ensures.shown (ends_here _ (ends_fail _ _ h)))))

pub returns-clause-shown : goal.returns-clause-shown
unfolding it.negative_value
returns-clause-shown c =
    let h : SFits w32 c.in_ok-value.value = search rules in rw (to_z-of_z w32 c.in_ok-value.value h) (ends_here _ (ends_then _ _ c.in_ok-inner.ensures.shown (ends_here _ (ends_bind _ _ c.in_ok-value.ensures.shown (ends_pure _ _)))))
