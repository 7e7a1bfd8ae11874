use Rattle.std.proofs.Common.{rules}
use Rattle.std.proofs.lemmas.Int.{to_z-of_z}
use mir.Syntax.{w32}
use mir.Val.{SFits}
use Rattle.cc_model.specs.Spots.{kind_at, shallow}
use Rattle.c_statements.specs.DescentStatements as st
use Rattle.c_expressions.specs.Shown.{place}
use Rattle.c_statements.proofs.Pieces.{ends_then, ends_stop, ends_pure, ends_wrong, ends_some, ends_none}
use Rattle.c_statements.proofs.StmtSteps.{leaves_take}
use Rattle.c_statements.proofs.declarations.number.Goals as goal

pub returns-in_default-clause-shown : goal.returns-in_default-clause-shown
unfolding st.expect_number
returns-in_default-clause-shown c =
    let e = rw c.kind.ensures.value at c.in_default.ensures.none in (ends_none _ _ _ e (ends_wrong _))

pub returns-in_err-after-clause-shown : goal.returns-in_err-after-clause-shown
unfolding st.expect_number
returns-in_err-after-clause-shown c =
    let e = rw c.kind.ensures.value at c.in-Some.ensures.some in leaves_take _ (λ _. st.expect_number (kind_at c.args.parser.now.tokens.now) shallow) (place c.args.spot) _ _ c.from_residual.ensures c.in_err-after.ensures.shown (λ x h. (ends_some _ c.in-Some.value _ _ e (ends_stop _ _ h)))

pub returns-clause-shown : goal.returns-clause-shown
unfolding st.expect_number
returns-clause-shown c =
    let e = rw c.kind.ensures.value at c.in-Some.ensures.some in let h : SFits w32 c.in-Some.value = search rules in rw (to_z-of_z w32 c.in-Some.value h) (ends_some _ c.in-Some.value _ _ e (ends_then _ _ c.in_ok-after.ensures.shown (ends_pure _ _)))
