use Rattle.std.proofs.Common.{◌∙◌, arith, ◌≡◌, None, sym}
use Rattle.std.proofs.lemmas.Grind.{common_steps}
use Rattle.cc_model.specs.Spots.{kind_at, shallow}
use Rattle.c_statements.specs.DescentStatements as st
use Rattle.c_parse.specs.DescentItems as it
use Rattle.c_expressions.specs.Shown.{place}
use Rattle.c_statements.proofs.Pieces.{ends_bind, ends_fail, ends_pure, ends_wrong, ends_some, ends_none}
use Rattle.c_statements.proofs.StmtSteps.{leaves}
use Rattle.c_parse.proofs.functions.bodied.Goals as goal

pub returns-in_default-clause-shown : goal.returns-in_default-clause-shown
unfolding it.bodied
returns-in_default-clause-shown c =
    let n : c.in_ok-named.named ≡ None = grind (arith, common_steps) in let e = sym c.in_ok-named.ensures.named ∙ n in (ends_none _ _ _ e (ends_wrong _))

pub returns-in_err-body-clause-shown : goal.returns-in_err-body-clause-shown
unfolding it.bodied
returns-in_err-body-clause-shown c =
    let e = sym c.in_ok-named.ensures.named ∙ c.in-Some.is in leaves (λ m. st.block (kind_at c.args.parser.now.tokens.now) shallow m) (place c.args.here) (λ m. it.bodied (kind_at c.args.parser.now.tokens.now) shallow m c.args.returned c.args.name c.args.protos) (place c.args.here) _ _ c.from_residual-in_err-body.ensures c.in_err-body.ensures.shown (λ x h. (ends_some _ c.in-Some.params _ _ e (ends_fail _ _ h)))

pub returns-clause-shown : goal.returns-clause-shown
unfolding it.bodied
returns-clause-shown c =
    let e = sym c.in_ok-named.ensures.named ∙ c.in-Some.is in (ends_some _ c.in-Some.params _ _ e (ends_bind _ _ c.in_ok-body.ensures.shown (ends_pure _ _)))
