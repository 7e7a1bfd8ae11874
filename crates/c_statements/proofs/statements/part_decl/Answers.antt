use Rattle.cc_model.specs.Spots.{kind_at, shallow}
use Rattle.c_statements.specs.DescentStatements as st
use Rattle.c_expressions.specs.Shown.{place}
use Rattle.c_statements.proofs.Pieces.{ends_bind, ends_fail, ends_pure}
use Rattle.c_statements.proofs.StmtSteps.{leaves}
use Rattle.c_statements.proofs.statements.part_decl.Goals as goal

pub returns-in_err-decl-clause-shown : goal.returns-in_err-decl-clause-shown
unfolding st.part_decl
returns-in_err-decl-clause-shown c =
    leaves (λ m. st.declaration (kind_at c.args.parser.now.tokens.now) shallow m) (place c.args.spot) (λ m. st.part_decl (kind_at c.args.parser.now.tokens.now) shallow m) (place c.args.spot) _ _ c.from_residual.ensures c.in_err-decl.ensures.shown (λ x h. (ends_fail _ _ h))

pub returns-clause-shown : goal.returns-clause-shown
unfolding st.part_decl
returns-clause-shown c =
    (ends_bind _ _ c.in_ok-decl.ensures.shown (ends_pure _ _))
