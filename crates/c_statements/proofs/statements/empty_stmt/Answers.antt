use Rattle.cc_model.specs.Spots.{kind_at, shallow}
use Rattle.c_statements.specs.DescentStatements as st
use Rattle.c_expressions.specs.Shown.{place}
use Rattle.c_statements.proofs.Pieces.{ends_then, ends_stop, ends_pure}
use Rattle.c_statements.proofs.StmtSteps.{leaves_take}
use Rattle.c_statements.proofs.StmtComplete as sc
use Rattle.c_statements.proofs.statements.empty_stmt.Goals as goal

pub returns-in_err-after-clause-shown : goal.returns-in_err-after-clause-shown
returns-in_err-after-clause-shown c =
    leaves_take _ (λ m. st.statement_of (kind_at c.args.parser.now.tokens.now) shallow m st.an_empty) (place c.args.spot) _ _ c.from_residual.ensures c.in_err-after.ensures.shown (λ x h. (sc.of_empty (kind_at c.args.parser.now.tokens.now) shallow (place c.args.spot) (ends_stop _ _ h)))

pub returns-clause-shown : goal.returns-clause-shown
returns-clause-shown c =
    (sc.of_empty (kind_at c.args.parser.now.tokens.now) shallow (place c.args.spot) (ends_then _ _ c.in_ok-after.ensures.shown (ends_pure _ _)))
