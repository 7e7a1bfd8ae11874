use Rattle.cc_model.specs.Spots.{kind_at, shallow}
use Rattle.c_statements.specs.DescentStatements as st
use Rattle.c_parse.specs.DescentItems as it
use Rattle.c_expressions.specs.Shown.{place}
use Rattle.c_statements.proofs.Pieces.{ends_bind, ends_fail}
use Rattle.c_statements.proofs.StmtSteps.{leaves, passes}
use Rattle.c_parse.proofs.globals.global.Goals as goal

pub returns-in_err-declarator-clause-shown : goal.returns-in_err-declarator-clause-shown
unfolding it.global
returns-in_err-declarator-clause-shown c =
    leaves (λ m. st.declarator (kind_at c.args.parser.now.tokens.now) shallow m) (place c.args.spot) (λ m. it.global (kind_at c.args.parser.now.tokens.now) shallow m) (place c.args.spot) _ _ c.from_residual.ensures c.in_err-declarator.ensures.shown (λ x h. (ends_fail _ _ h))

pub returns-clause-shown : goal.returns-clause-shown
unfolding it.global
returns-clause-shown c =
    passes (λ m. it.global_from (kind_at c.args.parser.now.tokens.now) shallow m c.in_ok-declarator.declarator) (place c.in_ok-declarator.here) (λ m. it.global (kind_at c.args.parser.now.tokens.now) shallow m) (place c.args.spot) _ c.global_from.ensures.shown (λ q h. (ends_bind _ _ c.in_ok-declarator.ensures.shown h))
