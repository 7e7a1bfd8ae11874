use Rattle.cc_model.specs.Spots.{kind_at, shallow}
use Rattle.c_statements.specs.DescentStatements as st
use Rattle.c_parse.specs.DescentItems as it
use Rattle.c_expressions.specs.Shown.{place}
use Rattle.c_statements.proofs.Pieces.{ends_bind, ends_fail}
use Rattle.c_statements.proofs.StmtSteps.{leaves, passes}
use Rattle.c_parse.proofs.globals.globals_named.Goals as goal

pub returns-in_err-declarator-clause-shown : goal.returns-in_err-declarator-clause-shown
unfolding it.globals_named
returns-in_err-declarator-clause-shown c =
    leaves (λ m. st.declarator_from (kind_at c.args.parser.now.tokens.now) shallow m c.args.level c.args.ty.stars c.args.name) (place c.args.here) (λ m. it.globals_named (kind_at c.args.parser.now.tokens.now) shallow m c.args.level c.args.ty.base c.args.ty.stars c.args.name) (place c.args.here) _ _ c.from_residual.ensures c.in_err-declarator.ensures.shown (λ x h. (ends_fail _ _ h))

pub returns-clause-shown : goal.returns-clause-shown
unfolding it.globals_named
returns-clause-shown c =
    passes (λ m. it.globals_from (kind_at c.args.parser.now.tokens.now) shallow m c.args.ty.base c.in_ok-declarator.declarator) (place c.in_ok-declarator.end) (λ m. it.globals_named (kind_at c.args.parser.now.tokens.now) shallow m c.args.level c.args.ty.base c.args.ty.stars c.args.name) (place c.args.here) _ c.globals_from.ensures.shown (λ q h. (ends_bind _ _ c.in_ok-declarator.ensures.shown h))
