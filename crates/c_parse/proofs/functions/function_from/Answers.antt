use Rattle.cc_model.specs.Spots.{kind_at, shallow}
use Rattle.c_parse.specs.DescentItems as it
use Rattle.c_expressions.specs.Shown.{place}
use Rattle.c_statements.proofs.Pieces.{ends_bind, ends_fail}
use Rattle.c_statements.proofs.StmtSteps.{leaves, passes}
use Rattle.c_parse.proofs.functions.function_from.Goals as goal

pub returns-in_err-protos-clause-shown : goal.returns-in_err-protos-clause-shown
unfolding it.function_from
returns-in_err-protos-clause-shown c =
    leaves (λ m. it.heading (kind_at c.args.parser.now.tokens.now) shallow m) (place c.args.here) (λ m. it.function_from (kind_at c.args.parser.now.tokens.now) shallow m c.args.returned c.args.name) (place c.args.here) _ _ c.from_residual.ensures c.in_err-protos.ensures.shown (λ x h. (ends_fail _ _ h))

pub returns-clause-shown : goal.returns-clause-shown
unfolding it.function_from
returns-clause-shown c =
    passes (λ m. it.ending (kind_at c.args.parser.now.tokens.now) shallow m c.args.returned c.args.name c.in_ok-protos.protos) (place c.in_ok-protos.end) (λ m. it.function_from (kind_at c.args.parser.now.tokens.now) shallow m c.args.returned c.args.name) (place c.args.here) _ c.ending.ensures.shown (λ q h. (ends_bind _ _ c.in_ok-protos.ensures.shown h))
