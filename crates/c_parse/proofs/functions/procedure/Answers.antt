use Rattle.cc_model.specs.declared.trees.ResultType.TheVariants as returned
use Rattle.cc_model.specs.Spots.{kind_at, shallow}
use Rattle.c_parse.specs.DescentItems as it
use Rattle.c_expressions.specs.Shown.{place}
use Rattle.c_statements.proofs.Pieces.{ends_then, ends_stop, ends_here}
use Rattle.c_statements.proofs.StmtSteps.{leaves_take, passes}
use Rattle.c_parse.proofs.functions.procedure.Goals as goal

pub returns-in_err-named-clause-shown : goal.returns-in_err-named-clause-shown
unfolding it.procedure
returns-in_err-named-clause-shown c =
    leaves_take _ (λ m. it.procedure (kind_at c.args.parser.now.tokens.now) shallow m) (place c.args.spot) _ _ c.from_residual.ensures c.in_err-named.ensures.shown (λ x h. (ends_stop _ _ h))

pub returns-in_err-here-clause-shown : goal.returns-in_err-here-clause-shown
unfolding it.procedure
returns-in_err-here-clause-shown c =
    leaves_take _ (λ m. it.procedure (kind_at c.args.parser.now.tokens.now) shallow m) (place c.args.spot) _ _ c.from_residual-in_err-here.ensures c.in_err-here.ensures.shown (λ x h. (ends_then _ _ c.in_ok-named.ensures.shown (ends_here _ (ends_stop _ _ h))))

pub returns-clause-shown : goal.returns-clause-shown
unfolding it.procedure
returns-clause-shown c =
    passes (λ m. it.function_from (kind_at c.args.parser.now.tokens.now) shallow m returned.Void c.in_ok-named.named.at) (place c.in_ok-here.here) (λ m. it.procedure (kind_at c.args.parser.now.tokens.now) shallow m) (place c.args.spot) _ c.function_from.ensures.shown (λ q h. (ends_then _ _ c.in_ok-named.ensures.shown (ends_here _ (ends_then _ _ c.in_ok-here.ensures.shown h))))
