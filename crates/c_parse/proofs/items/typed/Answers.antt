use Rattle.cc_model.specs.Spots.{kind_at, shallow}
use Rattle.c_expressions.specs.Descent.{Got, got, failed, Ends, pure, leave, ◌>>◌, ◌>>=◌, is_sign, is_key, is_name}
use Rattle.c_expressions.specs.Descent as of
use Rattle.c_parse.specs.DescentItems as it
use Rattle.c_expressions.specs.Shown.{place}
use Rattle.c_statements.proofs.Pieces.{ends_bind, ends_fail}
use Rattle.c_statements.proofs.StmtSteps.{leaves, passes}
use Rattle.c_parse.proofs.items.typed.Goals as goal

pub returns-in_err-base-clause-shown : goal.returns-in_err-base-clause-shown
unfolding it.item_of
returns-in_err-base-clause-shown c =
    leaves (λ _. of.base_type (kind_at c.args.parser.now.tokens.now) shallow) (place c.args.spot) (λ m. it.item_of (kind_at c.args.parser.now.tokens.now) shallow m it.a_typed) (place c.args.spot) _ _ c.from_residual.ensures c.in_err-base.ensures.shown (λ x h. (ends_fail _ _ h))

pub returns-clause-shown : goal.returns-clause-shown
unfolding it.item_of
returns-clause-shown c =
    passes (λ m. it.typed_from (kind_at c.args.parser.now.tokens.now) shallow m c.in_ok-base.base) (place c.in_ok-base.here) (λ m. it.item_of (kind_at c.args.parser.now.tokens.now) shallow m it.a_typed) (place c.args.spot) _ c.typed_from.ensures.shown (λ q h. (ends_bind _ _ c.in_ok-base.ensures.shown h))
