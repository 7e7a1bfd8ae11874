use Rattle.cc_model.specs.Spots.{kind_at, shallow}
use Rattle.c_parse.specs.DescentItems as it
use Rattle.c_expressions.specs.Shown.{place}
use Rattle.c_statements.proofs.Pieces.{ends_bind, ends_fail, ends_then, ends_stop, ends_pure, ends_here}
use Rattle.c_statements.proofs.StmtSteps.{leaves, leaves_take}
use Rattle.c_parse.proofs.functions.heading.Goals as goal

pub returns-in_err-inner-clause-shown : goal.returns-in_err-inner-clause-shown
unfolding it.heading
returns-in_err-inner-clause-shown c =
    leaves_take _ (λ m. it.heading (kind_at c.args.parser.now.tokens.now) shallow m) (place c.args.spot) _ _ c.from_residual.ensures c.in_err-inner.ensures.shown (λ x h. (ends_here _ (ends_stop _ _ h)))

pub returns-in_err-protos-clause-shown : goal.returns-in_err-protos-clause-shown
unfolding it.heading
returns-in_err-protos-clause-shown c =
    leaves (λ m. it.protos (kind_at c.args.parser.now.tokens.now) shallow m) (place c.in_ok-inner.inner) (λ m. it.heading (kind_at c.args.parser.now.tokens.now) shallow m) (place c.args.spot) _ _ c.from_residual-in_err-protos.ensures c.in_err-protos.ensures.shown (λ x h. (ends_here _ (ends_then _ _ c.in_ok-inner.ensures.shown (ends_fail _ _ h))))

pub returns-in_err-after-clause-shown : goal.returns-in_err-after-clause-shown
unfolding it.heading
returns-in_err-after-clause-shown c =
    leaves_take _ (λ m. it.heading (kind_at c.args.parser.now.tokens.now) shallow m) (place c.args.spot) _ _ c.from_residual-in_err-after.ensures c.in_err-after.ensures.shown (λ x h. (ends_here _ (ends_then _ _ c.in_ok-inner.ensures.shown (ends_bind _ _ c.in_ok-protos.ensures.shown (ends_stop _ _ h)))))

pub returns-clause-shown : goal.returns-clause-shown
unfolding it.heading
returns-clause-shown c =
    (ends_here _ (ends_then _ _ c.in_ok-inner.ensures.shown (ends_bind _ _ c.in_ok-protos.ensures.shown (ends_then _ _ c.in_ok-after.ensures.shown (ends_pure _ _)))))
