use Rattle.cc_model.specs.Spots.{kind_at, shallow}
use Rattle.c_parse.specs.DescentItems as it
use Rattle.c_expressions.specs.Shown.{place}
use Rattle.c_statements.proofs.Pieces.{ends_bind, ends_fail, ends_then, ends_stop, ends_pure, ends_here}
use Rattle.c_statements.proofs.StmtSteps.{leaves, leaves_take}
use Rattle.c_parse.proofs.structs.struct_type.Goals as goal

pub returns-in_err-fields-clause-shown : goal.returns-in_err-fields-clause-shown
unfolding it.struct_type
returns-in_err-fields-clause-shown c =
    leaves (λ m. it.fields (kind_at c.args.parser.now.tokens.now) shallow m) (place c.args.spot) (λ m. it.struct_type (kind_at c.args.parser.now.tokens.now) shallow m c.args.tag) (place c.args.spot) _ _ c.from_residual.ensures c.in_err-fields.ensures.shown (λ x h. (ends_fail _ _ h))

pub returns-in_err-end-clause-shown : goal.returns-in_err-end-clause-shown
unfolding it.struct_type
returns-in_err-end-clause-shown c =
    leaves_take _ (λ m. it.struct_type (kind_at c.args.parser.now.tokens.now) shallow m c.args.tag) (place c.args.spot) _ _ c.from_residual-in_err-end.ensures c.in_err-end.ensures.shown (λ x h. (ends_bind _ _ c.in_ok-fields.ensures.shown (ends_here _ (ends_stop _ _ h))))

pub returns-in_err-after-clause-shown : goal.returns-in_err-after-clause-shown
unfolding it.struct_type
returns-in_err-after-clause-shown c =
    leaves_take _ (λ m. it.struct_type (kind_at c.args.parser.now.tokens.now) shallow m c.args.tag) (place c.args.spot) _ _ c.from_residual-in_err-after.ensures c.in_err-after.ensures.shown (λ x h. (ends_bind _ _ c.in_ok-fields.ensures.shown (ends_here _ (ends_then _ _ c.in_ok-end.ensures.shown (ends_stop _ _ h)))))

pub returns-clause-shown : goal.returns-clause-shown
unfolding it.struct_type
returns-clause-shown c =
    (ends_bind _ _ c.in_ok-fields.ensures.shown (ends_here _ (ends_then _ _ c.in_ok-end.ensures.shown (ends_then _ _ c.in_ok-after.ensures.shown (ends_pure _ _)))))
