use Rattle.cc_model.specs.Spots.{kind_at, shallow}
use Rattle.c_parse.specs.DescentItems as it
use Rattle.c_expressions.specs.Shown.{place}
use Rattle.c_statements.proofs.Pieces.{ends_bind, ends_fail, ends_then, ends_stop, ends_pure, ends_here}
use Rattle.c_statements.proofs.StmtSteps.{leaves, leaves_take}
use Rattle.c_parse.proofs.structs.struct_def.Goals as goal

pub returns-in_err-tag-clause-shown : goal.returns-in_err-tag-clause-shown
unfolding it.struct_def
returns-in_err-tag-clause-shown c =
    leaves_take _ (λ m. it.struct_def (kind_at c.args.parser.now.tokens.now) shallow m) (place c.args.spot) _ _ c.from_residual.ensures c.in_err-tag.ensures.shown (λ x h. (ends_stop _ _ h))

pub returns-in_err-here-clause-shown : goal.returns-in_err-here-clause-shown
unfolding it.struct_def
returns-in_err-here-clause-shown c =
    leaves_take _ (λ m. it.struct_def (kind_at c.args.parser.now.tokens.now) shallow m) (place c.args.spot) _ _ c.from_residual-in_err-here.ensures c.in_err-here.ensures.shown (λ x h. (ends_then _ _ c.in_ok-tag.ensures.shown (ends_here _ (ends_stop _ _ h))))

pub returns-in_err-fields-clause-shown : goal.returns-in_err-fields-clause-shown
unfolding it.struct_def
returns-in_err-fields-clause-shown c =
    leaves (λ m. it.fields (kind_at c.args.parser.now.tokens.now) shallow m) (place c.in_ok-here.here) (λ m. it.struct_def (kind_at c.args.parser.now.tokens.now) shallow m) (place c.args.spot) _ _ c.from_residual-in_err-fields.ensures c.in_err-fields.ensures.shown (λ x h. (ends_then _ _ c.in_ok-tag.ensures.shown (ends_here _ (ends_then _ _ c.in_ok-here.ensures.shown (ends_fail _ _ h)))))

pub returns-in_err-after-clause-shown : goal.returns-in_err-after-clause-shown
unfolding it.struct_def
returns-in_err-after-clause-shown c =
    leaves_take _ (λ m. it.struct_def (kind_at c.args.parser.now.tokens.now) shallow m) (place c.args.spot) _ _ c.from_residual-in_err-after.ensures c.in_err-after.ensures.shown (λ x h. (ends_then _ _ c.in_ok-tag.ensures.shown (ends_here _ (ends_then _ _ c.in_ok-here.ensures.shown (ends_bind _ _ c.in_ok-fields.ensures.shown (ends_stop _ _ h))))))

pub returns-clause-shown : goal.returns-clause-shown
unfolding it.struct_def
returns-clause-shown c =
    (ends_then _ _ c.in_ok-tag.ensures.shown (ends_here _ (ends_then _ _ c.in_ok-here.ensures.shown (ends_bind _ _ c.in_ok-fields.ensures.shown (ends_then _ _ c.in_ok-after.ensures.shown (ends_pure _ _))))))
