use Rattle.cc_model.specs.Spots.{kind_at, shallow}
use Rattle.c_expressions.specs.Descent.{Got, got, failed, Ends, pure, leave, ◌>>◌, ◌>>=◌, is_sign, is_key, is_name}
use Rattle.c_expressions.specs.Descent as of
use Rattle.c_statements.specs.DescentStatements as st
use Rattle.c_parse.specs.DescentItems as it
use Rattle.c_expressions.specs.Shown.{place}
use Rattle.c_statements.proofs.Pieces.{ends_bind, ends_fail, ends_then, ends_stop, ends_pure}
use Rattle.c_statements.proofs.StmtSteps.{leaves, leaves_take}
use Rattle.c_parse.proofs.structs.field_line.Goals as goal

pub returns-in_err-base-clause-shown : goal.returns-in_err-base-clause-shown
unfolding it.field_line
returns-in_err-base-clause-shown c =
    leaves (λ _. of.base_type (kind_at c.args.parser.now.tokens.now) shallow) (place c.args.spot) (λ m. it.field_line (kind_at c.args.parser.now.tokens.now) shallow m) (place c.args.spot) _ _ c.from_residual.ensures c.in_err-base.ensures.shown (λ x h. (ends_fail _ _ h))

pub returns-in_err-parts-clause-shown : goal.returns-in_err-parts-clause-shown
unfolding it.field_line
returns-in_err-parts-clause-shown c =
    leaves (λ m. st.commas (kind_at c.args.parser.now.tokens.now) shallow (st.declarator (kind_at c.args.parser.now.tokens.now) shallow) m) (place c.in_ok-base.here) (λ m. it.field_line (kind_at c.args.parser.now.tokens.now) shallow m) (place c.args.spot) _ _ c.from_residual-in_err-parts.ensures c.in_err-parts.ensures.shown (λ x h. (ends_bind _ _ c.in_ok-base.ensures.shown (ends_fail _ _ h)))

pub returns-in_err-after-clause-shown : goal.returns-in_err-after-clause-shown
unfolding it.field_line
returns-in_err-after-clause-shown c =
    leaves_take _ (λ m. it.field_line (kind_at c.args.parser.now.tokens.now) shallow m) (place c.args.spot) _ _ c.from_residual-in_err-after.ensures c.in_err-after.ensures.shown (λ x h. (ends_bind _ _ c.in_ok-base.ensures.shown (ends_bind _ _ c.in_ok-parts.ensures.shown (ends_stop _ _ h))))

pub returns-clause-shown : goal.returns-clause-shown
unfolding it.field_line
returns-clause-shown c =
    (ends_bind _ _ c.in_ok-base.ensures.shown (ends_bind _ _ c.in_ok-parts.ensures.shown (ends_then _ _ c.in_ok-after.ensures.shown (ends_pure _ _))))
