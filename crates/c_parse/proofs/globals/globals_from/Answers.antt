use Rattle.std.proofs.Common.{[], ◌∷◌}
use Rattle.cc_model.specs.Spots.{kind_at, shallow}
use Rattle.c_statements.specs.DescentStatements as st
use Rattle.c_parse.specs.DescentItems as it
use Rattle.c_expressions.specs.Shown.{place}
use Rattle.c_statements.proofs.Pieces.{ends_bind, ends_fail, ends_then, ends_stop, ends_pure}
use Rattle.c_statements.proofs.StmtSteps.{leaves, leaves_take}
use Rattle.c_parse.proofs.globals.globals_from.Goals as goal

pub returns-in_err-first-clause-shown : goal.returns-in_err-first-clause-shown
unfolding it.globals_from
returns-in_err-first-clause-shown c =
    leaves (λ m. it.global_from (kind_at c.args.parser.now.tokens.now) shallow m c.args.declarator) (place c.args.here) (λ m. it.globals_from (kind_at c.args.parser.now.tokens.now) shallow m c.args.base c.args.declarator) (place c.args.here) _ _ c.from_residual.ensures c.in_err-first.ensures.shown (λ x h. (ends_fail _ _ h))

pub returns-in_err-parts-clause-shown : goal.returns-in_err-parts-clause-shown
unfolding it.globals_from
returns-in_err-parts-clause-shown c =
    leaves (λ m. st.commas_more (kind_at c.args.parser.now.tokens.now) shallow (it.global (kind_at c.args.parser.now.tokens.now) shallow) m (c.in_ok-first.first ∷ [])) (place c.in_ok-first.behind) (λ m. it.globals_from (kind_at c.args.parser.now.tokens.now) shallow m c.args.base c.args.declarator) (place c.args.here) _ _ c.from_residual-in_err-parts.ensures c.in_err-parts.ensures.shown (λ x h. (ends_bind _ _ c.in_ok-first.ensures.shown (ends_fail _ _ h)))

pub returns-in_err-after-clause-shown : goal.returns-in_err-after-clause-shown
unfolding it.globals_from
returns-in_err-after-clause-shown c =
    leaves_take _ (λ m. it.globals_from (kind_at c.args.parser.now.tokens.now) shallow m c.args.base c.args.declarator) (place c.args.here) _ _ c.from_residual-in_err-after.ensures c.in_err-after.ensures.shown (λ x h. (ends_bind _ _ c.in_ok-first.ensures.shown (ends_bind _ _ c.in_ok-parts.ensures.shown (ends_stop _ _ h))))

pub returns-clause-shown : goal.returns-clause-shown
unfolding it.globals_from
returns-clause-shown c =
    (ends_bind _ _ c.in_ok-first.ensures.shown (ends_bind _ _ c.in_ok-parts.ensures.shown (ends_then _ _ c.in_ok-after.ensures.shown (ends_pure _ _))))
