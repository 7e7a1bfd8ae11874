use Rattle.std.proofs.Common.{◌∙◌, sym}
use Rattle.cc_model.specs.declared.trees.ResultType.TheVariants as returned
use Rattle.cc_model.specs.Spots.{kind_at, shallow}
use Rattle.c_expressions.specs.Descent.{Got, got, failed, Ends, pure, leave, ◌>>◌, ◌>>=◌, is_sign, is_key, is_name}
use Rattle.c_expressions.specs.Descent as of
use Rattle.c_statements.specs.DescentStatements as st
use Rattle.c_parse.specs.DescentItems as it
use Rattle.c_expressions.specs.Shown.{place}
use Rattle.c_statements.proofs.Pieces.{ends_bind, ends_fail, ends_then, ends_stop, ends_here, ends_yes, ends_no}
use Rattle.c_statements.proofs.StmtSteps.{leaves, leaves_take, passes}
use Rattle.c_parse.proofs.items.typed_from.Goals as goal

pub returns-in_err-stars-clause-shown : goal.returns-in_err-stars-clause-shown
unfolding it.typed_from st.has
returns-in_err-stars-clause-shown c =
    leaves (λ m. of.stars (kind_at c.args.parser.now.tokens.now) shallow m) (place c.args.spot) (λ m. it.typed_from (kind_at c.args.parser.now.tokens.now) shallow m c.args.base) (place c.args.spot) _ _ c.from_residual.ensures c.in_err-stars.ensures.shown (λ x h. (ends_here _ (ends_fail _ _ h)))

pub returns-in_err-here-clause-shown : goal.returns-in_err-here-clause-shown
unfolding it.typed_from st.has
returns-in_err-here-clause-shown c =
    leaves_take _ (λ m. it.typed_from (kind_at c.args.parser.now.tokens.now) shallow m c.args.base) (place c.args.spot) _ _ c.from_residual-in_err-here.ensures c.in_err-here.ensures.shown (λ x h. (ends_here _ (ends_bind _ _ c.in_ok-stars.ensures.shown (ends_here _ (ends_stop _ _ h)))))

pub returns-then-is_sign-clause-shown : goal.returns-then-is_sign-clause-shown
unfolding it.typed_from st.has
returns-then-is_sign-clause-shown c =
    let e = sym (rw c.kind.ensures.value at c.is_sign.ensures.value) ∙ c.if-is_sign.true in passes (λ m. it.function_from (kind_at c.args.parser.now.tokens.now) shallow m (returned.Value (record { base = c.args.base; stars = c.in_ok-stars.stars })) c.in_ok-stars.named.at) (place c.in_ok-here.here) (λ m. it.typed_from (kind_at c.args.parser.now.tokens.now) shallow m c.args.base) (place c.args.spot) _ c.function_from.ensures.shown (λ q h. (ends_here _ (ends_bind _ _ c.in_ok-stars.ensures.shown (ends_here _ (ends_then _ _ c.in_ok-here.ensures.shown (ends_yes _ _ _ e h))))))

pub returns-clause-shown : goal.returns-clause-shown
unfolding it.typed_from st.has
returns-clause-shown c =
    let e = sym (rw c.kind.ensures.value at c.is_sign.ensures.value) ∙ c.if-is_sign.false in passes (λ m. it.globals_named (kind_at c.args.parser.now.tokens.now) shallow m c.args.spot.level c.args.base c.in_ok-stars.stars c.in_ok-stars.named.at) (place c.in_ok-here.here) (λ m. it.typed_from (kind_at c.args.parser.now.tokens.now) shallow m c.args.base) (place c.args.spot) _ c.globals_named.ensures.shown (λ q h. (ends_here _ (ends_bind _ _ c.in_ok-stars.ensures.shown (ends_here _ (ends_then _ _ c.in_ok-here.ensures.shown (ends_no _ _ _ e h))))))
