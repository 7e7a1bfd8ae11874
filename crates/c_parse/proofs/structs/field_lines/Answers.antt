use Rattle.std.proofs.Common.{◌∙◌, arith, sym, [], ◌∷◌}
use Rattle.std.proofs.lemmas.Grind.{common_steps}
use Rattle.cc_model.specs.declared.tokens.Punct.TheVariants as punct
use Rattle.cc_model.specs.Spots.{kind_at, shallow}
use Rattle.c_expressions.specs.Descent.{got, failed}
use Rattle.c_statements.specs.DescentStatements as st
use Rattle.c_parse.specs.DescentItems as it
use Rattle.c_expressions.specs.Shown.{place}
use Rattle.c_statements.proofs.Pieces.{ends_bind, ends_fail, many_stop}
use Rattle.c_statements.proofs.StmtSteps.{leaves, many_bad, many_on}
use Rattle.c_parse.proofs.structs.field_lines.Goals as goal

pub returns-in_err-first-clause-shown : goal.returns-in_err-first-clause-shown
unfolding it.field_lines
returns-in_err-first-clause-shown c =
    leaves (it.field_line (kind_at c.args.parser.now.tokens.now) shallow) (place c.args.spot) (λ m. it.field_lines (kind_at c.args.parser.now.tokens.now) shallow m) (place c.args.spot) _ _ c.from_residual.ensures c.in_err-first.ensures.shown (λ x h. ends_fail _ _ h)

pub loop-here-init : goal.loop-here-init
unfolding it.field_lines
loop-here-init c =
    record { onward = omega arith; goes = λ r k. k }

pub returns-in_err-next-clause-shown : goal.returns-in_err-next-clause-shown
unfolding it.field_lines st.has
returns-in_err-next-clause-shown c =
    let e = sym (rw c.kind.ensures.value at c.is_sign.ensures.value) ∙ grind (arith, common_steps) in leaves (it.field_line (kind_at c.args.parser.now.tokens.now) shallow) (place c.loop-here.here) (λ m. it.field_lines (kind_at c.args.parser.now.tokens.now) shallow m) (place c.args.spot) _ _ c.from_residual-in_err-next.ensures c.in_err-next.ensures.shown (λ x h. (ends_bind (it.field_line (kind_at c.args.parser.now.tokens.now) shallow) (λ n a. st.many (kind_at c.args.parser.now.tokens.now) shallow (st.has (kind_at c.args.parser.now.tokens.now) shallow punct.CloseBrace) (it.field_line (kind_at c.args.parser.now.tokens.now) shallow) n (a ∷ [])) c.in_ok-first.ensures.shown (rw (c.in_ok-push.ensures.ok, c.new-items.ensures) at (c.loop-here.invariant.goes (failed x) (many_bad (kind_at c.args.parser.now.tokens.now) shallow (st.has (kind_at c.args.parser.now.tokens.now) shallow punct.CloseBrace) (it.field_line (kind_at c.args.parser.now.tokens.now) shallow) c.loop-here.items (place c.loop-here.here) e h)))))

pub loop-here-preserved : goal.loop-here-preserved
unfolding st.has
loop-here-preserved c =
    let e = sym (rw c.kind.ensures.value at c.is_sign.ensures.value) ∙ grind (arith, common_steps) in record { onward = omega (arith, c.loop-here.invariant.onward, c.in_ok-next.ensures.onward); goes = λ r k. (c.loop-here.invariant.goes r (many_on (kind_at c.args.parser.now.tokens.now) shallow (st.has (kind_at c.args.parser.now.tokens.now) shallow punct.CloseBrace) (it.field_line (kind_at c.args.parser.now.tokens.now) shallow) c.loop-here.items (place c.loop-here.here) e c.in_ok-next.ensures.shown (rw c.in_ok-push-2.ensures.ok at k))) }

pub returns-clause-shown : goal.returns-clause-shown
unfolding it.field_lines st.has
returns-clause-shown c =
    let e = sym (rw c.kind.ensures.value at c.is_sign.ensures.value) ∙ grind (arith, common_steps) in (ends_bind (it.field_line (kind_at c.args.parser.now.tokens.now) shallow) (λ n a. st.many (kind_at c.args.parser.now.tokens.now) shallow (st.has (kind_at c.args.parser.now.tokens.now) shallow punct.CloseBrace) (it.field_line (kind_at c.args.parser.now.tokens.now) shallow) n (a ∷ [])) c.in_ok-first.ensures.shown (rw (c.in_ok-push.ensures.ok, c.new-items.ensures) at (c.loop-here.invariant.goes (got c.loop-here.items (place c.loop-here.here)) (many_stop (kind_at c.args.parser.now.tokens.now) shallow (st.has (kind_at c.args.parser.now.tokens.now) shallow punct.CloseBrace) (it.field_line (kind_at c.args.parser.now.tokens.now) shallow) c.loop-here.items e))))
