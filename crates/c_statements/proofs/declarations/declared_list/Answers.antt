use Rattle.std.proofs.Common.{◌∙◌, arith, sym, [], ◌∷◌}
use Rattle.cc_model.specs.Spots.{kind_at, shallow}
use Rattle.c_expressions.specs.Descent.{got, failed}
use Rattle.c_statements.specs.DescentStatements as st
use Rattle.c_expressions.specs.Shown.{place}
use Rattle.c_statements.proofs.Pieces.{ends_bind, ends_fail}
use Rattle.c_statements.proofs.StmtSteps.{leaves, leaves_take, comma_deep, comma_bad, comma_on, comma_end}
use Rattle.c_statements.proofs.declarations.declared_list.Goals as goal

pub returns-in_err-first-clause-shown : goal.returns-in_err-first-clause-shown
unfolding st.commas
returns-in_err-first-clause-shown c =
    leaves (st.initialised (kind_at c.args.parser.now.tokens.now) shallow) (place c.args.spot) (λ m. st.commas (kind_at c.args.parser.now.tokens.now) shallow (st.initialised (kind_at c.args.parser.now.tokens.now) shallow) m) (place c.args.spot) _ _ c.from_residual.ensures c.in_err-first.ensures.shown (λ x h. ends_fail _ _ h)

pub loop-here-init : goal.loop-here-init
unfolding st.commas
loop-here-init c =
    record { onward = omega arith; goes = λ r k. k }

pub returns-in_err-inner-clause-shown : goal.returns-in_err-inner-clause-shown
unfolding st.commas
returns-in_err-inner-clause-shown c =
    let e = sym (rw c.kind.ensures.value at c.is_sign.ensures.value) ∙ c.loop-here-test.true in leaves_take _ (λ m. st.commas (kind_at c.args.parser.now.tokens.now) shallow (st.initialised (kind_at c.args.parser.now.tokens.now) shallow) m) (place c.args.spot) _ _ c.from_residual-in_err-inner.ensures c.in_err-inner.ensures.shown (λ x h. (ends_bind (st.initialised (kind_at c.args.parser.now.tokens.now) shallow) (λ n a. st.commas_more (kind_at c.args.parser.now.tokens.now) shallow (st.initialised (kind_at c.args.parser.now.tokens.now) shallow) n (a ∷ [])) c.in_ok-first.ensures.shown (rw (c.in_ok-push.ensures.ok, c.new-items.ensures) at (c.loop-here.invariant.goes (failed x) (comma_deep (kind_at c.args.parser.now.tokens.now) shallow (st.initialised (kind_at c.args.parser.now.tokens.now) shallow) c.loop-here.items (place c.loop-here.here) e h)))))

pub returns-in_err-next-clause-shown : goal.returns-in_err-next-clause-shown
unfolding st.commas
returns-in_err-next-clause-shown c =
    let e = sym (rw c.kind.ensures.value at c.is_sign.ensures.value) ∙ c.loop-here-test.true in leaves (st.initialised (kind_at c.args.parser.now.tokens.now) shallow) (place c.in_ok-inner.inner) (λ m. st.commas (kind_at c.args.parser.now.tokens.now) shallow (st.initialised (kind_at c.args.parser.now.tokens.now) shallow) m) (place c.args.spot) _ _ c.from_residual-in_err-next.ensures c.in_err-next.ensures.shown (λ x h. (ends_bind (st.initialised (kind_at c.args.parser.now.tokens.now) shallow) (λ n a. st.commas_more (kind_at c.args.parser.now.tokens.now) shallow (st.initialised (kind_at c.args.parser.now.tokens.now) shallow) n (a ∷ [])) c.in_ok-first.ensures.shown (rw (c.in_ok-push.ensures.ok, c.new-items.ensures) at (c.loop-here.invariant.goes (failed x) (comma_bad (kind_at c.args.parser.now.tokens.now) shallow (st.initialised (kind_at c.args.parser.now.tokens.now) shallow) c.loop-here.items (place c.loop-here.here) e c.in_ok-inner.ensures.shown h)))))

pub loop-here-preserved : goal.loop-here-preserved
unfolding st.commas
loop-here-preserved c =
    let e = sym (rw c.kind.ensures.value at c.is_sign.ensures.value) ∙ c.loop-here-test.true in record { onward = omega (arith, c.loop-here.invariant.onward, c.in_ok-inner.ensures.next.1, c.in_ok-next.ensures.onward); goes = λ r k. (c.loop-here.invariant.goes r (comma_on (kind_at c.args.parser.now.tokens.now) shallow (st.initialised (kind_at c.args.parser.now.tokens.now) shallow) c.loop-here.items (place c.loop-here.here) e c.in_ok-inner.ensures.shown c.in_ok-next.ensures.shown (rw c.in_ok-push-2.ensures.ok at k))) }

pub returns-clause-shown : goal.returns-clause-shown
unfolding st.commas
returns-clause-shown c =
    let e = sym (rw c.kind.ensures.value at c.is_sign.ensures.value) ∙ c.loop-here-test.false in (ends_bind (st.initialised (kind_at c.args.parser.now.tokens.now) shallow) (λ n a. st.commas_more (kind_at c.args.parser.now.tokens.now) shallow (st.initialised (kind_at c.args.parser.now.tokens.now) shallow) n (a ∷ [])) c.in_ok-first.ensures.shown (rw (c.in_ok-push.ensures.ok, c.new-items.ensures) at (c.loop-here.invariant.goes (got c.loop-here.items (place c.loop-here.here)) (comma_end (kind_at c.args.parser.now.tokens.now) shallow (st.initialised (kind_at c.args.parser.now.tokens.now) shallow) c.loop-here.items (place c.loop-here.here) e))))
