use Rattle.std.proofs.Common.{◌∙◌, arith, sym, []}
use Rattle.cc_model.specs.declared.tokens.Punct.TheVariants as punct
use Rattle.cc_model.specs.Spots.{kind_at, shallow}
use Rattle.c_expressions.specs.Descent.{got, failed}
use Rattle.c_statements.specs.DescentStatements as st
use Rattle.c_expressions.specs.Shown.{place}
use Rattle.c_statements.proofs.Pieces.{many_stop}
use Rattle.c_statements.proofs.StmtSteps.{leaves, many_bad, many_on, square_on, square_off}
use Rattle.c_statements.proofs.declarations.lengths.Goals as goal

pub loop-here-init : goal.loop-here-init
loop-here-init c =
    record { onward = omega arith; goes = λ r k. k }

pub returns-in_err-length-clause-shown : goal.returns-in_err-length-clause-shown
returns-in_err-length-clause-shown c =
    let e = sym (rw c.kind.ensures.value at c.is_sign.ensures.value) ∙ c.loop-here-test.true in leaves (st.length (kind_at c.args.parser.now.tokens.now) shallow) (place c.loop-here.here) (λ m. st.many (kind_at c.args.parser.now.tokens.now) shallow (st.lacks (kind_at c.args.parser.now.tokens.now) shallow punct.OpenSquare) (st.length (kind_at c.args.parser.now.tokens.now) shallow) m []) (place c.args.spot) _ _ c.from_residual.ensures c.in_err-length.ensures.shown (λ x h. (rw c.new-items.ensures at (c.loop-here.invariant.goes (failed x) (many_bad (kind_at c.args.parser.now.tokens.now) shallow (st.lacks (kind_at c.args.parser.now.tokens.now) shallow punct.OpenSquare) (st.length (kind_at c.args.parser.now.tokens.now) shallow) c.loop-here.items (place c.loop-here.here) (square_on (kind_at c.args.parser.now.tokens.now) shallow (place c.loop-here.here) e) h))))

pub loop-here-preserved : goal.loop-here-preserved
loop-here-preserved c =
    let e = sym (rw c.kind.ensures.value at c.is_sign.ensures.value) ∙ c.loop-here-test.true in record { onward = omega (arith, c.loop-here.invariant.onward, c.in_ok-length.ensures.onward); goes = λ r k. (c.loop-here.invariant.goes r (many_on (kind_at c.args.parser.now.tokens.now) shallow (st.lacks (kind_at c.args.parser.now.tokens.now) shallow punct.OpenSquare) (st.length (kind_at c.args.parser.now.tokens.now) shallow) c.loop-here.items (place c.loop-here.here) (square_on (kind_at c.args.parser.now.tokens.now) shallow (place c.loop-here.here) e) c.in_ok-length.ensures.shown (rw c.in_ok-push.ensures.ok at k))) }

pub returns-clause-shown : goal.returns-clause-shown
returns-clause-shown c =
    let e = sym (rw c.kind.ensures.value at c.is_sign.ensures.value) ∙ c.loop-here-test.false in (rw c.new-items.ensures at (c.loop-here.invariant.goes (got c.loop-here.items (place c.loop-here.here)) (many_stop (kind_at c.args.parser.now.tokens.now) shallow (st.lacks (kind_at c.args.parser.now.tokens.now) shallow punct.OpenSquare) (st.length (kind_at c.args.parser.now.tokens.now) shallow) c.loop-here.items (square_off (kind_at c.args.parser.now.tokens.now) shallow (place c.loop-here.here) e))))
