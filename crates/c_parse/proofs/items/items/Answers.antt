use Rattle.std.proofs.Common.{◌∙◌, arith, sym}
use Rattle.std.proofs.lemmas.Grind.{common_steps}
use Rattle.cc_model.specs.Spots.{kind_at, shallow}
use Rattle.c_expressions.specs.Descent.{got, failed}
use Rattle.c_parse.specs.DescentItems as it
use Rattle.c_expressions.specs.Shown.{place}
use Rattle.c_statements.proofs.Pieces.{many_stop}
use Rattle.c_statements.proofs.StmtSteps.{leaves, many_bad, many_on}
use Rattle.c_parse.proofs.items.items.Goals as goal

pub loop-here-init : goal.loop-here-init
loop-here-init c =
    record { onward = omega arith; goes = λ r k. k }

pub returns-in_err-item : goal.returns-in_err-item
unfolding it.items
returns-in_err-item c =
    let e = sym (rw c.kind.ensures.value at c.is_end.ensures.value) ∙ grind (arith, common_steps) in record { shown = leaves (it.item (kind_at c.args.parser.now.tokens.now) shallow) (place c.loop-here.here) (λ m. it.items (kind_at c.args.parser.now.tokens.now) shallow m) (place c.args.spot) _ _ c.from_residual.ensures c.in_err-item.ensures.shown (λ x h. (rw c.new-items.ensures at (c.loop-here.invariant.goes (failed x) (many_bad (kind_at c.args.parser.now.tokens.now) shallow (λ s. it.is_end (kind_at c.args.parser.now.tokens.now s.at)) (it.item (kind_at c.args.parser.now.tokens.now) shallow) c.loop-here.items (place c.loop-here.here) e h)))) }

pub loop-here-preserved : goal.loop-here-preserved
loop-here-preserved c =
    let e = sym (rw c.kind.ensures.value at c.is_end.ensures.value) ∙ grind (arith, common_steps) in record { onward = omega (arith, c.loop-here.invariant.onward, c.in_ok-item.ensures.onward); goes = λ r k. (c.loop-here.invariant.goes r (many_on (kind_at c.args.parser.now.tokens.now) shallow (λ s. it.is_end (kind_at c.args.parser.now.tokens.now s.at)) (it.item (kind_at c.args.parser.now.tokens.now) shallow) c.loop-here.items (place c.loop-here.here) e c.in_ok-item.ensures.shown (rw c.in_ok-push.ensures.ok at k))) }

pub returns : goal.returns
unfolding it.items
returns c =
    let e = sym (rw c.kind.ensures.value at c.is_end.ensures.value) ∙ grind (arith, common_steps) in record { shown = (rw c.new-items.ensures at (c.loop-here.invariant.goes (got c.loop-here.items (place c.loop-here.here)) (many_stop (kind_at c.args.parser.now.tokens.now) shallow (λ s. it.is_end (kind_at c.args.parser.now.tokens.now s.at)) (it.item (kind_at c.args.parser.now.tokens.now) shallow) c.loop-here.items e))) }
