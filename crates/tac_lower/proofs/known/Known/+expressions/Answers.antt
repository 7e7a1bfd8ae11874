-- What each function adds is what its arms add.
use Rattle.std.proofs.lemmas.Int.{to_z-of_z}
use mir.Syntax.{w32}
use mir.Val.{SFits}
use Rattle.std.proofs.Common.{rules, ◌≡◌, ◌<◌, ◌-◌, suc, arith, refl, sym, ap, ◌∙◌, subst, map}
use denote.Param.Weighed.{at_most}
use Rattle.cc_model.specs.Core as tree
use Rattle.cc_model.specs.Core.{Val, Cond, Loc, truth, test}
use Rattle.tac_lower.specs.declared.form.Decided.{Decided}
use Rattle.cc_model.specs.Resolve.{number_or_null, resolve, vals_of, value_of, place_of}
use Rattle.tac_lower.specs.Tables.{facts_of}
use Rattle.tac_lower.specs.Emitted.{AddsNumber}
use Rattle.tac_lower.specs.Forms.{operation, computed_of, located_of, decided_of}
use Rattle.tac_lower.proofs.Emitting.{on_ok, value_as, cond_as, place_as, nil_done, number_done, arith_done, read_done, negate_done, address_done, malloc_done, call_of, comparison_done, decision_value, opposite_value, both_value, either_value, tested_done, compare_done, opposite_done, both_done, either_done, global_done, deref_done, arrow_done, dot_done, element_done, none_yet, one_more, constant_done}
use Rattle.tac_lower.proofs.known.Known.+expressions.Goals as goal

pub as_number-returns : goal.as_number-returns
as_number-returns t c = on_ok c.decided.result c.decided.ensures (λ p. number_done c.args.self.now.checked.now _ c.args.n _ _ _ _ _ _ _ _ c.here-end.ensures c.in_ok-emit.ensures c.here-zero.ensures c.in_ok-emit-2.ensures c.in_ok-emit-3.ensures c.here-one.ensures p)

pub comparison-returns : goal.comparison-returns
comparison-returns t c = on_ok c.emit-2.result c.emit-2.ensures (λ e. comparison_done c.args.self.now.checked.now c.args.by c.args.t _ _ c.args.n _ _ _ _ _ _ _ c.next-m.ensures c.site_at.ensures c.in_ok-emit.ensures c.in_ok-value.ensures c.in_ok-value-2.ensures e)

pub computed-returns-then-is_null : goal.computed-returns-then-is_null
computed-returns-then-is_null t c = on_ok c.emit.result c.emit.ensures (λ e. value_as c.args.self.now.checked.now c.args.n _ _ (ap (λ b. number_or_null b c.in-Number.constant) (sym c.if-is_null.true ∙ c.is_null.ensures) ∙ (ap (λ z. computed_of (facts_of c.args.self.now.checked.now c.args.self.now.function) z) (sym c.in-Number.is))) (nil_done c.args.self.now.checked.now c.args.n _ _ e))

pub computed-returns-else-is_null : goal.computed-returns-else-is_null
computed-returns-else-is_null t c =
    let fits : SFits w32 c.in-Number.constant = search rules in
    let there = rw (to_z-of_z w32 c.in-Number.constant fits) at c.emit-else-is_null.ensures in
    on_ok c.emit-else-is_null.result there (λ e. value_as c.args.self.now.checked.now c.args.n _ _ (ap (λ b. number_or_null b c.in-Number.constant) (sym c.if-is_null.false ∙ c.is_null.ensures) ∙ (ap (λ z. computed_of (facts_of c.args.self.now.checked.now c.args.self.now.function) z) (sym c.in-Number.is))) (constant_done c.args.self.now.checked.now c.args.n _ _ _ e))

pub computed-returns-in-Null : goal.computed-returns-in-Null
computed-returns-in-Null t c = on_ok c.emit-in-Null.result c.emit-in-Null.ensures (λ e. value_as c.args.self.now.checked.now c.args.n _ _ (ap (λ z. computed_of (facts_of c.args.self.now.checked.now c.args.self.now.function) z) (sym c.in-Null.is)) (nil_done c.args.self.now.checked.now c.args.n _ _ e))

pub computed-returns-in_ok-value-in-Arith-2 : goal.computed-returns-in_ok-value-in-Arith-2
computed-returns-in_ok-value-in-Arith-2 t c = on_ok c.emit-in-Arith.result c.emit-in-Arith.ensures (λ e. value_as c.args.self.now.checked.now c.args.n _ _ (ap (λ z. computed_of (facts_of c.args.self.now.checked.now c.args.self.now.function) z) (sym c.in-Arith.is)) (arith_done c.args.self.now.checked.now c.in-Arith.t (operation c.in-Arith.operator) _ _ c.args.n _ _ _ _ _ _ c.next.ensures c.in_ok-operation-in-Arith.ensures c.in_ok-value-in-Arith.ensures c.in_ok-value-in-Arith-2.ensures e))

pub computed-returns-in_ok-value-in-Negate : goal.computed-returns-in_ok-value-in-Negate
computed-returns-in_ok-value-in-Negate t c = on_ok c.emit-in-Negate-2.result c.emit-in-Negate-2.ensures (λ e. value_as c.args.self.now.checked.now c.args.n _ _ (ap (λ z. computed_of (facts_of c.args.self.now.checked.now c.args.self.now.function) z) (sym c.in-Negate.is)) (negate_done c.args.self.now.checked.now c.in-Negate.t _ c.args.n _ _ _ _ _ c.site_at.ensures c.in_ok-emit-in-Negate.ensures c.in_ok-value-in-Negate.ensures e))

pub computed-returns-in_ok-place-in-Address : goal.computed-returns-in_ok-place-in-Address
computed-returns-in_ok-place-in-Address t c = on_ok c.emit-in-Address.result c.emit-in-Address.ensures (λ e. value_as c.args.self.now.checked.now c.args.n _ _ (ap (λ z. computed_of (facts_of c.args.self.now.checked.now c.args.self.now.function) z) (sym c.in-Address.is)) (address_done c.args.self.now.checked.now _ c.args.n _ _ _ c.in_ok-place-in-Address.ensures e))

pub computed-returns-in_ok-arguments-in-Call : goal.computed-returns-in_ok-arguments-in-Call
unfolding facts_of
computed-returns-in_ok-arguments-in-Call t c = on_ok c.emit-in-Call-2.result c.emit-in-Call-2.ensures (λ e. value_as c.args.self.now.checked.now c.args.n _ _ (ap (λ f. tree.call f (vals_of (map (resolve (facts_of c.args.self.now.checked.now c.args.self.now.function)) c.in-Call.args.now))) c.function_at.ensures ∙ (ap (λ z. computed_of (facts_of c.args.self.now.checked.now c.args.self.now.function) z) (sym c.in-Call.is))) (call_of c.args.self.now.checked.now (facts_of c.args.self.now.checked.now c.args.self.now.function) c.function_at.result c.in-Call.args.now c.args.n _ _ _ _ _ c.short.ensures c.in_ok-emit-in-Call.ensures c.in_ok-arguments-in-Call.ensures e))

pub computed-returns-in_ok-emit-in-Malloc : goal.computed-returns-in_ok-emit-in-Malloc
computed-returns-in_ok-emit-in-Malloc t c = on_ok c.emit-in-Malloc-2.result c.emit-in-Malloc-2.ensures (λ e. value_as c.args.self.now.checked.now c.args.n _ _ (ap (λ z. computed_of (facts_of c.args.self.now.checked.now c.args.self.now.function) z) (sym c.in-Malloc.is)) (malloc_done c.args.self.now.checked.now c.args.n _ _ _ _ _ c.made_at.ensures c.in_ok-emit-in-Malloc.ensures e))

pub condition-returns-in-Value : goal.condition-returns-in-Value
condition-returns-in-Value t c = on_ok c.tested.result c.tested.ensures (λ p. cond_as c.args.self.now.checked.now c.args.n c.args.yes c.args.no _ _ (ap (λ r. test c.in-Value.first r.value) (c.in-Value.ensures.reads (facts_of c.args.self.now.checked.now c.args.self.now.function)) ∙ sym (ap (λ r. r.truth) (c.in-Value.ensures.reads (facts_of c.args.self.now.checked.now c.args.self.now.function)))) p)

pub condition-returns-in-Place : goal.condition-returns-in-Place
condition-returns-in-Place t c = on_ok c.tested-in-Place.result c.tested-in-Place.ensures (λ p. cond_as c.args.self.now.checked.now c.args.n c.args.yes c.args.no _ _ (ap (λ r. test c.in-Place.first r.value) (c.in-Place.ensures.reads (facts_of c.args.self.now.checked.now c.args.self.now.function)) ∙ sym (ap (λ r. r.truth) (c.in-Place.ensures.reads (facts_of c.args.self.now.checked.now c.args.self.now.function)))) p)

pub decided-returns-in_ok-sides-in-Compare : goal.decided-returns-in_ok-sides-in-Compare
decided-returns-in_ok-sides-in-Compare t c = on_ok c.comparison.result c.comparison.ensures (λ p. cond_as c.args.self.now.checked.now c.args.n c.args.yes c.args.no _ _ (ap (λ z. decided_of (facts_of c.args.self.now.checked.now c.args.self.now.function) z) (sym c.in-Compare.is)) (compare_done c.args.self.now.checked.now _ _ _ _ c.args.n c.args.yes c.args.no _ _ _ (c.in_ok-sides-in-Compare.ensures c.args.self.now.checked.now) p))

pub decided-returns-in_ok-condition-in-Not : goal.decided-returns-in_ok-condition-in-Not
decided-returns-in_ok-condition-in-Not t c = on_ok c.emit.result c.emit.ensures (λ e. cond_as c.args.self.now.checked.now c.args.n c.args.yes c.args.no _ _ (ap (λ z. decided_of (facts_of c.args.self.now.checked.now c.args.self.now.function) z) (sym c.in-Not.is)) (opposite_done c.args.self.now.checked.now _ c.args.n c.args.yes c.args.no _ _ _ c.in_ok-condition-in-Not.ensures e))

pub decided-returns-in_ok-condition-in-And-2 : goal.decided-returns-in_ok-condition-in-And-2
decided-returns-in_ok-condition-in-And-2 t c = on_ok c.emit-in-And.result c.emit-in-And.ensures (λ e. cond_as c.args.self.now.checked.now c.args.n c.args.yes c.args.no _ _ (ap (λ z. decided_of (facts_of c.args.self.now.checked.now c.args.self.now.function) z) (sym c.in-And.is)) (both_done c.args.self.now.checked.now _ _ c.args.n c.args.yes c.args.no _ _ _ _ _ c.in_ok-condition-in-And.ensures c.here.ensures c.in_ok-condition-in-And-2.ensures e))

pub decided-returns-in_ok-condition-in-Or-2 : goal.decided-returns-in_ok-condition-in-Or-2
decided-returns-in_ok-condition-in-Or-2 t c = on_ok c.emit-in-Or.result c.emit-in-Or.ensures (λ e. cond_as c.args.self.now.checked.now c.args.n c.args.yes c.args.no _ _ (ap (λ z. decided_of (facts_of c.args.self.now.checked.now c.args.self.now.function) z) (sym c.in-Or.is)) (either_done c.args.self.now.checked.now _ _ c.args.n c.args.yes c.args.no _ _ _ _ _ c.in_ok-condition-in-Or.ensures c.here-in-Or.ensures c.in_ok-condition-in-Or-2.ensures e))

pub located-returns-in-Name : goal.located-returns-in-Name
unfolding facts_of
located-returns-in-Name t c = on_ok c.variable.result c.variable.ensures (λ p. place_as c.args.self.now.checked.now c.args.n _ _ (ap (λ z. located_of (facts_of c.args.self.now.checked.now c.args.self.now.function) z) (sym c.in-Name.is)) p)

pub located-returns-in_ok-value-in-Deref : goal.located-returns-in_ok-value-in-Deref
located-returns-in_ok-value-in-Deref t c = on_ok c.emit-in-Deref.result c.emit-in-Deref.ensures (λ e. place_as c.args.self.now.checked.now c.args.n _ _ (ap (λ z. located_of (facts_of c.args.self.now.checked.now c.args.self.now.function) z) (sym c.in-Deref.is)) (deref_done c.args.self.now.checked.now c.in-Deref.t _ c.args.n _ _ _ _ _ c.site_at.ensures c.in_ok-emit-in-Deref.ensures c.in_ok-value-in-Deref.ensures e))

pub located-returns-in_ok-value-in-Arrow : goal.located-returns-in_ok-value-in-Arrow
unfolding facts_of
located-returns-in_ok-value-in-Arrow t c = on_ok c.emit-in-Arrow-3.result c.emit-in-Arrow-3.ensures (λ e. place_as c.args.self.now.checked.now c.args.n _ _ (ap (λ k. tree.arrow c.in-Arrow.t (value_of (facts_of c.args.self.now.checked.now c.args.self.now.function) c.in-Arrow.a.now) k) c.offset_at.ensures ∙ (ap (λ z. located_of (facts_of c.args.self.now.checked.now c.args.self.now.function) z) (sym c.in-Arrow.is))) (arrow_done c.args.self.now.checked.now c.in-Arrow.t _ c.args.n _ _ _ _ _ _ _ c.site_at-in-Arrow.ensures c.in_ok-emit-in-Arrow.ensures c.in_ok-emit-in-Arrow-2.ensures c.in_ok-value-in-Arrow.ensures e))

pub located-returns-in_ok-place-in-Dot : goal.located-returns-in_ok-place-in-Dot
unfolding facts_of
located-returns-in_ok-place-in-Dot t c = on_ok c.emit-in-Dot-2.result c.emit-in-Dot-2.ensures (λ e. place_as c.args.self.now.checked.now c.args.n _ _ (ap (λ k. tree.dot (place_of (facts_of c.args.self.now.checked.now c.args.self.now.function) c.in-Dot.a.now) k) c.offset_at-in-Dot.ensures ∙ (ap (λ z. located_of (facts_of c.args.self.now.checked.now c.args.self.now.function) z) (sym c.in-Dot.is))) (dot_done c.args.self.now.checked.now _ c.args.n _ _ _ _ _ c.in_ok-emit-in-Dot.ensures c.in_ok-place-in-Dot.ensures e))

pub located-returns-in_ok-place-in-Index : goal.located-returns-in_ok-place-in-Index
located-returns-in_ok-place-in-Index t c = on_ok c.emit-in-Index.result c.emit-in-Index.ensures (λ e. place_as c.args.self.now.checked.now c.args.n _ _ (ap (λ z. located_of (facts_of c.args.self.now.checked.now c.args.self.now.function) z) (sym c.in-Index.is)) (element_done c.args.self.now.checked.now c.in-Index.t _ _ _ _ c.args.n _ _ _ _ _ _ c.next-m.ensures c.in_ok-index-in-Index.ensures c.in_ok-value-in-Index.ensures c.in_ok-place-in-Index.ensures e))

pub place-returns-in-Value : goal.place-returns-in-Value
place-returns-in-Value t c = on_ok c.emit.result c.emit.ensures (λ e. place_as c.args.self.now.checked.now c.args.n _ _ (sym (ap (λ r. r.place) (c.in-Value.ensures.reads (facts_of c.args.self.now.checked.now c.args.self.now.function)))) (global_done c.args.self.now.checked.now c.args.n 0 _ _ e))

pub place-returns-in-Truth : goal.place-returns-in-Truth
place-returns-in-Truth t c = on_ok c.emit-in-Truth.result c.emit-in-Truth.ensures (λ e. place_as c.args.self.now.checked.now c.args.n _ _ (sym (ap (λ r. r.place) (c.in-Truth.ensures.reads (facts_of c.args.self.now.checked.now c.args.self.now.function)))) (global_done c.args.self.now.checked.now c.args.n 0 _ _ e))

pub tested-returns : goal.tested-returns
tested-returns t c = on_ok c.value.result c.value.ensures (λ p. tested_done c.args.self.now.checked.now c.args.first _ c.args.n c.args.yes c.args.no _ _ _ _ _ c.site_at.ensures (c.in_ok-sides.ensures c.args.self.now.checked.now) c.in_ok-emit.ensures p)

pub truth-returns-in-Compare : goal.truth-returns-in-Compare
truth-returns-in-Compare t c = on_ok c.comparison.result c.comparison.ensures (λ p. value_as c.args.self.now.checked.now c.args.n _ _ (ap (λ z. truth (decided_of (facts_of c.args.self.now.checked.now c.args.self.now.function) z)) (sym c.in-Compare.is)) (decision_value c.args.self.now.checked.now _ _ _ _ c.args.n _ _ p))

pub truth-returns-in-Not : goal.truth-returns-in-Not
truth-returns-in-Not t c = on_ok c.as_number.result c.as_number.ensures (λ p. value_as c.args.self.now.checked.now c.args.n _ _ (ap (λ z. truth (decided_of (facts_of c.args.self.now.checked.now c.args.self.now.function) z)) (sym c.in-Not.is)) (opposite_value c.args.self.now.checked.now _ c.args.n _ _ (subst (λ (z : Decided). AddsNumber c.args.self.now.checked.now (decided_of (facts_of c.args.self.now.checked.now c.args.self.now.function) z) c.args.n c.args.code.now c.as_number.new.code) c.in-Not.is p)))

pub truth-returns-in-And : goal.truth-returns-in-And
truth-returns-in-And t c = on_ok c.as_number-in-And.result c.as_number-in-And.ensures (λ p. value_as c.args.self.now.checked.now c.args.n _ _ (ap (λ z. truth (decided_of (facts_of c.args.self.now.checked.now c.args.self.now.function) z)) (sym c.in-And.is)) (both_value c.args.self.now.checked.now _ _ c.args.n _ _ (subst (λ (z : Decided). AddsNumber c.args.self.now.checked.now (decided_of (facts_of c.args.self.now.checked.now c.args.self.now.function) z) c.args.n c.args.code.now c.as_number-in-And.new.code) c.in-And.is p)))

pub truth-returns-in-Or : goal.truth-returns-in-Or
truth-returns-in-Or t c = on_ok c.as_number-in-Or.result c.as_number-in-Or.ensures (λ p. value_as c.args.self.now.checked.now c.args.n _ _ (ap (λ z. truth (decided_of (facts_of c.args.self.now.checked.now c.args.self.now.function) z)) (sym c.in-Or.is)) (either_value c.args.self.now.checked.now _ _ c.args.n _ _ (subst (λ (z : Decided). AddsNumber c.args.self.now.checked.now (decided_of (facts_of c.args.self.now.checked.now c.args.self.now.function) z) c.args.n c.args.code.now c.as_number-in-Or.new.code) c.in-Or.is p)))

pub value-returns-in_ok-emit-in-Place : goal.value-returns-in_ok-emit-in-Place
value-returns-in_ok-emit-in-Place t c = on_ok c.located.result c.located.ensures (λ p. value_as c.args.self.now.checked.now c.args.n _ _ (sym (ap (λ r. r.value) (c.in-Place.ensures.reads (facts_of c.args.self.now.checked.now c.args.self.now.function)))) (read_done c.args.self.now.checked.now _ c.args.n _ _ _ c.in_ok-emit-in-Place.ensures p))

pub arguments-loop-left-init : goal.arguments-loop-left-init
arguments-loop-left-init t c = record {
  within = omega arith;
  written = none_yet c.args.self.now.checked.now (facts_of c.args.self.now.checked.now c.args.self.now.function) c.args.args.now _ _;
}

pub arguments-loop-left-preserved : goal.arguments-loop-left-preserved
arguments-loop-left-preserved t c = record {
  within = (let h = c.loop-left.invariant.within in omega (arith, h));
  written = (let h = c.loop-left-test.true in
      one_more c.args.self.now.checked.now (facts_of c.args.self.now.checked.now c.args.self.now.function) c.args.args.now c.index-args-left.result c.loop-left.left (c.loop-left.left - 1) c.args.n _ _ _ _ (omega (arith, h)) c.loop-left.invariant.within c.index-args-left.is c.later.ensures c.loop-left.invariant.written c.in_ok-value.ensures);
}
