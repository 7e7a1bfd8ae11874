use Rattle.std.proofs.Common.{◌≡◌, ◌∙◌, sym, ap₂, subst, refl, arith, ℕ, ◌+◌, ◌*◌, ◌^◌, ◌<◌, ◌≤◌, ℤ, pos, ◌+ℤ◌, unsigned_abs, to_z, of_z}
use Rattle.std.proofs.lemmas.Int.{ints}
use mir.Syntax.{w32, w128}
use Rattle.cc_base.specs.Places.{at_place}
use Rattle.cc_base.specs.Holds.{total, or_zero}
use Rattle.sym_expr.specs.declared.forms.FormTerm.{FormTerm}
use Rattle.sym_expr.proofs.FormSteps.{total_more}
use Rattle.sym_expr.proofs.forms.total_at.Goals as goal

pub loop-term-init : goal.loop-term-init
unfolding total
loop-term-init c = record { value = refl; bound = omega arith }

summed : (s t : ℤ) (i : ℕ) → unsigned_abs s ≤ i * 2 ^ 103 → i < 16 → unsigned_abs t ≤ 2 ^ 103 → to_z w128 (of_z w128 (s +ℤ to_z w128 (of_z w128 t))) ≡ s +ℤ t
summed s t i h k m = omega (arith, ints, h, k, m)

bounded : (s t : ℤ) (i : ℕ) → unsigned_abs s ≤ i * 2 ^ 103 → unsigned_abs t ≤ 2 ^ 103 → unsigned_abs (s +ℤ t) ≤ (i + 1) * 2 ^ 103
bounded s t i h m = omega (arith, ints, h, m)

pub loop-term-preserved : goal.loop-term-preserved
loop-term-preserved c =
    let d : FormTerm = record { coefficient = pos 0; place = record { 0 = 0 } } in
    let s = to_z w128 c.loop-term.sum-bits in let t = c.term_at-sum.result in let i = c.loop-term.term-index in
    let e = summed s t i c.loop-term.invariant.bound (omega (arith, c.loop-term-test.true, c.requires.few)) c.term_at-sum.ensures.bound in
    let h = or_zero (at_place c.args.places.now c.args.input.now (to_z w32 (of_z w32 c.args.base))) in
    record {
      value = e ∙ ap₂ (λ (y z : ℤ). y +ℤ z) c.loop-term.invariant.value c.term_at-sum.ensures.value ∙ sym (total_more h c.args.terms.now i d c.loop-term-test.true);
      bound = subst (λ (z : ℤ). unsigned_abs z ≤ (i + 1) * 2 ^ 103) (sym e) (bounded s t i c.loop-term.invariant.bound c.term_at-sum.ensures.bound);
    }
