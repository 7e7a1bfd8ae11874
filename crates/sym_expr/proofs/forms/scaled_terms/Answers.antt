use Rattle.std.proofs.Common.{◌≡◌, ◌∙◌, ap, ap₂, refl, rules, arith, SFits, to_z, of_z, ℤ, pos, ◌*ℤ◌, ◌≤◌, ◌^◌, length, get_or, unsigned_abs}
use Rattle.std.proofs.lemmas.Int.{to_z-of_z, fits_signed_from_abs}
use mir.Syntax.{w64, w128}
use Rattle.sym_expr.specs.declared.forms.FormTerm.{FormTerm}
use Rattle.sym_expr.specs.TermsSeen.{multiples_of}
use Rattle.sym_expr.specs.Sums.{scaled}
use Rattle.sym_expr.proofs.FormSteps.{scaled_more, scaled_small_at}
use Rattle.sym_expr.proofs.forms.scaled_terms.Goals as goal

pub loop-term-init : goal.loop-term-init
unfolding scaled
loop-term-init c = record { count = omega (arith, ap length c.new-out.ensures); made = ap multiples_of c.new-out.ensures }

pub returns-then-unsigned_abs-gt-COEFFICIENT_LIMIT-clause-wide : goal.returns-then-unsigned_abs-gt-COEFFICIENT_LIMIT-clause-wide
returns-then-unsigned_abs-gt-COEFFICIENT_LIMIT-clause-wide c = λ a.
    let d : FormTerm = record { coefficient = pos 0; place = record { 0 = 0 } } in
    let t = get_or c.args.terms.now c.loop-term.term-index d in
    let f : SFits w128 c.product-coefficient.result = search rules in
    let ft : SFits w64 t.coefficient = search rules in
    let e : c.unsigned_abs.result ≡ unsigned_abs (c.args.k *ℤ t.coefficient) =
    c.unsigned_abs.ensures.value ∙ ap unsigned_abs (to_z-of_z w128 c.product-coefficient.result f ∙ c.product-coefficient.ensures.value
    ∙ ap₂ (λ (y z : ℤ). y *ℤ z) (to_z-of_z w64 c.args.k c.ranges.k) (to_z-of_z w64 t.coefficient ft)) in
    let s = scaled_small_at c.args.k c.args.terms.now c.loop-term.term-index d c.loop-term-test.true a in
    let h = c.if-unsigned_abs-gt-COEFFICIENT_LIMIT.true in
    omega (arith, e, s, h)

fits_word : (x : ℤ) → unsigned_abs x ≤ 2 ^ 40 → SFits w64 x
fits_word x h = fits_signed_from_abs w64 x (omega (arith, h))

pub loop-term-preserved : goal.loop-term-preserved
loop-term-preserved c =
    let d : FormTerm = record { coefficient = pos 0; place = record { 0 = 0 } } in
    let t = get_or c.args.terms.now c.loop-term.term-index d in
    let f : SFits w128 c.product-coefficient.result = search rules in
    let ft : SFits w64 t.coefficient = search rules in
    let X = to_z w128 (of_z w128 c.product-coefficient.result) in
    let b : unsigned_abs X ≤ 2 ^ 40 = omega (arith, c.unsigned_abs.ensures.value, c.if-unsigned_abs-gt-COEFFICIENT_LIMIT.false) in
    let z : to_z w64 (of_z w64 X) ≡ to_z w64 (of_z w64 c.args.k) *ℤ t.coefficient =
    to_z-of_z w64 X (fits_word X b) ∙ to_z-of_z w128 c.product-coefficient.result f ∙ c.product-coefficient.ensures.value ∙ ap (λ (y : ℤ). to_z w64 (of_z w64 c.args.k) *ℤ y) (to_z-of_z w64 t.coefficient ft) in
    record {
      count = omega (arith, c.push_unless_zero.ensures.room, c.loop-term.invariant.count);
      made = scaled_more c.loop-term.out.items _ t.place.0 _ (to_z w64 (of_z w64 c.args.k)) c.args.terms.now c.loop-term.term-index d c.loop-term-test.true c.push_unless_zero.ensures.made refl z c.loop-term.invariant.made;
    }
