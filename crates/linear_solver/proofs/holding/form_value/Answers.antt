use Rattle.std.proofs.Common.{◌≡◌, ◌∙◌, sym, ap, subst, rules, arith, ℕ, ℤ, pos, ◌+ℤ◌, ◌*ℤ◌, ◌≤◌, ◌*◌, ◌+◌, ◌^◌, All, unsigned_abs, List, length, get_or, SFits, FitsSigned, to_z, of_z}
use Rattle.std.proofs.lemmas.Int.{to_z-of_z, ints}
use mir.Syntax.{w128}
use Rattle.cc_base.specs.Inequality.{total}
use Rattle.cc_base.specs.Groups.{Form, value}
use Rattle.cc_base.specs.declared.forms.Multiple.{Multiple}
use Rattle.linear_solver.specs.Atoms.{seen_form}
use Rattle.linear_solver.specs.Seen.{at_places}
use Rattle.linear_solver.proofs.Evaluation.{total_more, total_end, ordered_length}
use Rattle.linear_solver.proofs.Writing.{wider}
use Rattle.linear_solver.proofs.holding.form_value.Goals as goal

zero_sum : (z : ℤ) → pos 0 +ℤ z ≡ z
zero_sum z = omega (arith, ints)

none_yet : unsigned_abs (pos 0) ≤ 0 * 2 ^ 75
none_yet = omega arith

one_more : (s t : ℤ) (k : ℕ) → unsigned_abs s ≤ k * 2 ^ 75 → unsigned_abs t ≤ 2 ^ 75 → unsigned_abs (s +ℤ t) ≤ (k + 1) * 2 ^ 75
one_more s t k h i = omega (arith, ints, h, i)

fits_one : (s : ℤ) (k : ℕ) → unsigned_abs s ≤ k * 2 ^ 75 → k ≤ 2 ^ 32 + 1 → FitsSigned w128 s
fits_one s k h i = omega (arith, ints, h, i)

fits_form : (m s : ℤ) (k : ℕ) → unsigned_abs m ≤ 2 ^ 72 + 2 ^ 33 → unsigned_abs s ≤ k * 2 ^ 75 → k ≤ 2 ^ 32 → FitsSigned w128 (m +ℤ s)
fits_form m s k h i j = omega (arith, ints, h, i, j)

value_is : (v : ℕ → ℤ) (g : Form) (s : ℤ) → s ≡ total v g.terms → g.constant +ℤ s ≡ value v g
unfolding value
value_is v g s e = ap (λ (z : ℤ). g.constant +ℤ z) e

pub loop-t-init : goal.loop-t-init
loop-t-init c = record { same = zero_sum (total (at_places c.args.values.now) c.deref-t-items.result.now); bound = none_yet }

pub multiple_value-sum-requires : goal.multiple_value-sum-requires
multiple_value-sum-requires c =
    let d : Multiple = record { place = 0; coefficient = pos 0 } in
    let a = subst (λ (l : List Multiple). All (λ t. unsigned_abs t.coefficient ≤ 2 ^ 44) l) (sym c.deref-t-items.ensures.value) (wider c.args.a.now.terms.items c.requires.terms) in
    a c.loop-t.t-index d c.loop-t-test.true

pub overflow_add-sum : goal.overflow_add-sum
overflow_add-sum c =
    let f : SFits w128 c.multiple_value-sum.result = search rules in
    let n = ordered_length 0 c.args.a.now.terms.items c.requires.ordered in let e = ap length c.deref-t-items.ensures.value in let t = c.loop-t-test.true in
    let S = to_z w128 c.loop-t.sum-bits in
    let b : unsigned_abs (S +ℤ c.multiple_value-sum.result) ≤ (c.loop-t.t-index + 1) * 2 ^ 75 = one_more S c.multiple_value-sum.result c.loop-t.t-index c.loop-t.invariant.bound c.multiple_value-sum.ensures.bound in
    subst (λ (z : ℤ). SFits w128 z) (sym (ap (λ (y : ℤ). to_z w128 c.loop-t.sum-bits +ℤ y) (to_z-of_z w128 c.multiple_value-sum.result f)))
    (fits_one (S +ℤ c.multiple_value-sum.result) (c.loop-t.t-index + 1) b (omega (arith, n, e, t)))

pub loop-t-preserved : goal.loop-t-preserved
loop-t-preserved c =
    let d : Multiple = record { place = 0; coefficient = pos 0 } in
    let v = at_places c.args.values.now in
    let S = to_z w128 c.loop-t.sum-bits in
    let f : SFits w128 c.multiple_value-sum.result = search rules in
    let n = ordered_length 0 c.args.a.now.terms.items c.requires.ordered in let e = ap length c.deref-t-items.ensures.value in let t = c.loop-t-test.true in
    let b : unsigned_abs (S +ℤ c.multiple_value-sum.result) ≤ (c.loop-t.t-index + 1) * 2 ^ 75 = one_more S c.multiple_value-sum.result c.loop-t.t-index c.loop-t.invariant.bound c.multiple_value-sum.ensures.bound in
    let s : to_z w128 (of_z w128 (to_z w128 c.loop-t.sum-bits +ℤ to_z w128 (of_z w128 c.multiple_value-sum.result))) ≡ S +ℤ c.multiple_value-sum.result =
    ap (λ (z : ℤ). to_z w128 (of_z w128 z)) (ap (λ (y : ℤ). to_z w128 c.loop-t.sum-bits +ℤ y) (to_z-of_z w128 c.multiple_value-sum.result f))
    ∙ to_z-of_z w128 (S +ℤ c.multiple_value-sum.result) (fits_one (S +ℤ c.multiple_value-sum.result) (c.loop-t.t-index + 1) b (omega (arith, n, e, t))) in
    let tv : c.multiple_value-sum.result ≡ (get_or c.deref-t-items.result.now c.loop-t.t-index d).coefficient *ℤ v (get_or c.deref-t-items.result.now c.loop-t.t-index d).place = c.multiple_value-sum.ensures.value in
    record {
      same = total_more v c.deref-t-items.result.now c.loop-t.t-index d S _ c.multiple_value-sum.result (total v c.deref-t-items.result.now) c.loop-t-test.true tv s c.loop-t.invariant.same;
      bound = subst (λ (z : ℤ). unsigned_abs z ≤ (c.loop-t.t-index + 1) * 2 ^ 75) (sym s) b;
    }

pub overflow_add-result : goal.overflow_add-result
overflow_add-result c =
    let f : SFits w128 c.args.a.now.constant = search rules in
    let n = ordered_length 0 c.args.a.now.terms.items c.requires.ordered in let e = ap length c.deref-t-items.ensures.value in let t = c.loop-t.auto.t-index-end in
    subst (λ (z : ℤ). SFits w128 z) (sym (ap (λ (x : ℤ). x +ℤ to_z w128 c.loop-t.sum-bits) (to_z-of_z w128 c.args.a.now.constant f)))
    (fits_form c.args.a.now.constant (to_z w128 c.loop-t.sum-bits) c.loop-t.t-index c.requires.constant c.loop-t.invariant.bound (omega (arith, n, e, t)))

pub returns : goal.returns
returns c =
    let f : SFits w128 c.args.a.now.constant = search rules in
    let v = at_places c.args.values.now in let S = to_z w128 c.loop-t.sum-bits in
    let n = ordered_length 0 c.args.a.now.terms.items c.requires.ordered in let e = ap length c.deref-t-items.ensures.value in let t = c.loop-t.auto.t-index-end in
    ap (λ (z : ℤ). to_z w128 (of_z w128 z)) (ap (λ (x : ℤ). x +ℤ to_z w128 c.loop-t.sum-bits) (to_z-of_z w128 c.args.a.now.constant f))
    ∙ to_z-of_z w128 (c.args.a.now.constant +ℤ S) (fits_form c.args.a.now.constant S c.loop-t.t-index c.requires.constant c.loop-t.invariant.bound (omega (arith, n, e, t)))
    ∙ value_is v (seen_form c.args.a.now) S
    (total_end v c.deref-t-items.result.now c.loop-t.t-index S (total v c.deref-t-items.result.now) c.loop-t-test.false c.loop-t.invariant.same ∙ ap (total v) c.deref-t-items.ensures.value)
