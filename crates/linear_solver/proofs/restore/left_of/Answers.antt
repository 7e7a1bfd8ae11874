use Rattle.std.proofs.Common.{◌≡◌, ◌∙◌, sym, ap, subst, rules, arith, ℕ, ℤ, pos, ◌+ℤ◌, ◌-ℤ◌, ◌*ℤ◌, ◌≤◌, ◌*◌, ◌+◌, ◌^◌, All, unsigned_abs, List, length, get_or, SFits, FitsSigned, to_z, of_z}
use Rattle.std.proofs.lemmas.Int.{to_z-of_z, ints}
use mir.Syntax.{w128}
use Rattle.cc_base.specs.Inequality.{total}
use Rattle.cc_base.specs.Witness.{changed}
use Rattle.cc_base.specs.declared.forms.Multiple.{Multiple}
use Rattle.linear_solver.specs.Seen.{seen, at_places}
use Rattle.linear_solver.proofs.Evaluation.{total_more, total_end, left_is, ordered_length}
use Rattle.linear_solver.proofs.restore.left_of.Goals as goal

zero_sum : (z : ℤ) → pos 0 +ℤ z ≡ z
zero_sum z = omega (arith, ints)

none_yet : unsigned_abs (pos 0) ≤ 0 * 2 ^ 75
none_yet = omega arith

one_more : (s t : ℤ) (k : ℕ) → unsigned_abs s ≤ k * 2 ^ 75 → unsigned_abs t ≤ 2 ^ 75 → unsigned_abs (s +ℤ t) ≤ (k + 1) * 2 ^ 75
one_more s t k h i = omega (arith, ints, h, i)

fits_one : (s : ℤ) (k : ℕ) → unsigned_abs s ≤ k * 2 ^ 75 → k ≤ 2 ^ 32 + 1 → FitsSigned w128 s
fits_one s k h i = omega (arith, ints, h, i)

fits_left : (m s : ℤ) (k : ℕ) → unsigned_abs m ≤ 2 ^ 80 → unsigned_abs s ≤ k * 2 ^ 75 → k ≤ 2 ^ 32 → FitsSigned w128 (m -ℤ s)
fits_left m s k h i j = omega (arith, ints, h, i, j)

left_bound : (m s : ℤ) (k : ℕ) → unsigned_abs m ≤ 2 ^ 80 → unsigned_abs s ≤ k * 2 ^ 75 → k ≤ 2 ^ 32 → unsigned_abs (m -ℤ s) ≤ 2 ^ 110
left_bound m s k h i j = omega (arith, ints, h, i, j)

pub loop-t-init : goal.loop-t-init
loop-t-init c = record { same = zero_sum (total (changed (at_places c.args.values.now) c.args.place (pos 0)) c.deref-t-items.result.now); bound = none_yet }

pub term_value-sum-requires : goal.term_value-sum-requires
term_value-sum-requires c =
    let d : Multiple = record { place = 0; coefficient = pos 0 } in
    let a = subst (λ (l : List Multiple). All (λ t. unsigned_abs t.coefficient ≤ 2 ^ 44) l) (sym c.deref-t-items.ensures.value) c.requires.terms in
    a c.loop-t.t-index d c.loop-t-test.true

pub overflow_add-sum : goal.overflow_add-sum
overflow_add-sum c =
    let f : SFits w128 c.term_value-sum.result = search rules in
    let n = ordered_length 0 c.args.i.now.terms.items c.requires.ordered in let e = ap length c.deref-t-items.ensures.value in let t = c.loop-t-test.true in
    let b : unsigned_abs ((to_z w128 c.loop-t.sum-bits) +ℤ c.term_value-sum.result) ≤ (c.loop-t.t-index + 1) * 2 ^ 75 = one_more (to_z w128 c.loop-t.sum-bits) c.term_value-sum.result c.loop-t.t-index c.loop-t.invariant.bound c.term_value-sum.ensures.bound in
    subst (λ (z : ℤ). SFits w128 z) (sym (ap (λ (y : ℤ). to_z w128 c.loop-t.sum-bits +ℤ y) (to_z-of_z w128 c.term_value-sum.result f)))
    (fits_one ((to_z w128 c.loop-t.sum-bits) +ℤ c.term_value-sum.result) (c.loop-t.t-index + 1) b (omega (arith, n, e, t)))

pub loop-t-preserved : goal.loop-t-preserved
loop-t-preserved c =
    let d : Multiple = record { place = 0; coefficient = pos 0 } in
    let v = changed (at_places c.args.values.now) c.args.place (pos 0) in
    let f : SFits w128 c.term_value-sum.result = search rules in
    let n = ordered_length 0 c.args.i.now.terms.items c.requires.ordered in let e = ap length c.deref-t-items.ensures.value in let t = c.loop-t-test.true in
    let b : unsigned_abs ((to_z w128 c.loop-t.sum-bits) +ℤ c.term_value-sum.result) ≤ (c.loop-t.t-index + 1) * 2 ^ 75 = one_more (to_z w128 c.loop-t.sum-bits) c.term_value-sum.result c.loop-t.t-index c.loop-t.invariant.bound c.term_value-sum.ensures.bound in
    let s : to_z w128 (of_z w128 (to_z w128 c.loop-t.sum-bits +ℤ to_z w128 (of_z w128 c.term_value-sum.result))) ≡ (to_z w128 c.loop-t.sum-bits) +ℤ c.term_value-sum.result =
    ap (λ (z : ℤ). to_z w128 (of_z w128 z)) (ap (λ (y : ℤ). to_z w128 c.loop-t.sum-bits +ℤ y) (to_z-of_z w128 c.term_value-sum.result f))
    ∙ to_z-of_z w128 ((to_z w128 c.loop-t.sum-bits) +ℤ c.term_value-sum.result) (fits_one ((to_z w128 c.loop-t.sum-bits) +ℤ c.term_value-sum.result) (c.loop-t.t-index + 1) b (omega (arith, n, e, t))) in
    let fd : SFits w128 (get_or c.deref-t-items.result.now c.loop-t.t-index d).coefficient = search rules in
    let tv : c.term_value-sum.result ≡ (get_or c.deref-t-items.result.now c.loop-t.t-index d).coefficient *ℤ v (get_or c.deref-t-items.result.now c.loop-t.t-index d).place = c.term_value-sum.ensures.value in
    record {
      same = total_more v c.deref-t-items.result.now c.loop-t.t-index d (to_z w128 c.loop-t.sum-bits) _ c.term_value-sum.result (total v c.deref-t-items.result.now) c.loop-t-test.true tv s c.loop-t.invariant.same;
      bound = subst (λ (z : ℤ). unsigned_abs z ≤ (c.loop-t.t-index + 1) * 2 ^ 75) (sym s) b;
    }

pub overflow_sub-result : goal.overflow_sub-result
overflow_sub-result c =
    let f : SFits w128 c.args.i.now.most = search rules in
    let n = ordered_length 0 c.args.i.now.terms.items c.requires.ordered in let e = ap length c.deref-t-items.ensures.value in let t = c.loop-t.auto.t-index-end in
    subst (λ (z : ℤ). SFits w128 z) (sym (ap (λ (x : ℤ). x -ℤ to_z w128 c.loop-t.sum-bits) (to_z-of_z w128 c.args.i.now.most f)))
    (fits_left c.args.i.now.most (to_z w128 c.loop-t.sum-bits) c.loop-t.t-index c.requires.most c.loop-t.invariant.bound (omega (arith, n, e, t)))

pub returns-clause-value : goal.returns-clause-value
returns-clause-value c =
    let f : SFits w128 c.args.i.now.most = search rules in
    let v = changed (at_places c.args.values.now) c.args.place (pos 0) in
    let n = ordered_length 0 c.args.i.now.terms.items c.requires.ordered in let e = ap length c.deref-t-items.ensures.value in let t = c.loop-t.auto.t-index-end in
    ap (λ (z : ℤ). to_z w128 (of_z w128 z)) (ap (λ (x : ℤ). x -ℤ to_z w128 c.loop-t.sum-bits) (to_z-of_z w128 c.args.i.now.most f))
    ∙ to_z-of_z w128 (c.args.i.now.most -ℤ (to_z w128 c.loop-t.sum-bits)) (fits_left c.args.i.now.most (to_z w128 c.loop-t.sum-bits) c.loop-t.t-index c.requires.most c.loop-t.invariant.bound (omega (arith, n, e, t)))
    ∙ left_is (at_places c.args.values.now) c.args.place (seen c.args.i.now) (to_z w128 c.loop-t.sum-bits)
    (total_end v c.deref-t-items.result.now c.loop-t.t-index (to_z w128 c.loop-t.sum-bits) (total v c.deref-t-items.result.now) c.loop-t-test.false c.loop-t.invariant.same ∙ ap (total v) c.deref-t-items.ensures.value)

pub returns-clause-bound : goal.returns-clause-bound
returns-clause-bound c =
    let f : SFits w128 c.args.i.now.most = search rules in
    let n = ordered_length 0 c.args.i.now.terms.items c.requires.ordered in let e = ap length c.deref-t-items.ensures.value in let t = c.loop-t.auto.t-index-end in
    subst (λ (z : ℤ). unsigned_abs z ≤ 2 ^ 110)
    (sym (ap (λ (z : ℤ). to_z w128 (of_z w128 z)) (ap (λ (x : ℤ). x -ℤ to_z w128 c.loop-t.sum-bits) (to_z-of_z w128 c.args.i.now.most f))
    ∙ to_z-of_z w128 (c.args.i.now.most -ℤ (to_z w128 c.loop-t.sum-bits)) (fits_left c.args.i.now.most (to_z w128 c.loop-t.sum-bits) c.loop-t.t-index c.requires.most c.loop-t.invariant.bound (omega (arith, n, e, t)))))
    (left_bound c.args.i.now.most (to_z w128 c.loop-t.sum-bits) c.loop-t.t-index c.requires.most c.loop-t.invariant.bound (omega (arith, n, e, t)))
