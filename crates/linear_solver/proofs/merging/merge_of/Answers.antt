use Rattle.std.proofs.Common.{◌≡◌, ◌≢◌, ◌∙◌, sym, ap, ap₂, refl, subst, SFits, FitsSigned, to_z, of_z, rules, arith, ℤ, pos, ◌*ℤ◌, ◌+ℤ◌, ◌+◌, ◌≤◌, ◌++◌, List, [], ◌∷◌, take, drop, length, get_or, unsigned_abs, ◌^◌, ◌-◌, ℕ, length-drop, Vec, Global}
use Rattle.std.proofs.lemmas.List.{take_all}
use Rattle.std.proofs.lemmas.Int.{to_z-of_z, ints}
use mir.Syntax.{w128}
use Rattle.cc_base.specs.Inequality.{scaled, scaled_term, merge}
use Rattle.cc_base.specs.declared.forms.Multiple.{Multiple}
use Rattle.linear_solver.proofs.MergeSteps.{step_left, step_right, step_both, out_one, out_none, out_sum, left_out, right_out}
use Rattle.linear_solver.proofs.merging.merge_of.Goals as goal
use Rattle.linear_solver.proofs.merging.merge_of.Goals.{then-sum-ne0+in_ok-push-3, else-sum-ne0, else-terms-test, then-terms-test+then-j-q}

pub terms-preserved-then-p-i : goal.terms-preserved-then-p-i
terms-preserved-then-p-i c =
    let d : Multiple = record { place = 0; coefficient = pos 0 } in
    let C = to_z w128 (of_z w128 c.args.c) in let A = to_z w128 (of_z w128 c.args.a) in
    let P = c.args.p.now in let Q = c.args.q.now in let i = c.terms.i in let j = c.terms.j in
    let e : c.multiple.result ≡ scaled_term C (get_or P i d) = c.multiple.ensures in
    let u = c.in_ok-push.ensures.items ∙ ap (λ (t : Multiple). c.terms.out.items ++ (t ∷ [])) e in
    record {
      left = omega arith;
      right = c.terms.invariant.right;
      made = ap (λ (l : List Multiple). l ++ merge (scaled C (drop (i + 1) P)) (scaled A (drop j Q))) u
          ∙ out_one c.terms.out.items (scaled_term C (get_or P i d)) (merge (scaled C (drop i P)) (scaled A (drop j Q))) (merge (scaled C (drop (i + 1) P)) (scaled A (drop j Q))) (merge (scaled C P) (scaled A Q))
          c.terms.invariant.made (step_left C A P Q i j d c.terms-test.true c.if-j-q.false c.if-p-i.true);
    }

pub terms-preserved-then-q-j : goal.terms-preserved-then-q-j
terms-preserved-then-q-j c =
    let d : Multiple = record { place = 0; coefficient = pos 0 } in
    let C = to_z w128 (of_z w128 c.args.c) in let A = to_z w128 (of_z w128 c.args.a) in
    let P = c.args.p.now in let Q = c.args.q.now in let i = c.terms.i in let j = c.terms.j in
    let e : c.multiple-then-q-j.result ≡ scaled_term A (get_or Q j d) = c.multiple-then-q-j.ensures in
    let u = c.in_ok-push-2.ensures.items ∙ ap (λ (t : Multiple). c.terms.out.items ++ (t ∷ [])) e in
    record {
      left = c.terms.invariant.left;
      right = omega arith;
      made = ap (λ (l : List Multiple). l ++ merge (scaled C (drop i P)) (scaled A (drop (j + 1) Q))) u
          ∙ out_one c.terms.out.items (scaled_term A (get_or Q j d)) (merge (scaled C (drop i P)) (scaled A (drop j Q))) (merge (scaled C (drop i P)) (scaled A (drop (j + 1) Q))) (merge (scaled C P) (scaled A Q))
          c.terms.invariant.made (step_right C A P Q i j d c.terms-test.true c.if-j-q.false c.if-q-j.true);
    }

fits_sum : (x y : ℤ) → unsigned_abs x ≤ 2 ^ 124 → unsigned_abs y ≤ 2 ^ 124 → FitsSigned w128 (x +ℤ y)
fits_sum x y h k = omega (arith, ints, h, k)

pub overflow_add-sum : goal.overflow_add-sum
overflow_add-sum c =
    let f : SFits w128 c.product.result = search rules in
    let g : SFits w128 c.product-else-q-j.result = search rules in
    subst (λ (z : ℤ). SFits w128 (z +ℤ to_z w128 (of_z w128 c.product-else-q-j.result))) (sym (to_z-of_z w128 c.product.result f))
    (subst (λ (z : ℤ). SFits w128 (c.product.result +ℤ z)) (sym (to_z-of_z w128 c.product-else-q-j.result g))
    (fits_sum c.product.result c.product-else-q-j.result c.product.ensures.bound c.product-else-q-j.ensures.bound))

abbrev with_number : ℕ → ℤ → Multiple
with_number x z = record { place = x; coefficient = z }

no_bits : (z : ℤ) → SFits w128 z → of_z w128 z ≡ 0 → z ≡ pos 0
no_bits z f e = sym (to_z-of_z w128 z f) ∙ ap (to_z w128) e

some_bits : (z : ℤ) → (of_z w128 z ≡ 0 → ⊥) → z ≢ pos 0
some_bits z h e = h (ap (of_z w128) e)

pub terms-preserved : goal.terms-preserved
terms-preserved c =
    let d : Multiple = record { place = 0; coefficient = pos 0 } in
    let C = to_z w128 (of_z w128 c.args.c) in let A = to_z w128 (of_z w128 c.args.a) in
    let P = c.args.p.now in let Q = c.args.q.now in let i = c.terms.i in let j = c.terms.j in
    let f : SFits w128 c.product.result = search rules in
    let g : SFits w128 c.product-else-q-j.result = search rules in
    let fp : SFits w128 (get_or P i d).coefficient = search rules in
    let fq : SFits w128 (get_or Q j d).coefficient = search rules in
    let S = to_z w128 (of_z w128 c.product.result) +ℤ to_z w128 (of_z w128 c.product-else-q-j.result) in
    let K = (C *ℤ (get_or P i d).coefficient) +ℤ (A *ℤ (get_or Q j d).coefficient) in
    let fs : SFits w128 S =
    subst (λ (z : ℤ). SFits w128 (z +ℤ to_z w128 (of_z w128 c.product-else-q-j.result))) (sym (to_z-of_z w128 c.product.result f))
    (subst (λ (z : ℤ). SFits w128 (c.product.result +ℤ z)) (sym (to_z-of_z w128 c.product-else-q-j.result g))
    (fits_sum c.product.result c.product-else-q-j.result c.product.ensures.bound c.product-else-q-j.ensures.bound)) in
    let e : S ≡ K = ap₂ (λ (y z : ℤ). y +ℤ z)
    (to_z-of_z w128 c.product.result f ∙ c.product.ensures.value ∙ ap (λ (z : ℤ). C *ℤ z) (to_z-of_z w128 (get_or P i d).coefficient fp))
    (to_z-of_z w128 c.product-else-q-j.result g ∙ c.product-else-q-j.ensures.value ∙ ap (λ (z : ℤ). A *ℤ z) (to_z-of_z w128 (get_or Q j d).coefficient fq)) in
    let same : (get_or P i d).place ≡ (get_or Q j d).place = omega (arith, c.if-p-i.false, c.if-q-j.false) in
    let both = step_both C A P Q i j d c.terms-test.true c.if-j-q.false same in
    let R = merge (scaled C (drop i P)) (scaled A (drop j Q)) in
    let M = merge (scaled C (drop (i + 1) P)) (scaled A (drop (j + 1) Q)) in
    let W = merge (scaled C P) (scaled A Q) in
    elim c.if-sum-ne0.branch [
      | then-sum-ne0+in_ok-push-3 w ↦ record {
        left = omega arith;
        right = omega arith;
        made = ap (λ (v : Vec Multiple Global). v.items ++ M) w.out-is
            ∙ ap (λ (l : List Multiple). l ++ M) (w.in_ok-push-3.ensures.items ∙ ap (λ (z : ℤ). c.terms.out.items ++ (with_number (get_or P i d).place z ∷ [])) (to_z-of_z w128 S fs ∙ e))
            ∙ out_sum c.terms.out.items R M W (get_or P i d).place K c.terms.invariant.made both (λ h. some_bits S w.if-sum-ne0.true (e ∙ h));
      }
      | else-sum-ne0 w ↦ record {
        left = omega arith;
        right = omega arith;
        made = ap (λ (v : Vec Multiple Global). v.items ++ M) w.out-is
            ∙ out_none c.terms.out.items R M W (get_or P i d).place K c.terms.invariant.made both (sym e ∙ no_bits S fs w.if-sum-ne0.false);
      }
    ]

rest_of : (q : List Multiple) (j n : ℕ) → j ≤ length q → n ≡ length q → take (n - j) (drop j q) ≡ drop j q
rest_of q j n h e = take_all (n - j) (drop j q) (omega (arith, length-drop j q, e))

pub returns : goal.returns
returns c =
    let C = to_z w128 (of_z w128 c.args.c) in let A = to_z w128 (of_z w128 c.args.a) in
    let P = c.args.p.now in let Q = c.args.q.now in let i = c.terms.i in let j = c.terms.j in
    let made : (c.terms.out.items ++ scaled C (drop i P)) ++ scaled A (drop j Q) ≡ merge (scaled C P) (scaled A Q) =
    elim c.terms-test.branch [
      | else-terms-test w ↦ left_out c.terms.out.items (merge (scaled C P) (scaled A Q)) C A P Q i j w.terms-test.false c.terms.invariant.made
      | then-terms-test+then-j-q w ↦ right_out c.terms.out.items (merge (scaled C P) (scaled A Q)) C A P Q i j w.if-j-q.true c.terms.invariant.made
    ] in
    let x = c.in_ok-push_multiples.ensures ∙ ap (λ (l : List Multiple). c.terms.out.items ++ scaled C l) (rest_of P i (length P) c.terms.invariant.left refl) in
    c.in_ok-push_multiples-2.ensures ∙ ap₂ (λ (o l : List Multiple). o ++ scaled A l) x (rest_of Q j (length Q) c.terms.invariant.right refl)
    ∙ made ∙ ap₂ (λ (y z : ℤ). merge (scaled y P) (scaled z Q)) (to_z-of_z w128 c.args.c c.ranges.c) (to_z-of_z w128 c.args.a c.ranges.a)
