use Rattle.std.proofs.Common.{◌≡◌, ◌∙◌, sym, ap, ap₂, refl, rules, arith, SFits, ℤ, pos, ◌+ℤ◌, ℕ, ◌+◌, ◌-◌, ◌≤◌, ◌++◌, List, [], ◌∷◌, take, drop, length, get_or, length-drop}
use Rattle.std.proofs.lemmas.List.{take_all}
use Rattle.std.proofs.lemmas.Int.{to_z-of_z}
use mir.Syntax.{w64}
use Rattle.cc_base.specs.declared.forms.Multiple.{Multiple}
use Rattle.sym_expr.specs.declared.forms.FormTerm.{FormTerm}
use Rattle.sym_expr.specs.TermsSeen.{multiple_of, multiples_of}
use Rattle.sym_expr.specs.Sums.{merge, put_unless_zero}
use Rattle.sym_expr.proofs.MergeSteps.{step_left, step_right, step_both, out_next, left_out, right_out, put_front, multiples_append}
use Rattle.sym_expr.proofs.merging.merged.Goals as goal
use Rattle.sym_expr.proofs.merging.merged.Goals.{else-terms-test, then-terms-test+then-j-q}

-- a pushed term is out
one_out : (o u : List FormTerm) (t : FormTerm) (r m w : List Multiple) → u ≡ o ++ t ∷ [] → multiples_of o ++ r ≡ w → r ≡ multiple_of t ∷ m → multiples_of u ++ m ≡ w
one_out o u t r m w e f g =
    ap (λ (l : List Multiple). l ++ m) (ap multiples_of e ∙ multiples_append o (t ∷ [])) ∙ out_next (multiples_of o) (multiple_of t ∷ []) r m w f g

-- a sum is out
sum_out : (o u : List FormTerm) (x : ℕ) (z y : ℤ) (r m w : List Multiple) → multiples_of u ≡ multiples_of o ++ put_unless_zero x z [] → z ≡ y → multiples_of o ++ r ≡ w → r ≡ put_unless_zero x y m → multiples_of u ++ m ≡ w
sum_out o u x z y r m w e f g h =
    ap (λ (l : List Multiple). l ++ m) (e ∙ ap (λ (k : ℤ). multiples_of o ++ put_unless_zero x k []) f) ∙ out_next (multiples_of o) (put_unless_zero x y []) r m w g (h ∙ sym (put_front x y m))

pub terms-preserved-then-p-i : goal.terms-preserved-then-p-i
terms-preserved-then-p-i c =
    let d : FormTerm = record { coefficient = pos 0; place = record { 0 = 0 } } in
    let P = c.args.p.now in let Q = c.args.q.now in let i = c.terms.i in let j = c.terms.j in
    record {
      left = omega arith;
      right = c.terms.invariant.right;
      room = omega (arith, c.push.ensures.len, c.terms.invariant.room);
      made = one_out c.terms.out.items _ (get_or P i d) (merge (multiples_of (drop i P)) (multiples_of (drop j Q))) (merge (multiples_of (drop (i + 1) P)) (multiples_of (drop j Q))) (merge (multiples_of P) (multiples_of Q))
          c.push.ensures.items c.terms.invariant.made (step_left P Q i j d c.terms-test.true c.if-j-q.false c.if-p-i.true);
    }

pub terms-preserved-then-q-j : goal.terms-preserved-then-q-j
terms-preserved-then-q-j c =
    let d : FormTerm = record { coefficient = pos 0; place = record { 0 = 0 } } in
    let P = c.args.p.now in let Q = c.args.q.now in let i = c.terms.i in let j = c.terms.j in
    record {
      left = c.terms.invariant.left;
      right = omega arith;
      room = omega (arith, c.push-then-q-j.ensures.len, c.terms.invariant.room);
      made = one_out c.terms.out.items _ (get_or Q j d) (merge (multiples_of (drop i P)) (multiples_of (drop j Q))) (merge (multiples_of (drop i P)) (multiples_of (drop (j + 1) Q))) (merge (multiples_of P) (multiples_of Q))
          c.push-then-q-j.ensures.items c.terms.invariant.made (step_right P Q i j d c.terms-test.true c.if-j-q.false c.if-q-j.true);
    }

pub terms-preserved : goal.terms-preserved
terms-preserved c =
    let d : FormTerm = record { coefficient = pos 0; place = record { 0 = 0 } } in
    let P = c.args.p.now in let Q = c.args.q.now in let i = c.terms.i in let j = c.terms.j in
    let f : SFits w64 c.added-sum.result = search rules in
    let fp : SFits w64 (get_or P i d).coefficient = search rules in
    let fq : SFits w64 (get_or Q j d).coefficient = search rules in
    let same : (get_or P i d).place.0 ≡ (get_or Q j d).place.0 = omega (arith, c.if-p-i.false, c.if-q-j.false) in
    record {
      left = omega arith;
      right = omega arith;
      room = omega (arith, c.push_unless_zero.ensures.room, c.terms.invariant.room);
      made = sum_out c.terms.out.items _ (get_or P i d).place.0 _ ((get_or P i d).coefficient +ℤ (get_or Q j d).coefficient) (merge (multiples_of (drop i P)) (multiples_of (drop j Q))) (merge (multiples_of (drop (i + 1) P)) (multiples_of (drop (j + 1) Q))) (merge (multiples_of P) (multiples_of Q))
          c.push_unless_zero.ensures.made (to_z-of_z w64 c.added-sum.result f ∙ c.added-sum.ensures ∙ ap₂ (λ (y z : ℤ). y +ℤ z) (to_z-of_z w64 (get_or P i d).coefficient fp) (to_z-of_z w64 (get_or Q j d).coefficient fq)) c.terms.invariant.made (step_both P Q i j d c.terms-test.true c.if-j-q.false same);
    }

rest_of : (q : List FormTerm) (j n : ℕ) → j ≤ length q → n ≡ length q → take (n - j) (drop j q) ≡ drop j q
rest_of q j n h e = take_all (n - j) (drop j q) (omega (arith, length-drop j q, e))

pub returns : goal.returns
returns c =
    let P = c.args.p.now in let Q = c.args.q.now in let i = c.terms.i in let j = c.terms.j in
    let made : (multiples_of c.terms.out.items ++ multiples_of (drop i P)) ++ multiples_of (drop j Q) ≡ merge (multiples_of P) (multiples_of Q) =
    elim c.terms-test.branch [
      | else-terms-test w ↦ left_out (multiples_of c.terms.out.items) (merge (multiples_of P) (multiples_of Q)) P Q i j w.terms-test.false c.terms.invariant.made
      | then-terms-test+then-j-q w ↦ right_out (multiples_of c.terms.out.items) (merge (multiples_of P) (multiples_of Q)) P Q i j w.if-j-q.true c.terms.invariant.made
    ] in
    let O = c.terms.out.items in
    ap multiples_of (c.push_all-2.ensures ∙ ap₂ (λ (o l : List FormTerm). o ++ l) (c.push_all.ensures ∙ ap (λ (l : List FormTerm). O ++ l) (rest_of P i (length P) c.terms.invariant.left refl)) (rest_of Q j (length Q) c.terms.invariant.right refl))
    ∙ multiples_append (O ++ drop i P) (drop j Q) ∙ ap (λ (l : List Multiple). l ++ multiples_of (drop j Q)) (multiples_append O (drop i P)) ∙ made
