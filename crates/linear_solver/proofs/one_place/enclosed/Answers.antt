use Rattle.std.proofs.Common.{◌≡◌, ◌∙◌, sym, ap, subst, rules, arith, ℕ, ℤ, pos, neg_ℤ, ◌-ℤ◌, ◌≤◌, ◌^◌, unsigned_abs, List, SFits, FitsSigned, to_z, of_z}
use Rattle.std.proofs.lemmas.Int.{to_z-of_z, ints}
use mir.Syntax.{w128}
use Rattle.cc_base.specs.Inequality.{coefficient}
use Rattle.cc_base.specs.declared.forms.Multiple.{Multiple}
use Rattle.linear_solver.specs.Atoms.{seen_form}
use Rattle.linear_solver.specs.Ordered.{Ordered}
use Rattle.linear_solver.specs.Spans.{Narrows}
use Rattle.linear_solver.proofs.Ranking.{coefficient_bound}
use Rattle.linear_solver.proofs.Spanning.{at_most_kept, zero_kept}
use Rattle.linear_solver.proofs.Writing.{wider}
use Rattle.linear_solver.proofs.one_place.enclosed.Goals as goal

fits_neg : (k : ℤ) → unsigned_abs k ≤ 2 ^ 80 → FitsSigned w128 (pos 0 -ℤ k)
fits_neg k h = omega (arith, ints, h)

neg_is : (z : ℤ) → pos 0 -ℤ z ≡ neg_ℤ z
neg_is z = omega (arith, ints)

negative : (k : ℤ) → SFits w128 k → unsigned_abs k ≤ 2 ^ 80 → to_z w128 (of_z w128 (pos 0 -ℤ to_z w128 (of_z w128 k))) ≡ neg_ℤ k
negative k f h = ap (λ (z : ℤ). to_z w128 (of_z w128 (pos 0 -ℤ z))) (to_z-of_z w128 k f) ∙ to_z-of_z w128 (pos 0 -ℤ k) (fits_neg k h) ∙ neg_is k

pub coefficient_of-c-requires : goal.coefficient_of-c-requires
coefficient_of-c-requires c = subst (λ (l : List Multiple). Ordered 0 l) (sym c.deref.ensures.value) c.requires.fit.ordered

pub narrowed-requires-clause-coefficient : goal.narrowed-requires-clause-coefficient
narrowed-requires-clause-coefficient c =
    let f : SFits w128 c.coefficient_of-c.result = search rules in
    let e = to_z-of_z w128 c.coefficient_of-c.result f ∙ c.coefficient_of-c.ensures ∙ ap (coefficient c.args.place) c.deref.ensures.value in
    subst (λ (z : ℤ). unsigned_abs z ≤ 2 ^ 44) (sym e) (coefficient_bound (2 ^ 44) 0 c.args.place c.args.a.now.terms.items c.requires.fit.ordered (wider c.args.a.now.terms.items c.requires.fit.terms))

pub narrowed-requires-in-Zero-clause-coefficient : goal.narrowed-requires-in-Zero-clause-coefficient
narrowed-requires-in-Zero-clause-coefficient c =
    let f : SFits w128 c.coefficient_of-c.result = search rules in
    let e = to_z-of_z w128 c.coefficient_of-c.result f ∙ c.coefficient_of-c.ensures ∙ ap (coefficient c.args.place) c.deref.ensures.value in
    subst (λ (z : ℤ). unsigned_abs z ≤ 2 ^ 44) (sym e) (coefficient_bound (2 ^ 44) 0 c.args.place c.args.a.now.terms.items c.requires.fit.ordered (wider c.args.a.now.terms.items c.requires.fit.terms))

small : (r z : ℤ) → r ≡ z → unsigned_abs z ≤ 2 ^ 44 → unsigned_abs r ≤ 2 ^ 80
small r z e h = subst (λ (y : ℤ). unsigned_abs y ≤ 2 ^ 80) (sym e) (omega (arith, h))

pub overflow_sub-c : goal.overflow_sub-c
overflow_sub-c c =
    let f : SFits w128 c.coefficient_of-c.result = search rules in
    let e = c.coefficient_of-c.ensures ∙ ap (coefficient c.args.place) c.deref.ensures.value in
    let b = coefficient_bound (2 ^ 44) 0 c.args.place c.args.a.now.terms.items c.requires.fit.ordered (wider c.args.a.now.terms.items c.requires.fit.terms) in
    subst (λ (z : ℤ). SFits w128 (pos 0 -ℤ z)) (sym (to_z-of_z w128 c.coefficient_of-c.result f)) (fits_neg c.coefficient_of-c.result (small c.coefficient_of-c.result _ e b))

abs_neg : (c : ℤ) → unsigned_abs (neg_ℤ c) ≡ unsigned_abs c
abs_neg c = omega (arith, ints)

pub narrowed-requires-in-Zero-2-clause-coefficient : goal.narrowed-requires-in-Zero-2-clause-coefficient
narrowed-requires-in-Zero-2-clause-coefficient c =
    let f : SFits w128 c.coefficient_of-c.result = search rules in
    let e = c.coefficient_of-c.ensures ∙ ap (coefficient c.args.place) c.deref.ensures.value in
    let b = coefficient_bound (2 ^ 44) 0 c.args.place c.args.a.now.terms.items c.requires.fit.ordered (wider c.args.a.now.terms.items c.requires.fit.terms) in
    let n = negative c.coefficient_of-c.result f (small c.coefficient_of-c.result _ e b) ∙ ap neg_ℤ e in
    subst (λ (z : ℤ). unsigned_abs z ≤ 2 ^ 44) (sym n) (subst (λ (z : ℕ). z ≤ 2 ^ 44) (sym (abs_neg (coefficient c.args.place c.args.a.now.terms.items))) b)

pub returns-in-AtMostZero : goal.returns-in-AtMostZero
returns-in-AtMostZero c =
    let f : SFits w128 c.coefficient_of-c.result = search rules in let g : SFits w128 c.args.a.now.constant = search rules in
    let e = to_z-of_z w128 c.coefficient_of-c.result f ∙ c.coefficient_of-c.ensures ∙ ap (coefficient c.args.place) c.deref.ensures.value in
    at_most_kept c.args.place c.args.a.now.sign (seen_form c.args.a.now) c.args.span c.narrowed.result c.requires.only c.in-AtMostZero.is
    (subst (λ (z : ℤ). Narrows c.args.span z c.args.a.now.constant c.narrowed.result) e (subst (λ (z : ℤ). Narrows c.args.span (to_z w128 (of_z w128 c.coefficient_of-c.result)) z c.narrowed.result) (to_z-of_z w128 c.args.a.now.constant g) c.narrowed.ensures))

pub returns-in-Zero : goal.returns-in-Zero
returns-in-Zero c =
    let f : SFits w128 c.coefficient_of-c.result = search rules in let g : SFits w128 c.args.a.now.constant = search rules in
    let e = to_z-of_z w128 c.coefficient_of-c.result f ∙ c.coefficient_of-c.ensures ∙ ap (coefficient c.args.place) c.deref.ensures.value in
    let e' = c.coefficient_of-c.ensures ∙ ap (coefficient c.args.place) c.deref.ensures.value in
    let b = coefficient_bound (2 ^ 44) 0 c.args.place c.args.a.now.terms.items c.requires.fit.ordered (wider c.args.a.now.terms.items c.requires.fit.terms) in
    let k = c.requires.fit.constant in
    let n = negative c.coefficient_of-c.result f (small c.coefficient_of-c.result _ e' b) ∙ ap neg_ℤ e' in
    let m = negative c.args.a.now.constant g (omega (arith, k)) in
    let p = c.narrowed-in-Zero.result in let q = c.narrowed-in-Zero-2.result in
    zero_kept c.args.place c.args.a.now.sign (seen_form c.args.a.now) c.args.span p q c.requires.only c.in-Zero.is
    (subst (λ (z : ℤ). Narrows c.args.span z c.args.a.now.constant p) e (subst (λ (z : ℤ). Narrows c.args.span (to_z w128 (of_z w128 c.coefficient_of-c.result)) z p) (to_z-of_z w128 c.args.a.now.constant g) c.narrowed-in-Zero.ensures))
    (subst (λ (z : ℤ). Narrows p z (neg_ℤ c.args.a.now.constant) q) n (subst (λ (z : ℤ). Narrows p (to_z w128 (of_z w128 (pos 0 -ℤ to_z w128 (of_z w128 c.coefficient_of-c.result)))) z q) m c.narrowed-in-Zero-2.ensures))
