use Rattle.std.proofs.Common.{◌≡◌, ◌∙◌, ap, ap₂, subst, rules, arith, ℤ, pos, negsuc, ◌+ℤ◌, ◌-ℤ◌, ◌<ℤ◌, ◌≤ℤ◌, unsigned_abs, SFits, FitsSigned, to_z, of_z}
use Rattle.std.proofs.lemmas.Int.{to_z-of_z, ints}
use mir.Syntax.{w128}
use Rattle.linear_solver.proofs.Spanning.{counted_none, counted_some}
use Rattle.linear_solver.proofs.one_place.size_of_span.Goals as goal

size_value : (l h : ℤ) → SFits w128 l → SFits w128 h → l ≤ℤ h → negsuc 2147483647 ≤ℤ l → h ≤ℤ pos 2147483647 →
    to_z w128 (of_z w128 (to_z w128 (of_z w128 (to_z w128 (of_z w128 h) -ℤ to_z w128 (of_z w128 l))) +ℤ pos 1)) ≡ (h -ℤ l) +ℤ pos 1
size_value l h f g i a b =
    ap (λ (z : ℤ). to_z w128 (of_z w128 (z +ℤ pos 1))) (ap (λ (z : ℤ). to_z w128 (of_z w128 z)) (ap₂ (λ (x y : ℤ). x -ℤ y) (to_z-of_z w128 h g) (to_z-of_z w128 l f)) ∙ to_z-of_z w128 (h -ℤ l) (let s : FitsSigned w128 (h -ℤ l) = omega (arith, ints, i, a, b) in s))
    ∙ to_z-of_z w128 ((h -ℤ l) +ℤ pos 1) (let s : FitsSigned w128 ((h -ℤ l) +ℤ pos 1) = omega (arith, ints, i, a, b) in s)

pub returns-then-span : goal.returns-then-span
returns-then-span c =
    let f : SFits w128 c.args.span.low = search rules in let g : SFits w128 c.args.span.high = search rules in
    let h : to_z w128 (of_z w128 c.args.span.high) <ℤ to_z w128 (of_z w128 c.args.span.low) = omega (arith, ints, c.if-span.true) in
    counted_none c.args.span (subst (λ (z : ℤ). z <ℤ c.args.span.low) (to_z-of_z w128 c.args.span.high g) (subst (λ (z : ℤ). to_z w128 (of_z w128 c.args.span.high) <ℤ z) (to_z-of_z w128 c.args.span.low f) h))

pub returns : goal.returns
returns c =
    let f : SFits w128 c.args.span.low = search rules in let g : SFits w128 c.args.span.high = search rules in
    let h : to_z w128 (of_z w128 c.args.span.low) ≤ℤ to_z w128 (of_z w128 c.args.span.high) = omega (arith, ints, c.if-span.false) in
    let i : c.args.span.low ≤ℤ c.args.span.high = subst (λ (z : ℤ). c.args.span.low ≤ℤ z) (to_z-of_z w128 c.args.span.high g) (subst (λ (z : ℤ). z ≤ℤ to_z w128 (of_z w128 c.args.span.high)) (to_z-of_z w128 c.args.span.low f) h) in
    counted_some c.args.span _ i (ap unsigned_abs (size_value c.args.span.low c.args.span.high f g i c.requires.low c.requires.high))
