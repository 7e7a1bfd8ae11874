use Rattle.std.proofs.Common.{◌≡◌, ◌∙◌, sym, ap, ap₂, rules, arith, ℤ, ◌+ℤ◌, ◌*ℤ◌, ◌≤◌, ◌^◌, unsigned_abs, SFits, FitsSigned, to_z, of_z}
use Rattle.std.proofs.lemmas.Int.{to_z-of_z, ints}
use mir.Syntax.{w128}
use Rattle.linear_solver.proofs.one_place.is_root.Goals as goal

value_is : (p k q : ℤ) → SFits w128 p → SFits w128 k → unsigned_abs p ≤ 2 ^ 124 → unsigned_abs k ≤ 2 ^ 80 → p ≡ q → to_z w128 (of_z w128 (to_z w128 (of_z w128 p) +ℤ to_z w128 (of_z w128 k))) ≡ q +ℤ k
value_is p k q f g a b e =
    ap (λ (z : ℤ). to_z w128 (of_z w128 z)) (ap₂ (λ (x y : ℤ). x +ℤ y) (to_z-of_z w128 p f) (to_z-of_z w128 k g))
    ∙ to_z-of_z w128 (p +ℤ k) (let s : FitsSigned w128 (p +ℤ k) = omega (arith, ints, a, b) in s) ∙ ap (λ (z : ℤ). z +ℤ k) e

pub returns : goal.returns
returns c =
    let f : SFits w128 c.product.result = search rules in
    let e = value_is c.product.result c.args.k (c.args.c *ℤ c.args.z) f c.ranges.k c.product.ensures.bound c.requires.constant
    (c.product.ensures.value ∙ ap₂ (λ (x y : ℤ). x *ℤ y) (to_z-of_z w128 c.args.c c.ranges.c) (to_z-of_z w128 c.args.z c.ranges.z)) in
    (λ t. sym e ∙ c.is_zero.ensures.0 t, λ h. c.is_zero.ensures.1 (e ∙ h))
