use Rattle.std.proofs.Common.{◌≡◌, ◌∙◌, sym, ap, ap₂, subst, SFits, to_z, of_z, arith, ◌≤◌, ◌^◌, ℕ, ℤ, ◌*ℤ◌, unsigned_abs, mul-le-mul}
use Rattle.std.proofs.lemmas.Int.{to_z-of_z, unsigned_abs-mul, fits_signed_from_abs}
use mir.Syntax.{w128}
use Rattle.linear_solver.proofs.merging.product.Goals as goal

bounded : (c k : ℤ) → unsigned_abs c ≤ 2 ^ 44 → unsigned_abs k ≤ 2 ^ 80 → unsigned_abs (c *ℤ k) ≤ 2 ^ 124
bounded c k h m = let e = unsigned_abs-mul c k in let p = mul-le-mul h m in subst (λ (n : ℕ). n ≤ 2 ^ 124) (sym e) p

the_value : (c k : ℤ) → SFits w128 c → SFits w128 k → unsigned_abs c ≤ 2 ^ 44 → unsigned_abs k ≤ 2 ^ 80 → to_z w128 (of_z w128 (to_z w128 (of_z w128 c) *ℤ to_z w128 (of_z w128 k))) ≡ c *ℤ k
the_value c k f g h m =
    ap (λ (z : ℤ). to_z w128 (of_z w128 z)) (ap₂ (λ (x y : ℤ). x *ℤ y) (to_z-of_z w128 c f) (to_z-of_z w128 k g))
    ∙ to_z-of_z w128 (c *ℤ k) (fits_signed_from_abs w128 (c *ℤ k) (let b = bounded c k h m in omega (arith, b)))

pub returns-clause-value : goal.returns-clause-value
returns-clause-value c = the_value c.args.c c.args.k c.ranges.c c.ranges.k c.requires.factor c.requires.number

pub returns-clause-bound : goal.returns-clause-bound
returns-clause-bound c = subst (λ (z : ℤ). unsigned_abs z ≤ 2 ^ 124) (sym (the_value c.args.c c.args.k c.ranges.c c.ranges.k c.requires.factor c.requires.number)) (bounded c.args.c c.args.k c.requires.factor c.requires.number)
