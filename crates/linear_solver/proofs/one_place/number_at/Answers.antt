use Rattle.std.proofs.Common.{◌≡◌, ◌∙◌, sym, ap, ap₂, subst, arith, ℕ, ℤ, pos, negsuc, ◌+ℤ◌, ◌≤ℤ◌, ◌<◌, ◌^◌, SFits, FitsSigned, to_z, of_z}
use Rattle.std.proofs.lemmas.Int.{to_z-of_z, to_z_pos, ints}
use mir.Syntax.{w32, w128}
use Rattle.linear_solver.proofs.one_place.number_at.Goals as goal

wide : (k : ℕ) → k < 2 ^ 64 → to_z w128 k ≡ pos k
wide k h = to_z_pos w128 k (omega (arith, h))

sum_is : (l : ℤ) (k : ℕ) → SFits w128 l → k < 2 ^ 64 → to_z w128 (of_z w128 l) +ℤ to_z w128 k ≡ l +ℤ pos k
sum_is l k f h = ap₂ (λ (x y : ℤ). x +ℤ y) (to_z-of_z w128 l f) (wide k h)

fits_wide : (l : ℤ) (k : ℕ) → negsuc 2147483647 ≤ℤ l → (l +ℤ pos k) ≤ℤ pos 2147483647 → FitsSigned w128 (l +ℤ pos k)
fits_wide l k a b = omega (arith, ints, a, b)

fits_narrow : (l : ℤ) (k : ℕ) → negsuc 2147483647 ≤ℤ l → (l +ℤ pos k) ≤ℤ pos 2147483647 → FitsSigned w32 (l +ℤ pos k)
fits_narrow l k a b = omega (arith, ints, a, b)

pub overflow_add-number : goal.overflow_add-number
overflow_add-number c = subst (λ (z : ℤ). SFits w128 z) (sym (sum_is c.args.low c.args.k c.ranges.low c.ranges.k.fits)) (fits_wide c.args.low c.args.k c.requires.low c.requires.high)

whole : (l : ℤ) (k : ℕ) → SFits w128 l → k < 2 ^ 64 → negsuc 2147483647 ≤ℤ l → (l +ℤ pos k) ≤ℤ pos 2147483647 → to_z w128 (of_z w128 (to_z w128 (of_z w128 l) +ℤ to_z w128 k)) ≡ l +ℤ pos k
whole l k f h a b = ap (λ (z : ℤ). to_z w128 (of_z w128 z)) (sum_is l k f h) ∙ to_z-of_z w128 (l +ℤ pos k) (fits_wide l k a b)

pub overflow_cast-result : goal.overflow_cast-result
overflow_cast-result c = subst (λ (z : ℤ). SFits w32 z) (sym (whole c.args.low c.args.k c.ranges.low c.ranges.k.fits c.requires.low c.requires.high)) (fits_narrow c.args.low c.args.k c.requires.low c.requires.high)

pub returns : goal.returns
returns c = ap (λ (z : ℤ). to_z w32 (of_z w32 z)) (whole c.args.low c.args.k c.ranges.low c.ranges.k.fits c.requires.low c.requires.high) ∙ to_z-of_z w32 (c.args.low +ℤ pos c.args.k) (fits_narrow c.args.low c.args.k c.requires.low c.requires.high)
