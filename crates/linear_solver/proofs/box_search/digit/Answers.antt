use Rattle.std.proofs.Common.{◌≡◌, ◌∙◌, sym, ap, ap₂, subst, arith, ℕ, ℤ, pos, ◌+ℤ◌, ◌≤ℤ◌, ◌<◌, ◌%◌, ◌^◌, SFits, FitsSigned, to_z, of_z}
use Rattle.std.proofs.lemmas.Int.{to_z-of_z, to_z_pos, ints}
use mir.Syntax.{w32, w128}
use Rattle.linear_solver.proofs.FirstList.{wide_number}
use Rattle.linear_solver.proofs.box_search.digit.Goals as goal

within : (l : ℤ) (k w : ℕ) → SFits w32 l → k < w → (l +ℤ pos w) ≤ℤ pos (2 ^ 31) → FitsSigned w32 (l +ℤ pos k)
within l k w f h b = let s = f.sfits in omega (arith, ints, s, h, b)

within_wide : (l : ℤ) (k w : ℕ) → SFits w32 l → k < w → (l +ℤ pos w) ≤ℤ pos (2 ^ 31) → FitsSigned w128 (l +ℤ pos k)
within_wide l k w f h b = let s = f.sfits in omega (arith, ints, s, h, b)

short : (l : ℤ) (k w : ℕ) → SFits w32 l → k < w → (l +ℤ pos w) ≤ℤ pos (2 ^ 31) → k < 2 ^ 127
short l k w f h b = let s = f.sfits in omega (arith, ints, s, h, b)

sum_is : (l : ℤ) (k : ℕ) → SFits w32 l → k < 2 ^ 127 → to_z w128 (of_z w128 (to_z w32 (of_z w32 l))) +ℤ to_z w128 k ≡ l +ℤ pos k
sum_is l k f h = ap₂ (λ (x y : ℤ). x +ℤ y) (wide_number l f) (to_z_pos w128 k h)

rest : (k w : ℕ) → 0 < w → k % w < w
rest k w h = omega arith

pub overflow_cast-more : goal.overflow_cast-more
overflow_cast-more c = record { sfits = short c.args.lo (c.args.k % c.args.width) c.args.width c.ranges.lo (rest c.args.k c.args.width c.requires.positive) c.requires.fits }

pub overflow_add-number : goal.overflow_add-number
overflow_add-number c =
    let r = rest c.args.k c.args.width c.requires.positive in
    subst (λ (z : ℤ). SFits w128 z) (sym (sum_is c.args.lo (c.args.k % c.args.width) c.ranges.lo (short c.args.lo (c.args.k % c.args.width) c.args.width c.ranges.lo r c.requires.fits))) (within_wide c.args.lo (c.args.k % c.args.width) c.args.width c.ranges.lo r c.requires.fits)

pub overflow_cast-result : goal.overflow_cast-result
overflow_cast-result c =
    let r = rest c.args.k c.args.width c.requires.positive in let k = c.args.k % c.args.width in
    subst (λ (z : ℤ). SFits w32 z) (sym (ap (λ (z : ℤ). to_z w128 (of_z w128 z)) (sum_is c.args.lo k c.ranges.lo (short c.args.lo k c.args.width c.ranges.lo r c.requires.fits)) ∙ to_z-of_z w128 (c.args.lo +ℤ pos k) (within_wide c.args.lo k c.args.width c.ranges.lo r c.requires.fits)))
    (within c.args.lo k c.args.width c.ranges.lo r c.requires.fits)

pub returns : goal.returns
returns c =
    let r = rest c.args.k c.args.width c.requires.positive in let k = c.args.k % c.args.width in
    ap (λ (z : ℤ). to_z w32 (of_z w32 z)) (ap (λ (z : ℤ). to_z w128 (of_z w128 z)) (sum_is c.args.lo k c.ranges.lo (short c.args.lo k c.args.width c.ranges.lo r c.requires.fits)) ∙ to_z-of_z w128 (c.args.lo +ℤ pos k) (within_wide c.args.lo k c.args.width c.ranges.lo r c.requires.fits))
    ∙ to_z-of_z w32 (c.args.lo +ℤ pos k) (within c.args.lo k c.args.width c.ranges.lo r c.requires.fits)
