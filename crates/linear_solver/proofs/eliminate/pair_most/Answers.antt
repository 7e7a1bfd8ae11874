use Rattle.std.proofs.Common.{◌≡◌, ◌∙◌, sym, ap, ap₂, subst, rules, arith, ℕ, ℤ, pos, ◌+ℤ◌, ◌-ℤ◌, ◌*ℤ◌, ◌*◌, ◌-◌, ◌^◌, ◌≤◌, SFits, FitsSigned, to_z, of_z, unsigned_abs}
use Rattle.std.proofs.lemmas.Int.{to_z-of_z, to_z_pos, ints}
use mir.Syntax.{w128}
use Rattle.cc_base.specs.declared.passes.Mode.{Mode}
use Rattle.cc_base.specs.declared.passes.Mode.TheVariants.{Real, Dark}
use Rattle.cc_base.specs.Pass.{dark_part}
use Rattle.linear_solver.proofs.Ranking.{product_bound}
use Rattle.linear_solver.proofs.eliminate.pair_most.Goals as goal

dark_bound : (m : Mode) (a c : ℕ) → a ≤ 2 ^ 44 → c ≤ 2 ^ 44 → dark_part m a c ≤ 2 ^ 44 * 2 ^ 44
unfolding dark_part
dark_bound Real a c h k = omega arith
dark_bound Dark a c h k = let p = product_bound (a - 1) (c - 1) (2 ^ 44) (2 ^ 44) (omega (arith, h)) (omega (arith, k)) in omega (arith, p)

fits_sum : (x y : ℤ) → unsigned_abs x ≤ 2 ^ 124 → unsigned_abs y ≤ 2 ^ 124 → FitsSigned w128 (x +ℤ y)
fits_sum x y h k = omega (arith, ints, h, k)

fits_most : (x y : ℤ) (d : ℕ) → unsigned_abs x ≤ 2 ^ 124 → unsigned_abs y ≤ 2 ^ 124 → d ≤ 2 ^ 44 * 2 ^ 44 → FitsSigned w128 ((x +ℤ y) -ℤ pos d)
fits_most x y d h k m = omega (arith, ints, h, k, m)

fits_dark : (d : ℕ) → d ≤ 2 ^ 44 * 2 ^ 44 → SFits w128 (pos d)
fits_dark d h = record { sfits = omega (arith, h) }

inner : (x y z : ℤ) (d : ℕ) → SFits w128 x → SFits w128 y → unsigned_abs x ≤ 2 ^ 124 → unsigned_abs y ≤ 2 ^ 124 → z ≡ pos d → d ≤ 2 ^ 44 * 2 ^ 44 →
    to_z w128 (of_z w128 (to_z w128 (of_z w128 x) +ℤ to_z w128 (of_z w128 y))) -ℤ to_z w128 (of_z w128 z) ≡ (x +ℤ y) -ℤ pos d
inner x y z d f g h k e m =
    ap₂ (λ (s t : ℤ). s -ℤ t)
    (ap (λ (s : ℤ). to_z w128 (of_z w128 s)) (ap₂ (λ (s t : ℤ). s +ℤ t) (to_z-of_z w128 x f) (to_z-of_z w128 y g)) ∙ to_z-of_z w128 (x +ℤ y) (fits_sum x y h k))
    (ap (λ (s : ℤ). to_z w128 (of_z w128 s)) e ∙ to_z-of_z w128 (pos d) (fits_dark d m))

pub overflow_sub-result : goal.overflow_sub-result
overflow_sub-result c =
    let f : SFits w128 c.product.result = search rules in let g : SFits w128 c.product-2.result = search rules in
    let m = dark_bound c.args.mode c.args.a c.args.c c.requires.lower_factor c.requires.upper_factor in
    subst (λ (z : ℤ). SFits w128 z) (sym (inner c.product.result c.product-2.result c.taken_off.result (dark_part c.args.mode c.args.a c.args.c) f g c.product.ensures.bound c.product-2.ensures.bound c.taken_off.ensures m))
    (fits_most c.product.result c.product-2.result (dark_part c.args.mode c.args.a c.args.c) c.product.ensures.bound c.product-2.ensures.bound m)

wide_factor : (a : ℕ) → a ≤ 2 ^ 44 → to_z w128 a ≡ pos a
wide_factor a h = to_z_pos w128 a (omega (arith, h))

pub returns : goal.returns
returns c =
    let f : SFits w128 c.product.result = search rules in let g : SFits w128 c.product-2.result = search rules in
    let m = dark_bound c.args.mode c.args.a c.args.c c.requires.lower_factor c.requires.upper_factor in
    let d = dark_part c.args.mode c.args.a c.args.c in
    let e = inner c.product.result c.product-2.result c.taken_off.result d f g c.product.ensures.bound c.product-2.ensures.bound c.taken_off.ensures m in
    ap (λ (z : ℤ). to_z w128 (of_z w128 z)) e
    ∙ to_z-of_z w128 ((c.product.result +ℤ c.product-2.result) -ℤ pos d) (fits_most c.product.result c.product-2.result d c.product.ensures.bound c.product-2.ensures.bound m)
    ∙ ap₂ (λ (x y : ℤ). (x +ℤ y) -ℤ pos d)
    (c.product.ensures.value ∙ ap₂ (λ (x y : ℤ). x *ℤ y) (wide_factor c.args.c c.requires.upper_factor) (to_z-of_z w128 c.args.lower c.ranges.lower))
    (c.product-2.ensures.value ∙ ap₂ (λ (x y : ℤ). x *ℤ y) (wide_factor c.args.a c.requires.lower_factor) (to_z-of_z w128 c.args.upper c.ranges.upper))
