use Rattle.std.proofs.Common.{◌≡◌, ◌∙◌, sym, ap, ap₂, subst, rules, arith, ℕ, ℤ, pos, neg_ℤ, ◌-ℤ◌, ◌<ℤ◌, ◌≤◌, ◌^◌, unsigned_abs, SFits, FitsSigned, to_z, of_z}
use Rattle.std.proofs.lemmas.Int.{to_z-of_z, to_z_pos, ints}
use mir.Syntax.{w128}
use Rattle.cc_base.specs.Inequality.{floor}
use Rattle.linear_solver.proofs.Pairing.{floor_less}
use Rattle.linear_solver.proofs.restore.least_by.Goals as goal

wide : (a : ℕ) → a ≤ 2 ^ 44 → to_z w128 a ≡ pos a
wide a h = to_z_pos w128 a (omega (arith, h))

fits_neg : (z : ℤ) → unsigned_abs z ≤ 2 ^ 110 → FitsSigned w128 (pos 0 -ℤ z)
fits_neg z h = omega (arith, ints, h)

neg_is : (z : ℤ) → pos 0 -ℤ z ≡ neg_ℤ z
neg_is z = omega (arith, ints)

floored : (r z w : ℤ) (a : ℕ) → r ≡ floor w (unsigned_abs (to_z w128 a)) → w ≡ z → a ≤ 2 ^ 44 → r ≡ floor z a
floored r z w a e f h = e ∙ ap₂ floor f (ap unsigned_abs (wide a h))

small : (r z : ℤ) (a : ℕ) → r ≡ floor z a → unsigned_abs z ≤ 2 ^ 110 → unsigned_abs r ≤ 2 ^ 110
small r z a e h = let l = floor_less z a in subst (λ (y : ℤ). unsigned_abs y ≤ 2 ^ 110) (sym e) (omega (arith, l, h))

pub floor_of-requires : goal.floor_of-requires
floor_of-requires c = let p = c.requires.positive in subst (λ (z : ℤ). pos 0 <ℤ z) (sym (wide c.args.a c.requires.factor)) (omega (arith, ints, p))

pub overflow_sub-result : goal.overflow_sub-result
overflow_sub-result c =
    let f : SFits w128 c.floor_of.result = search rules in
    let e = floored c.floor_of.result c.args.z _ c.args.a c.floor_of.ensures (to_z-of_z w128 c.args.z c.ranges.z) c.requires.factor in
    subst (λ (z : ℤ). SFits w128 (pos 0 -ℤ z)) (sym (to_z-of_z w128 c.floor_of.result f)) (fits_neg c.floor_of.result (small c.floor_of.result c.args.z c.args.a e c.requires.bound))

pub returns : goal.returns
returns c =
    let f : SFits w128 c.floor_of.result = search rules in
    let e = floored c.floor_of.result c.args.z _ c.args.a c.floor_of.ensures (to_z-of_z w128 c.args.z c.ranges.z) c.requires.factor in
    ap (λ (z : ℤ). to_z w128 (of_z w128 (pos 0 -ℤ z))) (to_z-of_z w128 c.floor_of.result f)
    ∙ to_z-of_z w128 (pos 0 -ℤ c.floor_of.result) (fits_neg c.floor_of.result (small c.floor_of.result c.args.z c.args.a e c.requires.bound))
    ∙ neg_is c.floor_of.result ∙ ap neg_ℤ e
