use Rattle.std.proofs.Common.{◌≡◌, ◌∙◌, sym, ap, ap₂, subst, rules, arith, ℕ, ℤ, pos, ◌<ℤ◌, ◌≤◌, ◌^◌, unsigned_abs, SFits, to_z}
use Rattle.std.proofs.lemmas.Int.{to_z-of_z, to_z_pos, ints}
use mir.Syntax.{w128}
use Rattle.cc_base.specs.Inequality.{floor}
use Rattle.linear_solver.proofs.restore.most_by.Goals as goal

wide : (a : ℕ) → a ≤ 2 ^ 44 → to_z w128 a ≡ pos a
wide a h = to_z_pos w128 a (omega (arith, h))

pub floor_of-requires : goal.floor_of-requires
floor_of-requires c = let p = c.requires.positive in subst (λ (z : ℤ). pos 0 <ℤ z) (sym (wide c.args.c c.requires.factor)) (omega (arith, ints, p))

pub returns : goal.returns
returns c =
    let f : SFits w128 c.floor_of.result = search rules in
    to_z-of_z w128 c.floor_of.result f ∙ c.floor_of.ensures ∙ ap₂ floor (to_z-of_z w128 c.args.z c.ranges.z) (ap unsigned_abs (wide c.args.c c.requires.factor))
