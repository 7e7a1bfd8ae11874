use Rattle.std.proofs.Common.{◌≡◌, ◌∙◌, ap₂, SFits, arith, unsigned_abs, ℤ, pos, negsuc, ◌<ℤ◌, refl}
use Rattle.std.proofs.lemmas.Int.{ints, to_z-of_z}
use mir.Syntax.{w128}
use Rattle.std.specs.Int.{int_div_euclid}
use Rattle.linear_solver.proofs.Integers.{floor_div}
use Rattle.linear_solver.proofs.numbers.floor_of.Goals as goal

positive : (g : ℤ) → pos 0 <ℤ g → g ≡ pos (unsigned_abs g)
positive (pos n) h = refl
positive (negsuc n) h = absurd (omega (arith, ints, h))

pub returns : goal.returns
returns c =
    let f : SFits w128 c.div_euclid.result = record { sfits = c.div_euclid.type_inv } in
    to_z-of_z w128 c.div_euclid.result f ∙ c.div_euclid.ensures
    ∙ ap₂ int_div_euclid (to_z-of_z w128 c.args.z c.ranges.z) (to_z-of_z w128 c.args.g c.ranges.g ∙ positive c.args.g c.requires)
    ∙ floor_div c.args.z (unsigned_abs c.args.g)
