use Rattle.std.proofs.Common.{◌≡◌, ◌∙◌, ap, ap₂, arith, ℤ, ◌+◌, ◌-ℤ◌, unsigned_abs, SFits, FitsSigned, to_z, of_z}
use Rattle.std.proofs.lemmas.Int.{to_z-of_z, ints}
use mir.Syntax.{w32, w64}
use Rattle.cc_base.specs.Need.{width}
use Rattle.linear_solver.proofs.group.width_of.Goals as goal

wide : (z : ℤ) → SFits w32 z → to_z w64 (of_z w64 (to_z w32 (of_z w32 z))) ≡ z
wide z f = ap (λ (y : ℤ). to_z w64 (of_z w64 y)) (to_z-of_z w32 z f) ∙ to_z-of_z w64 z (let s = f.sfits in let g : FitsSigned w64 z = omega (arith, ints, s) in g)

difference : (h l : ℤ) → SFits w32 h → SFits w32 l → to_z w64 (of_z w64 (to_z w64 (of_z w64 (to_z w32 (of_z w32 h))) -ℤ to_z w64 (of_z w64 (to_z w32 (of_z w32 l))))) ≡ h -ℤ l
difference h l f g = ap (λ (y : ℤ). to_z w64 (of_z w64 y)) (ap₂ (λ (x y : ℤ). x -ℤ y) (wide h f) (wide l g)) ∙ to_z-of_z w64 (h -ℤ l) (let s = f.sfits in let t = g.sfits in let i : FitsSigned w64 (h -ℤ l) = omega (arith, ints, s, t) in i)

pub returns : goal.returns
unfolding width
returns c = ap (λ (z : ℤ). unsigned_abs z + 1) (difference c.args.hi c.args.lo c.ranges.hi c.ranges.lo)
