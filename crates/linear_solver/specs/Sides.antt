-- The lower and the upper inequalities of a place, counted in one walk over a list.
use Rattle.std.specs.Prelude.{ℕ, zero, suc, ◌+◌, ℤ, pos, negsuc, List, [], ◌∷◌, max}
use Rattle.cc_base.specs.Inequality.{Inequality, coefficient}
use Rattle.linear_solver.specs.declared.slack.Side.{Side}
use Rattle.linear_solver.specs.declared.slack.Side.TheVariants.{Neither, Lower, Upper}
use Rattle.linear_solver.specs.declared.slack.Sides.{Sides}

-- how a coefficient bounds its place
unfoldable pub side : ℤ → Side
side (pos zero) = Neither
side (pos (suc n)) = Upper (suc n)
side (negsuc n) = Lower (suc n)

unfoldable pub no_sides : Sides
no_sides = record { lowers = 0; uppers = 0; low = 0; high = 0 }

-- with one more inequality
abbrev pub side_step : Side → Sides → Sides
side_step Neither s = s
side_step (Upper c) s = record { lowers = s.lowers; uppers = s.uppers + 1; low = s.low; high = max s.high c }
side_step (Lower a) s = record { lowers = s.lowers + 1; uppers = s.uppers; low = max s.low a; high = s.high }

unfoldable pub sides_from : ℕ → Sides → List Inequality → Sides
sides_from x s [] = s
sides_from x s (i ∷ l) = sides_from x (side_step (side (coefficient x i.terms)) s) l

unfoldable pub sides : ℕ → List Inequality → Sides
sides x l = sides_from x no_sides l
