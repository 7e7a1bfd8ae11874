-- The turns of a pass, and the values that lead back from its end.
use Rattle.std.specs.Prelude.{ℕ, zero, suc, ℤ, pos, neg_ℤ, Option, Some, None, List, [], ◌∷◌}
use Rattle.cc_base.specs.Inequality.{Inequality, floor, coefficient}
use Rattle.cc_base.specs.Pass.{ended, going, ready, eliminate}
use Rattle.cc_base.specs.declared.passes.Mode.{Mode}
use Rattle.cc_base.specs.Witness.{Turn, larger, smaller, left}
use Rattle.linear_solver.specs.Ordered.{NarrowAll}
use Rattle.linear_solver.specs.declared.slack.Side.{Side}
use Rattle.linear_solver.specs.declared.slack.Side.TheVariants.{Neither, Lower, Upper}
use Rattle.linear_solver.specs.declared.restore.Room.{Room}
use Rattle.linear_solver.specs.Sides.{side}

-- each turn's place and list
unfoldable pub trail_of : Mode → ℕ → List Inequality → List Turn
trail_of m zero l = []
trail_of m (suc n) l = elim (ready l) [ ended e ↦ [] | going x k ↦ record { place = x; list = k } ∷ trail_of m n (eliminate m x k) ]

-- no inequality of the turns is too wide
abbrev pub Sound : List Turn → Type 0
Sound [] = Unit {0}
Sound (t ∷ l) = NarrowAll t.list × Sound l

-- ---- the room that inequalities leave a place

unfoldable pub with_low : Option ℤ → ℤ → Option ℤ
with_low None z = Some z
with_low (Some y) z = Some (larger y z)

unfoldable pub with_high : Option ℤ → ℤ → Option ℤ
with_high None z = Some z
with_high (Some y) z = Some (smaller y z)

abbrev pub room_step : Side → ℤ → Room → Room
room_step Neither z r = r
room_step (Lower a) z r = record { low = with_low r.low (neg_ℤ (floor z a)); high = r.high }
room_step (Upper c) z r = record { low = r.low; high = with_high r.high (floor z c) }

unfoldable pub room_from : (ℕ → ℤ) → ℕ → Room → List Inequality → Room
room_from v x r [] = r
room_from v x r (i ∷ l) = room_from v x (room_step (side (coefficient x i.terms)) (left v x i) r) l

unfoldable pub or_zero : Option ℤ → ℤ
or_zero None = pos 0
or_zero (Some z) = z

unfoldable pub first_of : Option ℤ → Option ℤ → ℤ
first_of None h = or_zero h
first_of (Some z) h = z

unfoldable pub no_room : Room
no_room = record { low = None; high = None }
