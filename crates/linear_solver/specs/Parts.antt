-- The parts as the code has them: each has its last place first.
use Rattle.std.specs.Prelude.{ℕ, ℤ, pos, ◌≡◌, List, map, reverse, length, get_or, Option, Some, None, if◌then◌else◌}
use Rattle.std.specs.declared.vec.Vec.{Vec}
use Rattle.std.specs.declared.alloc.Global.{Global}
use Rattle.cc_base.specs.Groups.{contains}

abbrev pub backwards : Vec ℕ Global → List ℕ
backwards c = reverse c.items

unfoldable pub all_backwards : List (Vec ℕ Global) → List (List ℕ)
all_backwards l = map backwards l

-- the values of the answers, 0 where there is none
unfoldable pub number_of : Option ℤ → ℤ
number_of None = pos 0
number_of (Some z) = z

unfoldable pub answered : List (Option ℤ) → ℕ → ℤ
answered o x = number_of (get_or o x None)

-- the places of the part have these values now, the others what they had
abbrev pub Wrote : List ℕ → (ℕ → ℤ) → List (Option ℤ) → List (Option ℤ) → Type 0
Wrote c w o u = (length u ≡ length o) × ((y : ℕ) → get_or u y None ≡ (if contains c y then Some (w y) else get_or o y None))
