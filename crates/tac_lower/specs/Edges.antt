-- How the edges of a code are found.
use Rattle.std.specs.Prelude.{ℕ, ◌≤◌, ◌&&◌, if◌then◌else◌, nat_lt, List, [], ◌∷◌, ◌++◌, length, Option, Some, None}
use Rattle.tac_lower.specs.declared.flow.Way.{Way}
use Rattle.tac_lower.specs.declared.tac.Tac.{Tac}
use Rattle.tac_lower.specs.Flow.{IsPlace, IsBehind, GoesTo}

abbrev pub one_of : Option ℕ → List ℕ
one_of None = []
one_of (Some n) = n ∷ []

abbrev pub pair_of : Option ℕ → Option ℕ → List ℕ
pair_of low high = one_of low ++ one_of high

module _ (t : Tac) where
  -- the place, where there is an instruction at it
  abbrev pub place_at : ℕ → Option ℕ
  place_at to = if nat_lt to (length t.code) && nat_lt to 4294967296 then Some to else None

  -- up to two places in order
  abbrev pub two_of : ℕ → ℕ → List ℕ
  two_of a b = if nat_lt a b then pair_of (place_at a) (place_at b) else (if nat_lt b a then pair_of (place_at b) (place_at a) else pair_of (place_at a) None)

  -- a place behind a call of a function that begins at `first`
  abbrev pub Behind : ℕ → ℕ → Type 0
  Behind first to = IsPlace t to × IsBehind t first to

  -- the same of the first n instructions
  abbrev pub BehindUpTo : ℕ → ℕ → ℕ → Type 0
  BehindUpTo first n to = (to ≤ n) × IsPlace t to × IsBehind t first to

  abbrev pub Reached : ℕ → Way → ℕ → Type 0
  Reached at way to = IsPlace t to × GoesTo t at way to
