-- The count of faults of what reads or writes: a number of 64 bits that never falls.
use Rattle.std.specs.Prelude.{◌≡◌, ℕ, ◌+◌, ◌<◌, ◌⊎◌, min}

-- the count rose, or ends at its last value, at which a fault leaves it; this project's own
abbrev pub Rose : ℕ → ℕ → Type 0
Rose old new = (old < new) ⊎ (new ≡ 18_446_744_073_709_551_615)

-- one more, but the last value of 64 bits stays; this project's own
abbrev pub counted_up : ℕ → ℕ
counted_up n = min (n + 1) 18_446_744_073_709_551_615
