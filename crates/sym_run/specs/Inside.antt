-- Pointers into objects that a run has met.
use Rattle.std.specs.Prelude.{ℕ, List, nat_abs}
use Rattle.cc_base.specs.Paths.{In}
use Rattle.checked_memory.specs.declared.values.Value.{Value}
use Rattle.checked_memory.specs.declared.values.Value.TheVariants.{Int, Null, Made, Block}

-- NULL, or a pointer into an object that the run made or a touched block
abbrev pub IsInside : List ℕ → Value → Type 0
IsInside touched (Int z) = ⊥
IsInside touched Null = Unit {0}
IsInside touched (Made n i) = Unit {0}
IsInside touched (Block a i) = In (nat_abs a) touched
