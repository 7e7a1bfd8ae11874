-- What files in memory are to their callers.
use Rattle.std.specs.Prelude.{ℕ, Option}
use Rattle.cc_outside.specs.Held.{Held}

-- the files held, the count of loads, the number of the load that is to fail, and the count of
-- faults; this project's own
pub record MemFilesState : Type 0 where
  pub held : Held
  pub loads : ℕ
  pub fails_at : Option ℕ
  pub faults : ℕ
