-- What a sink in memory is to its callers.
use Rattle.std.specs.Prelude.{ℕ, List, Option}

-- the bytes written, the count of writes, the number of the write that is to fail, how many bytes of
-- its piece that write may keep, and the count of faults; this project's own
pub record MemSinkState : Type 0 where
  pub written : List ℕ
  pub writes : ℕ
  pub fails_at : Option ℕ
  pub keep : ℕ
  pub faults : ℕ
