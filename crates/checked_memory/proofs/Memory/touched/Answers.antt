use Rattle.std.proofs.Common.{◌≢◌, ℤ, map, subst}
use Rattle.cc_base.specs.Paths.{Pairwise}
use Rattle.checked_memory.specs.Contents.{Contents, address_of}
use Rattle.checked_memory.proofs.Cells.{addresses_apart}
use Rattle.checked_memory.proofs.Memory.touched.Goals as goal

pub returns-clause-apart : goal.returns-clause-apart
returns-clause-apart c = subst (λ (m : Contents). Pairwise (λ (a b : ℤ). a ≢ b) (map address_of m.touched)) c.self.view_is (addresses_apart _ (c.self.invariant).apart)
