use Rattle.checked_memory.specs.Entries.{entries}
use Rattle.checked_memory.proofs.Walks.{Searching, height}
use Rattle.checked_memory.proofs.places.block_at.Given as goal

abbrev pub invariant-loop-at : goal.invariant-loop-at
invariant-loop-at l = Searching (entries l.objects) l.at l.address l.rank

abbrev pub decreases-loop-at : goal.decreases-loop-at
decreases-loop-at l = height l.at
