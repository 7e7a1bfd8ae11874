use Rattle.checked_memory.specs.Entries.{entries}
use Rattle.checked_memory.proofs.Walks.{Counting, height}
use Rattle.checked_memory.proofs.places.made_at.Given as goal

abbrev pub invariant-loop-at : goal.invariant-loop-at
invariant-loop-at l = Counting (entries l.objects) l.at l.number l.index

abbrev pub decreases-loop-at : goal.decreases-loop-at
decreases-loop-at l = height l.at
