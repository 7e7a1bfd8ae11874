use Rattle.std.proofs.Common.{take}
use Rattle.search_walks.specs.Rows.{Grows, IsAny}
use Rattle.search_walks.proofs.flow.add_return.Given as goal

abbrev pub invariant-loop-place : goal.invariant-loop-place
invariant-loop-place l = Grows l.initial.rows.rows.items l.rows.rows.items (IsAny l.initial.rows.rows.items l.at (take l.place-index l.places))
