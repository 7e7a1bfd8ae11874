use Rattle.std.proofs.Common.{◌≡◌, drop}
use Rattle.linear_solver.specs.Seen.{seen_all, at_places}
use Rattle.linear_solver.specs.Trail.{room_from, no_room}
use Rattle.linear_solver.proofs.restore.value_of.Given as goal

abbrev pub invariant-loop-i : goal.invariant-loop-i
invariant-loop-i l = room_from (at_places l.values) l.place l.room (seen_all (drop l.i-index l.list)) ≡ room_from (at_places l.values) l.place no_room (seen_all l.list)
