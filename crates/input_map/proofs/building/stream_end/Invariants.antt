use Rattle.std.proofs.Common.{◌≡◌, take}
use Rattle.input_map.specs.Builds.{stream_length}
use Rattle.input_map.proofs.building.stream_end.Given as goal

-- the length for the places so far
abbrev pub invariant-loop-id : goal.invariant-loop-id
invariant-loop-id l = l.end ≡ stream_length (take l.id l.places)
