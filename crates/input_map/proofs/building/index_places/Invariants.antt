use Rattle.input_map.specs.Laying.{IsIndex, found_in}
use Rattle.input_map.proofs.building.index_places.Given as goal

-- the places so far
abbrev pub invariant-loop-id : goal.invariant-loop-id
invariant-loop-id l = IsIndex l.places l.id (found_in l.found)
