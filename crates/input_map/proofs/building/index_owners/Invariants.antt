use Rattle.std.proofs.Common.{take}
use Rattle.input_map.specs.Laying.{IsOwner, owner_in}
use Rattle.input_map.proofs.building.index_owners.Given as goal

-- the touched places so far
abbrev pub invariant-loop-place : goal.invariant-loop-place
invariant-loop-place l = IsOwner l.values (take l.place-index l.touched) (owner_in l.owners)
