use Rattle.std.proofs.Common.{◌≡◌, suc, take, drop}
use Rattle.input_map.specs.CellFaults.{stream_fault}
use Rattle.input_map.proofs.maps.take_stream.Given as goal

-- the numbers so far are taken, and the rest has the fault that all of them have
abbrev pub invariant-loop-at : goal.invariant-loop-at
invariant-loop-at l = record {
  taken : l.numbers ≡ take l.at l.stream;
  so_far : stream_fault l.bounds 1 l.stream ≡ stream_fault l.bounds (suc l.at) (drop l.at l.stream);
}
