use Rattle.std.proofs.Common.{◌≡◌, Some, take}
use Rattle.input_map.specs.Reading.{start, steps}
use Rattle.input_map.proofs.reading.read_form.Given as goal

-- the reader stands behind the bytes so far
abbrev pub invariant-loop-at : goal.invariant-loop-at
invariant-loop-at l = steps start (take l.at l.text) ≡ Some l.reader
