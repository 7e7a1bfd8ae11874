use Rattle.cc_base.specs.Limits.{base_of}
use Rattle.input_map.specs.Builds.{number_of}
use Rattle.input_map.specs.Laying.{found_in, IsStream}
use Rattle.input_map.proofs.building.stream.Given as goal

-- the numbers so far
abbrev pub invariant-loop-number : goal.invariant-loop-number
invariant-loop-number l = IsStream (number_of l.values (base_of l.bounds)) (base_of l.bounds) (found_in (l.index).found 1) l.number l.numbers
