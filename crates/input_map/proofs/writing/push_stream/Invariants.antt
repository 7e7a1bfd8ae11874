use Rattle.std.proofs.Common.{◌≡◌, ◌++◌, take}
use Rattle.cc_base.specs.Inputs.{numbers_text}
use Rattle.input_map.proofs.writing.push_stream.Given as goal

-- the numbers so far are written
abbrev pub invariant-loop-at : goal.invariant-loop-at
invariant-loop-at l = l.text.items ≡ l.initial.text.items ++ numbers_text (take l.at l.stream)
