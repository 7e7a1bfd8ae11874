use Rattle.std.proofs.Common.{◌≡◌, ◌++◌, drop}
use Rattle.cc_model.specs.Faults.{length_notes}
use Rattle.c_rules.proofs.declarators.note_lengths.Given as goal

abbrev pub invariant-loop-length : goal.invariant-loop-length
invariant-loop-length l = l.notes ++ length_notes (drop l.length-index l.lengths) ≡ l.fn.notes ++ length_notes l.fn.lengths
