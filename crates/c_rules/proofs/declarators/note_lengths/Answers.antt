use Rattle.std.proofs.Common.{◌++◌}
use Rattle.cc_model.specs.Faults.{length_notes}
use Rattle.c_rules.proofs.LengthLemmas.{lengths_all}
use Rattle.c_rules.proofs.declarators.note_lengths.Goals as goal

pub returns : goal.returns
returns c = lengths_all c.args.lengths.now c.loop-length.length-index c.loop-length.notes (c.args.notes.now ++ length_notes c.args.lengths.now) c.loop-length-test.false c.loop-length.invariant
