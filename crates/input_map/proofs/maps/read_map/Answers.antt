use Rattle.cc_model.specs.CheckedProgram.{core_of}
use Rattle.input_map.proofs.Answered.{reads, refuses}
use Rattle.input_map.proofs.maps.read_map.Goals as goal

pub returns-clause-read : goal.returns-clause-read
returns-clause-read c = reads (core_of c.args.checked.now) c.args.bounds.now c.args.text.now _ c.read.ensures

pub returns-clause-refused : goal.returns-clause-refused
returns-clause-refused c = refuses (core_of c.args.checked.now) c.args.bounds.now c.args.text.now _ c.read.ensures
