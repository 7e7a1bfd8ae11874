-- What was read is the file, the notes and the sites of the program.
use Rattle.cc_model.specs.Source.{text_at}
use Rattle.c_types.proofs.Assembly.{numbered_name, is_tested}
use Rattle.c_types.proofs.checker.accepted.Goals as goal

pub tested-requires-clause-numbered : goal.tested-requires-clause-numbered
tested-requires-clause-numbered c =
    numbered_name (text_at c.args.source.now c.args.tokens.now) c.args.program.items c.args.reading.file c.args.entry.now c.requires.read.files

pub returns-in-Ok-clause-checked : goal.returns-in-Ok-clause-checked
returns-in-Ok-clause-checked c = (
  c.in-Ok.ensures.program,
  c.in-Ok.ensures.checked c.args.entry.now
      (is_tested (text_at c.args.source.now c.args.tokens.now) c.args.program.items c.args.reading.file c.args.entry.now c.in-Some.number c.requires.read.files c.requires.well_typed c.in-Some.ensures.some.0 c.in-Some.ensures.some.1),
)
