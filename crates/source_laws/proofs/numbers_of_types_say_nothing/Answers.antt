use Rattle.source_laws.proofs.SameLayers.{same_program}
use Rattle.source_laws.proofs.numbers_of_types_say_nothing.Goals as goal

pub returns : goal.returns
returns c = same_program
