use Rattle.source_laws.proofs.OneSource.{one_program_at}
use Rattle.source_laws.proofs.one_source_is_one_program.Goals as goal

pub returns : goal.returns
returns c = λ bytes entry p q all h k. one_program_at c.one_program.ensures bytes entry all p q h k
