use Rattle.tac_lower.proofs.Programs.{compiles}
use Rattle.tac_lower.proofs.laws.code_does_what_the_program_does.Goals as goal

pub returns : goal.returns
returns c = compiles
