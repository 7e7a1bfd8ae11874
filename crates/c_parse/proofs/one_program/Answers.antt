use Rattle.c_parse.proofs.Programs.{one}
use Rattle.c_parse.proofs.one_program.Goals as goal

pub returns : goal.returns
returns c = one
