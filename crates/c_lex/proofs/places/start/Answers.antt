use Rattle.c_lex.proofs.Moves.{place_start}
use Rattle.c_lex.proofs.places.start.Goals as goal

pub returns-clause-place : goal.returns-clause-place
returns-clause-place c = place_start
