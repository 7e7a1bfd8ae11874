use Rattle.c_lex.proofs.Runs.{token_known, token_none}
use Rattle.c_lex.proofs.lexer.token_at.Goals as goal

pub returns-in-Some-clause-exact : goal.returns-in-Some-clause-exact
returns-in-Some-clause-exact c = token_known c.args.source.now c.args.place c.args.piece c.in-Some.kind c.requires.place c.in-Some.is

pub returns-in-None-clause-exact : goal.returns-in-None-clause-exact
returns-in-None-clause-exact c = token_none c.args.source.now c.args.place.at c.args.piece c.in-None.is
