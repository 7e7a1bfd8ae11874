use Rattle.cc_model.specs.Lexical.{lexeme}
use Rattle.c_lex.proofs.Fronts.{sign_found}
use Rattle.c_lex.proofs.pieces.sign_at.Goals as goal

pub returns-in-Some-clause-exact : goal.returns-in-Some-clause-exact
unfolding lexeme
returns-in-Some-clause-exact c = sign_found c.args.at c.args.bytes.now _ c.in-Some.ensures.value

pub returns-in-None-clause-exact : goal.returns-in-None-clause-exact
returns-in-None-clause-exact c = sign_found c.args.at c.args.bytes.now _ c.in-None.ensures.value
