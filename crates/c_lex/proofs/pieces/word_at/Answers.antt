use Rattle.cc_model.specs.Lexical.{lexeme}
use Rattle.c_lex.proofs.Fronts.{word_found}
use Rattle.c_lex.proofs.pieces.word_at.Goals as goal

pub returns-in-Some-clause-exact : goal.returns-in-Some-clause-exact
unfolding lexeme
returns-in-Some-clause-exact c = word_found c.args.text.now _ c.in-Some.ensures

pub returns-in-None-clause-exact : goal.returns-in-None-clause-exact
unfolding lexeme
returns-in-None-clause-exact c = word_found c.args.text.now _ c.in-None.ensures
