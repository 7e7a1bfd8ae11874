use Rattle.cc_model.specs.Lexical.{words}
use Rattle.c_lex.proofs.words.keyword_of.Goals as goal

pub returns : goal.returns
unfolding words
returns c = c.entry.ensures
