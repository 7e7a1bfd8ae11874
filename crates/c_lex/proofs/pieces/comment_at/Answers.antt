use Rattle.std.proofs.Common.{ap, ◌∙◌}
use Rattle.cc_model.specs.Lexical.{gap, before_close}
use Rattle.c_lex.proofs.Fronts.{comment_found}
use Rattle.c_lex.proofs.pieces.comment_at.Goals as goal

pub returns-in-Some-clause-exact : goal.returns-in-Some-clause-exact
unfolding gap
returns-in-Some-clause-exact c = comment_found c.args.at c.args.bytes.now _ (c.in-Some.ensures.value ∙ ap before_close c.rest_from.ensures)

pub returns-in-None-clause-exact : goal.returns-in-None-clause-exact
returns-in-None-clause-exact c = comment_found c.args.at c.args.bytes.now _ (c.in-None.ensures.value ∙ ap before_close c.rest_from.ensures)
