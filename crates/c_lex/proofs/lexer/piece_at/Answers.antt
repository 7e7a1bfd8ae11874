use Rattle.std.proofs.Common.{Result, ap, subst, ◌∙◌}
use Rattle.cc_model.specs.Lexical as of
use Rattle.cc_model.specs.Lexical.{piece_of, piece_at, LexicalFault}
use Rattle.c_lex.specs.Faults.{Is}
use Rattle.c_lex.specs.Views.{view}
use Rattle.c_lex.proofs.lexer.piece_at.Goals as goal

pub returns-clause-exact : goal.returns-clause-exact
unfolding piece_at
returns-clause-exact c =
    let IsRead : Result of.Piece LexicalFault → Type 0 = λ read. Is view c.piece_of.result read in
    let e = ap (λ f. piece_of f c.args.place.at c.rest_from.result.now) c.requires.place.first
    ∙ ap (piece_of (of.is_first_on_line c.args.source.now c.args.place.at) c.args.place.at) c.rest_from.ensures in
    subst IsRead e c.piece_of.ensures.exact
