use Rattle.std.proofs.Common.{◌&&◌, get_or, sym, ap, ◌∙◌, arith}
use Rattle.cc_model.specs.Lexical.{is_blank}
use Rattle.c_lex.proofs.Moves.{line_small, col_small, place_newline, place_other}
use Rattle.c_lex.proofs.places.next.Goals as goal

pub overflow_add-result : goal.overflow_add-result
overflow_add-result c = let small = line_small c.args.source.now c.args.place.at c.requires.place.within in omega arith

pub overflow_add-result-else-is_newline : goal.overflow_add-result-else-is_newline
overflow_add-result-else-is_newline c = let small = col_small c.args.source.now c.args.place.at c.requires.place.within in omega arith

pub returns-then-is_newline-clause-place : goal.returns-then-is_newline-clause-place
returns-then-is_newline-clause-place c = place_newline _ c.args.place c.requires.place c.requires.inside (sym c.is_newline.ensures ∙ c.if-is_newline.true)

pub returns-then-place-clause-place : goal.returns-then-place-clause-place
returns-then-place-clause-place c =
    place_other _ c.args.place _ c.requires.place c.requires.inside (sym c.is_newline.ensures ∙ c.if-is_newline.false)
    (c.is_blank.ensures ∙ ap (λ t. t && is_blank (get_or c.args.source.now c.args.place.at 0)) (sym c.if-place.true))

pub returns-else-place-clause-place : goal.returns-else-place-clause-place
returns-else-place-clause-place c =
    place_other _ c.args.place _ c.requires.place c.requires.inside (sym c.is_newline.ensures ∙ c.if-is_newline.false)
    (c.if-place.false ∙ ap (λ t. t && is_blank (get_or c.args.source.now c.args.place.at 0)) (sym c.if-place.false))
