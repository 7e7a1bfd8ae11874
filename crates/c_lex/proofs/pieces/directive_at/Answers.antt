use Rattle.std.proofs.Common.{cond, Ok, Err, ap, sym, ◌∙◌, length}
use Rattle.cc_model.specs.Lexical.{directive_of, gap, bad_directive}
use Rattle.c_lex.proofs.pieces.directive_at.Goals as goal

pub returns-then-is_include-clause-exact : goal.returns-then-is_include-clause-exact
unfolding directive_of gap
returns-then-is_include-clause-exact c = ap (λ b. cond b (Ok (gap (length c.args.line.now))) (Err (bad_directive c.args.at))) (sym c.is_include.ensures ∙ c.if-is_include.true)

pub returns-else-is_include-clause-exact : goal.returns-else-is_include-clause-exact
unfolding directive_of
returns-else-is_include-clause-exact c = ap (λ b. cond b (Ok (gap (length c.args.line.now))) (Err (bad_directive c.args.at))) (sym c.is_include.ensures ∙ c.if-is_include.false)
