use Rattle.std.proofs.Common.{Ok, ap, sym, ◌∙◌, rules, w32, length, SFits}
use Rattle.std.proofs.lemmas.Int.{to_z-of_z}
use Rattle.cc_model.specs.declared.tokens.Kind.TheVariants.{Number}
use Rattle.cc_model.specs.Lexical.{lexeme}
use Rattle.c_lex.proofs.Fronts.{number_found, number_missing}
use Rattle.c_lex.proofs.pieces.number_at.Goals as goal

pub returns-in-Some-clause-exact : goal.returns-in-Some-clause-exact
unfolding lexeme
returns-in-Some-clause-exact c =
    let fits : SFits w32 c.in-Some.value = search rules in
    number_found c.args.at c.args.text.now c.in-Some.value c.in-Some.ensures ∙ ap (λ z. Ok (lexeme (Number z) (length c.args.text.now))) (sym (to_z-of_z w32 c.in-Some.value fits))

pub returns-in-None-clause-exact : goal.returns-in-None-clause-exact
returns-in-None-clause-exact c = number_missing c.args.at c.args.text.now c.in-None.ensures
