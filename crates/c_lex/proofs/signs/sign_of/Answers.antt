use Rattle.std.proofs.Common.{ℕ, ◌<◌, Option, ap, sym, subst, ◌∙◌}
use Rattle.std.specs.Prelude.{option_map, IfSome}
use Rattle.cc_model.specs.declared.tokens.Punct.{Punct}
use Rattle.cc_model.specs.Lexical.{signs}
use Rattle.c_lex.specs.Tables.{sized}
use Rattle.c_lex.proofs.Tables.{first_sign, sign_some, some_both}
use Rattle.c_lex.proofs.signs.sign_of.Goals as goal

pub returns-clause-value : goal.returns-clause-value
unfolding signs
returns-clause-value c = c.first_of.ensures.value ∙ ap (option_map sized) (sym (first_sign c.args.bytes.now))

pub returns-clause-within : goal.returns-clause-within
unfolding signs
returns-clause-within c =
    let IsSome : Option (Punct × ℕ) → Type 0 = λ o. IfSome o (λ s. 0 < s.1) in
    some_both c.first_of.result _ (subst IsSome (sym (returns-clause-value c)) (sign_some c.args.bytes.now)) c.first_of.ensures.within
