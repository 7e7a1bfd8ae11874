-- What each exit says of the options, from what was read of the pair.
use Rattle.std.proofs.Common.{◌∙◌, sym, ap, refl, subst, rules, ◌+◌, ◌≤◌, take, drop, length}
use Rattle.command_words.specs.Words.{texts, behind}
use Rattle.command_words.specs.Options.{seen, Fits}
use Rattle.command_words.proofs.NamedWords.{Words, if_none}
use Rattle.command_words.proofs.OptionReads.{texts_split, taken_length, read_name, read_again, read_end, read_value, read_order, read_pair, with_pair, pair_within, none_left, some_by, none_by}
use Rattle.command_words.proofs.options.+bad_option.Goals as goal

pub returns-in_err-name-clause-none : goal.returns-in_err-name-clause-none
returns-in_err-name-clause-none t c = if_none c.from_residual.result _ (λ table f. none_left (seen c.args.options.now) c.args.words.now c.args.at (sym c.later_words.ensures ∙ c.in_err-name.ensures.none) f)

pub returns-in_default-clause-some : goal.returns-in_default-clause-some
returns-in_default-clause-some t c table f = read_name (seen c.args.options.now) (texts c.args.words.now) (texts (take c.args.at c.args.words.now)) (texts_split c.args.words.now c.args.at) (taken_length c.args.words.now c.args.at c.requires) (sym c.later_words.ensures ∙ c.in_ok-name.ensures.some) (sym c.in_default.ensures) f

pub returns-then-not-is_new-clause-some : goal.returns-then-not-is_new-clause-some
returns-then-not-is_new-clause-some t c table f =
    read_again (seen c.args.options.now) (texts c.args.words.now) (texts (take c.args.at c.args.words.now)) (texts_split c.args.words.now c.args.at) (taken_length c.args.words.now c.args.at c.requires) (sym c.later_words.ensures ∙ c.in_ok-name.ensures.some) (sym c.in-Some.ensures)
    (λ h. cc (c.if-not-is_new.ensures.no (ap (λ (ws : Words). behind c.in_ok-name.name.word.now ws) c.first_words.ensures ∙ h))) f

pub returns-in_default-first_of-clause-some : goal.returns-in_default-first_of-clause-some
returns-in_default-first_of-clause-some t c table f = read_end (seen c.args.options.now) (texts c.args.words.now) (texts (take c.args.at c.args.words.now)) (texts_split c.args.words.now c.args.at) (taken_length c.args.words.now c.args.at c.requires) (sym c.later_words.ensures ∙ c.in_ok-name.ensures.some) (sym c.in-Some.ensures) (ap (λ (ws : Words). behind c.in_ok-name.name.word.now ws) (sym c.first_words.ensures) ∙ c.if-not-is_new.ensures.yes refl) table f c.in_default-first_of.ensures.none

pub returns-then-not-is_value-clause-some : goal.returns-then-not-is_value-clause-some
returns-then-not-is_value-clause-some t c table f = read_value (seen c.args.options.now) (texts c.args.words.now) (texts (take c.args.at c.args.words.now)) (texts_split c.args.words.now c.args.at) (taken_length c.args.words.now c.args.at c.requires) (sym c.later_words.ensures ∙ c.in_ok-name.ensures.some) (sym c.in-Some.ensures) (ap (λ (ws : Words). behind c.in_ok-name.name.word.now ws) (sym c.first_words.ensures) ∙ c.if-not-is_new.ensures.yes refl) table f c.in-Some-first_of.ensures.some (λ h. cc (c.if-not-is_value.ensures.no h))

pub first_words-requires-2 : goal.first_words-requires-2
first_words-requires-2 t c = pair_within c.args.words.now (texts (take c.args.at c.args.words.now)) (texts (drop c.args.at c.args.words.now)) _ _ _ _ c.args.at (texts_split c.args.words.now c.args.at) (taken_length c.args.words.now c.args.at c.requires) (sym c.later_words.ensures ∙ c.in_ok-name.ensures.some) c.in-Some-first_of.ensures.some

pub returns-then-not-is_ordered-clause-some : goal.returns-then-not-is_ordered-clause-some
returns-then-not-is_ordered-clause-some t c table f =
    read_order (seen c.args.options.now) (texts c.args.words.now) (texts (take c.args.at c.args.words.now)) (texts_split c.args.words.now c.args.at) (taken_length c.args.words.now c.args.at c.requires) (sym c.later_words.ensures ∙ c.in_ok-name.ensures.some) (sym c.in-Some.ensures) (ap (λ (ws : Words). behind c.in_ok-name.name.word.now ws) (sym c.first_words.ensures) ∙ c.if-not-is_new.ensures.yes refl) table f c.in-Some-first_of.ensures.some (c.if-not-is_value.ensures.yes refl)
    (c.first_words-2.ensures ∙ with_pair c.args.words.now (texts (take c.args.at c.args.words.now)) (texts (drop c.args.at c.args.words.now)) _ _ _ _ c.args.at (texts_split c.args.words.now c.args.at) (taken_length c.args.words.now c.args.at c.requires) (sym c.later_words.ensures ∙ c.in_ok-name.ensures.some) c.in-Some-first_of.ensures.some)
    (λ lo hi g h k. cc (c.if-not-is_ordered.ensures.no lo hi g h k))

pub bad_option-requires : goal.bad_option-requires
bad_option-requires t c =
    let within : c.args.at + 2 ≤ length c.args.words.now = pair_within c.args.words.now (texts (take c.args.at c.args.words.now)) (texts (drop c.args.at c.args.words.now)) _ _ _ _ c.args.at (texts_split c.args.words.now c.args.at) (taken_length c.args.words.now c.args.at c.requires) (sym c.later_words.ensures ∙ c.in_ok-name.ensures.some) c.in-Some-first_of.ensures.some in
    search (rules, within)

pub returns-clause-some : goal.returns-clause-some
returns-clause-some t c =
    some_by c.bad_option.result _ _ (λ n k table f. k table (subst (Fits (seen c.args.options.now)) c.first_words-2.ensures
    (read_pair (seen c.args.options.now) (texts c.args.words.now) (texts (take c.args.at c.args.words.now)) (texts_split c.args.words.now c.args.at) (taken_length c.args.words.now c.args.at c.requires) (sym c.later_words.ensures ∙ c.in_ok-name.ensures.some) (sym c.in-Some.ensures) (ap (λ (ws : Words). behind c.in_ok-name.name.word.now ws) (sym c.first_words.ensures) ∙ c.if-not-is_new.ensures.yes refl) table f c.in-Some-first_of.ensures.some (c.if-not-is_value.ensures.yes refl)
    (c.first_words-2.ensures ∙ with_pair c.args.words.now (texts (take c.args.at c.args.words.now)) (texts (drop c.args.at c.args.words.now)) _ _ _ _ c.args.at (texts_split c.args.words.now c.args.at) (taken_length c.args.words.now c.args.at c.requires) (sym c.later_words.ensures ∙ c.in_ok-name.ensures.some) c.in-Some-first_of.ensures.some)
    (c.if-not-is_ordered.ensures.yes refl)))) c.bad_option.ensures.some

pub returns-clause-none : goal.returns-clause-none
returns-clause-none t c =
    none_by c.bad_option.result _ _ (λ k table f. k table (subst (Fits (seen c.args.options.now)) c.first_words-2.ensures
    (read_pair (seen c.args.options.now) (texts c.args.words.now) (texts (take c.args.at c.args.words.now)) (texts_split c.args.words.now c.args.at) (taken_length c.args.words.now c.args.at c.requires) (sym c.later_words.ensures ∙ c.in_ok-name.ensures.some) (sym c.in-Some.ensures) (ap (λ (ws : Words). behind c.in_ok-name.name.word.now ws) (sym c.first_words.ensures) ∙ c.if-not-is_new.ensures.yes refl) table f c.in-Some-first_of.ensures.some (c.if-not-is_value.ensures.yes refl)
    (c.first_words-2.ensures ∙ with_pair c.args.words.now (texts (take c.args.at c.args.words.now)) (texts (drop c.args.at c.args.words.now)) _ _ _ _ c.args.at (texts_split c.args.words.now c.args.at) (taken_length c.args.words.now c.args.at c.requires) (sym c.later_words.ensures ∙ c.in_ok-name.ensures.some) c.in-Some-first_of.ensures.some)
    (c.if-not-is_ordered.ensures.yes refl)))) c.bad_option.ensures.none
