use Rattle.std.proofs.Common.{◌≡◌, ◌∙◌, sym, subst, rules, pos, ◌≤ℤ◌}
use Rattle.command_words.specs.Words.{texts, IsGiven, min_option, max_option, objects_option, steps_option}
use Rattle.command_words.proofs.options.bounds_with.Goals as goal

pub returns-clause-bounds : goal.returns-clause-bounds
returns-clause-bounds c =
    let g = c.requires.given.1 in
    let lo : c.number_given-lo.result ≡ (c.requires.given.0).lo = c.number_given-lo.ensures (c.requires.given.0).lo g.lo in
    let hi : c.number_given-hi.result ≡ (c.requires.given.0).hi = c.number_given-hi.ensures (c.requires.given.0).hi g.hi in
    let lo_is : c.unwrap.result.lo ≡ c.number_given-lo.result = search rules in
    let hi_is : c.unwrap.result.hi ≡ c.number_given-hi.result = search rules in
    let objects_is : c.unwrap.result.objects ≡ c.natural_given-objects.result = search rules in
    let steps_is : c.unwrap.result.steps ≡ c.natural_given-steps.result = search rules in
    record {
      lo = subst (IsGiven (texts c.args.words.now) min_option) (sym (lo_is ∙ lo)) g.lo;
      hi = subst (IsGiven (texts c.args.words.now) max_option) (sym (hi_is ∙ hi)) g.hi;
      ordered = subst (λ z. z ≤ℤ c.unwrap.result.hi) (sym (lo_is ∙ lo)) (subst (λ z. (c.requires.given.0).lo ≤ℤ z) (sym (hi_is ∙ hi)) g.ordered);
      objects = subst (λ n. IsGiven (texts c.args.words.now) objects_option (pos n)) (sym objects_is) c.natural_given-objects.ensures;
      steps = subst (λ n. IsGiven (texts c.args.words.now) steps_option (pos n)) (sym steps_is) c.natural_given-steps.ensures;
    }
