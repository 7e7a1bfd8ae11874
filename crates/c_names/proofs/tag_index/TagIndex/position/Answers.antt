use Rattle.std.proofs.Common.{◌≡◌, ◌∙◌, ◌<◌, ap, sym, subst, length, IfSome}
use Rattle.cc_model.specs.Scopes.{has_tag, tag_in}
use Rattle.c_names.proofs.IndexLemmas.{position_within}
use Rattle.c_names.proofs.tag_index.TagIndex.position.Goals as goal

pub returns-clause-value : goal.returns-clause-value
returns-clause-value c = c.place_of.ensures ∙ c.self.invariant c.args.name.now ∙ ap (λ z. tag_in c.args.name.now z) c.self.view_is

pub returns-clause-within : goal.returns-clause-within
returns-clause-within c =
    let found = c.place_of.ensures ∙ c.self.invariant c.args.name.now ∙ ap (λ z. tag_in c.args.name.now z) c.self.view_is in
    subst (λ z. IfSome z (λ n. n < length c.args.self.now)) (sym found) (position_within (has_tag c.args.name.now) c.args.self.now)
