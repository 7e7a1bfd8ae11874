use Rattle.std.proofs.Common.{◌∙◌, ◌<◌, ap, sym, subst, length, IfSome, position, bytes_eq}
use Rattle.c_names.proofs.IndexLemmas.{position_within}
use Rattle.c_names.proofs.name_index.NameIndex.position.Goals as goal

pub returns-clause-within : goal.returns-clause-within
returns-clause-within c =
    let found = c.place_of.ensures ∙ c.self.invariant c.args.name.now ∙ ap (position (bytes_eq c.args.name.now)) c.self.view_is in
    subst (λ z. IfSome z (λ n. n < length c.args.self.now)) (sym found) (position_within (bytes_eq c.args.name.now) c.args.self.now)
