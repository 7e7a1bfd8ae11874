use Rattle.std.proofs.Common.{◌∙◌, ap, is_some, position, bytes_eq}
use Rattle.c_names.proofs.IndexLemmas.{any_position}
use Rattle.c_names.proofs.name_index.NameIndex.has.Goals as goal

pub returns : goal.returns
returns c = c.is_some.ensures ∙ ap is_some (c.place_of.ensures ∙ c.self.invariant c.args.name.now ∙ ap (position (bytes_eq c.args.name.now)) c.self.view_is) ∙ any_position (bytes_eq c.args.name.now) c.args.self.now
