use Rattle.std.proofs.Common.{◌∙◌, ap, [], slice_get, unwrap_or}
use Rattle.c_scopes.proofs.FieldLemmas.{offset_is}
use Rattle.c_rules.proofs.view.View.offset_at.Goals as goal

pub returns : goal.returns
returns c =
    c.offset_in.ensures ∙ ap (λ z. unwrap_or (slice_get (unwrap_or (slice_get z c.args.number) []) c.args.place) 0) (c.as_slice.ensures ∙ c.args.self.now.field_offsets)
    ∙ offset_is c.args.self.now.file.now.sizes c.args.self.now.file.now.structs c.args.number c.args.place c.requires
