use Rattle.std.proofs.Common.{◌∙◌, sym, ap}
use Rattle.std.specs.Option.{option_copied}
use Rattle.c_rules.proofs.FirstLemmas.{place_some, place_none}
use Rattle.c_rules.proofs.view.View.field_found.Goals as goal

pub returns-in-Some : goal.returns-in-Some
returns-in-Some c = place_some c.args.name.now c.args.self.now.file.now.structs c.as_slice.result.now c.args.number c.in-Some.names.now c.position.result (c.as_slice.ensures ∙ c.args.self.now.field_names)
    (sym c.at.ensures ∙ ap option_copied c.in-Some.is) c.position.ensures.value

pub returns-in-None : goal.returns-in-None
returns-in-None c = place_none c.args.name.now c.args.self.now.file.now.structs c.as_slice.result.now c.args.number (c.as_slice.ensures ∙ c.args.self.now.field_names)
    (sym c.at.ensures ∙ ap option_copied c.in-None.is)
