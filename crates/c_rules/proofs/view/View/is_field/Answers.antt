use Rattle.std.proofs.Common.{◌∙◌, sym, ap, true, false, is_some}
use Rattle.std.specs.Option.{option_copied}
use Rattle.cc_model.specs.Source.{text_at}
use Rattle.c_rules.proofs.FirstLemmas.{has_field}
use Rattle.c_rules.proofs.view.View.is_field.Goals as goal

pub returns-in-Some : goal.returns-in-Some
returns-in-Some c = has_field (text_at c.args.self.now.source.now c.args.self.now.tokens.now c.args.name) c.text.result.now c.args.earlier.now true c.text.ensures
    (ap (λ z. is_some (option_copied z)) (sym c.in-Some.is) ∙ ap is_some c.find.ensures)

pub returns-in-None : goal.returns-in-None
returns-in-None c = has_field (text_at c.args.self.now.source.now c.args.self.now.tokens.now c.args.name) c.text.result.now c.args.earlier.now false c.text.ensures
    (ap (λ z. is_some (option_copied z)) (sym c.in-None.is) ∙ ap is_some c.find.ensures)
