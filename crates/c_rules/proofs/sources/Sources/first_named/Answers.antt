use Rattle.std.proofs.Common.{◌∙◌, sym, Some, None}
use Rattle.cc_model.specs.Source.{text_at}
use Rattle.c_rules.specs.declared.locals.Locals.{Locals}
use Rattle.c_rules.proofs.FoundLemmas.{found_named}
use Rattle.c_rules.proofs.sources.Sources.first_named.Goals as goal

pub returns-in-Some : goal.returns-in-Some
returns-in-Some c =
    c.at.ensures ∙ found_named c.args.name.now (λ (b : Locals). text_at c.args.self.now.source.now c.args.self.now.tokens.now b.name) c.args.bodies.now c.args.names.now c.requires.named (Some c.in-Some.place) (sym c.in-Some.is ∙ c.position.ensures.value)

pub returns-in-None : goal.returns-in-None
returns-in-None c =
    found_named c.args.name.now (λ (b : Locals). text_at c.args.self.now.source.now c.args.self.now.tokens.now b.name) c.args.bodies.now c.args.names.now c.requires.named None (sym c.in-None.is ∙ c.position.ensures.value)
