use Rattle.std.proofs.Common.{◌≡◌, ◌∙◌, ◌++◌, ap, OnOk, None}
use Rattle.cc_model.specs.Source.{text_at}
use Rattle.cc_model.specs.Typing.{judged}
use Rattle.cc_model.specs.Faults.{simple_notes}
use Rattle.c_rules.specs.Views.{here}
use Rattle.c_scopes.specs.Places.{place}
use Rattle.c_scopes.proofs.Going.{on_ok}
use Rattle.c_rules.proofs.StatementLaws.{simple_here}
use Rattle.c_rules.proofs.BodyLaws.{seen_as}
use Rattle.c_rules.proofs.bodies.Body.simple.Goals as goal

pub returns : goal.returns
returns c = on_ok c.simple.result (seen_as (λ text file before scopes. OnOk c.simple.result (c.simple.new.notes ≡ c.args.notes.now ++ simple_notes (judged text) text file before None c.args.simple.now (here scopes))) _ c.args.self.now.view.source.now _ c.args.self.now.view.tokens.now _ c.args.self.now.view.file.now _ c.args.self.now.view.before.now _ c.args.inside.now.scopes
    c.with_scopes-view.ensures.source c.with_scopes-view.ensures.tokens c.with_scopes-view.ensures.file c.with_scopes-view.ensures.before (c.with_scopes-view.ensures.scopes ∙ c.as_slice.ensures)
    c.simple.ensures) (λ h. h ∙ ap (λ l. c.args.notes.now ++ l) (simple_here (text_at c.args.self.now.view.source.now c.args.self.now.view.tokens.now) c.args.self.now.view.file.now c.args.self.now.view.before.now c.args.self.now.gives.now c.args.simple.now (place c.args.inside.now)))
