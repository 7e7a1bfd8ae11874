use Rattle.std.proofs.Common.{◌≡◌, ◌∙◌, ◌++◌, OnOk}
use Rattle.cc_model.specs.Typing.{judged}
use Rattle.cc_model.specs.Faults.{tested}
use Rattle.c_rules.specs.Views.{seen}
use Rattle.c_rules.proofs.BodyLaws.{seen_as}
use Rattle.c_rules.proofs.bodies.Body.test.Goals as goal

pub returns : goal.returns
returns c = seen_as (λ text file before scopes. OnOk c.test.result (c.test.new.notes ≡ c.args.notes.now ++ tested c.args.t (judged text (seen file before scopes) c.args.value.now))) _ c.args.self.now.view.source.now _ c.args.self.now.view.tokens.now _ c.args.self.now.view.file.now _ c.args.self.now.view.before.now _ c.args.inside.now.scopes
    c.with_scopes-view.ensures.source c.with_scopes-view.ensures.tokens c.with_scopes-view.ensures.file c.with_scopes-view.ensures.before (c.with_scopes-view.ensures.scopes ∙ c.as_slice.ensures)
    c.test.ensures
