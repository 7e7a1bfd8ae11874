use Rattle.std.proofs.Common.{◌≡◌, ◌∙◌, List, IfOk, subst}
use Rattle.cc_model.specs.declared.typing.CType.{CType}
use Rattle.cc_model.specs.Source.{text_at}
use Rattle.cc_model.specs.Scopes.{nothing_before}
use Rattle.c_rules.proofs.LocalLaws.{by_bodies}
use Rattle.c_rules.proofs.sources.Sources.locals.Goals as goal

pub returns : goal.returns
returns c =
    let P : List (List CType) → Type 0 = λ m. IfOk c.locals_by.result (λ l. l ≡ m) in
    subst P (by_bodies (text_at c.args.self.now.source.now c.args.self.now.tokens.now) c.args.self.now.file.now nothing_before c.args.items.now c.as_slice.result.now (c.as_slice.ensures ∙ c.in_ok-bodies.ensures)) c.locals_by.ensures
