-- The lists that are numbered are those of the file.
use Rattle.std.proofs.Common.{◌∙◌, ap, map}
use Rattle.cc_model.specs.declared.typing.Before.{Before}
use Rattle.cc_model.specs.declared.typing.Function.{Function}
use Rattle.cc_model.specs.Source.{text_at}
use Rattle.cc_model.specs.Scopes.{nothing_before, after_items}
use Rattle.cc_model.specs.CheckedProgram.{slots_in}
use Rattle.c_types.proofs.Assembly.{numbered_as}
use Rattle.c_types.proofs.resolved.numbered.Goals as goal

pub returns : goal.returns
returns c =
    let text = text_at c.args.source.now c.args.tokens.now in
    numbered_as c.number_types.result c.args.expressions.now c.args.declarations.now c.args.file.now
    c.globals.result.now (after_items text c.args.file.now.tags nothing_before c.args.items.now).globals
    c.as_slice.result.now (map (λ (f : Function). slots_in text c.args.file.now nothing_before f.name c.args.items.now) c.args.file.now.functions)
    (c.globals.ensures ∙ ap (λ (b : Before). b.globals) c.in_ok-before.ensures) (c.as_slice.ensures ∙ c.in_ok-locals.ensures) c.number_types.ensures
