-- The lists that are numbered are those of the program.
use Rattle.std.proofs.Common.{◌∙◌, refl, map}
use Rattle.cc_model.specs.declared.typing.Function.{Function}
use Rattle.cc_model.specs.Source.{text_at}
use Rattle.cc_model.specs.Scopes.{nothing_before, after_items}
use Rattle.cc_model.specs.CheckedProgram.{slots_in}
use Rattle.c_types.proofs.Assembly.{numbered_types}
use Rattle.c_types.proofs.resolved.types_by_number.Goals as goal

pub returns : goal.returns
returns c =
    let text = text_at c.args.source.now c.args.tokens.now in
    numbered_types c.numbered.result text c.args.items.now c.as_slice.result.now c.as_slice-2.result.now c.args.file.now
    (after_items text c.args.file.now.tags nothing_before c.args.items.now).globals
    (map (λ (f : Function). slots_in text c.args.file.now nothing_before f.name c.args.items.now) c.args.file.now.functions) c.args.notes.now
    (c.as_slice.ensures ∙ c.in_ok-expressions.ensures) (c.as_slice-2.ensures ∙ c.in_ok-declarations.ensures) c.requires.files
    refl refl c.requires.said c.requires.well_typed c.numbered.ensures
