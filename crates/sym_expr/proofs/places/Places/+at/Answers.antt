use Rattle.std.proofs.Common.{◌∙◌, ap, ap₂, rules, SFits, ℤ, List, Some, slice_get, unwrap_or}
use Rattle.std.proofs.lemmas.Int.{to_z-of_z}
use mir.Syntax.{w32, w64}
use Rattle.cc_base.specs.Places.{at_place, cell_behind}
use Rattle.sym_expr.specs.declared.places.Place.TheVariants.{Arg, Field, Stream}
use Rattle.sym_expr.proofs.PlaceSteps.{at_missing, at_there, there_arg, there_stream, there_none, there_field}
use Rattle.sym_expr.proofs.places.Places.+at.Goals as goal

pub returns-in_err-place : goal.returns-in_err-place
returns-in_err-place t c = c.from_residual.ensures
    ∙ at_missing c.args.self.now c.args.input.now c.args.base c.args.id.0 c.get.ensures.parents c.get.result c.get.ensures.value c.in_err-place.was

pub returns-in_err-at-in-Field : goal.returns-in_err-at-in-Field
returns-in_err-at-in-Field t c =
    let s = c.args.self.now in let i = c.args.input.now in let b = c.args.base in
    c.from_residual-in_err-at-in-Field.ensures
    ∙ there_none (at_place s i b) i b c.in-Field.parent c.in-Field.cell (c.in_err-at-in-Field.ensures ∙ ap (λ (z : ℤ). at_place s i z c.in-Field.parent.0) (to_z-of_z w32 b c.ranges.base))
    ∙ at_there s i b c.args.id.0 c.get.ensures.parents c.get.result c.get.ensures.value c.in_ok-place.place c.in_ok-place.field-0-1 (Field c.in-Field.parent c.in-Field.cell) c.in_ok-place.was c.in-Field.is

pub returns-in-Arg : goal.returns-in-Arg
returns-in-Arg t c =
    let s = c.args.self.now in let i = c.args.input.now in let b = c.args.base in
    c.number_at.ensures ∙ ap (λ (l : List ℤ). slice_get l c.in-Arg.cell) c.as_slice.ensures ∙ there_arg (at_place s i b) i b c.in-Arg.cell
    ∙ at_there s i b c.args.id.0 c.get.ensures.parents c.get.result c.get.ensures.value c.in_ok-place.place c.in_ok-place.field-0-1 (Arg c.in-Arg.cell) c.in_ok-place.was c.in-Arg.is

pub returns-in_ok-at-in-Field : goal.returns-in_ok-at-in-Field
returns-in_ok-at-in-Field t c =
    let s = c.args.self.now in let i = c.args.input.now in let b = c.args.base in
    let a = c.in_ok-at-in-Field.field-0 in
    let f : SFits w64 a = search rules in
    c.cell_from.ensures ∙ ap₂ (λ (l : List ℤ) (z : ℤ). cell_behind l z c.in-Field.cell) c.as_slice-in-Field.ensures (to_z-of_z w64 a f)
    ∙ there_field (at_place s i b) i b c.in-Field.parent c.in-Field.cell a (c.in_ok-at-in-Field.ensures ∙ ap (λ (z : ℤ). at_place s i z c.in-Field.parent.0) (to_z-of_z w32 b c.ranges.base))
    ∙ at_there s i b c.args.id.0 c.get.ensures.parents c.get.result c.get.ensures.value c.in_ok-place.place c.in_ok-place.field-0-1 (Field c.in-Field.parent c.in-Field.cell) c.in_ok-place.was c.in-Field.is

pub returns-in-Stream : goal.returns-in-Stream
returns-in-Stream t c =
    let s = c.args.self.now in let i = c.args.input.now in let b = c.args.base in
    let f : SFits w64 c.number_or.result = search rules in
    ap (λ (z : ℤ). Some z) (to_z-of_z w64 c.number_or.result f ∙ c.number_or.ensures
    ∙ ap₂ (λ (l : List ℤ) (z : ℤ). unwrap_or (slice_get l c.in-Stream.number) z) c.as_slice-in-Stream.ensures (to_z-of_z w32 b c.ranges.base))
    ∙ there_stream (at_place s i b) i b c.in-Stream.number
    ∙ at_there s i b c.args.id.0 c.get.ensures.parents c.get.result c.get.ensures.value c.in_ok-place.place c.in_ok-place.field-0-1 (Stream c.in-Stream.number) c.in_ok-place.was c.in-Stream.is
