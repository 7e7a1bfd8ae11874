use Rattle.std.proofs.Common.{◌∙◌, sym, ap, ◌*◌, ℤ}
use Rattle.std.proofs.lemmas.Int.{to_z-of_z}
use mir.Syntax.{w64}
use Rattle.cc_model.specs.Plain.{nat_of, offset}
use Rattle.sym_run.specs.Beside.{value_of}
use Rattle.sym_run.specs.Numbers.{number_at}
use Rattle.sym_run.proofs.NumberLaws.{word_fits}
use Rattle.sym_run.proofs.ActLaws.{index_asks, offset_cell}
use Rattle.sym_run.proofs.number_acts.index.Goals as goal

pub returns-clause-asked : goal.returns-clause-asked
returns-clause-asked c = index_asks c.args.symbols.now c.args.pointer c.args.i c.args.length c.args.width _ c.index_cell.ensures

pub returns-clause-value : goal.returns-clause-value
returns-clause-value c = λ e h.
    let n = to_z-of_z w64 c.number_of-number.result (word_fits _ c.number_of-number.ensures.word) ∙ c.number_of-number.ensures.number in
    let v = c.in_ok-value.ensures.value (sym c.index_of.ensures ∙ e) in
    offset_cell c.args.symbols.now c.args.pointer c.in_ok-value.value (nat_of (number_at c.args.i) * c.args.width)
    (v ∙ ap (λ (z : ℤ). offset (value_of c.args.pointer.value) (nat_of z * c.args.width)) n) h
