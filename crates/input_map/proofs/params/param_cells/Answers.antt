use Rattle.std.proofs.Common.{◌≡◌, ◌≤◌, ℕ, map, take, length, [], List, sym, ap, ◌∙◌, arith}
use Rattle.std.proofs.lemmas.List.{take_all}
use Rattle.cc_base.specs.declared.cells.CellTy.{CellTy}
use Rattle.cc_model.specs.Core.{Cell}
use Rattle.cc_model.specs.declared.trees.Param.{Param}
use Rattle.cc_model.specs.CheckedProgram.{cell_of}
use Rattle.input_map.proofs.ParamLaws.{no_sig, no_body, with_body, param_in}
use Rattle.input_map.proofs.params.param_cells.Goals as goal

empty : (l : List CellTy) → l ≡ [] → map cell_of l ≡ []
empty l e = ap (map cell_of) e

all : (f : Param → Cell) (cs : List Cell) (i : ℕ) (l ps : List Param) → length l ≤ i → l ≡ ps → cs ≡ map f (take i l) → cs ≡ map f ps
all f cs i l ps h e g = g ∙ ap (map f) (take_all i l h ∙ e)

pub returns-in_default : goal.returns-in_default
returns-in_default c = empty _ c.new-cells.ensures ∙ sym (no_sig c.args.checked.now (sym c.in_default.ensures.value))

pub returns-in_default-entry_body : goal.returns-in_default-entry_body
returns-in_default-entry_body c = empty _ c.new-cells.ensures ∙ sym (no_body c.args.checked.now c.in-Some.sig.now (sym c.in-Some.ensures.value) (sym c.in_default-entry_body.ensures))

pub returns : goal.returns
returns c = all (param_in c.args.checked.now c.in-Some.sig.now) _ c.loop-param.param-index c.as_slice-param-items.result.now _ (omega arith) c.as_slice-param-items.ensures c.loop-param.invariant
    ∙ sym (with_body c.args.checked.now c.in-Some.sig.now c.in-Some-entry_body.function.now (sym c.in-Some.ensures.value) (sym c.in-Some-entry_body.ensures))
