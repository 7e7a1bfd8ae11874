use Rattle.std.proofs.Common.{◌≡◌, ◌≤◌, ℕ, map, take, length, List, sym, ap, ◌∙◌, arith}
use Rattle.std.proofs.lemmas.List.{take_all}
use Rattle.cc_base.specs.declared.cells.CellTy.{CellTy}
use Rattle.cc_model.specs.Core.{Cell}
use Rattle.cc_model.specs.declared.trees.Param.{Param}
use Rattle.cc_model.specs.CheckedProgram.{cell_of}
use Rattle.sym_run.proofs.ParamLaws.{no_body, with_body, param_in}
use Rattle.sym_run.proofs.params.param_types.Goals as goal

all : (f : Param → Cell) (cs : List Cell) (i : ℕ) (l ps : List Param) → length l ≤ i → l ≡ ps → cs ≡ map f (take i l) → cs ≡ map f ps
all f cs i l ps h e g = g ∙ ap (map f) (take_all i l h ∙ e)

pub returns-in_default-body : goal.returns-in_default-body
returns-in_default-body c =
    let n = no_body c.args.checked.now c.args.number c.in-Some.sig.now (sym c.in-Some.ensures.value) (sym c.in_default-body.ensures) in
    (n.0, n.1, ap (λ (l : List CellTy). map cell_of l) c.new-types.ensures ∙ sym n.2)

pub returns : goal.returns
returns c =
    let n = with_body c.args.checked.now c.args.number c.in-Some.sig.now c.in-Some-body.function.now (sym c.in-Some.ensures.value) (sym c.in-Some-body.ensures) in
    (n.0, n.1, all (param_in c.args.checked.now c.args.number c.in-Some.sig.now) _ c.loop-param.param-index c.as_slice-param-items.result.now _ (omega arith) c.as_slice-param-items.ensures c.loop-param.invariant ∙ sym n.2)
