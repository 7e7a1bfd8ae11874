use Rattle.std.proofs.Common.{◌+◌, ap, sym, ◌∙◌, slice_get, get_or, add-one}
use Rattle.std.proofs.lemmas.Option.{slice_get-get_or}
use Rattle.cc_base.specs.declared.cells.TyId.{TyId}
use Rattle.tac_lower.proofs.Tabled.{one_first}
use Rattle.tac_lower.proofs.tables.first_cells.Goals as goal

pub loop-ty-preserved : goal.loop-ty-preserved
loop-ty-preserved c =
    let none : TyId = record { 0 = 0 } in
    let test = c.loop-ty-test.true in
    let same = c.as_slice-ty-items.ensures in
    one_first c.args.checked.now c.loop-ty.ty-index (c.loop-ty.ty-index + 1) (get_or c.as_slice-ty-items.result.now c.loop-ty.ty-index none) c.loop-ty.each c.push.new.self c.loop-ty.all c.in_ok-all.all c.in_ok-more.more
    (add-one c.loop-ty.ty-index)
    (ap (λ l. slice_get l c.loop-ty.ty-index) (sym same) ∙ slice_get-get_or c.as_slice-ty-items.result.now c.loop-ty.ty-index none test)
    c.loop-ty.invariant c.in_ok-push.ensures.ok (c.in_ok-more.ensures.value ∙ c.cells_in.ensures) c.in_ok-all.ensures.value
