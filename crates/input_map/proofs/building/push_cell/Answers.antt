use Rattle.std.proofs.Common.{◌++◌, ◌∷◌, [], ap, ◌∙◌}
use Rattle.cc_model.specs.CheckedProgram.{cell_of}
use Rattle.input_map.specs.Laying.{spots_of}
use Rattle.input_map.proofs.Filled.{spots_of_append}
use Rattle.input_map.proofs.building.push_cell.Goals as goal

pub returns : goal.returns
returns c = ap spots_of c.in_ok-push.ensures.ok ∙ spots_of_append c.args.due.now _
    ∙ ap (λ o. spots_of c.args.due.now ++ record { cell = cell_of c.args.ty; place = o } ∷ []) c.place_in-place.ensures
