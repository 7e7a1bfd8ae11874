use Rattle.std.proofs.Common.{◌++◌, map, sym, ap, ◌∙◌, arith}
use Rattle.std.proofs.lemmas.List.{append-nil, take_all}
use Rattle.cc_model.specs.CheckedProgram.{cell_of}
use Rattle.input_map.specs.Laying.{spots, spots_of, at_block, found_in}
use Rattle.input_map.proofs.Steps.{push_step}
use Rattle.input_map.proofs.building.push_cells.Goals as goal

pub loop-cell-init : goal.loop-cell-init
loop-cell-init c = sym (append-nil (spots_of c.args.due.now))

pub loop-cell-preserved : goal.loop-cell-preserved
loop-cell-preserved c = c.in_ok-push_cell.ensures
    ∙ push_step (at_block (found_in (c.args.index.now).found) c.args.block) (spots_of c.args.due.now) (spots_of c.loop-cell.due) c.args.types.now c.loop-cell.cell _ (omega arith) c.loop-cell.invariant

pub returns : goal.returns
returns c = c.loop-cell.invariant ∙ ap (λ l. spots_of c.args.due.now ++ spots (at_block (found_in (c.args.index.now).found) c.args.block) 0 (map cell_of l)) (take_all c.loop-cell.cell c.args.types.now (omega arith))
