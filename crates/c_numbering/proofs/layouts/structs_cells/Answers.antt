use Rattle.c_numbering.proofs.CellLemmas.{structs_step}
use Rattle.c_numbering.proofs.layouts.structs_cells.Goals as goal

pub loop-fields-preserved : goal.loop-fields-preserved
loop-fields-preserved c = structs_step c.args.table.now c.loop-fields.table c.struct_cells.new.table c.loop-fields.layouts c.as_slice.result.now c.push.new.self c.in_ok-cells.cells c.args.structs.now c.loop-fields.fields-index c.fields-item.result c.as_slice-in-loop-fields.result.now
    c.loop-fields-test.true c.fields-item.is c.as_slice-in-loop-fields.ensures c.as_slice.ensures c.in_ok-push.ensures.ok c.loop-fields.invariant c.in_ok-cells.ensures
