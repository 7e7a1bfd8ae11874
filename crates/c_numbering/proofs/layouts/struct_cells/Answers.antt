use Rattle.c_numbering.proofs.CellLemmas.{fields_step}
use Rattle.c_numbering.proofs.layouts.struct_cells.Goals as goal

pub loop-field-preserved : goal.loop-field-preserved
loop-field-preserved c = fields_step c.args.structs.now c.args.table.now c.loop-field.table c.add_field.new.table c.loop-field.cells c.add_field.new.cells c.args.fields.now c.loop-field.field-index c.field-item.result
    c.loop-field-test.true c.field-item.is c.loop-field.invariant c.in_ok-add_field.ensures
