use Rattle.std.proofs.Common.{take, []}
use Rattle.c_numbering.specs.Layouts.{FieldsLaid}
use Rattle.c_numbering.proofs.layouts.struct_cells.Given as goal

abbrev pub invariant-loop-field : goal.invariant-loop-field
invariant-loop-field l = FieldsLaid l.fn.structs l.fn.table l.table [] l.cells (take l.field-index l.fields)
