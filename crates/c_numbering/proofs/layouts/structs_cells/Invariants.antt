use Rattle.std.proofs.Common.{take}
use Rattle.c_numbering.specs.Layouts.{StructsLaid}
use Rattle.c_numbering.proofs.layouts.structs_cells.Given as goal

abbrev pub invariant-loop-fields : goal.invariant-loop-fields
invariant-loop-fields l = StructsLaid l.fn.table l.table l.layouts (take l.fields-index l.structs)
