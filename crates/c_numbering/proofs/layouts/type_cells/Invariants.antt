use Rattle.std.proofs.Common.{drop}
use Rattle.c_numbering.specs.Layouts.{TypeLaid}
use Rattle.c_numbering.proofs.layouts.type_cells.Given as goal

abbrev pub invariant-loop-k : goal.invariant-loop-k
invariant-loop-k l = TypeLaid l.fn.structs l.fn.table l.table l.cells (record { base = (l.fn.ty).base; stars = (l.fn.ty).stars; lengths = drop l.k (l.fn.ty).lengths })
