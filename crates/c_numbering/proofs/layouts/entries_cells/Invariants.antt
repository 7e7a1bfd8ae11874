use Rattle.std.proofs.Common.{◌≡◌, [], drop}
use Rattle.c_numbering.specs.Layouts.{entries_cells}
use Rattle.c_numbering.proofs.layouts.entries_cells.Given as goal

abbrev pub invariant-loop-ty : goal.invariant-loop-ty
invariant-loop-ty l = entries_cells l.structs l.layouts (drop l.ty-index l.tys) ≡ entries_cells l.fn.structs [] l.fn.tys
