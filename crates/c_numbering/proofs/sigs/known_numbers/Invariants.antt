use Rattle.std.proofs.Common.{take}
use Rattle.cc_model.specs.CheckedProgram.{known}
use Rattle.c_numbering.specs.Table.{AllNumbered}
use Rattle.c_numbering.proofs.sigs.known_numbers.Given as goal

abbrev pub invariant-loop-ty : goal.invariant-loop-ty
invariant-loop-ty l = AllNumbered l.fn.table l.table l.numbers (known (take l.ty-index l.types))
