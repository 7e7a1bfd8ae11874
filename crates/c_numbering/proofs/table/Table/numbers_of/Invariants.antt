use Rattle.std.proofs.Common.{take}
use Rattle.c_numbering.specs.Table.{AllNumbered}
use Rattle.c_numbering.proofs.table.Table.numbers_of.Given as goal

abbrev pub invariant-loop-ty : goal.invariant-loop-ty
invariant-loop-ty l = AllNumbered l.fn.self l.self l.numbers (take l.ty-index l.types)
