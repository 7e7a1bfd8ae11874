use Rattle.std.proofs.Common.{drop}
use Rattle.c_numbering.specs.Table.{Numbered}
use Rattle.c_numbering.proofs.table.Table.number_of.Given as goal

abbrev pub invariant-loop-k : goal.invariant-loop-k
invariant-loop-k l = Numbered l.fn.self l.self (l.number).0 (record { base = (l.fn.ty).base; stars = (l.fn.ty).stars; lengths = drop l.k (l.fn.ty).lengths })
