use Rattle.std.proofs.Common.{take}
use Rattle.c_numbering.specs.Sigs.{SigsNumbered}
use Rattle.c_numbering.proofs.sigs.sigs.Given as goal

abbrev pub invariant-loop-k : goal.invariant-loop-k
invariant-loop-k l = SigsNumbered l.fn.table l.table (take l.k l.functions) (take l.k l.slots) l.sigs
