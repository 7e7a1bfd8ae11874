use Rattle.std.proofs.Common.{◌≡◌, take, map}
use Rattle.c_numbering.specs.Table.{ty_of}
use Rattle.c_numbering.proofs.table.Table.tys.Given as goal

abbrev pub invariant-loop-key : goal.invariant-loop-key
invariant-loop-key l = l.tys ≡ map ty_of (take l.key-index l.key-items)
