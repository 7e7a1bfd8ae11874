use Rattle.std.proofs.Common.{take}
use Rattle.sym_expr.specs.AtomsSeen.{atoms_of}
use Rattle.slice_solve.specs.Joins.{met}
use Rattle.slice_solve.specs.Linear.{AreLinear}
use Rattle.slice_solve.proofs.slice.met_of.Given as goal

abbrev pub invariant-loop-atom : goal.invariant-loop-atom
invariant-loop-atom l = AreLinear (met l.classes (atoms_of (take l.atom-index l.condition))) l.out.items
