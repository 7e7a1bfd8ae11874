use Rattle.std.proofs.Common.{List, ◌++◌, take}
use Rattle.cc_base.specs.Forms.{Atom}
use Rattle.sym_expr.specs.AtomsSeen.{atoms_of}
use Rattle.slice_solve.specs.Linear.{AreLinear}
use Rattle.slice_solve.proofs.linear.push_linear.Given as goal

abbrev pub invariant-loop-atom : goal.invariant-loop-atom
invariant-loop-atom l = (k : List Atom) → AreLinear k l.initial.out.items → AreLinear (k ++ atoms_of (take l.atom-index l.atoms)) l.out.items
