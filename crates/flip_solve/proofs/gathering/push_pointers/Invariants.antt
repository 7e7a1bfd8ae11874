use Rattle.std.proofs.Common.{◌≡◌, ◌++◌, take}
use Rattle.sym_expr.specs.AtomsSeen.{atoms_of}
use Rattle.flip_solve.specs.Choosing.{pointers_of}
use Rattle.flip_solve.proofs.gathering.push_pointers.Given as goal

abbrev pub invariant-loop-atom : goal.invariant-loop-atom
invariant-loop-atom l = atoms_of l.pointers ≡ atoms_of l.initial.pointers ++ pointers_of (atoms_of (take l.atom-index l.atoms))
