use Rattle.std.proofs.Common.{◌≡◌, ◌+◌, ◌*◌, ◌≤◌, ◌++◌, length, take}
use Rattle.sym_expr.specs.AtomsSeen.{atoms_of}
use Rattle.slice_solve.specs.Joins.{all_joined}
use Rattle.slice_solve.proofs.joins.join_all.Given as goal

abbrev pub invariant-loop-atom : goal.invariant-loop-atom
invariant-loop-atom l = record {
  joined : atoms_of l.joins.items ≡ atoms_of l.initial.joins.items ++ all_joined (atoms_of (take l.atom-index l.condition));
  len : length l.joins.items ≤ length l.initial.joins.items + 16 * l.atom-index;
}
