use Rattle.std.proofs.Common.{◌≡◌, ◌+◌, ◌++◌, length, take}
use Rattle.sym_expr.specs.AtomsSeen.{side_of, atoms_of}
use Rattle.sym_expr.specs.TermsSeen.{multiples_of}
use Rattle.slice_solve.specs.Joins.{joined_to}
use Rattle.slice_solve.proofs.joins.join_to.Given as goal

abbrev pub invariant-loop-term : goal.invariant-loop-term
invariant-loop-term l = record {
  joined : atoms_of l.joins.items ≡ atoms_of l.initial.joins.items ++ joined_to (side_of l.side) (multiples_of (take l.term-index l.terms));
  len : length l.joins.items ≡ length l.initial.joins.items + l.term-index;
}
