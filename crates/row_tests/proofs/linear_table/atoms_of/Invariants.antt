use Rattle.std.proofs.Common.{◌-◌, length}
use Rattle.linear_solver.specs.Answers.{BelowAll}
use Rattle.linear_solver.specs.Atoms.{seen_atoms, FitAll}
use Rattle.row_tests.proofs.linear_table.atoms_of.Given as goal

abbrev pub invariant-atoms : goal.invariant-atoms
invariant-atoms l = record {
  fit : FitAll (seen_atoms l.atoms.items);
  below : BelowAll 3 (seen_atoms l.atoms.items);
}

abbrev pub decreases-atoms : goal.decreases-atoms
decreases-atoms l = length l.row - l.at
