use Rattle.std.proofs.Common.{◌≡◌, ◌≤◌, drop, length}
use Rattle.cc_base.specs.Groups.{parts}
use Rattle.linear_solver.specs.Atoms.{seen_atoms}
use Rattle.linear_solver.specs.Parts.{all_backwards}
use Rattle.linear_solver.proofs.parts.parts_of.Given as goal

abbrev pub invariant-atoms : goal.invariant-atoms
invariant-atoms l = record {
  within : l.left ≤ length l.atoms;
  same : all_backwards l.out.items ≡ parts (seen_atoms (drop l.left l.atoms));
}

abbrev pub decreases-atoms : goal.decreases-atoms
decreases-atoms l = l.left
