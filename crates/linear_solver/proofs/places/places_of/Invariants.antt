use Rattle.std.proofs.Common.{◌≡◌, ◌≤◌, drop, length, reverse}
use Rattle.cc_base.specs.Groups.{places_in}
use Rattle.linear_solver.specs.Atoms.{seen_atoms}
use Rattle.linear_solver.proofs.places.places_of.Given as goal

abbrev pub invariant-atoms : goal.invariant-atoms
invariant-atoms l = record {
  within : l.left ≤ length l.atoms;
  same : reverse l.out.items ≡ places_in (seen_atoms (drop l.left l.atoms));
}

abbrev pub decreases-atoms : goal.decreases-atoms
decreases-atoms l = l.left
