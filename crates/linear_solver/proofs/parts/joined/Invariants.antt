use Rattle.std.proofs.Common.{◌≡◌, ◌≤◌, drop, reverse, length}
use Rattle.cc_base.specs.Groups.{touching}
use Rattle.linear_solver.specs.Parts.{all_backwards}
use Rattle.linear_solver.proofs.parts.joined.Given as goal

abbrev pub invariant-parts : goal.invariant-parts
invariant-parts l = record {
  within : l.left ≤ length l.parts;
  same : reverse l.out.items ≡ touching (reverse l.p) (all_backwards (drop l.left l.parts));
}

abbrev pub decreases-parts : goal.decreases-parts
decreases-parts l = l.left
