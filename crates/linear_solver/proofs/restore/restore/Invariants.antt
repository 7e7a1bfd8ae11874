use Rattle.std.proofs.Common.{◌≡◌, ◌≤◌, drop, length}
use Rattle.linear_solver.specs.Seen.{seen_turns, at_places}
use Rattle.cc_base.specs.Witness.{unwound, origin}
use Rattle.linear_solver.proofs.restore.restore.Given as goal

abbrev pub invariant-turns : goal.invariant-turns
invariant-turns l = record {
  within : l.left ≤ length l.trail;
  same : at_places l.values.items ≡ unwound (seen_turns (drop l.left l.trail)) origin;
}

abbrev pub decreases-turns : goal.decreases-turns
decreases-turns l = l.left
