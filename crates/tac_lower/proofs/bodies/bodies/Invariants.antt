-- The bodies among the items from `left` on are noted.
use Rattle.std.proofs.Common.{◌≡◌, ◌≤◌, length, drop}
use Rattle.tac_lower.specs.Bodies.{AreBodies}
use Rattle.tac_lower.proofs.bodies.bodies.Given as goal

abbrev pub invariant-loop-left : goal.invariant-loop-left
invariant-loop-left l = record {
  within : l.left ≤ length l.items;
  noted : AreBodies l.checked l.items (drop l.left l.items) l.bodies;
  many : length l.bodies ≡ length (l.checked).funcs;
}

abbrev pub decreases-loop-left : goal.decreases-loop-left
decreases-loop-left l = l.left
