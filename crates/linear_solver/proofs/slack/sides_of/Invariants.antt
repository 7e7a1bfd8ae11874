use Rattle.std.proofs.Common.{◌≡◌, ◌≤◌, drop}
use Rattle.linear_solver.specs.Seen.{seen_all}
use Rattle.linear_solver.specs.Sides.{sides_from, sides}
use Rattle.linear_solver.proofs.slack.sides_of.Given as goal

abbrev pub invariant-loop-i : goal.invariant-loop-i
invariant-loop-i l = record {
  lowers : l.all.lowers ≤ l.i-index;
  uppers : l.all.uppers ≤ l.i-index;
  same : sides_from l.place l.all (seen_all (drop l.i-index l.list)) ≡ sides l.place (seen_all l.list);
}
