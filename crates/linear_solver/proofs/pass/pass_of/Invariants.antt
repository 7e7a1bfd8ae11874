use Rattle.std.proofs.Common.{◌≡◌, ◌≤◌, ◌+◌, ◌++◌}
use Rattle.cc_base.specs.Pass.{turns, pass}
use Rattle.linear_solver.specs.Ordered.{SafeAll}
use Rattle.linear_solver.specs.Seen.{seen_all, seen_turns, counted}
use Rattle.linear_solver.specs.Trail.{trail_of}
use Rattle.linear_solver.proofs.pass.pass_of.Given as goal

abbrev pub invariant-turns : goal.invariant-turns
invariant-turns l = record {
  within : l.used ≤ l.budget;
  safe : SafeAll (seen_all l.rest.items);
  same : counted l.used l.budget (turns l.mode l.left (seen_all l.rest.items)) ≡ counted l.fn.spent l.budget (pass l.mode l.n (seen_all l.fn.list.items));
  trail : seen_turns l.trail.items ++ trail_of l.mode l.left (seen_all l.rest.items) ≡ trail_of l.mode (l.n + 1) (seen_all l.fn.list.items);
}

abbrev pub decreases-turns : goal.decreases-turns
decreases-turns l = l.left
