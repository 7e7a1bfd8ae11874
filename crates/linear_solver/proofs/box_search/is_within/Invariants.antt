use Rattle.std.proofs.Common.{◌≡◌, ◌*◌, ◌^◌, ◌<◌}
use Rattle.linear_solver.proofs.box_search.is_within.Given as goal

abbrev pub invariant-loop : goal.invariant-loop
invariant-loop l = record {
  same : l.work ≡ l.count * l.width ^ l.counter;
  small : l.work < 2 ^ 97;
}
