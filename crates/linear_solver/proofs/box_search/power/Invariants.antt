use Rattle.std.proofs.Common.{◌≡◌, ◌*◌, ◌^◌}
use Rattle.linear_solver.proofs.box_search.power.Given as goal

abbrev pub invariant-loop : goal.invariant-loop
invariant-loop l = l.work ≡ 1 * l.width ^ l.counter
