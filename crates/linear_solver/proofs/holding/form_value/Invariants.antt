use Rattle.std.proofs.Common.{◌≡◌, ◌≤◌, ◌*◌, ◌^◌, ◌+ℤ◌, drop, unsigned_abs}
use Rattle.cc_base.specs.Inequality.{total}
use Rattle.linear_solver.specs.Seen.{at_places}
use Rattle.linear_solver.proofs.holding.form_value.Given as goal

abbrev pub invariant-loop-t : goal.invariant-loop-t
invariant-loop-t l = record {
  same : l.sum +ℤ total (at_places l.values) (drop l.t-index l.t-items) ≡ total (at_places l.values) l.t-items;
  bound : unsigned_abs l.sum ≤ l.t-index * 2 ^ 75;
}
