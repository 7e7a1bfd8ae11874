use Rattle.std.proofs.Common.{◌≡◌, ◌≤◌, ◌*◌, ◌^◌, ◌+ℤ◌, pos, drop, unsigned_abs}
use Rattle.cc_base.specs.Inequality.{total}
use Rattle.cc_base.specs.Witness.{changed}
use Rattle.linear_solver.specs.Seen.{at_places}
use Rattle.linear_solver.proofs.restore.left_of.Given as goal

abbrev pub invariant-loop-t : goal.invariant-loop-t
invariant-loop-t l = record {
  same : l.sum +ℤ total (changed (at_places l.values) l.place (pos 0)) (drop l.t-index l.t-items) ≡ total (changed (at_places l.values) l.place (pos 0)) l.t-items;
  bound : unsigned_abs l.sum ≤ l.t-index * 2 ^ 75;
}
