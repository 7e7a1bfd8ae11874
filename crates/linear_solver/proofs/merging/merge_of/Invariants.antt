use Rattle.std.proofs.Common.{◌≡◌, ◌≤◌, ◌+◌, ◌-◌, ◌++◌, drop, length}
use Rattle.cc_base.specs.Inequality.{merge, scaled}
use Rattle.linear_solver.proofs.merging.merge_of.Given as goal

abbrev pub invariant-terms : goal.invariant-terms
invariant-terms l = record {
  left : l.i ≤ length l.p;
  right : l.j ≤ length l.q;
  made : l.out.items ++ merge (scaled l.c (drop l.i l.p)) (scaled l.a (drop l.j l.q)) ≡ merge (scaled l.c l.p) (scaled l.a l.q);
}

abbrev pub decreases-terms : goal.decreases-terms
decreases-terms l = (length l.p - l.i) + (length l.q - l.j)
