use Rattle.std.proofs.Common.{◌≡◌, drop}
use Rattle.cc_base.specs.Inequality.{coefficient}
use Rattle.linear_solver.specs.Ordered.{Ordered}
use Rattle.linear_solver.proofs.inequalities.coefficient_of.Given as goal

abbrev pub invariant-loop-t : goal.invariant-loop-t
invariant-loop-t l = record {
  ordered : Ordered 0 (drop l.t-index l.terms);
  same : coefficient l.place (drop l.t-index l.terms) ≡ coefficient l.place l.terms;
}
