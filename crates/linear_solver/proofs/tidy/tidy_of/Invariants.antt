use Rattle.std.proofs.Common.{◌≡◌, length}
use Rattle.cc_base.specs.Pass.{tidy}
use Rattle.linear_solver.specs.Chains.{IsChained}
use Rattle.linear_solver.specs.Ordered.{SafeAll}
use Rattle.linear_solver.specs.Seen.{seen_all}
use Rattle.linear_solver.proofs.TidySteps.{tidy_on}
use Rattle.linear_solver.proofs.tidy.tidy_of.Given as goal

abbrev pub invariant-kept : goal.invariant-kept
invariant-kept l = record {
  chained : IsChained l.out;
  safe : SafeAll (seen_all l.rest.items);
  same : tidy_on (seen_all l.rest.items) (seen_all l.out.list.items) ≡ tidy (seen_all l.fn.list.items);
}

abbrev pub decreases-kept : goal.decreases-kept
decreases-kept l = length l.rest.items
