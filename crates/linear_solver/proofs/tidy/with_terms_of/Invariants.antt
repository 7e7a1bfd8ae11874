use Rattle.std.proofs.Common.{◌≡◌, ◌++◌, length, reverse}
use Rattle.cc_base.specs.Pass.{with_terms}
use Rattle.linear_solver.specs.Seen.{seen_all}
use Rattle.linear_solver.proofs.tidy.with_terms_of.Given as goal

abbrev pub invariant-kept : goal.invariant-kept
invariant-kept l = with_terms (seen_all l.rest.items) ++ reverse (seen_all l.out.items) ≡ with_terms (seen_all l.fn.list.items)

abbrev pub decreases-kept : goal.decreases-kept
decreases-kept l = length l.rest.items
