use Rattle.std.proofs.Common.{length}
use Rattle.linear_solver.specs.Chains.{terms_at}
use Rattle.linear_solver.specs.Seen.{seen_all}
use Rattle.linear_solver.proofs.Chains.{Sought}
use Rattle.linear_solver.proofs.tidy.find.Given as goal

abbrev pub invariant-chain : goal.invariant-chain
invariant-chain l = Sought (length l.kept.list.items) (terms_at (seen_all l.kept.list.items)) (length l.kept.last.items) l.at_bucket l.terms l.at

abbrev pub decreases-chain : goal.decreases-chain
decreases-chain l = l.at
