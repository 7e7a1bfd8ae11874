use Rattle.std.proofs.Common.{◌≡◌, drop}
use Rattle.cc_base.specs.Pass.{same_terms}
use Rattle.linear_solver.proofs.tidy.has_same_terms.Given as goal

abbrev pub invariant-loop-k : goal.invariant-loop-k
invariant-loop-k l = same_terms (drop l.k l.p) (drop l.k l.q) ≡ same_terms l.p l.q
