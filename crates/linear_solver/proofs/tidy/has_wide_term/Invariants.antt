use Rattle.std.proofs.Common.{◌≡◌, drop}
use Rattle.cc_base.specs.Pass.{wide_term}
use Rattle.linear_solver.proofs.tidy.has_wide_term.Given as goal

abbrev pub invariant-loop-t : goal.invariant-loop-t
invariant-loop-t l = wide_term (drop l.t-index l.terms) ≡ wide_term l.terms
