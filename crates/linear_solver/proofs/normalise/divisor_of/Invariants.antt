use Rattle.std.proofs.Common.{◌≡◌, drop}
use Rattle.cc_base.specs.Inequality.{divisor, divisor_from}
use Rattle.linear_solver.proofs.normalise.divisor_of.Given as goal

abbrev pub invariant-loop-t : goal.invariant-loop-t
invariant-loop-t l = divisor_from l.g (drop l.t-index l.terms) ≡ divisor l.terms
