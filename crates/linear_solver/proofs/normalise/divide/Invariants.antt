use Rattle.std.proofs.Common.{◌≡◌, ◌++◌, take, drop, unsigned_abs, map}
use Rattle.cc_base.specs.Inequality.{divided}
use Rattle.linear_solver.proofs.normalise.divide.Given as goal

abbrev pub invariant-loop-t : goal.invariant-loop-t
invariant-loop-t l = l.terms ≡ map (divided (unsigned_abs l.g)) (take l.t-index l.fn.terms) ++ drop l.t-index l.fn.terms
