use Rattle.std.proofs.Common.{◌≡◌, ◌++◌, take}
use Rattle.cc_base.specs.Inequality.{scaled}
use Rattle.linear_solver.proofs.merging.push_multiples.Given as goal

abbrev pub invariant-loop-t : goal.invariant-loop-t
invariant-loop-t l = l.out.items ≡ l.fn.out.items ++ scaled l.c (take l.t-index l.p)
