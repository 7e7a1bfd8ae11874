use Rattle.std.proofs.Common.{◌≡◌, drop, reverse}
use Rattle.cc_base.specs.Groups.{shares, named}
use Rattle.linear_solver.proofs.parts.touches.Given as goal

abbrev pub invariant-loop-t : goal.invariant-loop-t
invariant-loop-t l = shares (named (drop l.t-index l.terms)) (reverse l.part) ≡ shares (named l.terms) (reverse l.part)
