use Rattle.std.proofs.Common.{◌≡◌, drop}
use Rattle.cc_base.specs.Groups.{shares}
use Rattle.linear_solver.proofs.parts.share.Given as goal

abbrev pub invariant-loop-x : goal.invariant-loop-x
invariant-loop-x l = shares (drop l.x-index l.p) l.q ≡ shares l.p l.q
