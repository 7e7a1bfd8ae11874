use Rattle.std.proofs.Common.{◌≡◌, drop}
use Rattle.cc_base.specs.Groups.{contains}
use Rattle.linear_solver.proofs.places.is_in.Given as goal

abbrev pub invariant-loop-y : goal.invariant-loop-y
invariant-loop-y l = contains (drop l.y-index l.list) l.place ≡ contains l.list l.place
