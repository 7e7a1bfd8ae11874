use Rattle.std.proofs.Common.{◌≡◌, drop, reverse}
use Rattle.cc_base.specs.Groups.{put_all}
use Rattle.linear_solver.proofs.parts.add_all.Given as goal

abbrev pub invariant-loop-x : goal.invariant-loop-x
invariant-loop-x l = put_all (reverse (drop l.x-index l.more)) (reverse l.list.items) ≡ put_all (reverse l.more) (reverse l.fn.list.items)
