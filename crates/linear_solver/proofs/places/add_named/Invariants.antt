use Rattle.std.proofs.Common.{◌≡◌, ◌≤◌, drop, length, reverse}
use Rattle.cc_base.specs.Groups.{put_all, named}
use Rattle.linear_solver.proofs.places.add_named.Given as goal

abbrev pub invariant-terms : goal.invariant-terms
invariant-terms l = record {
  within : l.left ≤ length l.terms;
  same : reverse l.list.items ≡ put_all (named (drop l.left l.terms)) (reverse l.fn.list.items);
}

abbrev pub decreases-terms : goal.decreases-terms
decreases-terms l = l.left
