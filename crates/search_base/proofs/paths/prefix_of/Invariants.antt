use Rattle.std.proofs.Common.{◌≡◌, take}
use Rattle.search_base.proofs.paths.prefix_of.Given as goal

abbrev pub invariant-loop-i : goal.invariant-loop-i
invariant-loop-i l = l.prefix ≡ take l.i l.path
