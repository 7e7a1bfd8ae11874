use Rattle.std.proofs.Common.{◌≡◌, ◌++◌, length, reverse}
use Rattle.cc_base.specs.Groups.{apart}
use Rattle.linear_solver.specs.Parts.{all_backwards}
use Rattle.linear_solver.proofs.parts.behind.Given as goal

abbrev pub invariant-parts : goal.invariant-parts
invariant-parts l = apart (reverse l.p) (all_backwards l.rest.items) ++ reverse (all_backwards l.out.items) ≡ apart (reverse l.p) (all_backwards l.fn.parts.items)

abbrev pub decreases-parts : goal.decreases-parts
decreases-parts l = length l.rest.items
