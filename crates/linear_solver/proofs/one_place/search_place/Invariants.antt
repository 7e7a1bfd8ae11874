use Rattle.std.proofs.Common.{ℕ, ◌<◌, ◌+ℤ◌, pos}
use Rattle.cc_base.specs.Groups.{HoldAll}
use Rattle.cc_base.specs.Witness.{changed, origin}
use Rattle.linear_solver.specs.Atoms.{seen_atoms}
use Rattle.linear_solver.proofs.one_place.search_place.Given as goal

abbrev pub invariant-loop-k : goal.invariant-loop-k
invariant-loop-k l = (j : ℕ) → j < l.k → HoldAll (changed origin l.place (l.span.low +ℤ pos j)) (seen_atoms l.atoms) → ⊥
