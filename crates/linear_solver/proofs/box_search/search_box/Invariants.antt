use Rattle.std.proofs.Common.{ℕ, ◌<◌}
use Rattle.cc_base.specs.Groups.{HoldAll}
use Rattle.linear_solver.specs.Atoms.{seen_atoms}
use Rattle.linear_solver.specs.Box.{decoded}
use Rattle.linear_solver.proofs.box_search.search_box.Given as goal

abbrev pub invariant-loop-k : goal.invariant-loop-k
invariant-loop-k l = (j : ℕ) → j < l.k → HoldAll (decoded l.lo l.width j l.places) (seen_atoms l.atoms) → ⊥
