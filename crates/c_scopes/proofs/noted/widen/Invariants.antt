use Rattle.std.proofs.Common.{◌≡◌, ℕ, ◌+◌, ◌-◌, length}
use Rattle.c_scopes.specs.Noted.{entry}
use Rattle.c_scopes.proofs.noted.widen.Given as goal

abbrev pub invariant-loop-table : goal.invariant-loop-table
invariant-loop-table l = (i : ℕ) → entry l.table i ≡ entry l.initial.table i

abbrev pub decreases-loop-table : goal.decreases-loop-table
decreases-loop-table l = (l.t + 1) - length l.table
