use Rattle.std.proofs.Common.{◌≡◌, ℕ, length}
use Rattle.search_walks.specs.Layers.{IsPassed}
use Rattle.search_walks.proofs.distance.Front.new.Given as goal

abbrev pub invariant-loop-at : goal.invariant-loop-at
invariant-loop-at l = record { size : length l.passed.items ≡ l._at; none : (a : ℕ) → IsPassed l.passed.items a → ⊥ }
