use Rattle.std.proofs.Common.{◌≡◌, ℕ, length}
use Rattle.search_walks.specs.Rows.{Has}
use Rattle.search_walks.proofs.rows.Rows.new.Given as goal

abbrev pub invariant-loop-place : goal.invariant-loop-place
invariant-loop-place l = record { count : length l.rows.items ≡ l._place; none : (p n : ℕ) → Has l.rows.items p n → ⊥ }
