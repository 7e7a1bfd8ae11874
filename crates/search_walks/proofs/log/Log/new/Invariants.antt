use Rattle.std.proofs.Common.{◌≡◌, ℕ, ◌*◌, true, length, Some, slice_get}
use Rattle.search_walks.proofs.log.Log.new.Given as goal

abbrev pub invariant-loop-site : goal.invariant-loop-site
invariant-loop-site l = record { size : length l.covered.items ≡ 2 * l._site-index; none : (a : ℕ) → slice_get l.covered.items a ≡ Some true → ⊥ }
