-- The count of faults from the start of several calls to their end.
use Rattle.std.proofs.Common.{◌≡◌, ℕ, ◌<◌, ◌≤◌, ◌^◌, arith, inl, inr, ⊎_elim}
use Rattle.cc_outside.specs.Faults.{Rose, counted_up}

-- a count that rose and never fell after that rose from start to end
pub Rose-then : (a b c : ℕ) → Rose a b → b ≤ c → c < 2 ^ 64 → Rose a c
Rose-then a b c rose up small = ⊎_elim (λ h. inl (omega arith)) (λ h. inr (omega arith)) rose

-- a count that never fell and then rose did so from start to end
pub Rose-after : (a b c : ℕ) → a ≤ b → Rose b c → Rose a c
Rose-after a b c up rose = ⊎_elim (λ h. inl (omega arith)) inr rose

-- one more fault makes the count rise
pub Rose-counted_up : (old new : ℕ) → new ≡ counted_up old → Rose old new
Rose-counted_up old new e = grind arith
