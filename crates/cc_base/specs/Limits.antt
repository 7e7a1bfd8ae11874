-- The numbers of a session's bounds. Their ranges are this project's own.
use Rattle.std.specs.Prelude.{ℕ, ◌≤◌, ℤ, pos, ◌≤ℤ◌, refl, int_lt, if◌then◌else◌}
use Rattle.std.specs.Coded.{Coded, code_by, coded×, coded_ℕ, coded_ℤ}

-- the range of the input's numbers, and how many events, input objects and steps a run may have
pub record Limits : Type 0 where
  pub lo : ℤ
  pub hi : ℤ
  pub depth : ℕ
  pub objects : ℕ
  pub steps : ℕ

-- they are stored as the pairs of their fields
abbrev pub limits_code : Coded Limits
limits_code = code_by (ℤ × (ℤ × (ℕ × (ℕ × ℕ)))) (coded× coded_ℤ (coded× coded_ℤ (coded× coded_ℕ (coded× coded_ℕ coded_ℕ))))
    (λ b. (b.lo, (b.hi, (b.depth, (b.objects, b.steps)))))
    (λ p. record { lo = p.0; hi = p.1.0; depth = p.1.1.0; objects = p.1.1.1.0; steps = p.1.1.1.1 }) (λ _. refl)

-- each number is in its range
pub record InRange (b : Limits) : Type 0 where
  pub numbers : b.lo ≤ℤ b.hi
  pub depth_low : 1 ≤ b.depth
  pub depth_high : b.depth ≤ 1024
  pub objects_low : 1 ≤ b.objects
  pub objects_high : b.objects ≤ 25
  pub steps_low : 1 ≤ b.steps
  pub steps_high : b.steps ≤ 1000000

-- the number of least absolute value between lo and hi
abbrev pub base_of : Limits → ℤ
base_of b = if int_lt (pos 0) b.lo then b.lo else (if int_lt b.hi (pos 0) then b.hi else pos 0)
