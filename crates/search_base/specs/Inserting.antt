-- The place of an element in a list that ascends.
use Rattle.std.specs.Prelude.{ℕ, ◌≤◌, ◌≡◌, List, length, take, Some, slice_get}
use Rattle.cc_base.specs.Paths.{In}

-- the first n elements come before it, and the next one doesn't
pub record IsPlace {A : Type 0} (comes : A → Type 0) (l : List A) (n : ℕ) : Type 0 where
  pub within : n ≤ length l
  pub before : (x : A) → In x (take n l) → comes x
  pub next : (x : A) → slice_get l n ≡ Some x → comes x → ⊥
