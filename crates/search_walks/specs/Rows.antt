-- Numbers that belong to places: a list for each place.
use Rattle.std.specs.Prelude.{◌≡◌, ◌<◌, ◌⊎◌, ◌↔◌, ℕ, List, [], length, slice_get, unwrap_or}
use Rattle.cc_base.specs.Paths.{In}

-- the numbers of a place; none where there is no such place
abbrev pub row : List (List ℕ) → ℕ → List ℕ
row rows place = unwrap_or (slice_get rows place) []

-- a number is one of a place's
pub record Has (rows : List (List ℕ)) (place number : ℕ) : Type 0 where
  pub is_in : In number (row rows place)

-- nothing but the numbers of which P holds came to the places
pub record Grows (old new : List (List ℕ)) (P : ℕ → ℕ → Type 0) : Type 0 where
  pub places : length new ≡ length old
  pub each : (place number : ℕ) → Has new place number ↔ (Has old place number ⊎ P place number)

-- the number at the place, where there is such a place
pub record IsOne (rows : List (List ℕ)) (at one place number : ℕ) : Type 0 where
  pub there : place < length rows
  pub same_place : place ≡ at
  pub same_number : number ≡ one

-- the number at each of these places that there is
pub record IsAny (rows : List (List ℕ)) (one : ℕ) (places : List ℕ) (place number : ℕ) : Type 0 where
  pub there : place < length rows
  pub is_in : In place places
  pub same_number : number ≡ one
