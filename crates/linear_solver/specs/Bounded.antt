-- What keeps the values that are found backwards within 32 bits.
use Rattle.std.specs.Prelude.{ℕ, ℤ, pos, negsuc, ◌≡◌, ◌⊎◌, ◌≤ℤ◌, List, [], ◌∷◌}
use Rattle.cc_base.specs.declared.forms.Multiple.{Multiple}
use Rattle.cc_base.specs.Groups.{Atom, form_of}
use Rattle.cc_base.specs.Inequality.{Inequality, coefficient}
use Rattle.cc_base.specs.Witness.{Turn, unwound, origin}

-- the place has the coefficient 0 everywhere
abbrev pub Clear : ℕ → List Inequality → Type 0
Clear x [] = Unit {0}
Clear x (i ∷ l) = (coefficient x i.terms ≡ pos 0) × Clear x l

-- one of the list has these terms, and at most this bound
abbrev pub Has : List Multiple → ℤ → List Inequality → Type 0
Has p m [] = ⊥
Has p m (i ∷ l) = ((i.terms ≡ p) × (i.most ≤ℤ m)) ⊎ Has p m l

abbrev pub multiple_of : ℕ → ℤ → List Multiple
multiple_of x k = record { place = x; coefficient = k } ∷ []

-- the list keeps the place from -2147483648 to 2147483647
pub record Held (x : ℕ) (l : List Inequality) : Type 0 where
  pub high : Has (multiple_of x (pos 1)) (pos 2147483647) l
  pub low : Has (multiple_of x (negsuc 0)) (pos 2147483648) l

-- the list keeps each place that it speaks of from -2147483648 to 2147483647
abbrev pub Bounded : List Inequality → Type 0
Bounded l = (x : ℕ) → Clear x l ⊎ Held x l

abbrev pub ClearOf : ℕ → List Atom → Type 0
ClearOf x [] = Unit {0}
ClearOf x (a ∷ g) = (coefficient x (form_of a).terms ≡ pos 0) × ClearOf x g

-- so it does with each place that it or the atoms speak of
abbrev pub BoundedWith : List Atom → List Inequality → Type 0
BoundedWith g l = (x : ℕ) → (ClearOf x g × Clear x l) ⊎ Held x l

-- each turn's place gets a value of 32 bits
abbrev pub Fitting : List Turn → Type 0
Fitting [] = Unit {0}
Fitting (t ∷ l) = (negsuc 2147483647 ≤ℤ unwound (t ∷ l) origin t.place) × (unwound (t ∷ l) origin t.place ≤ℤ pos 2147483647) × Fitting l
