-- What atoms ask of the values of places. It is this project's own.
use Rattle.std.specs.Prelude.{ℕ, ℤ, pos, ◌+ℤ◌, ◌*ℤ◌, ◌≤ℤ◌, ◌≡◌, ◌≢◌, Option, IsSome, unwrap_or, List, [], ◌∷◌, ◌++◌, map}
use Rattle.cc_base.specs.Forms.{Multiple, Form, Side, nothing, at, Atom, at_most_zero, is_zero, not_zero, same, differ}

-- the sum of the multiples, where places have the values h
unfoldable pub total : (ℕ → ℤ) → List Multiple → ℤ
total h [] = pos 0
total h (t ∷ l) = (t.coefficient *ℤ h t.place) +ℤ total h l

-- the value of a form
unfoldable pub value_of_form : (ℕ → ℤ) → Form → ℤ
value_of_form h g = g.constant +ℤ total h g.terms

-- the value of a side; NULL is 0
abbrev pub value_of_side : (ℕ → ℤ) → Side → ℤ
value_of_side h nothing = pos 0
value_of_side h (at p) = h p

-- the sides of the atom compare as it says
abbrev pub Compares : (ℕ → ℤ) → Atom → Type 0
Compares h (at_most_zero g) = value_of_form h g ≤ℤ pos 0
Compares h (is_zero g) = value_of_form h g ≡ pos 0
Compares h (not_zero g) = value_of_form h g ≢ pos 0
Compares h (same a b) = value_of_side h a ≡ value_of_side h b
Compares h (differ a b) = value_of_side h a ≢ value_of_side h b

-- each place of the list has a value
abbrev pub AllValued : (ℕ → Option ℤ) → List ℕ → Type 0
AllValued value [] = Unit {0}
AllValued value (p ∷ l) = IsSome (value p) × AllValued value l

-- the place of a side
abbrev pub places_of_side : Side → List ℕ
places_of_side nothing = []
places_of_side (at p) = p ∷ []

-- the places of an atom
abbrev pub places_of_atom : Atom → List ℕ
places_of_atom (at_most_zero g) = map (λ t. t.place) g.terms
places_of_atom (is_zero g) = map (λ t. t.place) g.terms
places_of_atom (not_zero g) = map (λ t. t.place) g.terms
places_of_atom (same a b) = places_of_side a ++ places_of_side b
places_of_atom (differ a b) = places_of_side a ++ places_of_side b

-- the values, 0 where there is none
abbrev pub or_zero : (ℕ → Option ℤ) → ℕ → ℤ
or_zero value p = unwrap_or (value p) (pos 0)

-- each place of the atom has a value, and its sides compare as it says
pub record Holds (value : ℕ → Option ℤ) (a : Atom) : Type 0 where
  pub valued : AllValued value (places_of_atom a)
  pub compares : Compares (or_zero value) a

-- every atom of the list holds
abbrev pub Meets : (ℕ → Option ℤ) → List Atom → Type 0
Meets value [] = Unit {0}
Meets value (a ∷ l) = Holds value a × Meets value l
