-- Equalities that join the places of atoms, and what of a condition their classes let in.
use Rattle.std.specs.Prelude.{ℕ, Bool, false, nat_eq, if◌then◌else◌, List, [], ◌∷◌, ◌++◌, slice_index}
use Rattle.cc_base.specs.Groups.{Atom, same, form_of}
use Rattle.cc_base.specs.declared.forms.Multiple.{Multiple}
use Rattle.cc_base.specs.Forms.{Side, nothing, at}

-- each place is the same as s
unfoldable pub joined_to : Side → List Multiple → List Atom
joined_to s [] = []
joined_to s (t ∷ p) = same s (at t.place) ∷ joined_to s p

-- each place is the same as the first
unfoldable pub joined : List Multiple → List Atom
joined [] = []
joined (t ∷ p) = joined_to (at t.place) (t ∷ p)

-- so it is within each atom
unfoldable pub all_joined : List Atom → List Atom
all_joined [] = []
all_joined (a ∷ l) = joined (form_of a).terms ++ all_joined l

-- the places of all atoms are the same as NULL
unfoldable pub all_null : List Atom → List Atom
all_null [] = []
all_null (a ∷ l) = joined_to nothing (form_of a).terms ++ all_null l

-- the places of each atom of the condition are joined, and those of the alternative with NULL
unfoldable pub joins : List Atom → List Atom → List Atom
joins condition alternative = all_joined condition ++ all_null alternative

-- there is a first place, and its class is NULL's
unfoldable pub first_is_null : List ℕ → List Multiple → Bool
first_is_null classes [] = false
first_is_null classes (t ∷ p) = nat_eq (slice_index classes t.place) 0

-- the atoms of which that holds, in their order
unfoldable pub met : List ℕ → List Atom → List Atom
met classes [] = []
met classes (a ∷ l) = if first_is_null classes (form_of a).terms then a ∷ met classes l else met classes l
