-- The slice of an alternative: what of a condition has to be solved with it. The rule is this project's own.
use Rattle.std.specs.Prelude.{ℕ, List, [], ◌∷◌, ◌++◌, if◌then◌else◌}
use Rattle.cc_base.specs.Groups.{Atom, places_in, shares, parts, atoms_on}

-- the places of the parts that share a place with p
unfoldable pub parts_with : List ℕ → List (List ℕ) → List ℕ
parts_with p [] = []
parts_with p (c ∷ cs) = if shares c p then c ++ parts_with p cs else parts_with p cs

-- the atoms of the condition that stand in one group with an atom of the alternative, in their order, and the alternative's atoms
unfoldable pub slice_of : List Atom → List Atom → List Atom
slice_of condition alternative = atoms_on (parts_with (places_in alternative) (parts (condition ++ alternative))) condition ++ alternative
