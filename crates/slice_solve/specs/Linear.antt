-- Atoms as the solver of linear atoms has them.
use Rattle.std.specs.Prelude.{◌≡◌, List, map}
use Rattle.cc_base.specs.Groups.{Atom, at_most_zero, is_zero, not_zero, same, differ, form_of}
use Rattle.linear_solver.specs.declared.atoms.LinearAtom.{LinearAtom}
use Rattle.linear_solver.specs.Atoms.{seen_form, seen_atom, seen_atoms, FitForm, FitAll}

-- a pointer atom asks nothing of numbers, as 0 ≤ 0 does
unfoldable pub linear : Atom → Atom
linear (at_most_zero g) = at_most_zero g
linear (is_zero g) = is_zero g
linear (not_zero g) = not_zero g
linear (same a b) = at_most_zero (form_of (same a b))
linear (differ a b) = at_most_zero (form_of (differ a b))

-- r stands for the atom, within the solver's limits
pub record IsLinear (a : Atom) (r : LinearAtom) : Type 0 where
  pub seen : seen_atom r ≡ linear a
  pub fit : FitForm (seen_form r)

-- and so do those of a list
pub record AreLinear (l : List Atom) (v : List LinearAtom) : Type 0 where
  pub seen : seen_atoms v ≡ map linear l
  pub fit : FitAll (seen_atoms v)
