-- What the code's atoms stand for.
use Rattle.std.specs.Prelude.{ℕ, ◌+◌, ◌^◌, ◌≤◌, ℤ, pos, ◌≢◌, List, [], ◌∷◌, map, unsigned_abs, All}
use Rattle.cc_base.specs.Groups.{Form, Atom, at_most_zero, is_zero, not_zero, form_of, value}
use Rattle.linear_solver.specs.declared.atoms.LinearAtom.{LinearAtom}
use Rattle.linear_solver.specs.declared.atoms.Sign.{Sign}
use Rattle.linear_solver.specs.declared.atoms.Sign.TheVariants.{AtMostZero, Zero, NotZero}
use Rattle.linear_solver.specs.Ordered.{Ordered}

abbrev pub seen_form : LinearAtom → Form
seen_form a = record { constant = a.constant; terms = a.terms.items }

abbrev pub atom_of : Sign → Form → Atom
atom_of AtMostZero g = at_most_zero g
atom_of Zero g = is_zero g
atom_of NotZero g = not_zero g

abbrev pub seen_atom : LinearAtom → Atom
seen_atom a = atom_of a.sign (seen_form a)

unfoldable pub seen_atoms : List LinearAtom → List Atom
seen_atoms l = map seen_atom l

-- the limits within which an atom's numbers fit 128 bits in every step
pub record FitForm (g : Form) : Type 0 where
  pub ordered : Ordered 0 g.terms
  pub terms : All (λ t. unsigned_abs t.coefficient ≤ 2 ^ 40) g.terms
  pub constant : unsigned_abs g.constant ≤ 2 ^ 72 + 2 ^ 33

abbrev pub FitAll : List Atom → Type 0
FitAll [] = Unit {0}
FitAll (a ∷ l) = FitForm (form_of a) × FitAll l

-- none of the forms is 0
abbrev pub Apart : (ℕ → ℤ) → List Form → Type 0
Apart v [] = Unit {0}
Apart v (g ∷ fs) = (value v g ≢ pos 0) × Apart v fs
