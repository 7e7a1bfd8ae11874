-- What the solver's answers mean.
use Rattle.std.specs.Prelude.{ℕ, ℤ, ◌≤◌, ◌<◌, ◌≡◌, ◌⊎◌, ◌≤ℤ◌, Bool, true, false, List, [], ◌∷◌, length, get_or, nat_eq, Option, Some, None}
use Rattle.cc_base.specs.declared.forms.Multiple.{Multiple}
use Rattle.cc_base.specs.Groups.{Atom, HoldAll, Between, contains, form_of, places_in, atoms_on}
use Rattle.cc_base.specs.Need.{need}
use Rattle.cc_base.specs.Solve.{Refuted, Answer, sat, unsat, spent}
use Rattle.linear_solver.specs.declared.solve.Solved.{Solved}
use Rattle.linear_solver.specs.declared.solve.Solved.TheVariants.{Sat, Unsat, Spent}
use Rattle.linear_solver.specs.Parts.{answered, Wrote}

-- the places of the atoms are below n
abbrev pub Below : ℕ → List Multiple → Type 0
Below n [] = Unit {0}
Below n (t ∷ l) = (t.place < n) × Below n l

abbrev pub BelowAll : ℕ → List Atom → Type 0
BelowAll n [] = Unit {0}
BelowAll n (a ∷ l) = Below n (form_of a).terms × BelowAll n l

abbrev pub answer_of : Solved → Answer
answer_of (Sat o) = sat (answered o)
answer_of Unsat = unsat
answer_of Spent = spent

-- the place has a number in lo..hi
pub record HasNumber (lo hi : ℤ) (o : List (Option ℤ)) (x : ℕ) : Type 0 where
  pub number : ℤ
  pub given : get_or o x None ≡ Some number
  pub low : lo ≤ℤ number
  pub high : number ≤ℤ hi

-- each place that the atoms name has a number in lo..hi, the others have none
abbrev pub Given : ℤ → ℤ → ℕ → List Atom → Solved → Type 0
Given lo hi n l (Sat o) = (length o ≡ n) × ((x : ℕ) → contains (places_in l) x ≡ true → HasNumber lo hi o x) × ((x : ℕ) → contains (places_in l) x ≡ false → get_or o x None ≡ None)
Given lo hi n l Unsat = Unit {0}
Given lo hi n l Spent = Unit {0}

-- what settling the group g of the places c made of the answers o and of whether one was beyond the budget
abbrev pub Advanced : ℤ → ℤ → ℕ → List ℕ → List Atom → List (Option ℤ) → Bool → List (Option ℤ) → Bool → Bool → Type 0
Advanced lo hi b c g o s u t true = Refuted lo hi b g
Advanced lo hi b c g o s u t false =
    ((w : ℕ → ℤ) × (need lo hi g ≤ b) × Between lo hi w (places_in g) × HoldAll w g × Wrote c w o u × (t ≡ s)) ⊎ ((b < need lo hi g) × (u ≡ o) × (t ≡ true))

-- what a part made of the answers: nothing where it has no place
abbrev pub PartAdvanced : ℤ → ℤ → ℕ → List ℕ → List Atom → List (Option ℤ) → Bool → List (Option ℤ) → Bool → Bool → Type 0
PartAdvanced lo hi b c l o s u t true = (nat_eq (length c) 0 ≡ false) × Refuted lo hi b (atoms_on c l)
PartAdvanced lo hi b c l o s u t false = ((c ≡ []) × (u ≡ o) × (t ≡ s)) ⊎ ((nat_eq (length c) 0 ≡ false) × Advanced lo hi b c (atoms_on c l) o s u t false)

-- what an atom made of the answers: nothing where it has a place
abbrev pub AloneAdvanced : ℤ → ℤ → ℕ → Atom → List (Option ℤ) → Bool → List (Option ℤ) → Bool → Bool → Type 0
AloneAdvanced lo hi b a o s u t true = (nat_eq (length (form_of a).terms) 0 ≡ true) × Refuted lo hi b (a ∷ [])
AloneAdvanced lo hi b a o s u t false =
    ((nat_eq (length (form_of a).terms) 0 ≡ false) × (u ≡ o) × (t ≡ s)) ⊎ ((nat_eq (length (form_of a).terms) 0 ≡ true) × Advanced lo hi b [] (a ∷ []) o s u t false)
