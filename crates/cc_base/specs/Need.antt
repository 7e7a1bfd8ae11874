-- Elimination by passes, and Need: the work that a group of atoms asks for. The rules are this project's own.
use Rattle.std.specs.Prelude.{ℕ, zero, suc, ◌+◌, ◌*◌, ◌^◌, ℤ, pos, negsuc, ◌-ℤ◌, neg_ℤ, List, [], ◌∷◌, ◌++◌, length, min, unsigned_abs}
use Rattle.cc_base.specs.Inequality.{Inequality, scaled}
use Rattle.cc_base.specs.Pass.{Real, Dark, Open, Empty, Full, Passed, pass}
use Rattle.cc_base.specs.Groups.{Form, Atom, at_most_zero, is_zero, not_zero, same, differ, places_in}

-- g is at most n
unfoldable pub at_most : Form → ℤ → Inequality
at_most g n = record { terms = g.terms; most = n -ℤ g.constant }

-- g is at least n
unfoldable pub at_least : Form → ℤ → Inequality
at_least g n = record { terms = scaled (negsuc 0) g.terms; most = g.constant -ℤ n }

-- lo and hi of each place
unfoldable pub bounds : ℤ → ℤ → List ℕ → List Inequality
bounds lo hi [] = []
bounds lo hi (x ∷ l) =
    record { terms = record { place = x; coefficient = pos 1 } ∷ []; most = hi } ∷
    (record { terms = record { place = x; coefficient = negsuc 0 } ∷ []; most = neg_ℤ lo } ∷ bounds lo hi l)

-- the inequalities of an atom: one of a bound, two of an equation
unfoldable pub written : Atom → List Inequality
written (at_most_zero g) = at_most g (pos 0) ∷ []
written (is_zero g) = at_most g (pos 0) ∷ (at_least g (pos 0) ∷ [])
written (not_zero g) = []
written (same a b) = []
written (differ a b) = []

-- those of all atoms, in order
unfoldable pub all_written : List Atom → List Inequality
all_written [] = []
all_written (a ∷ l) = written a ++ all_written l

-- the list with which elimination begins
unfoldable pub first_list : ℤ → ℤ → List Atom → List Inequality
first_list lo hi l = all_written l ++ bounds lo hi (places_in l)

-- a form that is not to be 0
unfoldable pub disequality : Atom → List Form
disequality (at_most_zero g) = []
disequality (is_zero g) = []
disequality (not_zero g) = g ∷ []
disequality (same a b) = []
disequality (differ a b) = []

-- the disequalities, in order
unfoldable pub disequalities : List Atom → List Form
disequalities [] = []
disequalities (a ∷ l) = disequality a ++ disequalities l

-- what the choices showed, with the sum of the costs of all passes made: values, no values, or nothing
pub data Tried : Type 0 where
  found closed open_choice : (cost : ℕ) → Tried

-- after a closed choice
unfoldable pub after : ℕ → Tried → Tried
after n (found c) = found (n + c)
after n (closed c) = closed (n + c)
after n (open_choice c) = open_choice (n + c)

-- after a choice that stayed open
unfoldable pub after_open : ℕ → Tried → Tried
after_open n (found c) = found (n + c)
after_open n (closed c) = open_choice (n + c)
after_open n (open_choice c) = open_choice (n + c)

-- a dark pass that ends full finds values
unfoldable pub by_dark : ℕ → Passed → Tried
by_dark n p = elim p.how [ Full ↦ found (n + p.cost) | Empty ↦ open_choice (n + p.cost) | Open ↦ open_choice (n + p.cost) ]

-- one choice: a real pass, and a dark one unless that ended empty
unfoldable pub one_choice : ℕ → List Inequality → Tried
one_choice n l = let p = pass Real n l in
    elim p.how [ Empty ↦ closed p.cost | Full ↦ by_dark p.cost (pass Dark n l) | Open ↦ by_dark p.cost (pass Dark n l) ]

-- the choices of the disequalities: each is below 0 or above 0, below first; the first disequality changes last
unfoldable pub tried : ℕ → List Inequality → List Form → Tried
tried n l [] = one_choice n l
tried n l (g ∷ fs) = elim (tried n (at_most g (negsuc 0) ∷ l) fs) [
  | found c ↦ found c
  | closed c ↦ after c (tried n (at_least g (pos 1) ∷ l) fs)
  | open_choice c ↦ after_open c (tried n (at_least g (pos 1) ∷ l) fs)
]

-- a real pass over the first list, and unless that ended empty, the choices
unfoldable pub elimination : ℤ → ℤ → List Atom → Tried
elimination lo hi l =
    let n = length (places_in l) in let first = first_list lo hi l in let p = pass Real n first in
    elim p.how [ Empty ↦ closed p.cost | Full ↦ after p.cost (tried n first (disequalities l)) | Open ↦ after p.cost (tried n first (disequalities l)) ]

-- how many values a place has
unfoldable pub width : ℤ → ℤ → ℕ
width lo hi = unsigned_abs (hi -ℤ lo) + 1

-- the work of trying all values: one more than the atoms, for each of them
unfoldable pub box : ℤ → ℤ → List Atom → ℕ
box lo hi l = (length l + 1) * width lo hi ^ length (places_in l)

-- the lesser of the box and of elimination, where that decides
unfoldable pub with_elimination : ℕ → Tried → ℕ
with_elimination b (found c) = min b c
with_elimination b (closed c) = min b c
with_elimination b (open_choice c) = b

-- by the number of places: with none 1, with one 1 more than the atoms, with more the lesser of box and elimination
unfoldable pub need_at : ℕ → ℤ → ℤ → List Atom → ℕ
need_at zero lo hi l = 1
need_at (suc zero) lo hi l = length l + 1
need_at (suc (suc n)) lo hi l = with_elimination (box lo hi l) (elimination lo hi l)

-- the Need of a group
unfoldable pub need : ℤ → ℤ → List Atom → ℕ
need lo hi l = need_at (length (places_in l)) lo hi l
