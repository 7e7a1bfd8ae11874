-- Atoms of integers and the groups that share places. The rules are this project's own.
use Rattle.std.specs.Prelude.{ℕ, ℤ, pos, ◌+ℤ◌, ◌≤ℤ◌, ◌≡◌, ◌≢◌, Bool, false, ◌||◌, List, [], ◌∷◌, ◌++◌, length, nat_eq, if◌then◌else◌}
use Rattle.cc_base.specs.Inequality.{total}
pub use Rattle.cc_base.specs.Forms.{Multiple, Form, Atom, at_most_zero, is_zero, not_zero, same, differ}

-- the value of a form at the values v of the places
unfoldable pub value : (ℕ → ℤ) → Form → ℤ
value v g = g.constant +ℤ total v g.terms

-- what an atom asks of the values; pointer atoms ask nothing of integers
abbrev pub Holds : (ℕ → ℤ) → Atom → Type 0
Holds v (at_most_zero g) = value v g ≤ℤ pos 0
Holds v (is_zero g) = value v g ≡ pos 0
Holds v (not_zero g) = value v g ≢ pos 0
Holds v (same a b) = Unit {0}
Holds v (differ a b) = Unit {0}

-- all atoms hold
abbrev pub HoldAll : (ℕ → ℤ) → List Atom → Type 0
HoldAll v [] = Unit {0}
HoldAll v (a ∷ l) = Holds v a × HoldAll v l

-- each of the places has a value in lo..hi
abbrev pub Between : ℤ → ℤ → (ℕ → ℤ) → List ℕ → Type 0
Between lo hi v [] = Unit {0}
Between lo hi v (x ∷ l) = (lo ≤ℤ v x) × (v x ≤ℤ hi) × Between lo hi v l

-- ---- places

-- the form that an atom speaks of; a pointer atom has none, so that it names no place
unfoldable pub form_of : Atom → Form
form_of (at_most_zero g) = g
form_of (is_zero g) = g
form_of (not_zero g) = g
form_of (same a b) = record { constant = pos 0; terms = [] }
form_of (differ a b) = record { constant = pos 0; terms = [] }

-- is x in the list
unfoldable pub contains : List ℕ → ℕ → Bool
contains [] x = false
contains (y ∷ l) x = nat_eq x y || contains l x

-- the list with x, once
unfoldable pub put : ℕ → List ℕ → List ℕ
put x l = if contains l x then l else x ∷ l

-- the list with each of p, once
unfoldable pub put_all : List ℕ → List ℕ → List ℕ
put_all [] l = l
put_all (x ∷ p) l = put x (put_all p l)

-- the places of the terms, each once
unfoldable pub named : List Multiple → List ℕ
named [] = []
named (t ∷ p) = put t.place (named p)

-- the places that the atoms name, each once
unfoldable pub places_in : List Atom → List ℕ
places_in [] = []
places_in (a ∷ l) = put_all (named (form_of a).terms) (places_in l)

-- two lists share a place
unfoldable pub shares : List ℕ → List ℕ → Bool
shares [] q = false
shares (x ∷ p) q = contains q x || shares p q

-- the parts that share a place with p become one part
unfoldable pub touching : List ℕ → List (List ℕ) → List ℕ
touching p [] = p
touching p (c ∷ cs) = if shares p c then put_all c (touching p cs) else touching p cs

-- the parts that share no place with p stay
unfoldable pub apart : List ℕ → List (List ℕ) → List (List ℕ)
apart p [] = []
apart p (c ∷ cs) = if shares p c then apart p cs else c ∷ apart p cs

-- the places of the atoms, parted: two places are in one part where atoms join them, directly or through others
unfoldable pub parts : List Atom → List (List ℕ)
parts [] = []
parts (a ∷ l) = let p = named (form_of a).terms in touching p (parts l) ∷ apart p (parts l)

-- the atoms that name a place of the part, in their order
unfoldable pub atoms_on : List ℕ → List Atom → List Atom
atoms_on c [] = []
atoms_on c (a ∷ l) = if shares (named (form_of a).terms) c then a ∷ atoms_on c l else atoms_on c l

-- an atom without place is a group of its own
unfoldable pub placeless : List Atom → List (List Atom)
placeless [] = []
placeless (a ∷ l) = if nat_eq (length (form_of a).terms) 0 then (a ∷ []) ∷ placeless l else placeless l

-- the groups of the parts
unfoldable pub groups_of : List (List ℕ) → List Atom → List (List Atom)
groups_of [] l = []
groups_of (c ∷ cs) l = if nat_eq (length c) 0 then groups_of cs l else atoms_on c l ∷ groups_of cs l

-- the groups of a list of atoms: two atoms are in one group where they share a place, directly or through others
unfoldable pub groups : List Atom → List (List Atom)
groups l = groups_of (parts l) l ++ placeless l

-- values in lo..hi meet the atoms
abbrev pub HasValues : ℤ → ℤ → List Atom → Type 0
HasValues lo hi l = (v : ℕ → ℤ) × Between lo hi v (places_in l) × HoldAll v l
