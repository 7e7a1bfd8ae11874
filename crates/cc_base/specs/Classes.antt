-- Equality classes of pointers. They are this project's own.
use Rattle.std.specs.Prelude.{ℕ, ◌<◌, ◌≡◌, ◌↔◌, ◌⊎◌, Some, List, length, slice_get}
use Rattle.cc_base.specs.Forms.{Side, nothing, at, Atom, at_most_zero, is_zero, not_zero, same, differ}

-- the equalities of the list force two sides to be the same: the least equivalence that holds each of them
pub data Forced (l : List Atom) : Side → Side → Type 0 where
  stated : (k : ℕ) (a b : Side) → slice_get l k ≡ Some (same a b) → Forced l a b
  itself : (a : Side) → Forced l a a
  turned : (a b : Side) → Forced l a b → Forced l b a
  along : (a b c : Side) → Forced l a b → Forced l b c → Forced l a c

-- a side of NULL, or of a place below n
abbrev pub SideBelow : ℕ → Side → Type 0
SideBelow n nothing = Unit {0}
SideBelow n (at p) = p < n

-- an atom of pointers whose places are below n
abbrev pub PointersBelow : ℕ → Atom → Type 0
PointersBelow n (same a b) = SideBelow n a × SideBelow n b
PointersBelow n (differ a b) = SideBelow n a × SideBelow n b
PointersBelow n (at_most_zero g) = ⊥
PointersBelow n (is_zero g) = ⊥
PointersBelow n (not_zero g) = ⊥

-- the atom has the place as a side
abbrev pub HasSide : Side → Atom → Type 0
HasSide s (same a b) = (a ≡ s) ⊎ (b ≡ s)
HasSide s (differ a b) = (a ≡ s) ⊎ (b ≡ s)
HasSide s (at_most_zero g) = ⊥
HasSide s (is_zero g) = ⊥
HasSide s (not_zero g) = ⊥

-- an atom of the list has the place as a side
abbrev pub Mentions : List Atom → ℕ → Type 0
Mentions l p = (k : ℕ) × (a : Atom) × (slice_get l k ≡ Some a) × HasSide (at p) a

-- the atom at k is a disequality whose sides are forced to be the same
abbrev pub Contradicts : List Atom → ℕ → Type 0
Contradicts l k = (a : Side) × (b : Side) × (slice_get l k ≡ Some (differ a b)) × Forced l a b

-- the first one is at k
pub record FirstContradiction (l : List Atom) (k : ℕ) : Type 0 where
  pub here : Contradicts l k
  pub first : (j : ℕ) → j < k → Contradicts l j → ⊥

-- the list has a class for each of n places: one class where places are forced to be the same,
-- 0 where one is forced to be NULL or isn't mentioned, and no disequality is contradicted
pub record AreClasses (l : List Atom) (n : ℕ) (classes : List ℕ) : Type 0 where
  pub each : length classes ≡ n
  pub together : (p q c d : ℕ) → Mentions l p → Mentions l q → slice_get classes p ≡ Some c → slice_get classes q ≡ Some d
      → (c ≡ d) ↔ Forced l (at p) (at q)
  pub null : (p c : ℕ) → slice_get classes p ≡ Some c → (c ≡ 0) ↔ (Forced l (at p) nothing ⊎ (Mentions l p → ⊥))
  pub apart : (k : ℕ) → Contradicts l k → ⊥
