-- Trees of nodes, and the sides whose nodes share a tree. They are this project's own.
use Rattle.std.specs.Prelude.{ℕ, suc, ◌<◌, ◌≤◌, ◌^◌, ◌≡◌, ◌≢◌, ◌↔◌, ◌⊎◌, List, length, Option, Some, None, slice_get, slice_index, slice_index_or}
use Rattle.cc_base.specs.Forms.{Side, nothing, at, Atom, at_most_zero, is_zero, not_zero, same, differ}
use Rattle.cc_base.specs.Classes.{Forced}

-- the node of a side: NULL's is 0, and a place's is its number and 1
abbrev pub node : Side → ℕ
node nothing = 0
node (at p) = suc p

-- the parent of a node; a root is its own parent
abbrev pub up : List ℕ → ℕ → ℕ
up parents x = slice_index_or parents x x

-- parents are nodes, and ranks rise on the way to a root
pub record IsForest (parents ranks : List ℕ) : Type 0 where
  pub some : 0 < length parents
  pub few : length parents ≤ 2 ^ 32
  pub each : length ranks ≡ length parents
  pub within : (x : ℕ) → x < length parents → up parents x < length parents
  pub rises : (x : ℕ) → x < length parents → up parents x ≢ x → slice_index ranks x < slice_index ranks (up parents x)

-- `root` gives the root of each node
pub record IsRooted (parents : List ℕ) (root : ℕ → ℕ) : Type 0 where
  pub step : (x : ℕ) → root (up parents x) ≡ root x
  pub fixed : (x : ℕ) → up parents x ≡ x → root x ≡ x
  pub top : (x : ℕ) → up parents (root x) ≡ root x

-- the trees of two nodes became one, and no others did
pub record Joins (old new : ℕ → ℕ) (a b : ℕ) : Type 0 where
  pub kept : (x y : ℕ) → old x ≡ old y → new x ≡ new y
  pub joined : new a ≡ new b
  pub only : (x y : ℕ) → new x ≡ new y → (old x ≡ old y) ⊎ (((old x ≡ old a) × (old y ≡ old b)) ⊎ ((old x ≡ old b) × (old y ≡ old a)))

-- the nodes of two sides share a tree exactly where the equalities of the list force the sides to be the same
abbrev pub Agrees : (ℕ → ℕ) → List Atom → Type 0
Agrees root l = (a b : Side) → (root (node a) ≡ root (node b)) ↔ Forced l a b

-- the trees are the classes of the list
abbrev pub Solves : List ℕ → List Atom → Type 0
Solves parents l = (root : ℕ → ℕ) × IsRooted parents root × Agrees root l

-- the atom is a disequality of two sides whose nodes share a tree
abbrev pub ContradictedAt : (ℕ → ℕ) → Atom → Type 0
ContradictedAt root (differ a b) = root (node a) ≡ root (node b)
ContradictedAt root (same a b) = ⊥
ContradictedAt root (at_most_zero g) = ⊥
ContradictedAt root (is_zero g) = ⊥
ContradictedAt root (not_zero g) = ⊥

-- no atom before k is such a disequality
abbrev pub NoneBefore : (ℕ → ℕ) → List Atom → ℕ → Type 0
NoneBefore root l k = (j : ℕ) (a : Atom) → j < k → slice_get l j ≡ Some a → ContradictedAt root a → ⊥

-- the index of the first one, or None where the list has none
abbrev pub IsFirst : (ℕ → ℕ) → List Atom → Option ℕ → Type 0
IsFirst root l (Some k) = (a : Atom) × (slice_get l k ≡ Some a) × ContradictedAt root a × NoneBefore root l k
IsFirst root l None = NoneBefore root l (length l)
