-- The values in a box, by number.
use Rattle.std.specs.Prelude.{ℕ, ◌/◌, ◌%◌, ◌<◌, ◌≡◌, ℤ, pos, ◌+ℤ◌, List, [], ◌∷◌, Option, Some, None}
use Rattle.std.specs.declared.vec.Vec.{Vec}
use Rattle.std.specs.declared.alloc.Global.{Global}
use Rattle.cc_base.specs.Groups.{Atom, HoldAll}
use Rattle.cc_base.specs.Witness.{changed, origin}
use Rattle.linear_solver.specs.Seen.{at_places}

-- the digits of k in base w, from lo on, are the values of the places
unfoldable pub decoded : ℤ → ℕ → ℕ → List ℕ → ℕ → ℤ
decoded lo w k [] = origin
decoded lo w k (x ∷ l) = changed (decoded lo w (k / w) l) x (lo +ℤ pos (k % w))

-- a point below the count that meets the atoms, or none of them does
abbrev pub Searched : ℤ → ℕ → ℕ → List ℕ → List Atom → Option (Vec ℤ Global) → Type 0
Searched lo w n p l None = (k : ℕ) → k < n → HoldAll (decoded lo w k p) l → ⊥
Searched lo w n p l (Some v) = ((k : ℕ) × (k < n) × (at_places v.items ≡ decoded lo w k p)) × HoldAll (at_places v.items) l
