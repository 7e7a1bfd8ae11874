-- The classes of the places that atoms mention. They are this project's own.
use Rattle.std.specs.Prelude.{ℕ, zero, suc, nat_eq, if◌then◌else◌, List, [], ◌∷◌, slice_set}
use Rattle.cc_base.specs.Forms.{Side, nothing, at, Atom, at_most_zero, is_zero, not_zero, same, differ}

-- the class of a place: 0 where its node shares NULL's tree, else its root
unfoldable pub class : (ℕ → ℕ) → ℕ → ℕ
class root p = if nat_eq (root (suc p)) (root zero) then 0 else root (suc p)

-- the classes, with that of a side's place
abbrev pub marked : (ℕ → ℕ) → Side → List ℕ → List ℕ
marked root nothing classes = classes
marked root (at p) classes = slice_set classes p (class root p)

-- with those of an atom's places
abbrev pub marked_by : (ℕ → ℕ) → Atom → List ℕ → List ℕ
marked_by root (same a b) classes = marked root b (marked root a classes)
marked_by root (differ a b) classes = marked root b (marked root a classes)
marked_by root (at_most_zero g) classes = classes
marked_by root (is_zero g) classes = classes
marked_by root (not_zero g) classes = classes

-- with those of a list's places
abbrev pub marked_all : (ℕ → ℕ) → List Atom → List ℕ → List ℕ
marked_all root [] classes = classes
marked_all root (a ∷ l) classes = marked_all root l (marked_by root a classes)
