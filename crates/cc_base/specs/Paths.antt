-- Paths, and their byte order. They are this project's own.
use Rattle.std.specs.Prelude.{ℕ, suc, ◌<◌, ◌≡◌, ◌⊎◌, List, [], ◌∷◌, ◌++◌, map, nat_eq, codes, if◌then◌else◌}
use Rattle.cc_base.specs.declared.outcomes.Outcome.{Outcome}
use Rattle.cc_base.specs.Outcomes.{byte_of}

-- the outcomes of a run, in order
abbrev pub Path : Type 0
Path = List Outcome

-- x is one of the list
abbrev pub In : {A : Type 0} → A → List A → Type 0
In x [] = ⊥
In x (y ∷ l) = (x ≡ y) ⊎ In x l

-- R holds of each one and each later one
abbrev pub Pairwise : {A : Type 0} → (A → A → Type 0) → List A → Type 0
Pairwise R [] = Unit {0}
Pairwise {A = A} R (x ∷ l) = ((y : A) → In y l → R x y) × Pairwise R l

-- the outcomes of the list ascend by their bytes
abbrev pub Ascend : List Outcome → Type 0
Ascend os = Pairwise (λ o p. byte_of o < byte_of p) os

-- p is below q in byte order: p ends where q goes on, or the first outcomes that differ do so that way
abbrev pub Before : Path → Path → Type 0
Before p [] = ⊥
Before [] (b ∷ q) = Unit {0}
Before (a ∷ p) (b ∷ q) = (byte_of a < byte_of b) ⊎ ((a ≡ b) × Before p q)

-- q, followed by o
abbrev pub next : Path → Outcome → Path
next q o = q ++ (o ∷ [])

-- p begins with q
abbrev pub BeginsWith : Path → Path → Type 0
BeginsWith p q = (r : Path) × (p ≡ q ++ r)

-- p begins with q and goes on
abbrev pub GoesOnFrom : Path → Path → Type 0
GoesOnFrom p q = (o : Outcome) × (r : Path) × (p ≡ q ++ o ∷ r)

-- how many first outcomes p and q have in common
unfoldable pub in_common : Path → Path → ℕ
in_common [] q = 0
in_common (a ∷ p) [] = 0
in_common (a ∷ p) (b ∷ q) = if nat_eq (byte_of a) (byte_of b) then suc (in_common p q) else 0

-- a path as it is written: its bytes, or ~ where it has none
abbrev pub path_text : Path → List ℕ
path_text [] = codes "~"
path_text (o ∷ p) = map byte_of (o ∷ p)
