-- The open branches of a depth-first search, as a caller sees them.
use Rattle.std.specs.Prelude.{ℕ, ◌+◌, ◌<◌, ◌≡◌, ◌⊎◌, List, [], ◌∷◌, length, nat_eq, if◌then◌else◌}
use Rattle.cc_base.specs.declared.outcomes.Outcome.{Outcome}
use Rattle.cc_base.specs.Outcomes.{byte_of}
use Rattle.cc_base.specs.Paths.{In, Ascend}

-- the greatest number of levels, and the unsettled outcomes of each level, the deepest level first (this project's own)
pub record Branches : Type 0 where
  pub most : ℕ
  pub levels : List (List Outcome)

-- how many outcomes are unsettled
abbrev pub unsettled : List (List Outcome) → ℕ
unsettled [] = 0
unsettled (os ∷ rest) = length os + unsettled rest

-- there is no level, or the deepest has nothing unsettled
abbrev pub NoneOpen : List (List Outcome) → Type 0
NoneOpen ls = (ls ≡ []) ⊎ ((rest : List (List Outcome)) × (ls ≡ [] ∷ rest))

-- the byte of o is below that of each of the list
abbrev pub Below : Outcome → List Outcome → Type 0
Below o os = (p : Outcome) → In p os → byte_of o < byte_of p

-- o stands first in the deepest level, and below all others there
abbrev pub IsLeast : Outcome → List (List Outcome) → Type 0
IsLeast o ls = (os : List Outcome) × (rest : List (List Outcome)) × (ls ≡ (o ∷ os) ∷ rest) × Below o os

-- o is unsettled in the deepest level
abbrev pub IsOpen : Outcome → List (List Outcome) → Type 0
IsOpen o ls = (os : List Outcome) × (rest : List (List Outcome)) × (ls ≡ os ∷ rest) × In o os

-- the deepest level has nothing unsettled
abbrev pub IsOver : List (List Outcome) → Type 0
IsOver ls = (rest : List (List Outcome)) × (ls ≡ [] ∷ rest)

-- each level ascends
abbrev pub EachAscends : List (List Outcome) → Type 0
EachAscends [] = Unit {0}
EachAscends (os ∷ rest) = Ascend os × EachAscends rest

-- the outcomes, less the first that has the byte of o (in an ascending list the only one)
abbrev pub without : Outcome → List Outcome → List Outcome
without o [] = []
without o (p ∷ os) = if nat_eq (byte_of p) (byte_of o) then os else p ∷ without o os

-- the levels once o is settled in the deepest
abbrev pub settled : Outcome → List (List Outcome) → List (List Outcome)
settled o [] = []
settled o (os ∷ rest) = without o os ∷ rest

-- the levels once o stands first in the deepest
abbrev pub with_least : Outcome → List (List Outcome) → List (List Outcome)
with_least o [] = []
with_least o (os ∷ rest) = (o ∷ os) ∷ rest

-- the deepest level can take o before its others: it has fewer than 29, all above o
abbrev pub HasRoom : Outcome → List (List Outcome) → Type 0
HasRoom o ls = (os : List Outcome) × (rest : List (List Outcome)) × (ls ≡ os ∷ rest) × (length os < 29) × Below o os

-- some outcome is unsettled in the deepest level
abbrev pub IsSomeOpen : List (List Outcome) → Type 0
IsSomeOpen ls = (o : Outcome) × (os : List Outcome) × (rest : List (List Outcome)) × (ls ≡ (o ∷ os) ∷ rest)

-- o, the least of the deepest level, was taken off it, and nothing else changed
abbrev pub Takes : Outcome → Branches → Branches → Type 0
Takes o old new =
    (os : List Outcome) × (rest : List (List Outcome)) × (old.levels ≡ (o ∷ os) ∷ rest) × (new ≡ record { most = old.most; levels = os ∷ rest }) × (length os < 29) × Below o os
