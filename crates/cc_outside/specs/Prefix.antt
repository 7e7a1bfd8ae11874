-- First parts of lists.
use Rattle.std.specs.Prelude.{◌≡◌, ℕ, List, ◌++◌}

-- the list begins with the part: some rest follows it; this project's own
abbrev pub IsFirstPart : List ℕ → List ℕ → Type 0
IsFirstPart part whole = (rest : List ℕ) × (whole ≡ part ++ rest)
