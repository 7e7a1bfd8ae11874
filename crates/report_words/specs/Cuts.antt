-- Texts, cut at a byte.
use Rattle.std.specs.Prelude.{ℕ, ◌≡◌, List, [], ◌∷◌, ◌++◌}

-- the byte doesn't stand in the text
abbrev pub Lacks : ℕ → List ℕ → Type 0
Lacks m [] = Unit {0}
Lacks m (b ∷ text) = (b ≡ m → ⊥) × Lacks m text

-- what stands before the first such byte, and behind it
pub record CutFirst (m : ℕ) (text before behind : List ℕ) : Type 0 where
  pub is : text ≡ before ++ m ∷ behind
  pub first : Lacks m before

-- what stands before the last such byte, and behind it
pub record CutLast (m : ℕ) (text before behind : List ℕ) : Type 0 where
  pub is : text ≡ before ++ m ∷ behind
  pub last : Lacks m behind
