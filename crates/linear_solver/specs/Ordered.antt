-- What keeps the sums of the solver within 128 bits. The bounds are this project's own.
use Rattle.std.specs.Prelude.{ℕ, suc, ◌≤◌, ◌<◌, ◌^◌, List, [], ◌∷◌, unsigned_abs, All}
use Rattle.cc_base.specs.Inequality.{Inequality}
use Rattle.cc_base.specs.declared.forms.Multiple.{Multiple}

-- the terms are ascending by place, from n on, and the places fit 32 bits
abbrev pub Ordered : ℕ → List Multiple → Type 0
Ordered n [] = Unit {0}
Ordered n (t ∷ l) = (n ≤ t.place) × (t.place < 2 ^ 32) × Ordered (suc t.place) l

-- an inequality that a pass can make normal
pub record Safe (i : Inequality) : Type 0 where
  pub ordered : Ordered 0 i.terms
  pub terms : All (λ t. unsigned_abs t.coefficient < 2 ^ 127) i.terms

abbrev pub SafeAll : List Inequality → Type 0
SafeAll [] = Unit {0}
SafeAll (i ∷ l) = Safe i × SafeAll l

-- an inequality that isn't too wide
pub record Narrow (i : Inequality) : Type 0 where
  pub ordered : Ordered 0 i.terms
  pub terms : All (λ t. unsigned_abs t.coefficient ≤ 2 ^ 44) i.terms
  pub most : unsigned_abs i.most ≤ 2 ^ 80

abbrev pub NarrowAll : List Inequality → Type 0
NarrowAll [] = Unit {0}
NarrowAll (i ∷ l) = Narrow i × NarrowAll l
