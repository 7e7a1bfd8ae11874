-- Tables of the code, as lists.
use Rattle.std.specs.Prelude.{ℕ, List, map, length}
use denote.Ref.{Bor}
use Rattle.cc_model.specs.declared.tokens.Punct.{Punct}

abbrev pub seen_row : {A : Type 0} → Bor (List ℕ) × A → List ℕ × A
seen_row e = (e.0.now, e.1)

-- the texts of a table, without where they lie in memory
abbrev pub seen : {A : Type 0} → List (Bor (List ℕ) × A) → List (List ℕ × A)
seen table = map seen_row table

-- a sign and its length
abbrev pub sized : List ℕ × Punct → Punct × ℕ
sized s = (s.1, length s.0)
