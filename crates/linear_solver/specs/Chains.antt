-- How the inequalities that have given terms are found again: by buckets, in each of which they are chained.
use Rattle.std.specs.Prelude.{ℕ, suc, ◌+◌, ◌*◌, ◌%◌, ◌<◌, ◌≤◌, ◌≡◌, List, [], ◌∷◌, length, get_or, unsigned_abs, pos}
use Rattle.cc_base.specs.Inequality as plain
use Rattle.cc_base.specs.declared.forms.Multiple.{Multiple}
use Rattle.linear_solver.specs.declared.tidy.Kept.{Kept}
use Rattle.linear_solver.specs.Seen.{seen_all}

-- a number that terms have; nothing rests on which one
unfoldable pub mix : ℕ → Multiple → ℕ
mix h t = (((h * 1000003) + (t.place * 31)) + (unsigned_abs t.coefficient % 4294967296)) % 4294967296

unfoldable pub mixed : ℕ → List Multiple → ℕ
mixed h [] = h
mixed h (t ∷ l) = mixed (mix h t) l

unfoldable pub bucket : ℕ → List Multiple → ℕ
bucket n l = mixed 0 l % n

-- the terms at an index, none past the end
unfoldable pub terms_at : List plain.Inequality → ℕ → List Multiple
terms_at l k = (get_or l k (record { terms = []; most = pos 0 })).terms

-- the n inequalities with the terms t are all different, and each bucket leads from its last one back through all of them
pub record Chained (n : ℕ) (t : ℕ → List Multiple) (last before : List ℕ) : Type 0 where
  pub some : 0 < length last
  pub size : length before ≡ n
  pub last_within : (b : ℕ) → get_or last b 0 ≤ n
  pub before_within : (k : ℕ) → k < n → get_or before k 0 ≤ k
  pub last_is : (b k : ℕ) → get_or last b 0 ≡ suc k → bucket (length last) (t k) ≡ b
  pub before_is : (k j : ℕ) → k < n → get_or before k 0 ≡ suc j → bucket (length last) (t j) ≡ bucket (length last) (t k)
  pub none_after : (b j : ℕ) → get_or last b 0 ≤ j → j < n → bucket (length last) (t j) ≡ b → ⊥
  pub none_between : (k j : ℕ) → k < n → get_or before k 0 ≤ j → j < k → bucket (length last) (t j) ≡ bucket (length last) (t k) → ⊥
  pub different : (j k : ℕ) → j < k → k < n → t j ≡ t k → ⊥

abbrev pub IsChained : Kept → Type 0
IsChained a = Chained (length a.list.items) (terms_at (seen_all a.list.items)) a.last.items a.before.items
