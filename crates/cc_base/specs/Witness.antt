-- The values that a dark pass finds, backwards: a place gets the greatest of its lower bounds, or the least upper one where it has no lower.
-- That they meet the list is the theorem on the dark shadow of the Omega test (Pugh, 1991).
use Rattle.std.specs.Prelude.{ℕ, zero, suc, ℤ, pos, ◌-ℤ◌, neg_ℤ, List, [], ◌∷◌, nat_eq, int_le, if◌then◌else◌}
use Rattle.cc_base.specs.Inequality.{Inequality, total, floor, coefficient}
use Rattle.cc_base.specs.Pass.{Mode, ended, going, ready, lowers, uppers, below, above, eliminate}

-- v, with z for the place x
unfoldable pub changed : (ℕ → ℤ) → ℕ → ℤ → ℕ → ℤ
changed v x z y = if nat_eq x y then z else v y

-- what the terms but that of x leave
unfoldable pub left : (ℕ → ℤ) → ℕ → Inequality → ℤ
left v x i = i.most -ℤ total (changed v x (pos 0)) i.terms

-- the least value of x that a lower inequality allows, and the greatest that an upper one does
unfoldable pub least_for : (ℕ → ℤ) → ℕ → Inequality → ℤ
least_for v x i = neg_ℤ (floor (left v x i) (below (coefficient x i.terms)))

unfoldable pub most_for : (ℕ → ℤ) → ℕ → Inequality → ℤ
most_for v x i = floor (left v x i) (above (coefficient x i.terms))

unfoldable pub larger : ℤ → ℤ → ℤ
larger a b = if int_le a b then b else a

unfoldable pub smaller : ℤ → ℤ → ℤ
smaller a b = if int_le a b then a else b

unfoldable pub greatest : (ℕ → ℤ) → ℕ → Inequality → List Inequality → ℤ
greatest v x i [] = least_for v x i
greatest v x i (j ∷ l) = larger (least_for v x i) (greatest v x j l)

unfoldable pub smallest : (ℕ → ℤ) → ℕ → Inequality → List Inequality → ℤ
smallest v x i [] = most_for v x i
smallest v x i (j ∷ l) = smaller (most_for v x i) (smallest v x j l)

unfoldable pub value_for : (ℕ → ℤ) → ℕ → List Inequality → List Inequality → ℤ
value_for v x [] [] = pos 0
value_for v x [] (j ∷ us) = smallest v x j us
value_for v x (i ∷ ls) us = greatest v x i ls

unfoldable pub restored : (ℕ → ℤ) → ℕ → List Inequality → ℕ → ℤ
restored v x l = changed v x (value_for v x (lowers x l) (uppers x l))

-- 0 everywhere, where a pass ends
unfoldable pub origin : ℕ → ℤ
origin = λ y. pos 0

-- the values by the turns of a pass
unfoldable pub witness : Mode → ℕ → List Inequality → ℕ → ℤ
witness m zero l = origin
witness m (suc n) l = elim (ready l) [ ended e ↦ origin | going x k ↦ restored (witness m n (eliminate m x k)) x k ]

-- a turn: its place, and the list from which it was taken
pub record Turn : Type 0 where
  pub place : ℕ
  pub list : List Inequality

-- the values, backwards through the turns
unfoldable pub unwound : List Turn → (ℕ → ℤ) → ℕ → ℤ
unwound [] v = v
unwound (t ∷ l) v = restored (unwound l v) t.place t.list
