-- A pass over a list of inequalities: it takes the places out of it, one after another.
-- Pairing lower with upper ones is Fourier-Motzkin elimination; the real and the dark shadow are those of the Omega test (Pugh, 1991).
-- Which place goes first, when a pass ends open, and its cost are this project's own.
use Rattle.std.specs.Prelude.{ℕ, zero, suc, ◌+◌, ◌-◌, ◌*◌, ◌^◌, ℤ, pos, negsuc, ◌+ℤ◌, ◌-ℤ◌, ◌*ℤ◌, Bool, true, false, not, ◌&&◌, ◌||◌, List, [], ◌∷◌, ◌++◌, length, max, nat_eq, nat_lt, int_lt, int_le, unsigned_abs, if◌then◌else◌}
use Rattle.cc_base.specs.Inequality.{Multiple, Inequality, normal, scaled, merge, coefficient}
-- real or dark, and how a pass ends
pub use Rattle.cc_base.specs.declared.passes.Mode.{Mode}
pub use Rattle.cc_base.specs.declared.passes.Mode.TheVariants.{Real, Dark}
pub use Rattle.cc_base.specs.declared.passes.PassEnd.{PassEnd}
pub use Rattle.cc_base.specs.declared.passes.PassEnd.TheVariants.{Open, Empty, Full}

-- ---- 1. normal inequalities, of those with equal coefficients the least bound

unfoldable pub int_same : ℤ → ℤ → Bool
int_same a b = int_le a b && int_le b a

unfoldable pub same_terms : List Multiple → List Multiple → Bool
same_terms [] [] = true
same_terms [] (u ∷ q) = false
same_terms (t ∷ p) [] = false
same_terms (t ∷ p) (u ∷ q) = nat_eq t.place u.place && (int_same t.coefficient u.coefficient && same_terms p q)

unfoldable pub lesser : ℤ → ℤ → ℤ
lesser a b = if int_le a b then a else b

unfoldable pub kept : Inequality → List Inequality → List Inequality
kept i [] = i ∷ []
kept i (j ∷ l) = if same_terms i.terms j.terms then record { terms = j.terms; most = lesser i.most j.most } ∷ l else j ∷ kept i l

unfoldable pub tidy : List Inequality → List Inequality
tidy [] = []
tidy (i ∷ l) = kept (normal i) (tidy l)

unfoldable pub wide_term : List Multiple → Bool
wide_term [] = false
wide_term (t ∷ l) = nat_lt (2 ^ 44) (unsigned_abs t.coefficient) || wide_term l

unfoldable pub too_wide : Inequality → Bool
too_wide i = wide_term i.terms || nat_lt (2 ^ 80) (unsigned_abs i.most)

unfoldable pub some_wide : List Inequality → Bool
some_wide [] = false
some_wide (i ∷ l) = too_wide i || some_wide l

-- ---- 2. those without terms

unfoldable pub has_terms : Inequality → Bool
has_terms i = not (nat_eq (length i.terms) 0)

unfoldable pub is_false : Inequality → Bool
is_false i = not (has_terms i) && int_lt i.most (pos 0)

unfoldable pub some_false : List Inequality → Bool
some_false [] = false
some_false (i ∷ l) = is_false i || some_false l

unfoldable pub with_terms : List Inequality → List Inequality
with_terms [] = []
with_terms (i ∷ l) = if has_terms i then i ∷ with_terms l else with_terms l

-- ---- 3. the place of least slack

-- the coefficient of x is -a below, c above
unfoldable pub below : ℤ → ℕ
below (pos n) = 0
below (negsuc n) = suc n

unfoldable pub above : ℤ → ℕ
above (pos n) = n
above (negsuc n) = 0

unfoldable pub is_positive : ℕ → Bool
is_positive zero = false
is_positive (suc n) = true

unfoldable pub is_lower : ℕ → Inequality → Bool
is_lower x i = is_positive (below (coefficient x i.terms))

unfoldable pub is_upper : ℕ → Inequality → Bool
is_upper x i = is_positive (above (coefficient x i.terms))

unfoldable pub lowers : ℕ → List Inequality → List Inequality
lowers x [] = []
lowers x (i ∷ l) = if is_lower x i then i ∷ lowers x l else lowers x l

unfoldable pub uppers : ℕ → List Inequality → List Inequality
uppers x [] = []
uppers x (i ∷ l) = if is_upper x i then i ∷ uppers x l else uppers x l

unfoldable pub others : ℕ → List Inequality → List Inequality
others x [] = []
others x (i ∷ l) = if is_lower x i || is_upper x i then others x l else i ∷ others x l

unfoldable pub pair_slack : ℕ → Inequality → Inequality → ℕ
pair_slack x i j = (below (coefficient x i.terms) - 1) * (above (coefficient x j.terms) - 1)

unfoldable pub slack_with : ℕ → Inequality → List Inequality → ℕ
slack_with x i [] = 0
slack_with x i (j ∷ us) = max (pair_slack x i j) (slack_with x i us)

unfoldable pub slack_of : ℕ → List Inequality → List Inequality → ℕ
slack_of x [] us = 0
slack_of x (i ∷ ls) us = max (slack_with x i us) (slack_of x ls us)

-- the slack of a place, and its pairs
unfoldable pub slack : ℕ → List Inequality → ℕ
slack x l = slack_of x (lowers x l) (uppers x l)

unfoldable pub pairs : ℕ → List Inequality → ℕ
pairs x l = length (lowers x l) * length (uppers x l)

unfoldable pub better : List Inequality → ℕ → ℕ → Bool
better l x y = nat_lt (slack x l) (slack y l) || (nat_eq (slack x l) (slack y l) &&
    (nat_lt (pairs x l) (pairs y l) || (nat_eq (pairs x l) (pairs y l) && nat_lt x y)))

-- the better of x and of the places that the terms name
unfoldable pub best_in : List Inequality → ℕ → List Multiple → ℕ
best_in l x [] = x
best_in l x (t ∷ p) = best_in l (if better l t.place x then t.place else x) p

unfoldable pub best : List Inequality → ℕ → List Inequality → ℕ
best l x [] = x
best l x (i ∷ m) = best l (best_in l x i.terms) m

unfoldable pub some_place : List Multiple → ℕ
some_place [] = 0
some_place (t ∷ p) = t.place

-- ---- 4. its inequalities give way to one for each pair

unfoldable pub dark_part : Mode → ℕ → ℕ → ℕ
dark_part Real a c = 0
dark_part Dark a c = (a - 1) * (c - 1)

unfoldable pub paired : Mode → ℕ → Inequality → Inequality → Inequality
paired m x i j =
    let a = below (coefficient x i.terms) in let c = above (coefficient x j.terms) in
    record {
      terms = merge (scaled (pos c) i.terms) (scaled (pos a) j.terms);
      most = ((pos c *ℤ i.most) +ℤ (pos a *ℤ j.most)) -ℤ pos (dark_part m a c);
    }

unfoldable pub paired_with : Mode → ℕ → Inequality → List Inequality → List Inequality
paired_with m x i [] = []
paired_with m x i (j ∷ us) = paired m x i j ∷ paired_with m x i us

unfoldable pub all_paired : Mode → ℕ → List Inequality → List Inequality → List Inequality
all_paired m x [] us = []
all_paired m x (i ∷ ls) us = paired_with m x i us ++ all_paired m x ls us

unfoldable pub eliminate : Mode → ℕ → List Inequality → List Inequality
eliminate m x l = others x l ++ all_paired m x (lowers x l) (uppers x l)

-- ---- the pass

-- a list that was made normal: the pass ends, or it goes on with a place and those that have terms
pub data Ready : Type 0 where
  ended : (how : PassEnd) → Ready
  going : (x : ℕ) → (l : List Inequality) → Ready

unfoldable pub go_on : List Inequality → Ready
go_on [] = ended Full
go_on (i ∷ l) = going (best (i ∷ l) (some_place i.terms) (i ∷ l)) (i ∷ l)

unfoldable pub judged : List Inequality → Ready
judged l = if some_wide l then ended Open else (if some_false l then ended Empty else go_on (with_terms l))

unfoldable pub ready : List Inequality → Ready
ready l = judged (tidy l)

pub record Passed : Type 0 where
  pub how : PassEnd
  pub cost : ℕ

unfoldable pub costing : ℕ → Passed → Passed
costing n p = record { how = p.how; cost = n + p.cost }

-- at most n places are taken out; each turn takes out one, so that the number of places will do
unfoldable pub turns : Mode → ℕ → List Inequality → Passed
turns m zero l = record { how = Open; cost = 0 }
turns m (suc n) l = elim (ready l) [ ended e ↦ record { how = e; cost = 0 } | going x k ↦ costing (pairs x k) (turns m n (eliminate m x k)) ]

-- a pass over l, which speaks of at most n places
unfoldable pub pass : Mode → ℕ → List Inequality → Passed
pass m n l = costing (length l) (turns m (suc n) l)
