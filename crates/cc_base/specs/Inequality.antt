-- Inequalities between sums of terms and numbers, and what they say of values for the places.
-- Dividing an inequality by its coefficients' common divisor and rounding its bound down is the tightening of the Omega test (Pugh, 1991).
-- The rest of a normal form is this project's own.
use Rattle.std.specs.Prelude.{ℕ, zero, suc, ◌/◌, ◌%◌, ℤ, pos, negsuc, ◌+ℤ◌, ◌*ℤ◌, ◌≤ℤ◌, Bool, true, false, List, [], ◌∷◌, map, nat_eq, nat_lt, unsigned_abs, if◌then◌else◌}
-- a multiple of a place
pub use Rattle.cc_base.specs.declared.forms.Multiple.{Multiple}

-- the sum of the terms is at most a number; the terms are ascending by place, none is zero
pub record Inequality : Type 0 where
  pub terms : List Multiple
  pub most : ℤ

-- the sum of the terms at the values v
unfoldable pub total : (ℕ → ℤ) → List Multiple → ℤ
total v [] = pos 0
total v (t ∷ l) = t.coefficient *ℤ v t.place +ℤ total v l

pub record Meets (v : ℕ → ℤ) (i : Inequality) : Type 0 where
  pub holds : total v i.terms ≤ℤ i.most

abbrev pub MeetsAll : (ℕ → ℤ) → List Inequality → Type 0
MeetsAll v [] = Unit {0}
MeetsAll v (i ∷ l) = Meets v i × MeetsAll v l

-- ---- the normal form: divided by the greatest common divisor, the bound rounded down

-- Euclid's steps
unfoldable pub euclid : ℕ → ℕ → ℕ → ℕ
euclid zero a b = 1
euclid (suc n) a zero = a
euclid (suc n) a (suc b) = euclid n (suc b) (a % suc b)

unfoldable pub gcd : ℕ → ℕ → ℕ
gcd a b = euclid (suc (suc b)) a b

-- of g and the coefficients
unfoldable pub divisor_from : ℕ → List Multiple → ℕ
divisor_from g [] = g
divisor_from g (t ∷ l) = divisor_from (gcd g (unsigned_abs t.coefficient)) l

unfoldable pub divisor : List Multiple → ℕ
divisor l = divisor_from 0 l

-- the floor of z / g
unfoldable pub floor : ℤ → ℕ → ℤ
floor (pos n) g = pos (n / g)
floor (negsuc n) g = negsuc (n / g)

unfoldable pub divided : ℕ → Multiple → Multiple
divided g t = record { place = t.place; coefficient = floor t.coefficient g }

unfoldable pub divided_by : ℕ → Inequality → Inequality
divided_by zero i = i
divided_by (suc g) i = record { terms = map (divided (suc g)) i.terms; most = floor i.most (suc g) }

unfoldable pub normal : Inequality → Inequality
normal i = divided_by (divisor i.terms) i

-- ---- sums of terms

unfoldable pub scaled_term : ℤ → Multiple → Multiple
scaled_term k t = record { place = t.place; coefficient = k *ℤ t.coefficient }

unfoldable pub scaled : ℤ → List Multiple → List Multiple
scaled k [] = []
scaled k (t ∷ l) = scaled_term k t ∷ scaled k l

unfoldable pub int_is_zero : ℤ → Bool
int_is_zero (pos zero) = true
int_is_zero (pos (suc n)) = false
int_is_zero (negsuc n) = false

unfoldable pub put_unless_zero : ℕ → ℤ → List Multiple → List Multiple
put_unless_zero x k l = if int_is_zero k then l else (record { place = x; coefficient = k } ∷ l)

-- the term t and the rest p, merged with q; `rest` merges p with what is left
unfoldable pub merge_term : Multiple → (List Multiple → List Multiple) → List Multiple → List Multiple
merge_term t rest [] = t ∷ rest []
merge_term t rest (u ∷ q) =
    if nat_lt t.place u.place then t ∷ rest (u ∷ q)
    else (if nat_lt u.place t.place then u ∷ merge_term t rest q
    else put_unless_zero t.place (t.coefficient +ℤ u.coefficient) (rest q))

unfoldable pub merge : List Multiple → List Multiple → List Multiple
merge [] q = q
merge (t ∷ p) q = merge_term t (merge p) q

-- the coefficient of the place x
unfoldable pub coefficient : ℕ → List Multiple → ℤ
coefficient x [] = pos 0
coefficient x (t ∷ l) = (if nat_eq x t.place then t.coefficient else pos 0) +ℤ coefficient x l
