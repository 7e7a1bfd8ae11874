-- Products, floors and divisors of integers.
use Rattle.std.proofs.Common.{◌≡◌, ℕ, zero, suc, ◌+◌, ◌-◌, ◌*◌, ◌/◌, ◌%◌, ◌<◌, ℤ, pos, negsuc, neg_ℤ, ◌+ℤ◌, ◌*ℤ◌, ◌≤ℤ◌, int_le, unsigned_abs, Bool, true, false, ◌⊎◌, inl, inr, refl, sym, ap, ◌∙◌, arith}
use Rattle.std.proofs.lemmas.Int.{ints}
use Rattle.std.proofs.lemmas.Nat.Gcd.{dvd_refl, dvd-zero}
use native.Mathlib.Nat.{dvd-mod_iff, mul-div_cancel', one-dvd, mul-le-mul_left}
use borrow.Author.Differences.{up, down, sum_is_lem, product_is}
use Rattle.std.proofs.lemmas.Bool.{cases_lt}
use Prim.Native.Nat.{◌∣◌}
use Rattle.std.specs.Int.{int_div_euclid}
use Rattle.cc_base.specs.Inequality.{floor, gcd, euclid}

pub bool_cases : (b : Bool) → (b ≡ true) ⊎ (b ≡ false)
bool_cases true = inl refl
bool_cases false = inr refl

-- ring laws, by the two parts of an integer
pub mul_add : (a b c : ℤ) → a *ℤ (b +ℤ c) ≡ (a *ℤ b) +ℤ (a *ℤ c)
mul_add a b c = let p = sum_is_lem b c in omega (arith, ints, ap (λ (n : ℕ). up a * n) p, ap (λ (n : ℕ). down a * n) p)

pub add_mul : (a b c : ℤ) → (a +ℤ b) *ℤ c ≡ (a *ℤ c) +ℤ (b *ℤ c)
add_mul a b c = let p = sum_is_lem a b in omega (arith, ints, ap (λ (n : ℕ). n * up c) p, ap (λ (n : ℕ). n * down c) p)

pub mul_assoc_z : (a b c : ℤ) → (a *ℤ b) *ℤ c ≡ a *ℤ (b *ℤ c)
mul_assoc_z a b c =
    let p = product_is a b in let q = product_is b c in
    omega (
      arith,
      ints,
      ap (λ (n : ℕ). n * up c) p.0,
      ap (λ (n : ℕ). n * down c) p.0,
      ap (λ (n : ℕ). n * up c) p.1,
      ap (λ (n : ℕ). n * down c) p.1,
      ap (λ (n : ℕ). up a * n) q.0,
      ap (λ (n : ℕ). down a * n) q.0,
      ap (λ (n : ℕ). up a * n) q.1,
      ap (λ (n : ℕ). down a * n) q.1,
    )

pub scale_le : (g : ℕ) (a b : ℤ) → a ≤ℤ b → (pos g *ℤ a) ≤ℤ (pos g *ℤ b)
scale_le zero a b h = omega (arith, ints)
scale_le (suc g) a b h = let i = scale_le g a b h in omega (arith, ints, i, h)

-- b is g times its floor, and a rest below g
pub floor_is : (g : ℕ) (b : ℤ) → 0 < g → (r : ℕ) × (r < g) × (b ≡ (pos g *ℤ floor b g) +ℤ pos r)
unfolding floor
floor_is g (pos n) h = (n % g, omega arith, omega (arith, ints))
floor_is g (negsuc n) h = (g - suc (n % g), omega arith, omega (arith, ints))

pub floor_up : (g : ℕ) (s b : ℤ) → 0 < g → (pos g *ℤ s) ≤ℤ b → s ≤ℤ floor b g
floor_up g s b h k = let f = floor_is g b h in let lt = f.1 in let e = f.2 in elim (bool_cases (int_le s (floor b g))) [
  | inl t ↦ grind (arith, ints)
  | inr t ↦
      let m : (floor b g +ℤ pos 1) ≤ℤ s = grind (arith, ints) in
      let i = scale_le g (floor b g +ℤ pos 1) s m in let d = mul_add (pos g) (floor b g) (pos 1) in
      absurd (omega (arith, ints, i, d, e, k, lt))
]

pub floor_down : (g : ℕ) (s b : ℤ) → 0 < g → s ≤ℤ floor b g → (pos g *ℤ s) ≤ℤ b
floor_down g s b h k = let f = floor_is g b h in let i = scale_le g s (floor b g) k in let e = f.2 in omega (arith, ints, i, e)

next_quotient : (g q d r n : ℕ) → r < g → g * d + r ≡ n → g * q ≡ suc n → q ≡ suc d
next_quotient g q d r n lt e i = elim (cases_lt d q) [
  | inl h ↦ elim (cases_lt (suc d) q) [
    | inl k ↦ let m = mul-le-mul_left g k in absurd (omega (arith, m))
    | inr k ↦ omega arith
  ]
  | inr h ↦ let m = mul-le-mul_left g h in absurd (omega (arith, m))
]

-- an exact quotient
pub exact : (g : ℕ) (k : ℤ) → 0 < g → g ∣ unsigned_abs k → pos g *ℤ floor k g ≡ k
unfolding floor
exact g (pos n) h d = let e = mul-div_cancel' g d in omega (arith, ints, e)
exact g (negsuc n) h d =
    let e : g * (suc n / g) ≡ suc n = mul-div_cancel' g d in
    let i : suc n / g ≡ suc (n / g) = next_quotient g (suc n / g) (n / g) (n % g) n (omega arith) (omega arith) e in
    let k : g * suc (n / g) ≡ suc n = ap (λ (m : ℕ). g * m) (sym i) ∙ e in
    ap (λ (m : ℕ). neg_ℤ (pos m)) k

pub euclid_divides : (f a b : ℕ) → (euclid f a b ∣ a) × (euclid f a b ∣ b)
unfolding euclid
euclid_divides zero a b = (one-dvd a, one-dvd b)
euclid_divides (suc n) a zero = (dvd_refl a, dvd-zero a)
euclid_divides (suc n) a (suc b) = let i = euclid_divides n (suc b) (a % suc b) in ((dvd-mod_iff (euclid n (suc b) (a % suc b)) i.0).0 i.1, i.0)

pub gcd_divides : (a b : ℕ) → (gcd a b ∣ a) × (gcd a b ∣ b)
unfolding gcd
gcd_divides a b = euclid_divides (suc (suc b)) a b

-- more steps than the second number change nothing
euclid_same : (n m a b : ℕ) → b < n → b < m → euclid n a b ≡ euclid m a b
unfolding euclid
euclid_same zero m a b h k = absurd (omega arith)
euclid_same (suc n) zero a b h k = absurd (omega arith)
euclid_same (suc n) (suc m) a zero h k = refl
euclid_same (suc n) (suc m) a (suc b) h k = euclid_same n m (suc b) (a % suc b) (omega arith) (omega arith)

pub gcd-zero : (a : ℕ) → gcd a 0 ≡ a
unfolding gcd euclid
gcd-zero a = refl

pub gcd_step : (a b : ℕ) → 0 < b → gcd b (a % b) ≡ gcd a b
unfolding gcd euclid
gcd_step a zero h = absurd (omega arith)
gcd_step a (suc b) h = euclid_same (suc (suc (a % suc b))) (suc (suc b)) (suc b) (a % suc b) (omega arith) (omega arith)

euclid_below : (n f a b : ℕ) → 1 < n → a < n → b < n → euclid f a b < n
unfolding euclid
euclid_below n zero a b o h k = o
euclid_below n (suc f) a zero o h k = h
euclid_below n (suc f) a (suc b) o h k = euclid_below n f (suc b) (a % suc b) o k (omega arith)

pub gcd_below : (n a b : ℕ) → 1 < n → a < n → b < n → gcd a b < n
unfolding gcd
gcd_below n a b o h k = euclid_below n (suc (suc b)) a b o h k

pub floor_div : (z : ℤ) (g : ℕ) → int_div_euclid z (pos g) ≡ floor z g
unfolding floor
floor_div (pos n) g = refl
floor_div (negsuc n) g = refl
