-- Powers, and the points of a box.
use Rattle.std.proofs.Common.{◌≡◌, ◌∙◌, sym, ap, subst, arith, ℕ, zero, suc, ◌+◌, ◌-◌, ◌*◌, ◌^◌, ◌<◌, ◌≤◌, mul_comm, mul_assoc}
use native.Mathlib.Nat.{pow-zero, pow-succ', mul-le-mul, mul-le-mul_left}

pub power_none : (c w : ℕ) → c ≡ c * w ^ 0
power_none c w = let e : c * 1 ≡ c = omega arith in sym (ap (λ (n : ℕ). c * n) (pow-zero w) ∙ e)

pub power_more : (c w k : ℕ) → (c * w ^ k) * w ≡ c * w ^ (k + 1)
power_more c w k = let n : suc k ≡ k + 1 = omega arith in
    mul_assoc c (w ^ k) w ∙ ap (λ (m : ℕ). c * m) (mul_comm (w ^ k) w ∙ sym (pow-succ' w k) ∙ ap (λ (j : ℕ). w ^ j) n)

one_at_least : (w k : ℕ) → 0 < w → 1 ≤ w ^ k
one_at_least w zero h = let e = pow-zero w in omega (arith, e)
one_at_least w (suc k) h = let i = one_at_least w k h in let e = pow-succ' w k in let p = mul-le-mul h i in omega (arith, e, p)

grows_by : (w k d : ℕ) → 0 < w → w ^ k ≤ w ^ (k + d)
grows_by w k zero h = let e : k + 0 ≡ k = omega arith in subst (λ (j : ℕ). w ^ k ≤ w ^ j) (sym e) (let r : w ^ k ≤ w ^ k = omega arith in r)
grows_by w k (suc d) h =
    let i = grows_by w k d h in let e : suc (k + d) ≡ k + suc d = omega arith in
    let p = mul-le-mul h i in let q = pow-succ' w (k + d) in let s : 1 * w ^ k ≡ w ^ k = omega arith in
    subst (λ (j : ℕ). w ^ k ≤ w ^ j) e (omega (arith, p, q, s))

pub grows : (w k n : ℕ) → 0 < w → k ≤ n → w ^ k ≤ w ^ n
grows w k n h l = let e : k + (n - k) ≡ n = omega arith in subst (λ (j : ℕ). w ^ k ≤ w ^ j) e (grows_by w k (n - k) h)

pub beyond_power : (c w k n b v : ℕ) → 0 < w → k ≤ n → v ≡ c * w ^ k → b < v → c * w ^ n ≤ b → ⊥
beyond_power c w k n b v h l e g m = let p = mul-le-mul_left c (grows w k n h l) in omega (arith, p, e, g, m)
