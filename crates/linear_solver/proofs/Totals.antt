-- The sums of terms: divided, scaled, merged, at a changed value.
use Rattle.std.proofs.Common.{◌≡◌, ℕ, zero, suc, ℤ, pos, negsuc, ◌+ℤ◌, ◌-ℤ◌, ◌*ℤ◌, nat_eq, nat_lt, unsigned_abs, Bool, ◌↔◌, inl, inr, List, [], ◌∷◌, map, refl, sym, ap, ap₂, ◌∙◌, arith, if◌then◌else◌}
use Rattle.std.proofs.lemmas.Int.{ints}
use Rattle.std.proofs.lemmas.Nat.Gcd.{dvd_refl, dvd_trans}
use Prim.Native.Nat.{◌∣◌}
use borrow.Author.Tests.{eqb-true}
use Rattle.linear_solver.proofs.Integers.{bool_cases, mul_add, add_mul, mul_assoc_z, exact, floor_up, floor_down, gcd_divides}
use Rattle.cc_base.specs.Witness.{changed}
use Rattle.cc_base.specs.Inequality.{Inequality, total, Meets, gcd, divisor_from, divisor, floor, divided, divided_by, normal, scaled_term, scaled, int_is_zero, put_unless_zero, merge_term, merge, coefficient}
use Rattle.cc_base.specs.declared.forms.Multiple.{Multiple}

abbrev pub Divides : ℕ → List Multiple → Type 0
Divides g [] = Unit {0}
Divides g (t ∷ l) = (g ∣ unsigned_abs t.coefficient) × Divides g l

divides_from : (g : ℕ) (l : List Multiple) → (divisor_from g l ∣ g) × Divides (divisor_from g l) l
unfolding divisor_from
divides_from g [] = (dvd_refl g, tt)
divides_from g (t ∷ l) = let e = gcd_divides g (unsigned_abs t.coefficient) in let r = divides_from (gcd g (unsigned_abs t.coefficient)) l in
    (dvd_trans _ r.0 e.0, (dvd_trans _ r.0 e.1, r.1))

pub divisor_divides : (l : List Multiple) → Divides (divisor l) l
unfolding divisor
divisor_divides l = (divides_from 0 l).1

pub total_divided : (v : ℕ → ℤ) (g : ℕ) (l : List Multiple) → Divides (suc g) l → pos (suc g) *ℤ total v (map (divided (suc g)) l) ≡ total v l
unfolding total divided
total_divided v g [] d = omega (arith, ints)
total_divided v g (t ∷ l) d =
    let c = floor t.coefficient (suc g) in let y = v t.place in let s = total v (map (divided (suc g)) l) in
    let e : pos (suc g) *ℤ c ≡ t.coefficient = exact (suc g) t.coefficient (omega arith) d.0 in
    mul_add (pos (suc g)) (c *ℤ y) s ∙ ap₂ (λ (m n : ℤ). m +ℤ n) (sym (mul_assoc_z (pos (suc g)) c y) ∙ ap (λ (m : ℤ). m *ℤ y) e) (total_divided v g l d.1)

-- (a) the normal form has the same values
meets_divided : (v : ℕ → ℤ) (g : ℕ) (i : Inequality) → Divides g i.terms → Meets v (divided_by g i) ↔ Meets v i
unfolding divided_by
meets_divided v zero i d = ((λ h. h), (λ h. h))
meets_divided v (suc g) i d =
    let e = total_divided v g i.terms d in (
      (λ h. record { holds = let k = floor_down (suc g) (total v (map (divided (suc g)) i.terms)) i.most (omega arith) h.holds in omega (arith, ints, k, e) }),
      (λ h. record { holds = let m = h.holds in floor_up (suc g) (total v (map (divided (suc g)) i.terms)) i.most (omega arith) (omega (arith, ints, m, e)) }),
    )

pub meets_normal : (v : ℕ → ℤ) (i : Inequality) → Meets v (normal i) ↔ Meets v i
unfolding normal
meets_normal v i = meets_divided v (divisor i.terms) i (divisor_divides i.terms)

pub total_scaled : (v : ℕ → ℤ) (k : ℤ) (l : List Multiple) → total v (scaled k l) ≡ k *ℤ total v l
unfolding total scaled scaled_term
total_scaled v k [] = omega (arith, ints)
total_scaled v k (t ∷ l) = ap₂ (λ (m n : ℤ). m +ℤ n) (mul_assoc_z k t.coefficient (v t.place)) (total_scaled v k l) ∙ sym (mul_add k (t.coefficient *ℤ v t.place) (total v l))

put_total : (v : ℕ → ℤ) (x : ℕ) (k : ℤ) (l : List Multiple) → total v (put_unless_zero x k l) ≡ (k *ℤ v x) +ℤ total v l
unfolding total put_unless_zero int_is_zero
put_total v x (pos zero) l = omega (arith, ints)
put_total v x (pos (suc n)) l = refl
put_total v x (negsuc n) l = refl

term_total : (v : ℕ → ℤ) (t : Multiple) (rest : List Multiple → List Multiple) (s : ℤ) → ((q : List Multiple) → total v (rest q) ≡ s +ℤ total v q) → (q : List Multiple) → total v (merge_term t rest q) ≡ ((t.coefficient *ℤ v t.place) +ℤ s) +ℤ total v q
unfolding merge_term total
term_total v t rest s h [] = let e = h [] in omega (arith, ints, e)
term_total v t rest s h (u ∷ q) = let e = h (u ∷ q) in let i = term_total v t rest s h q in let f = h q in
    elim (bool_cases (nat_lt t.place u.place)) [
      | inl a ↦ ap (λ (b : Bool). total v (if b then t ∷ rest (u ∷ q) else (if nat_lt u.place t.place then u ∷ merge_term t rest q else put_unless_zero t.place (t.coefficient +ℤ u.coefficient) (rest q)))) a ∙ omega (arith, ints, e)
      | inr a ↦ ap (λ (b : Bool). total v (if b then t ∷ rest (u ∷ q) else (if nat_lt u.place t.place then u ∷ merge_term t rest q else put_unless_zero t.place (t.coefficient +ℤ u.coefficient) (rest q)))) a ∙
          elim (bool_cases (nat_lt u.place t.place)) [
            | inl b ↦ ap (λ (c : Bool). total v (if c then u ∷ merge_term t rest q else put_unless_zero t.place (t.coefficient +ℤ u.coefficient) (rest q))) b ∙ omega (arith, ints, i)
            | inr b ↦ ap (λ (c : Bool). total v (if c then u ∷ merge_term t rest q else put_unless_zero t.place (t.coefficient +ℤ u.coefficient) (rest q))) b ∙
                (let same : t.place ≡ u.place = grind arith in
                let y : v t.place ≡ v u.place = ap v same in
                let p = put_total v t.place (t.coefficient +ℤ u.coefficient) (rest q) in
                let d = add_mul t.coefficient u.coefficient (v t.place) in
                let z : u.coefficient *ℤ v t.place ≡ u.coefficient *ℤ v u.place = ap (λ (m : ℤ). u.coefficient *ℤ m) y in
                let r = h q in
                (p ∙ ap₂ (λ (m n : ℤ). m +ℤ n) (d ∙ ap (λ (m : ℤ). (t.coefficient *ℤ v t.place) +ℤ m) z) r) ∙ regroup (t.coefficient *ℤ v t.place) (u.coefficient *ℤ v u.place) s (total v q))
          ]
    ]
  where
    regroup : (a b c d : ℤ) → (a +ℤ b) +ℤ (c +ℤ d) ≡ (a +ℤ c) +ℤ (b +ℤ d)
    regroup a b c d = omega (arith, ints)

pub total_merge : (v : ℕ → ℤ) (p q : List Multiple) → total v (merge p q) ≡ total v p +ℤ total v q
unfolding merge total
total_merge v [] q = omega (arith, ints)
total_merge v (t ∷ p) q = term_total v t (merge p) (total v p) (total_merge v p) q

-- ---- one place gets another value

pub total_changed : (v : ℕ → ℤ) (x : ℕ) (z : ℤ) (l : List Multiple) → total (changed v x z) l ≡ total v l +ℤ (coefficient x l *ℤ (z -ℤ v x))
unfolding total changed coefficient
total_changed v x z [] = omega (arith, ints)
total_changed v x z (t ∷ l) = let i = total_changed v x z l in
    let d = mul_add t.coefficient (v x) (z -ℤ v x) in
    elim (bool_cases (nat_eq x t.place)) [
      | inl a ↦
          let y : v x ≡ v t.place = ap v (eqb-true x t.place a) in
          (ap (λ (b : Bool). (t.coefficient *ℤ (if b then z else v t.place)) +ℤ total (changed v x z) l) a ∙ ap₂ (λ (m n : ℤ). m +ℤ n) (same_product t.coefficient z (v x) (v t.place) y) i)
          ∙ regroup (t.coefficient *ℤ v t.place) (total v l) t.coefficient (coefficient x l) (z -ℤ v x)
          ∙ ap (λ (b : Bool). ((t.coefficient *ℤ v t.place) +ℤ total v l) +ℤ (((if b then t.coefficient else pos 0) +ℤ coefficient x l) *ℤ (z -ℤ v x))) (sym a)
      | inr a ↦
          (ap (λ (b : Bool). (t.coefficient *ℤ (if b then z else v t.place)) +ℤ total (changed v x z) l) a ∙ ap (λ (m : ℤ). (t.coefficient *ℤ v t.place) +ℤ m) i)
          ∙ plain (t.coefficient *ℤ v t.place) (total v l) (coefficient x l) (z -ℤ v x)
          ∙ ap (λ (b : Bool). ((t.coefficient *ℤ v t.place) +ℤ total v l) +ℤ (((if b then t.coefficient else pos 0) +ℤ coefficient x l) *ℤ (z -ℤ v x))) (sym a)
    ]
  where
    same_product : (k z o n : ℤ) → o ≡ n → k *ℤ z ≡ (k *ℤ n) +ℤ (k *ℤ (z -ℤ o))
    same_product k z o n e = ap (λ (m : ℤ). k *ℤ m) (let i : z ≡ n +ℤ (z -ℤ o) = omega (arith, ints, e) in i) ∙ mul_add k n (z -ℤ o)

    regroup : (a s k c d : ℤ) → (a +ℤ (k *ℤ d)) +ℤ (s +ℤ (c *ℤ d)) ≡ (a +ℤ s) +ℤ ((k +ℤ c) *ℤ d)
    regroup a s k c d = let e = add_mul k c d in omega (arith, ints, e)

    plain : (a s c d : ℤ) → a +ℤ (s +ℤ (c *ℤ d)) ≡ (a +ℤ s) +ℤ ((pos 0 +ℤ c) *ℤ d)
    plain a s c d = let e = add_mul (pos 0) c d in omega (arith, ints, e)
