-- One place is taken out: what its pairs say of the values.
use Rattle.std.proofs.Common.{◌≡◌, ℕ, zero, suc, ◌-◌, ◌*◌, ◌≤◌, ℤ, pos, negsuc, neg_ℤ, ◌+ℤ◌, ◌-ℤ◌, ◌*ℤ◌, ◌≤ℤ◌, int_le, Bool, true, false, ◌||◌, ◌↔◌, inl, inr, List, [], ◌∷◌, ◌++◌, refl, sym, ap, ap₂, ◌∙◌, subst, arith, if◌then◌else◌}
use Rattle.std.proofs.lemmas.Int.{ints}
use native.Mathlib.Nat.{mul-le-mul_left}
use borrow.Author.Differences.{up, down, neg_is}
use lib.IntN.{*ℤ_comm}
use Rattle.linear_solver.proofs.Integers.{bool_cases, mul_add, add_mul, mul_assoc_z, scale_le, floor_is, floor_up, floor_down}
use Rattle.linear_solver.proofs.Totals.{total_scaled, total_merge, total_changed}
use Rattle.cc_base.specs.Inequality.{Inequality, total, Meets, MeetsAll, floor, scaled, merge, coefficient}
use Rattle.cc_base.specs.Pass.{below, above, is_positive, is_lower, is_upper, lowers, uppers, others, dark_part, paired, paired_with, all_paired, eliminate}
use Rattle.cc_base.specs.declared.passes.Mode.{Mode}
use Rattle.cc_base.specs.declared.passes.Mode.TheVariants.{Real, Dark}
use Rattle.cc_base.specs.Witness.{changed, left, least_for, most_for, larger, smaller, greatest, smallest, value_for, restored}

pub meets_append : (v : ℕ → ℤ) (k l : List Inequality) → MeetsAll v (k ++ l) ↔ (MeetsAll v k × MeetsAll v l)
meets_append v [] l = ((λ h. (tt, h)), (λ h. h.1))
meets_append v (i ∷ k) l = let r = meets_append v k l in
    ((λ h. let s = r.0 h.1 in ((h.0, s.0), s.1)), (λ h. ((h.0).0, r.1 ((h.0).1, h.1))))

-- ---- Real: what meets the list meets the pairs

lowers_meet : (v : ℕ → ℤ) (x : ℕ) (l : List Inequality) → MeetsAll v l → MeetsAll v (lowers x l)
unfolding lowers
lowers_meet v x [] h = tt
lowers_meet v x (i ∷ l) h = let k = lowers_meet v x l h.1 in elim (bool_cases (is_lower x i)) [
  | inl t ↦ subst (λ (b : Bool). MeetsAll v (if b then i ∷ lowers x l else lowers x l)) (sym t) (h.0, k)
  | inr t ↦ subst (λ (b : Bool). MeetsAll v (if b then i ∷ lowers x l else lowers x l)) (sym t) k
]

uppers_meet : (v : ℕ → ℤ) (x : ℕ) (l : List Inequality) → MeetsAll v l → MeetsAll v (uppers x l)
unfolding uppers
uppers_meet v x [] h = tt
uppers_meet v x (i ∷ l) h = let k = uppers_meet v x l h.1 in elim (bool_cases (is_upper x i)) [
  | inl t ↦ subst (λ (b : Bool). MeetsAll v (if b then i ∷ uppers x l else uppers x l)) (sym t) (h.0, k)
  | inr t ↦ subst (λ (b : Bool). MeetsAll v (if b then i ∷ uppers x l else uppers x l)) (sym t) k
]

others_meet : (v : ℕ → ℤ) (x : ℕ) (l : List Inequality) → MeetsAll v l → MeetsAll v (others x l)
unfolding others
others_meet v x [] h = tt
others_meet v x (i ∷ l) h = let k = others_meet v x l h.1 in elim (bool_cases (is_lower x i || is_upper x i)) [
  | inl t ↦ subst (λ (b : Bool). MeetsAll v (if b then others x l else i ∷ others x l)) (sym t) k
  | inr t ↦ subst (λ (b : Bool). MeetsAll v (if b then others x l else i ∷ others x l)) (sym t) (h.0, k)
]

pub pair_total : (v : ℕ → ℤ) (m : Mode) (x : ℕ) (i j : Inequality) →
    total v (paired m x i j).terms ≡ (pos (above (coefficient x j.terms)) *ℤ total v i.terms) +ℤ (pos (below (coefficient x i.terms)) *ℤ total v j.terms)
unfolding paired
pair_total v m x i j =
    let c = pos (above (coefficient x j.terms)) in let a = pos (below (coefficient x i.terms)) in
    total_merge v (scaled c i.terms) (scaled a j.terms) ∙ ap₂ (λ (p q : ℤ). p +ℤ q) (total_scaled v c i.terms) (total_scaled v a j.terms)

pair_meets : (v : ℕ → ℤ) (x : ℕ) (i j : Inequality) → Meets v i → Meets v j → Meets v (paired Real x i j)
unfolding paired dark_part
pair_meets v x i j h k =
    let e = pair_total v Real x i j in
    let a = below (coefficient x i.terms) in let c = above (coefficient x j.terms) in
    let p = scale_le c (total v i.terms) i.most h.holds in let q = scale_le a (total v j.terms) j.most k.holds in
    record { holds = sums _ _ _ _ _ e p q }
  where
    sums : (s p q m n : ℤ) → s ≡ p +ℤ q → p ≤ℤ m → q ≤ℤ n → s ≤ℤ ((m +ℤ n) -ℤ pos 0)
    sums s p q m n e h k = omega (arith, ints, e, h, k)

with_meets : (v : ℕ → ℤ) (x : ℕ) (i : Inequality) (us : List Inequality) → Meets v i → MeetsAll v us → MeetsAll v (paired_with Real x i us)
unfolding paired_with
with_meets v x i [] h k = tt
with_meets v x i (j ∷ us) h k = (pair_meets v x i j h k.0, with_meets v x i us h k.1)

all_meet : (v : ℕ → ℤ) (x : ℕ) (ls us : List Inequality) → MeetsAll v ls → MeetsAll v us → MeetsAll v (all_paired Real x ls us)
unfolding all_paired
all_meet v x [] us h k = tt
all_meet v x (i ∷ ls) us h k = (meets_append v (paired_with Real x i us) (all_paired Real x ls us)).1 (with_meets v x i us h.0 k, all_meet v x ls us h.1 k)

pub real_taken : (v : ℕ → ℤ) (x : ℕ) (l : List Inequality) → MeetsAll v l → MeetsAll v (eliminate Real x l)
unfolding eliminate
real_taken v x l h = (meets_append v (others x l) (all_paired Real x (lowers x l) (uppers x l))).1
    (others_meet v x l h, all_meet v x (lowers x l) (uppers x l) (lowers_meet v x l h) (uppers_meet v x l h))

-- ---- Dark: the pairs leave room for an integer

pub mul_neg : (c q : ℤ) → c *ℤ neg_ℤ q ≡ neg_ℤ (c *ℤ q)
mul_neg c q = let n = neg_is q in omega (arith, ints, ap (λ (m : ℕ). up c * m) n.0, ap (λ (m : ℕ). up c * m) n.1, ap (λ (m : ℕ). down c * m) n.0, ap (λ (m : ℕ). down c * m) n.1)

swap : (a c q : ℤ) → a *ℤ (c *ℤ q) ≡ c *ℤ (a *ℤ q)
swap a c q = sym (mul_assoc_z a c q) ∙ ap (λ (m : ℤ). m *ℤ q) (*ℤ_comm a c) ∙ mul_assoc_z c a q

last : (a c n : ℕ) (X Y Z W V : ℤ) → pos (a * c) ≤ℤ (X +ℤ Y) → V ≤ℤ W → V ≡ Y +ℤ (pos (suc a) *ℤ pos 1) → X ≡ Z +ℤ pos n → W ≡ neg_ℤ Z → n ≤ suc c * a → ⊥
last a c n X Y Z W V h y d m w k = omega (arith, ints, h, y, d, m, w, k)

-- c times the lower and a times the upper, less the Dark part: the least value below is at most the greatest above
room : (a c : ℕ) (r s : ℤ) → pos (a * c) ≤ℤ ((pos (suc c) *ℤ r) +ℤ (pos (suc a) *ℤ s)) → neg_ℤ (floor r (suc a)) ≤ℤ floor s (suc c)
room a c r s h =
    let f = floor_is (suc a) r (omega arith) in let q = floor r (suc a) in let lt = f.1 in let e = f.2 in
    floor_up (suc c) (neg_ℤ q) s (omega arith) (elim (bool_cases (int_le (pos (suc c) *ℤ neg_ℤ q) s)) [
      | inl t ↦ let z : (pos (suc c) *ℤ neg_ℤ q) ≤ℤ s = grind (arith, ints) in z
      | inr t ↦
          let z : (s +ℤ pos 1) ≤ℤ (pos (suc c) *ℤ neg_ℤ q) = grind (arith, ints) in
          let y = scale_le (suc a) (s +ℤ pos 1) (pos (suc c) *ℤ neg_ℤ q) z in
          let d = mul_add (pos (suc a)) s (pos 1) in
          -- c r = c a q + c rest
          let m : pos (suc c) *ℤ r ≡ (pos (suc c) *ℤ (pos (suc a) *ℤ q)) +ℤ (pos (suc c) *ℤ pos f.0) = ap (λ (n : ℤ). pos (suc c) *ℤ n) e ∙ mul_add (pos (suc c)) (pos (suc a) *ℤ q) (pos f.0) in
          let w : pos (suc a) *ℤ (pos (suc c) *ℤ neg_ℤ q) ≡ neg_ℤ (pos (suc c) *ℤ (pos (suc a) *ℤ q)) = ap (λ (n : ℤ). pos (suc a) *ℤ n) (mul_neg (pos (suc c)) q) ∙ mul_neg (pos (suc a)) (pos (suc c) *ℤ q) ∙ ap neg_ℤ (swap (pos (suc a)) (pos (suc c)) q) in
          let rest : suc c * f.0 ≤ suc c * a = mul-le-mul_left (suc c) (let o : f.0 ≤ a = omega (arith, lt) in o) in
          absurd (last a c (suc c * f.0) (pos (suc c) *ℤ r) (pos (suc a) *ℤ s) (pos (suc c) *ℤ (pos (suc a) *ℤ q)) (pos (suc a) *ℤ (pos (suc c) *ℤ neg_ℤ q)) (pos (suc a) *ℤ (s +ℤ pos 1)) h y d m w rest)
    ])

-- the coefficients of x
pub below_sign : (k : ℤ) → is_positive (below k) ≡ true → (a : ℕ) × (below k ≡ suc a) × (k ≡ negsuc a)
unfolding below is_positive
below_sign (pos n) h = absurd (cc h)
below_sign (negsuc n) h = (n, refl, refl)

pub above_sign : (k : ℤ) → is_positive (above k) ≡ true → (c : ℕ) × (above k ≡ suc c) × (k ≡ pos (suc c))
unfolding above is_positive
above_sign (pos zero) h = absurd (cc h)
above_sign (pos (suc n)) h = (n, refl, refl)
above_sign (negsuc n) h = absurd (cc h)

pub no_sign : (k : ℤ) → is_positive (below k) ≡ false → is_positive (above k) ≡ false → k ≡ pos 0
unfolding below above is_positive
no_sign (pos zero) h m = refl
no_sign (pos (suc n)) h m = absurd (cc m)
no_sign (negsuc n) h m = absurd (cc h)

-- c times the lower and a times the upper do not speak of x
independent : (c a k l d p q : ℤ) → (c *ℤ k) +ℤ (a *ℤ l) ≡ pos 0 → (c *ℤ (p +ℤ (k *ℤ d))) +ℤ (a *ℤ (q +ℤ (l *ℤ d))) ≡ (c *ℤ p) +ℤ (a *ℤ q)
independent c a k l d p q e =
    let f = mul_add c p (k *ℤ d) in let g = mul_add a q (l *ℤ d) in
    let h = mul_assoc_z c k d in let i = mul_assoc_z a l d in
    let j : ((c *ℤ k) +ℤ (a *ℤ l)) *ℤ d ≡ pos 0 *ℤ d = ap (λ (n : ℤ). n *ℤ d) e in
    let m = add_mul (c *ℤ k) (a *ℤ l) d in
    collect _ _ _ _ _ _ _ _ f g h i (sym m ∙ j ∙ zero_times d)
  where
    zero_times : (d : ℤ) → pos 0 *ℤ d ≡ pos 0
    zero_times d = omega (arith, ints)

    collect : (s t cp aq ckd ald x y : ℤ) → s ≡ cp +ℤ ckd → t ≡ aq +ℤ ald → x ≡ ckd → y ≡ ald → x +ℤ y ≡ pos 0 → s +ℤ t ≡ cp +ℤ aq
    collect s t cp aq ckd ald x y f g h i j = omega (arith, ints, f, g, h, i, j)

mul_sub : (c m t : ℤ) → c *ℤ (m -ℤ t) ≡ (c *ℤ m) -ℤ (c *ℤ t)
mul_sub c m t = mul_add c m (neg_ℤ t) ∙ ap (λ (n : ℤ). (c *ℤ m) +ℤ n) (mul_neg c t)

pub opposite_products : (a c : ℕ) → (pos (suc c) *ℤ negsuc a) +ℤ (pos (suc a) *ℤ pos (suc c)) ≡ pos 0
opposite_products a c = omega (arith, ints)

room_from : (a c : ℕ) (p q m n d t : ℤ) → t ≡ (pos (suc c) *ℤ p) +ℤ (pos (suc a) *ℤ q) → t ≤ℤ (((pos (suc c) *ℤ m) +ℤ (pos (suc a) *ℤ n)) -ℤ pos (a * c)) →
    neg_ℤ (floor (m -ℤ (p +ℤ (negsuc a *ℤ d))) (suc a)) ≤ℤ floor (n -ℤ (q +ℤ (pos (suc c) *ℤ d))) (suc c)
room_from a c p q m n d t e h =
    let C = pos (suc c) in let A = pos (suc a) in
    let u = p +ℤ (negsuc a *ℤ d) in let w = q +ℤ (C *ℤ d) in
    room a c (m -ℤ u) (n -ℤ w)
    (enough t (C *ℤ p) (A *ℤ q) (C *ℤ m) (A *ℤ n) (C *ℤ (m -ℤ u)) (A *ℤ (n -ℤ w)) (pos (a * c)) (C *ℤ u) (A *ℤ w) e h
    (independent C A (negsuc a) C d p q (opposite_products a c)) (mul_sub C m u) (mul_sub A n w))
  where
    enough : (t cp aq cm am cr ar n u w : ℤ) → t ≡ cp +ℤ aq → t ≤ℤ ((cm +ℤ am) -ℤ n) → u +ℤ w ≡ cp +ℤ aq → cr ≡ cm -ℤ u → ar ≡ am -ℤ w → n ≤ℤ (cr +ℤ ar)
    enough t cp aq cm am cr ar n u w e f g h i = omega (arith, ints, e, f, g, h, i)

held : (v : ℕ → ℤ) (x : ℕ) (i j : Inequality) (a c : ℕ) → below (coefficient x i.terms) ≡ suc a → above (coefficient x j.terms) ≡ suc c → Meets v (paired Dark x i j) →
    total v (paired Dark x i j).terms ≤ℤ (((pos (suc c) *ℤ i.most) +ℤ (pos (suc a) *ℤ j.most)) -ℤ pos (a * c))
unfolding paired dark_part
held v x i j a c p q m =
    let e : ((pos (above (coefficient x j.terms)) *ℤ i.most) +ℤ (pos (below (coefficient x i.terms)) *ℤ j.most)) -ℤ pos ((below (coefficient x i.terms) - 1) * (above (coefficient x j.terms) - 1))
    ≡ ((pos (suc c) *ℤ i.most) +ℤ (pos (suc a) *ℤ j.most)) -ℤ pos ((suc a - 1) * (suc c - 1))
    = ap₂ (λ (n o : ℕ). ((pos o *ℤ i.most) +ℤ (pos n *ℤ j.most)) -ℤ pos ((n - 1) * (o - 1))) p q in
    let f : (suc a - 1) * (suc c - 1) ≡ a * c = ap₂ (λ (n o : ℕ). n * o) (let z : suc a - 1 ≡ a = omega arith in z) (let z : suc c - 1 ≡ c = omega arith in z) in
    let g = e ∙ ap (λ (n : ℕ). ((pos (suc c) *ℤ i.most) +ℤ (pos (suc a) *ℤ j.most)) -ℤ pos n) f in
    let h = m.holds in subst (λ (n : ℤ). total v (merge (scaled (pos (above (coefficient x j.terms))) i.terms) (scaled (pos (below (coefficient x i.terms))) j.terms)) ≤ℤ n) g h

pair_room : (v : ℕ → ℤ) (x : ℕ) (i j : Inequality) → is_lower x i ≡ true → is_upper x j ≡ true → Meets v (paired Dark x i j) → least_for v x i ≤ℤ most_for v x j
unfolding is_lower is_upper least_for most_for left
pair_room v x i j h k m =
    let A = below_sign (coefficient x i.terms) h in let C = above_sign (coefficient x j.terms) k in
    let a = A.0 in let c = C.0 in
    let d = pos 0 -ℤ v x in
    let p = total v i.terms in let q = total v j.terms in
    let ti : total (changed v x (pos 0)) i.terms ≡ p +ℤ (negsuc a *ℤ d) = total_changed v x (pos 0) i.terms ∙ ap (λ (n : ℤ). p +ℤ (n *ℤ d)) A.2 in
    let tj : total (changed v x (pos 0)) j.terms ≡ q +ℤ (pos (suc c) *ℤ d) = total_changed v x (pos 0) j.terms ∙ ap (λ (n : ℤ). q +ℤ (n *ℤ d)) C.2 in
    let pt : total v (paired Dark x i j).terms ≡ (pos (suc c) *ℤ p) +ℤ (pos (suc a) *ℤ q) =
    pair_total v Dark x i j ∙ ap₂ (λ (y z : ℕ). (pos y *ℤ p) +ℤ (pos z *ℤ q)) C.1 A.1 in
    let mm : total v (paired Dark x i j).terms ≤ℤ (((pos (suc c) *ℤ i.most) +ℤ (pos (suc a) *ℤ j.most)) -ℤ pos (a * c)) = held v x i j a c A.1 C.1 m in
    let r = room_from a c p q i.most j.most d (total v (paired Dark x i j).terms) pt mm in
    subst (λ (n : ℕ). neg_ℤ (floor (i.most -ℤ total (changed v x (pos 0)) i.terms) n) ≤ℤ floor (j.most -ℤ total (changed v x (pos 0)) j.terms) (above (coefficient x j.terms))) (sym A.1)
    (subst (λ (n : ℕ). neg_ℤ (floor (i.most -ℤ total (changed v x (pos 0)) i.terms) (suc a)) ≤ℤ floor (j.most -ℤ total (changed v x (pos 0)) j.terms) n) (sym C.1)
    (subst (λ (n : ℤ). neg_ℤ (floor (i.most -ℤ n) (suc a)) ≤ℤ floor (j.most -ℤ total (changed v x (pos 0)) j.terms) (suc c)) (sym ti)
    (subst (λ (n : ℤ). neg_ℤ (floor (i.most -ℤ (p +ℤ (negsuc a *ℤ d))) (suc a)) ≤ℤ floor (j.most -ℤ n) (suc c)) (sym tj) r)))

-- ---- all pairs

abbrev UpTo : (ℕ → ℤ) → ℕ → ℤ → List Inequality → Type 0
UpTo v x z [] = Unit {0}
UpTo v x z (j ∷ us) = (z ≤ℤ most_for v x j) × UpTo v x z us

abbrev From : (ℕ → ℤ) → ℕ → ℤ → List Inequality → Type 0
From v x z [] = Unit {0}
From v x z (i ∷ ls) = (least_for v x i ≤ℤ z) × From v x z ls

abbrev AllLower : ℕ → List Inequality → Type 0
AllLower x [] = Unit {0}
AllLower x (i ∷ l) = (is_lower x i ≡ true) × AllLower x l

abbrev AllUpper : ℕ → List Inequality → Type 0
AllUpper x [] = Unit {0}
AllUpper x (i ∷ l) = (is_upper x i ≡ true) × AllUpper x l

lowers_are : (x : ℕ) (l : List Inequality) → AllLower x (lowers x l)
unfolding lowers
lowers_are x [] = tt
lowers_are x (i ∷ l) = elim (bool_cases (is_lower x i)) [
  | inl t ↦ subst (λ (b : Bool). AllLower x (if b then i ∷ lowers x l else lowers x l)) (sym t) (t, lowers_are x l)
  | inr t ↦ subst (λ (b : Bool). AllLower x (if b then i ∷ lowers x l else lowers x l)) (sym t) (lowers_are x l)
]

uppers_are : (x : ℕ) (l : List Inequality) → AllUpper x (uppers x l)
unfolding uppers
uppers_are x [] = tt
uppers_are x (i ∷ l) = elim (bool_cases (is_upper x i)) [
  | inl t ↦ subst (λ (b : Bool). AllUpper x (if b then i ∷ uppers x l else uppers x l)) (sym t) (t, uppers_are x l)
  | inr t ↦ subst (λ (b : Bool). AllUpper x (if b then i ∷ uppers x l else uppers x l)) (sym t) (uppers_are x l)
]

one_up_to : (v : ℕ → ℤ) (x : ℕ) (i : Inequality) (us : List Inequality) → is_lower x i ≡ true → AllUpper x us → MeetsAll v (paired_with Dark x i us) → UpTo v x (least_for v x i) us
unfolding paired_with
one_up_to v x i [] h k m = tt
one_up_to v x i (j ∷ us) h k m = (pair_room v x i j h k.0 m.0, one_up_to v x i us h k.1 m.1)

larger_up_to : (v : ℕ → ℤ) (x : ℕ) (a b : ℤ) (us : List Inequality) → UpTo v x a us → UpTo v x b us → UpTo v x (larger a b) us
unfolding larger
larger_up_to v x a b us h k = elim (bool_cases (int_le a b)) [
  | inl t ↦ subst (λ (c : Bool). UpTo v x (if c then b else a) us) (sym t) k
  | inr t ↦ subst (λ (c : Bool). UpTo v x (if c then b else a) us) (sym t) h
]

greatest_up_to : (v : ℕ → ℤ) (x : ℕ) (i : Inequality) (ls us : List Inequality) → is_lower x i ≡ true → AllLower x ls → AllUpper x us → MeetsAll v (all_paired Dark x (i ∷ ls) us) → UpTo v x (greatest v x i ls) us
unfolding all_paired greatest
greatest_up_to v x i [] us h l k m = one_up_to v x i us h k ((meets_append v (paired_with Dark x i us) []).0 m).0
greatest_up_to v x i (j ∷ ls) us h l k m =
    let s = (meets_append v (paired_with Dark x i us) (all_paired Dark x (j ∷ ls) us)).0 m in
    larger_up_to v x (least_for v x i) (greatest v x j ls) us (one_up_to v x i us h k s.0) (greatest_up_to v x j ls us l.0 l.1 k s.1)

larger_is : (a b : ℤ) → (a ≤ℤ larger a b) × (b ≤ℤ larger a b)
unfolding larger
larger_is a b = elim (bool_cases (int_le a b)) [
  | inl t ↦ subst (λ (c : Bool). (a ≤ℤ (if c then b else a)) × (b ≤ℤ (if c then b else a))) (sym t) (grind (arith, ints), omega (arith, ints))
  | inr t ↦ subst (λ (c : Bool). (a ≤ℤ (if c then b else a)) × (b ≤ℤ (if c then b else a))) (sym t) (omega (arith, ints), grind (arith, ints))
]

smaller_is : (a b : ℤ) → (smaller a b ≤ℤ a) × (smaller a b ≤ℤ b)
unfolding smaller
smaller_is a b = elim (bool_cases (int_le a b)) [
  | inl t ↦ subst (λ (c : Bool). ((if c then a else b) ≤ℤ a) × ((if c then a else b) ≤ℤ b)) (sym t) (omega (arith, ints), grind (arith, ints))
  | inr t ↦ subst (λ (c : Bool). ((if c then a else b) ≤ℤ a) × ((if c then a else b) ≤ℤ b)) (sym t) (grind (arith, ints), omega (arith, ints))
]

from_more : (v : ℕ → ℤ) (x : ℕ) (a b : ℤ) (ls : List Inequality) → a ≤ℤ b → From v x a ls → From v x b ls
from_more v x a b [] h k = tt
from_more v x a b (i ∷ ls) h k = (le_z_trans (least_for v x i) a b k.0 h, from_more v x a b ls h k.1)
  where
    le_z_trans : (p q r : ℤ) → p ≤ℤ q → q ≤ℤ r → p ≤ℤ r
    le_z_trans p q r h k = omega (arith, ints, h, k)

up_to_less : (v : ℕ → ℤ) (x : ℕ) (a b : ℤ) (us : List Inequality) → a ≤ℤ b → UpTo v x b us → UpTo v x a us
up_to_less v x a b [] h k = tt
up_to_less v x a b (i ∷ us) h k = (le_z_trans a b (most_for v x i) h k.0, up_to_less v x a b us h k.1)
  where
    le_z_trans : (p q r : ℤ) → p ≤ℤ q → q ≤ℤ r → p ≤ℤ r
    le_z_trans p q r h k = omega (arith, ints, h, k)

from_greatest : (v : ℕ → ℤ) (x : ℕ) (i : Inequality) (ls : List Inequality) → From v x (greatest v x i ls) (i ∷ ls)
unfolding greatest
from_greatest v x i [] = (omega (arith, ints), tt)
from_greatest v x i (j ∷ ls) = let g = larger_is (least_for v x i) (greatest v x j ls) in (g.0, from_more v x (greatest v x j ls) _ (j ∷ ls) g.1 (from_greatest v x j ls))

up_to_smallest : (v : ℕ → ℤ) (x : ℕ) (j : Inequality) (us : List Inequality) → UpTo v x (smallest v x j us) (j ∷ us)
unfolding smallest
up_to_smallest v x j [] = (omega (arith, ints), tt)
up_to_smallest v x j (k ∷ us) = let g = smaller_is (most_for v x j) (smallest v x k us) in (g.0, up_to_less v x _ (smallest v x k us) (k ∷ us) g.1 (up_to_smallest v x k us))

value_fits : (v : ℕ → ℤ) (x : ℕ) (ls us : List Inequality) → AllLower x ls → AllUpper x us → MeetsAll v (all_paired Dark x ls us) → From v x (value_for v x ls us) ls × UpTo v x (value_for v x ls us) us
unfolding value_for
value_fits v x [] [] h k m = (tt, tt)
value_fits v x [] (j ∷ us) h k m = (tt, up_to_smallest v x j us)
value_fits v x (i ∷ ls) us h k m = (from_greatest v x i ls, greatest_up_to v x i ls us h.0 h.1 k m)

-- ---- the value meets the lower, the upper and the other ones

lower_fact : (a : ℕ) (t s r m z w : ℤ) → s ≡ t +ℤ (negsuc a *ℤ (pos 0 -ℤ w)) → r ≡ t +ℤ (negsuc a *ℤ (z -ℤ w)) → neg_ℤ (floor (m -ℤ s) (suc a)) ≤ℤ z → r ≤ℤ m
lower_fact a t s r m z w e f h =
    let k = floor_down (suc a) (neg_ℤ z) (m -ℤ s) (omega arith) (flip (floor (m -ℤ s) (suc a)) h) in
    let d = mul_sub (negsuc a) (pos 0) w in let g = mul_sub (negsuc a) z w in
    add_up (negsuc a *ℤ (pos 0 -ℤ w)) (negsuc a *ℤ (z -ℤ w)) (negsuc a *ℤ w) (negsuc a *ℤ z) (negsuc a *ℤ pos 0) (pos (suc a) *ℤ neg_ℤ z) e f d g (none a) (negated a z) k
  where
    flip : (q : ℤ) → neg_ℤ q ≤ℤ z → neg_ℤ z ≤ℤ q
    flip q h = omega (arith, ints, h)

    negated : (a : ℕ) (z : ℤ) → pos (suc a) *ℤ neg_ℤ z ≡ negsuc a *ℤ z
    negated a z = let e = mul_neg (pos (suc a)) z in omega (arith, ints, e)

    none : (a : ℕ) → negsuc a *ℤ pos 0 ≡ pos 0
    none a = omega (arith, ints)

    add_up : (x y kw kz o az : ℤ) → s ≡ t +ℤ x → r ≡ t +ℤ y → x ≡ o -ℤ kw → y ≡ kz -ℤ kw → o ≡ pos 0 → az ≡ kz → az ≤ℤ (m -ℤ s) → r ≤ℤ m
    add_up x y kw kz o az e f d g n b k = omega (arith, ints, e, f, d, g, n, b, k)

upper_fact : (c : ℕ) (t s r m z w : ℤ) → s ≡ t +ℤ (pos (suc c) *ℤ (pos 0 -ℤ w)) → r ≡ t +ℤ (pos (suc c) *ℤ (z -ℤ w)) → z ≤ℤ floor (m -ℤ s) (suc c) → r ≤ℤ m
upper_fact c t s r m z w e f h =
    let k = floor_down (suc c) z (m -ℤ s) (omega arith) h in
    let d = mul_sub (pos (suc c)) (pos 0) w in let g = mul_sub (pos (suc c)) z w in
    add_up (pos (suc c) *ℤ (pos 0 -ℤ w)) (pos (suc c) *ℤ (z -ℤ w)) (pos (suc c) *ℤ w) (pos (suc c) *ℤ z) (pos (suc c) *ℤ pos 0) e f d g (none c) k
  where
    none : (c : ℕ) → pos (suc c) *ℤ pos 0 ≡ pos 0
    none c = omega (arith, ints)

    add_up : (x y kw kz o : ℤ) → s ≡ t +ℤ x → r ≡ t +ℤ y → x ≡ o -ℤ kw → y ≡ kz -ℤ kw → o ≡ pos 0 → kz ≤ℤ (m -ℤ s) → r ≤ℤ m
    add_up x y kw kz o e f d g n k = omega (arith, ints, e, f, d, g, n, k)

lower_meets : (v : ℕ → ℤ) (x : ℕ) (z : ℤ) (i : Inequality) → is_lower x i ≡ true → least_for v x i ≤ℤ z → Meets (changed v x z) i
unfolding is_lower least_for left
lower_meets v x z i h k =
    let A = below_sign (coefficient x i.terms) h in
    record {
      holds = lower_fact A.0 (total v i.terms) (total (changed v x (pos 0)) i.terms) (total (changed v x z) i.terms) i.most z (v x)
          (total_changed v x (pos 0) i.terms ∙ ap (λ (n : ℤ). total v i.terms +ℤ (n *ℤ (pos 0 -ℤ v x))) A.2)
          (total_changed v x z i.terms ∙ ap (λ (n : ℤ). total v i.terms +ℤ (n *ℤ (z -ℤ v x))) A.2)
          (subst (λ (n : ℕ). neg_ℤ (floor (i.most -ℤ total (changed v x (pos 0)) i.terms) n) ≤ℤ z) A.1 k);
    }

upper_meets : (v : ℕ → ℤ) (x : ℕ) (z : ℤ) (i : Inequality) → is_upper x i ≡ true → z ≤ℤ most_for v x i → Meets (changed v x z) i
unfolding is_upper most_for left
upper_meets v x z i h k =
    let A = above_sign (coefficient x i.terms) h in
    record {
      holds = upper_fact A.0 (total v i.terms) (total (changed v x (pos 0)) i.terms) (total (changed v x z) i.terms) i.most z (v x)
          (total_changed v x (pos 0) i.terms ∙ ap (λ (n : ℤ). total v i.terms +ℤ (n *ℤ (pos 0 -ℤ v x))) A.2)
          (total_changed v x z i.terms ∙ ap (λ (n : ℤ). total v i.terms +ℤ (n *ℤ (z -ℤ v x))) A.2)
          (subst (λ (n : ℕ). z ≤ℤ floor (i.most -ℤ total (changed v x (pos 0)) i.terms) n) A.1 k);
    }

other_meets : (v : ℕ → ℤ) (x : ℕ) (z : ℤ) (i : Inequality) → is_lower x i ≡ false → is_upper x i ≡ false → Meets v i → Meets (changed v x z) i
unfolding is_lower is_upper
other_meets v x z i h k m =
    let e : total (changed v x z) i.terms ≡ total v i.terms +ℤ (pos 0 *ℤ (z -ℤ v x)) = total_changed v x z i.terms ∙ ap (λ (n : ℤ). total v i.terms +ℤ (n *ℤ (z -ℤ v x))) (no_sign (coefficient x i.terms) h k) in
    let n = m.holds in let o : pos 0 *ℤ (z -ℤ v x) ≡ pos 0 = omega (arith, ints) in record { holds = omega (arith, ints, e, n, o) }

meets_parts : (v : ℕ → ℤ) (x : ℕ) (z : ℤ) (l : List Inequality) → From v x z (lowers x l) → UpTo v x z (uppers x l) → MeetsAll v (others x l) → MeetsAll (changed v x z) l
unfolding lowers uppers others
meets_parts v x z [] f u o = tt
meets_parts v x z (i ∷ l) f u o = elim (bool_cases (is_lower x i)) [
  | inl a ↦ elim (bool_cases (is_upper x i)) [
    | inl b ↦
        let f' = subst (λ (t : Bool). From v x z (if t then i ∷ lowers x l else lowers x l)) a f in
        let u' = subst (λ (t : Bool). UpTo v x z (if t then i ∷ uppers x l else uppers x l)) b u in
        let o' = subst (λ (t : Bool). MeetsAll v (if t || is_upper x i then others x l else i ∷ others x l)) a o in
        (lower_meets v x z i a f'.0, meets_parts v x z l f'.1 u'.1 o')
    | inr b ↦
        let f' = subst (λ (t : Bool). From v x z (if t then i ∷ lowers x l else lowers x l)) a f in
        let u' = subst (λ (t : Bool). UpTo v x z (if t then i ∷ uppers x l else uppers x l)) b u in
        let o' = subst (λ (t : Bool). MeetsAll v (if t || is_upper x i then others x l else i ∷ others x l)) a o in
        (lower_meets v x z i a f'.0, meets_parts v x z l f'.1 u' o')
  ]
  | inr a ↦ elim (bool_cases (is_upper x i)) [
    | inl b ↦
        let f' = subst (λ (t : Bool). From v x z (if t then i ∷ lowers x l else lowers x l)) a f in
        let u' = subst (λ (t : Bool). UpTo v x z (if t then i ∷ uppers x l else uppers x l)) b u in
        let o' = subst (λ (t : Bool). MeetsAll v (if t then others x l else i ∷ others x l)) b (subst (λ (t : Bool). MeetsAll v (if t || is_upper x i then others x l else i ∷ others x l)) a o) in
        (upper_meets v x z i b u'.0, meets_parts v x z l f' u'.1 o')
    | inr b ↦
        let f' = subst (λ (t : Bool). From v x z (if t then i ∷ lowers x l else lowers x l)) a f in
        let u' = subst (λ (t : Bool). UpTo v x z (if t then i ∷ uppers x l else uppers x l)) b u in
        let o' = subst (λ (t : Bool). MeetsAll v (if t then others x l else i ∷ others x l)) b (subst (λ (t : Bool). MeetsAll v (if t || is_upper x i then others x l else i ∷ others x l)) a o) in
        (other_meets v x z i a b o'.0, meets_parts v x z l f' u' o'.1)
  ]
]

-- the Dark pairs leave an integer for x
pub dark_taken : (v : ℕ → ℤ) (x : ℕ) (l : List Inequality) → MeetsAll v (eliminate Dark x l) → MeetsAll (restored v x l) l
unfolding eliminate restored
dark_taken v x l m =
    let s = (meets_append v (others x l) (all_paired Dark x (lowers x l) (uppers x l))).0 m in
    let w = value_fits v x (lowers x l) (uppers x l) (lowers_are x l) (uppers_are x l) s.1 in
    meets_parts v x (value_for v x (lowers x l) (uppers x l)) l w.0 w.1 s.0
