-- The values of forms, and the limits of sums and multiples.
use Rattle.std.proofs.Common.{◌≡◌, ◌≢◌, ℕ, zero, suc, ◌*◌, ◌^◌, ◌<◌, ◌≤◌, ℤ, pos, negsuc, neg_ℤ, ◌+ℤ◌, ◌-ℤ◌, ◌*ℤ◌, nat_lt, unsigned_abs, Bool, true, false, List, [], ◌∷◌, map, refl, sym, ap, ap₂, ◌∙◌, subst, arith, if◌then◌else◌}
use Rattle.std.proofs.lemmas.Int.{ints}
use Rattle.std.proofs.lemmas.List.Elements.{All-nil, All-cons, All-head, All-tail}
use borrow.Author.Differences.{up, down, sum_is_lem, product_is}
use Rattle.std.specs.List.{All}
use Rattle.cc_base.specs.declared.forms.Multiple.{Multiple}
use Rattle.cc_base.specs.Forms.{Form}
use Rattle.cc_base.specs.Holds.{total, value_of_form}
use Rattle.sym_expr.specs.Sums.{is_zero_number, put_unless_zero, merge_term, merge, negated, scaled, sum_of, opposite_of, difference_of, multiple_of_form, shifted, number_form, place_form, AllAbove, Ascending, AllSmall}

-- ring laws, by the two parts of an integer
mul_add : (a b c : ℤ) → a *ℤ (b +ℤ c) ≡ (a *ℤ b) +ℤ (a *ℤ c)
mul_add a b c = let p = sum_is_lem b c in omega (arith, ints, ap (λ (n : ℕ). up a * n) p, ap (λ (n : ℕ). down a * n) p)

add_mul : (a b c : ℤ) → (a +ℤ b) *ℤ c ≡ (a *ℤ c) +ℤ (b *ℤ c)
add_mul a b c = let p = sum_is_lem a b in omega (arith, ints, ap (λ (n : ℕ). n * up c) p, ap (λ (n : ℕ). n * down c) p)

mul_assoc_z : (a b c : ℤ) → (a *ℤ b) *ℤ c ≡ a *ℤ (b *ℤ c)
mul_assoc_z a b c =
    let p = product_is a b in let q = product_is b c in
    omega (
      arith,
      ints,
      ap (λ (n : ℕ). n * up c) p.0,
      ap (λ (n : ℕ). n * down c) p.0,
      ap (λ (n : ℕ). n * up c) p.1,
      ap (λ (n : ℕ). n * down c) p.1,
      ap (λ (n : ℕ). up a * n) q.0,
      ap (λ (n : ℕ). down a * n) q.0,
      ap (λ (n : ℕ). up a * n) q.1,
      ap (λ (n : ℕ). down a * n) q.1,
    )

neg_mul : (a b : ℤ) → neg_ℤ a *ℤ b ≡ neg_ℤ (a *ℤ b)
neg_mul a b = let d = add_mul (neg_ℤ a) a b in let z : (neg_ℤ a +ℤ a) *ℤ b ≡ pos 0 = ap (λ (x : ℤ). x *ℤ b) (let e : neg_ℤ a +ℤ a ≡ pos 0 = omega (arith, ints) in e) ∙ zero_mul b in
    omega (arith, ints, d, z)
  where
    zero_mul : (b : ℤ) → pos 0 *ℤ b ≡ pos 0
    zero_mul b = omega (arith, ints)

-- ---- totals

put_total : (h : ℕ → ℤ) (x : ℕ) (k : ℤ) (l : List Multiple) → total h (put_unless_zero x k l) ≡ (k *ℤ h x) +ℤ total h l
unfolding total put_unless_zero is_zero_number
put_total h x (pos zero) l = omega (arith, ints)
put_total h x (pos (suc n)) l = refl
put_total h x (negsuc n) l = refl

-- a fact of one of three lists
chosen : (P : List Multiple → Type 0) (b c : Bool) (l m n : List Multiple) → (b ≡ true → P l) → (b ≡ false → c ≡ true → P m) → (b ≡ false → c ≡ false → P n) → P (if b then l else (if c then m else n))
chosen P true c l m n f g k = f refl
chosen P false true l m n f g k = g refl refl
chosen P false false l m n f g k = k refl refl

not_below : (a b : ℕ) → nat_lt a b ≡ false → nat_lt b a ≡ false → a ≡ b
not_below a b e f = grind arith

below : (a b : ℕ) → nat_lt a b ≡ true → a < b
below a b e = grind arith

regroup : (a b c d : ℤ) → (a +ℤ b) +ℤ (c +ℤ d) ≡ (a +ℤ c) +ℤ (b +ℤ d)
regroup a b c d = omega (arith, ints)

swap_first : (a b c d : ℤ) → a ≡ (b +ℤ c) +ℤ d → (x : ℤ) → x +ℤ a ≡ (b +ℤ c) +ℤ (x +ℤ d)
swap_first a b c d e x = omega (arith, ints, e)

reassoc : (a b c d : ℤ) → b ≡ c +ℤ d → a +ℤ b ≡ (a +ℤ c) +ℤ d
reassoc a b c d e = omega (arith, ints, e)

term_total : (h : ℕ → ℤ) (t : Multiple) (rest : List Multiple → List Multiple) (s : ℤ) → ((q : List Multiple) → total h (rest q) ≡ s +ℤ total h q) → (q : List Multiple) → total h (merge_term t rest q) ≡ ((t.coefficient *ℤ h t.place) +ℤ s) +ℤ total h q
unfolding merge_term total
term_total h t rest s r [] = reassoc (t.coefficient *ℤ h t.place) (total h (rest [])) s (pos 0) (r [])
term_total h t rest s r (u ∷ q) =
    chosen (λ l. total h l ≡ ((t.coefficient *ℤ h t.place) +ℤ s) +ℤ ((u.coefficient *ℤ h u.place) +ℤ total h q)) (nat_lt t.place u.place) (nat_lt u.place t.place) _ _ _
    (λ e. reassoc (t.coefficient *ℤ h t.place) (total h (rest (u ∷ q))) s ((u.coefficient *ℤ h u.place) +ℤ total h q) (r (u ∷ q)))
    (λ e f. swap_first (total h (merge_term t rest q)) (t.coefficient *ℤ h t.place) s (total h q) (term_total h t rest s r q) (u.coefficient *ℤ h u.place))
    (λ e f. put_total h t.place (t.coefficient +ℤ u.coefficient) (rest q)
    ∙ ap₂ (λ (m n : ℤ). m +ℤ n) (add_mul t.coefficient u.coefficient (h t.place) ∙ ap (λ (x : ℕ). (t.coefficient *ℤ h t.place) +ℤ (u.coefficient *ℤ h x)) (not_below t.place u.place e f)) (r q)
    ∙ regroup (t.coefficient *ℤ h t.place) (u.coefficient *ℤ h u.place) s (total h q))

pub total-merge : (h : ℕ → ℤ) (p q : List Multiple) → total h (merge p q) ≡ total h p +ℤ total h q
unfolding merge total
total-merge h [] q = omega (arith, ints)
total-merge h (t ∷ p) q = term_total h t (merge p) (total h p) (total-merge h p) q

pub total-scaled : (h : ℕ → ℤ) (k : ℤ) (l : List Multiple) → total h (scaled k l) ≡ k *ℤ total h l
unfolding total scaled
total-scaled h k [] = omega (arith, ints)
total-scaled h k (t ∷ l) = put_total h t.place (k *ℤ t.coefficient) (scaled k l)
    ∙ ap₂ (λ (m n : ℤ). m +ℤ n) (mul_assoc_z k t.coefficient (h t.place)) (total-scaled h k l) ∙ sym (mul_add k (t.coefficient *ℤ h t.place) (total h l))

pub total-negated : (h : ℕ → ℤ) (l : List Multiple) → total h (map negated l) ≡ neg_ℤ (total h l)
unfolding total negated
total-negated h [] = refl
total-negated h (t ∷ l) = let i = total-negated h l in let n = neg_mul t.coefficient (h t.place) in omega (arith, ints, i, n)

-- ---- values

pub value-sum_of : (h : ℕ → ℤ) (a b : Form) → value_of_form h (sum_of a b) ≡ value_of_form h a +ℤ value_of_form h b
unfolding value_of_form sum_of
value-sum_of h a b = let e = total-merge h a.terms b.terms in omega (arith, ints, e)

pub value-opposite_of : (h : ℕ → ℤ) (g : Form) → value_of_form h (opposite_of g) ≡ neg_ℤ (value_of_form h g)
unfolding value_of_form opposite_of
value-opposite_of h g = let e = total-negated h g.terms in omega (arith, ints, e)

pub value-difference_of : (h : ℕ → ℤ) (a b : Form) → value_of_form h (difference_of a b) ≡ value_of_form h a -ℤ value_of_form h b
unfolding difference_of
value-difference_of h a b = let e = value-sum_of h a (opposite_of b) in let f = value-opposite_of h b in omega (arith, ints, e, f)

pub value-multiple_of_form : (h : ℕ → ℤ) (k : ℤ) (g : Form) → value_of_form h (multiple_of_form k g) ≡ k *ℤ value_of_form h g
unfolding value_of_form multiple_of_form
value-multiple_of_form h k g = ap (λ (x : ℤ). (k *ℤ g.constant) +ℤ x) (total-scaled h k g.terms) ∙ sym (mul_add k g.constant (total h g.terms))

pub value-shifted : (h : ℕ → ℤ) (c : ℤ) (g : Form) → value_of_form h (shifted c g) ≡ value_of_form h g +ℤ c
unfolding value_of_form
value-shifted h c g = omega (arith, ints)

pub value-number_form : (h : ℕ → ℤ) (z : ℤ) → value_of_form h (number_form z) ≡ z
unfolding value_of_form total
value-number_form h z = omega (arith, ints)

pub value-place_form : (h : ℕ → ℤ) (x : ℕ) → value_of_form h (place_form x) ≡ h x
unfolding value_of_form total
value-place_form h x = omega (arith, ints)

-- a form without terms has the same value everywhere
pub value-without_terms : (h : ℕ → ℤ) (g : Form) → g.terms ≡ [] → value_of_form h g ≡ g.constant
unfolding value_of_form total
value-without_terms h g e = ap (λ (l : List Multiple). g.constant +ℤ total h l) e ∙ (let f : g.constant +ℤ pos 0 ≡ g.constant = omega (arith, ints) in f)

-- ---- order and zeros

above_put : (y x : ℕ) (k : ℤ) (l : List Multiple) → y < x → AllAbove y l → AllAbove y (put_unless_zero x k l)
unfolding put_unless_zero is_zero_number
above_put y x (pos zero) l h a = a
above_put y x (pos (suc n)) l h a = (h, a)
above_put y x (negsuc n) l h a = (h, a)

ascending_put : (x : ℕ) (k : ℤ) (l : List Multiple) → AllAbove x l → Ascending l → Ascending (put_unless_zero x k l)
unfolding put_unless_zero is_zero_number
ascending_put x (pos zero) l h a = a
ascending_put x (pos (suc n)) l h a = (h, a)
ascending_put x (negsuc n) l h a = (h, a)

above_less : (x y : ℕ) (l : List Multiple) → x < y → AllAbove y l → AllAbove x l
above_less x y [] h a = tt
above_less x y (t ∷ l) h a = (omega (arith, h, a.0), above_less x y l h a.1)

above_term : (x : ℕ) (t : Multiple) (rest : List Multiple → List Multiple) → x < t.place → ((q : List Multiple) → AllAbove x q → AllAbove x (rest q)) → (q : List Multiple) → AllAbove x q → AllAbove x (merge_term t rest q)
unfolding merge_term
above_term x t rest h r [] a = (h, r [] tt)
above_term x t rest h r (u ∷ q) a =
    chosen (AllAbove x) (nat_lt t.place u.place) (nat_lt u.place t.place) _ _ _
    (λ e. (h, r (u ∷ q) a)) (λ e f. (a.0, above_term x t rest h r q a.1)) (λ e f. above_put x t.place (t.coefficient +ℤ u.coefficient) (rest q) h (r q a.1))

above_merge : (x : ℕ) (p q : List Multiple) → AllAbove x p → AllAbove x q → AllAbove x (merge p q)
unfolding merge
above_merge x [] q a b = b
above_merge x (t ∷ p) q a b = above_term x t (merge p) a.0 (λ q b. above_merge x p q a.1 b) q b

ascending_term : (t : Multiple) (p : List Multiple) → Ascending (t ∷ p) → ((q : List Multiple) → Ascending q → Ascending (merge p q)) → (q : List Multiple) → Ascending q → Ascending (merge_term t (merge p) q)
unfolding merge_term
ascending_term t p a r [] b = (above_merge t.place p [] a.0 tt, r [] tt)
ascending_term t p a r (u ∷ q) b =
    chosen Ascending (nat_lt t.place u.place) (nat_lt u.place t.place) _ _ _
    (λ e. let k = below t.place u.place e in (above_merge t.place p (u ∷ q) a.0 (k, above_less t.place u.place q k b.0), r (u ∷ q) b))
    (λ e f. let k = below u.place t.place f in (above_term u.place t (merge p) k (λ q b. above_merge u.place p q (above_less u.place t.place p k a.0) b) q b.0, ascending_term t p a r q b.1))
    (λ e f. ascending_put t.place (t.coefficient +ℤ u.coefficient) (merge p q) (above_merge t.place p q a.0 (subst (λ (n : ℕ). AllAbove n q) (sym (not_below t.place u.place e f)) b.0)) (r q b.1))

pub Ascending-merge : (p q : List Multiple) → Ascending p → Ascending q → Ascending (merge p q)
unfolding merge
Ascending-merge [] q a b = b
Ascending-merge (t ∷ p) q a b = ascending_term t p a (λ q b. Ascending-merge p q a.1 b) q b

abbrev pub NotZero : Multiple → Type 0
NotZero t = t.coefficient ≢ pos 0

put_not_zero : (x : ℕ) (k : ℤ) (l : List Multiple) → All NotZero l → All NotZero (put_unless_zero x k l)
unfolding put_unless_zero is_zero_number
put_not_zero x (pos zero) l a = a
put_not_zero x (pos (suc n)) l a = All-cons NotZero _ l (λ e. absurd (cc e)) a
put_not_zero x (negsuc n) l a = All-cons NotZero _ l (λ e. absurd (cc e)) a

term_not_zero : (t : Multiple) (rest : List Multiple → List Multiple) → NotZero t → ((q : List Multiple) → All NotZero q → All NotZero (rest q)) → (q : List Multiple) → All NotZero q → All NotZero (merge_term t rest q)
unfolding merge_term
term_not_zero t rest h r [] a = All-cons NotZero t (rest []) h (r [] (All-nil NotZero))
term_not_zero t rest h r (u ∷ q) a =
    chosen (All NotZero) (nat_lt t.place u.place) (nat_lt u.place t.place) _ _ _
    (λ e. All-cons NotZero t (rest (u ∷ q)) h (r (u ∷ q) a))
    (λ e f. All-cons NotZero u (merge_term t rest q) (All-head NotZero u q a) (term_not_zero t rest h r q (All-tail NotZero u q a)))
    (λ e f. put_not_zero t.place (t.coefficient +ℤ u.coefficient) (rest q) (r q (All-tail NotZero u q a)))

pub NotZero-merge : (p q : List Multiple) → All NotZero p → All NotZero q → All NotZero (merge p q)
unfolding merge
NotZero-merge [] q a b = b
NotZero-merge (t ∷ p) q a b = term_not_zero t (merge p) (All-head NotZero t p a) (λ q b. NotZero-merge p q (All-tail NotZero t p a) b) q b

above_scaled : (x : ℕ) (k : ℤ) (l : List Multiple) → AllAbove x l → AllAbove x (scaled k l)
unfolding scaled
above_scaled x k [] a = tt
above_scaled x k (t ∷ l) a = above_put x t.place (k *ℤ t.coefficient) (scaled k l) a.0 (above_scaled x k l a.1)

pub Ascending-scaled : (k : ℤ) (l : List Multiple) → Ascending l → Ascending (scaled k l)
unfolding scaled
Ascending-scaled k [] a = tt
Ascending-scaled k (t ∷ l) a = ascending_put t.place (k *ℤ t.coefficient) (scaled k l) (above_scaled t.place k l a.0) (Ascending-scaled k l a.1)

pub NotZero-scaled : (k : ℤ) (l : List Multiple) → All NotZero (scaled k l)
unfolding scaled
NotZero-scaled k [] = All-nil NotZero
NotZero-scaled k (t ∷ l) = put_not_zero t.place (k *ℤ t.coefficient) (scaled k l) (NotZero-scaled k l)

above_negated : (x : ℕ) (l : List Multiple) → AllAbove x l → AllAbove x (map negated l)
unfolding negated
above_negated x [] a = tt
above_negated x (t ∷ l) a = (a.0, above_negated x l a.1)

pub Ascending-negated : (l : List Multiple) → Ascending l → Ascending (map negated l)
unfolding negated
Ascending-negated [] a = tt
Ascending-negated (t ∷ l) a = (above_negated t.place l a.0, Ascending-negated l a.1)

pub NotZero-negated : (l : List Multiple) → All NotZero l → All NotZero (map negated l)
unfolding negated
NotZero-negated [] a = All-nil NotZero
NotZero-negated (t ∷ l) a = All-cons NotZero (negated t) (map negated l) (λ e. All-head NotZero t l a (omega (arith, ints, e))) (NotZero-negated l (All-tail NotZero t l a))

abbrev Small : Multiple → Type 0
Small t = unsigned_abs t.coefficient ≤ 2 ^ 40

pub AllSmall-negated : (l : List Multiple) → AllSmall l → AllSmall (map negated l)
unfolding negated
AllSmall-negated [] a = All-nil Small
AllSmall-negated (t ∷ l) a = All-cons Small (negated t) (map negated l) (let h = All-head Small t l a in omega (arith, ints, h)) (AllSmall-negated l (All-tail Small t l a))
