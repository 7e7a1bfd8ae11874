-- The steps of the loops that pair inequalities, and what stays safe.
use Rattle.std.proofs.Common.{◌≡◌, ◌∙◌, sym, ap, ap₂, subst, refl, arith, ℕ, zero, suc, ◌+◌, ◌*◌, ◌^◌, ◌<◌, ◌≤◌, Bool, true, false, ◌||◌, inl, inr, nat_lt, List, [], ◌∷◌, ◌++◌, length, map, drop, get_or, append_assoc, append-nil, All, ℤ, pos, negsuc, ◌+ℤ◌, ◌-ℤ◌, ◌*ℤ◌, unsigned_abs, if◌then◌else◌}
use Rattle.std.proofs.lemmas.List.Elements.{All-cons, All-tail, All-nil, All-map, All-weaker}
use Rattle.std.proofs.lemmas.Int.{ints, unsigned_abs-mul}
use native.Mathlib.Nat.{mul-le-mul, div-le_self}
use borrow.Author.Tests.{ltb-true}
use Rattle.cc_base.specs.Inequality as plain
use Rattle.cc_base.specs.Inequality.{coefficient, scaled, scaled_term, merge, merge_term, put_unless_zero, int_is_zero, normal, divided_by, divided, divisor, floor}
use Rattle.cc_base.specs.declared.forms.Multiple.{Multiple}
use Rattle.cc_base.specs.declared.passes.Mode.{Mode}
use Rattle.cc_base.specs.declared.passes.PassEnd.TheVariants.{Open, Empty}
use Rattle.cc_base.specs.Pass.{below, above, is_positive, is_lower, is_upper, lowers, uppers, others, dark_part, paired, paired_with, all_paired, eliminate, kept, tidy, lesser, same_terms, wide_term, too_wide, some_wide, has_terms, some_false, with_terms, ended, going, go_on, judged, ready}
use Rattle.linear_solver.specs.declared.inequalities.Inequality.{Inequality}
use Rattle.linear_solver.specs.Seen.{seen, seen_all}
use Rattle.linear_solver.specs.Ordered.{Ordered, Narrow, NarrowAll, Safe, SafeAll}
use Rattle.linear_solver.proofs.Integers.{bool_cases}
use Rattle.linear_solver.proofs.Tidied.{or_false}
use Rattle.linear_solver.proofs.Loops.{seen_drop, seen_end, ordered_later}
use Rattle.linear_solver.proofs.Ranking.{coefficient_bound, below_bound, above_bound}

-- ---- loops that add what each inequality gives

module _ (F : List plain.Inequality → List plain.Inequality) (split : (i : plain.Inequality) (l : List plain.Inequality) → F (i ∷ l) ≡ F (i ∷ []) ++ F l) where
  pub added : (o u l : List Inequality) (k : ℕ) (x : Inequality) (w : List plain.Inequality) → k < length l → x ≡ get_or l k x → seen_all u ≡ seen_all o ++ F (seen x ∷ []) →
      seen_all o ++ F (seen_all (drop k l)) ≡ w → seen_all u ++ F (seen_all (drop (k + 1) l)) ≡ w
  added o u l k x w h e f g =
      ap (λ (m : List plain.Inequality). m ++ F (seen_all (drop (k + 1) l))) f ∙ append_assoc (seen_all o) (F (seen x ∷ [])) (F (seen_all (drop (k + 1) l)))
      ∙ ap (λ (m : List plain.Inequality). seen_all o ++ m) (sym (split (seen x) (seen_all (drop (k + 1) l))) ∙ sym (ap F (seen_drop l k x h e))) ∙ g

  pub added_all : (o l : List Inequality) (k : ℕ) (w : List plain.Inequality) → F [] ≡ [] → length l ≤ k → seen_all o ++ F (seen_all (drop k l)) ≡ w → seen_all o ≡ w
  added_all o l k w z h g = sym (ap (λ (m : List plain.Inequality). seen_all o ++ m) (ap F (seen_end l k h) ∙ z) ∙ append-nil (seen_all o)) ∙ g

others_if : (b : Bool) (i : plain.Inequality) (r : List plain.Inequality) → (if b then r else i ∷ r) ≡ (if b then [] else i ∷ []) ++ r
others_if true i r = refl
others_if false i r = refl

pub others_split : (x : ℕ) (i : plain.Inequality) (l : List plain.Inequality) → others x (i ∷ l) ≡ others x (i ∷ []) ++ others x l
unfolding others
others_split x i l = others_if (is_lower x i || is_upper x i) i (others x l)

pub others_none : (x : ℕ) → others x [] ≡ []
unfolding others
others_none x = refl

with_if : (m : Mode) (x : ℕ) (i : plain.Inequality) (b : Bool) (j : plain.Inequality) (r : List plain.Inequality) → paired_with m x i (if b then j ∷ r else r) ≡ paired_with m x i (if b then j ∷ [] else []) ++ paired_with m x i r
unfolding paired_with
with_if m x i true j r = refl
with_if m x i false j r = refl

pub with_split : (m : Mode) (x : ℕ) (i j : plain.Inequality) (l : List plain.Inequality) → paired_with m x i (uppers x (j ∷ l)) ≡ paired_with m x i (uppers x (j ∷ [])) ++ paired_with m x i (uppers x l)
unfolding uppers
with_split m x i j l = with_if m x i (is_upper x j) j (uppers x l)

pub with_none : (m : Mode) (x : ℕ) (i : plain.Inequality) → paired_with m x i (uppers x []) ≡ []
unfolding uppers paired_with
with_none m x i = refl

pairs_if : (m : Mode) (x : ℕ) (us : List plain.Inequality) (b : Bool) (j : plain.Inequality) (r : List plain.Inequality) → all_paired m x (if b then j ∷ r else r) us ≡ all_paired m x (if b then j ∷ [] else []) us ++ all_paired m x r us
unfolding all_paired
pairs_if m x us true j r = ap (λ (l : List plain.Inequality). l ++ all_paired m x r us) (sym (append-nil (paired_with m x j us)))
pairs_if m x us false j r = refl

pub pairs_split : (m : Mode) (x : ℕ) (us : List plain.Inequality) (j : plain.Inequality) (l : List plain.Inequality) → all_paired m x (lowers x (j ∷ l)) us ≡ all_paired m x (lowers x (j ∷ [])) us ++ all_paired m x (lowers x l) us
unfolding lowers
pairs_split m x us j l = pairs_if m x us (is_lower x j) j (lowers x l)

pub pairs_none : (m : Mode) (x : ℕ) (us : List plain.Inequality) → all_paired m x (lowers x []) us ≡ []
unfolding lowers all_paired
pairs_none m x us = refl

positive_is : (n : ℕ) → 0 < n → is_positive n ≡ true
unfolding is_positive
positive_is zero h = absurd (omega arith)
positive_is (suc n) h = refl

zero_is : (n : ℕ) → n ≡ 0 → is_positive n ≡ false
unfolding is_positive
zero_is zero h = refl
zero_is (suc n) h = absurd (cc h)

pub one_other : (x : ℕ) (i : plain.Inequality) → below (coefficient x i.terms) ≡ 0 → above (coefficient x i.terms) ≡ 0 → i ∷ [] ≡ others x (i ∷ [])
unfolding others is_lower is_upper
one_other x i h k = sym (ap₂ (λ (a b : Bool). if a || b then others x [] else i ∷ others x []) (zero_is _ h) (zero_is _ k))

pub lower_no_other : (x : ℕ) (i : plain.Inequality) → 0 < below (coefficient x i.terms) → [] ≡ others x (i ∷ [])
unfolding others is_lower is_upper
lower_no_other x i h = sym (ap (λ (a : Bool). if a || is_positive (above (coefficient x i.terms)) then others x [] else i ∷ others x []) (positive_is _ h))

or_one : (a : Bool) → a || true ≡ true
or_one true = refl
or_one false = refl

pub upper_no_other : (x : ℕ) (i : plain.Inequality) → 0 < above (coefficient x i.terms) → [] ≡ others x (i ∷ [])
unfolding others is_lower is_upper
upper_no_other x i h = sym (ap (λ (a : Bool). if a then others x [] else i ∷ others x []) (ap (λ (a : Bool). is_positive (below (coefficient x i.terms)) || a) (positive_is _ h) ∙ or_one _))

pub one_pair : (m : Mode) (x : ℕ) (i j : plain.Inequality) → 0 < above (coefficient x j.terms) → paired m x i j ∷ [] ≡ paired_with m x i (uppers x (j ∷ []))
unfolding uppers is_upper paired_with
one_pair m x i j h = sym (ap (λ (a : Bool). paired_with m x i (if a then j ∷ uppers x [] else uppers x [])) (positive_is _ h))

pub no_pair : (m : Mode) (x : ℕ) (i j : plain.Inequality) → above (coefficient x j.terms) ≡ 0 → [] ≡ paired_with m x i (uppers x (j ∷ []))
unfolding uppers is_upper paired_with
no_pair m x i j h = sym (ap (λ (a : Bool). paired_with m x i (if a then j ∷ uppers x [] else uppers x [])) (zero_is _ h))

pub its_pairs : (m : Mode) (x : ℕ) (i : plain.Inequality) (us : List plain.Inequality) → 0 < below (coefficient x i.terms) → paired_with m x i us ≡ all_paired m x (lowers x (i ∷ [])) us
unfolding lowers is_lower all_paired
its_pairs m x i us h = sym (append-nil (paired_with m x i us)) ∙ sym (ap (λ (a : Bool). all_paired m x (if a then i ∷ lowers x [] else lowers x []) us) (positive_is _ h))

pub no_pairs : (m : Mode) (x : ℕ) (i : plain.Inequality) (us : List plain.Inequality) → below (coefficient x i.terms) ≡ 0 → [] ≡ all_paired m x (lowers x (i ∷ [])) us
unfolding lowers is_lower all_paired
no_pairs m x i us h = sym (ap (λ (a : Bool). all_paired m x (if a then i ∷ lowers x [] else lowers x []) us) (zero_is _ h))

pub nothing_added : (o f : List plain.Inequality) → [] ≡ f → o ≡ o ++ f
nothing_added o f e = sym (append-nil o) ∙ ap (λ (m : List plain.Inequality). o ++ m) e

pub pair_is : (m : Mode) (x : ℕ) (i j : plain.Inequality) (a c : ℕ) (ts : List Multiple) (b : ℤ) → a ≡ below (coefficient x i.terms) → c ≡ above (coefficient x j.terms) → ts ≡ merge (scaled (pos c) i.terms) (scaled (pos a) j.terms) →
    b ≡ ((pos c *ℤ i.most) +ℤ (pos a *ℤ j.most)) -ℤ pos (dark_part m a c) → (let r : plain.Inequality = record { terms = ts; most = b } in r) ≡ paired m x i j
unfolding paired
pair_is m x i j a c ts b e f p q =
    ap₂ (λ (t : List Multiple) (z : ℤ). let r : plain.Inequality = record { terms = t; most = z } in r) p q
    ∙ ap₂ (λ (k n : ℕ). let r : plain.Inequality = record { terms = merge (scaled (pos n) i.terms) (scaled (pos k) j.terms); most = ((pos n *ℤ i.most) +ℤ (pos k *ℤ j.most)) -ℤ pos (dark_part m k n) } in r) e f

-- ---- what is made from narrow inequalities is safe

pub ordered_scaled : (n : ℕ) (k : ℤ) (l : List Multiple) → Ordered n l → Ordered n (scaled k l)
unfolding scaled scaled_term
ordered_scaled n k [] o = tt
ordered_scaled n k (t ∷ l) o = (o.0, o.1, ordered_scaled (suc t.place) k l o.2)

ordered_put : (n x : ℕ) (k : ℤ) (l : List Multiple) → n ≤ x → x < 2 ^ 32 → Ordered (suc x) l → Ordered n (put_unless_zero x k l)
unfolding put_unless_zero int_is_zero
ordered_put n x (pos zero) l h s o = ordered_later (suc x) n l (omega arith) o
ordered_put n x (pos (suc m)) l h s o = (h, s, o)
ordered_put n x (negsuc m) l h s o = (h, s, o)

ordered_term : (n : ℕ) (t : Multiple) (rest : List Multiple → List Multiple) → n ≤ t.place → t.place < 2 ^ 32 → ((q : List Multiple) → Ordered (suc t.place) q → Ordered (suc t.place) (rest q)) →
    (q : List Multiple) → Ordered n q → Ordered n (merge_term t rest q)
unfolding merge_term
ordered_term n t rest h s r [] o = (h, s, r [] tt)
ordered_term n t rest h s r (u ∷ q) o = let a = o.0 in elim (bool_cases (nat_lt t.place u.place)) [
  | inl e ↦ subst (λ (b : Bool). Ordered n (if b then t ∷ rest (u ∷ q) else (if nat_lt u.place t.place then u ∷ merge_term t rest q else put_unless_zero t.place (t.coefficient +ℤ u.coefficient) (rest q)))) (sym e)
      (h, s, r (u ∷ q) (let l = ltb-true t.place u.place e in omega (arith, l), o.1, o.2))
  | inr e ↦ subst (λ (b : Bool). Ordered n (if b then t ∷ rest (u ∷ q) else (if nat_lt u.place t.place then u ∷ merge_term t rest q else put_unless_zero t.place (t.coefficient +ℤ u.coefficient) (rest q)))) (sym e)
      (elim (bool_cases (nat_lt u.place t.place)) [
        | inl f ↦ subst (λ (b : Bool). Ordered n (if b then u ∷ merge_term t rest q else put_unless_zero t.place (t.coefficient +ℤ u.coefficient) (rest q))) (sym f)
            (a, o.1, ordered_term (suc u.place) t rest (let l = ltb-true u.place t.place f in omega (arith, l)) s r q o.2)
        | inr f ↦ subst (λ (b : Bool). Ordered n (if b then u ∷ merge_term t rest q else put_unless_zero t.place (t.coefficient +ℤ u.coefficient) (rest q))) (sym f)
            (let same : t.place ≡ u.place = grind arith in ordered_put n t.place (t.coefficient +ℤ u.coefficient) (rest q) h s (r q (subst (λ (x : ℕ). Ordered (suc x) q) (sym same) o.2)))
      ])
]

ordered_merge : (n : ℕ) (p q : List Multiple) → Ordered n p → Ordered n q → Ordered n (merge p q)
unfolding merge
ordered_merge n [] q o r = r
ordered_merge n (t ∷ p) q o r = ordered_term n t (merge p) o.0 o.1 (λ m k. ordered_merge (suc t.place) p m o.2 k) q r

abbrev pub Small : ℕ → List Multiple → Type 0
Small b l = All (λ t. unsigned_abs t.coefficient ≤ b) l

pub small_scaled : (b c : ℕ) (k : ℤ) (l : List Multiple) → unsigned_abs k ≤ c → Small b l → Small (c * b) (scaled k l)
unfolding scaled scaled_term
small_scaled b c k [] h a = All-nil (λ t. unsigned_abs t.coefficient ≤ c * b)
small_scaled b c k (t ∷ l) h a =
    let m = mul-le-mul h (a 0 t (omega arith)) in let e = unsigned_abs-mul k t.coefficient in
    All-cons (λ t. unsigned_abs t.coefficient ≤ c * b) (record { place = t.place; coefficient = k *ℤ t.coefficient }) (scaled k l) (subst (λ (n : ℕ). n ≤ c * b) (sym e) m) (small_scaled b c k l h (All-tail (λ t. unsigned_abs t.coefficient ≤ b) t l a))

small_put : (b x : ℕ) (k : ℤ) (l : List Multiple) → unsigned_abs k ≤ b → Small b l → Small b (put_unless_zero x k l)
unfolding put_unless_zero int_is_zero
small_put b x (pos zero) l h a = a
small_put b x (pos (suc m)) l h a = All-cons (λ t. unsigned_abs t.coefficient ≤ b) (record { place = x; coefficient = pos (suc m) }) l h a
small_put b x (negsuc m) l h a = All-cons (λ t. unsigned_abs t.coefficient ≤ b) (record { place = x; coefficient = negsuc m }) l h a

small_sum : (a b : ℕ) (x y : ℤ) → unsigned_abs x ≤ a → unsigned_abs y ≤ b → unsigned_abs (x +ℤ y) ≤ a + b
small_sum a b x y h k = omega (arith, ints, h, k)

small_term : (a b : ℕ) (t : Multiple) (rest : List Multiple → List Multiple) → unsigned_abs t.coefficient ≤ a → ((q : List Multiple) → Small b q → Small (a + b) (rest q)) →
    (q : List Multiple) → Small b q → Small (a + b) (merge_term t rest q)
unfolding merge_term
small_term a b t rest h r [] s = All-cons (λ t. unsigned_abs t.coefficient ≤ a + b) t (rest []) (omega (arith, h)) (r [] s)
small_term a b t rest h r (u ∷ q) s =
    let hu : unsigned_abs u.coefficient ≤ b = s 0 u (omega arith) in let tail = All-tail (λ t. unsigned_abs t.coefficient ≤ b) u q s in
    elim (bool_cases (nat_lt t.place u.place)) [
      | inl e ↦ subst (λ (c : Bool). Small (a + b) (if c then t ∷ rest (u ∷ q) else (if nat_lt u.place t.place then u ∷ merge_term t rest q else put_unless_zero t.place (t.coefficient +ℤ u.coefficient) (rest q)))) (sym e)
          (All-cons (λ t. unsigned_abs t.coefficient ≤ a + b) t (rest (u ∷ q)) (omega (arith, h)) (r (u ∷ q) s))
      | inr e ↦ subst (λ (c : Bool). Small (a + b) (if c then t ∷ rest (u ∷ q) else (if nat_lt u.place t.place then u ∷ merge_term t rest q else put_unless_zero t.place (t.coefficient +ℤ u.coefficient) (rest q)))) (sym e)
          (elim (bool_cases (nat_lt u.place t.place)) [
            | inl f ↦ subst (λ (c : Bool). Small (a + b) (if c then u ∷ merge_term t rest q else put_unless_zero t.place (t.coefficient +ℤ u.coefficient) (rest q))) (sym f)
                (All-cons (λ t. unsigned_abs t.coefficient ≤ a + b) u (merge_term t rest q) (omega (arith, hu)) (small_term a b t rest h r q tail))
            | inr f ↦ subst (λ (c : Bool). Small (a + b) (if c then u ∷ merge_term t rest q else put_unless_zero t.place (t.coefficient +ℤ u.coefficient) (rest q))) (sym f)
                (small_put (a + b) t.place (t.coefficient +ℤ u.coefficient) (rest q) (small_sum a b t.coefficient u.coefficient h hu) (r q tail))
          ])
    ]

small_weaker : (a b : ℕ) (l : List Multiple) → a ≤ b → Small a l → Small b l
small_weaker a b l h s = All-weaker (λ t. unsigned_abs t.coefficient ≤ a) (λ t. unsigned_abs t.coefficient ≤ b) (λ t k. omega (arith, h, k)) l s

small_merge : (a b : ℕ) (p q : List Multiple) → Small a p → Small b q → Small (a + b) (merge p q)
unfolding merge
small_merge a b [] q s r = small_weaker b (a + b) q (omega arith) r
small_merge a b (t ∷ p) q s r = small_term a b t (merge p) (s 0 t (omega arith)) (λ m k. small_merge a b p m (All-tail (λ t. unsigned_abs t.coefficient ≤ a) t p s) k) q r

below_limit : (l : List Multiple) → Small (2 ^ 44 * 2 ^ 44 + 2 ^ 44 * 2 ^ 44) l → All (λ t. unsigned_abs t.coefficient < 2 ^ 127) l
below_limit l s = All-weaker (λ t. unsigned_abs t.coefficient ≤ 2 ^ 44 * 2 ^ 44 + 2 ^ 44 * 2 ^ 44) (λ t. unsigned_abs t.coefficient < 2 ^ 127) (λ t k. omega (arith, k)) l s

pair_safe : (m : Mode) (x : ℕ) (i j : plain.Inequality) → Narrow i → Narrow j → Safe (paired m x i j)
unfolding paired
pair_safe m x i j n k =
    let a = below_bound (coefficient x i.terms) (2 ^ 44) (coefficient_bound (2 ^ 44) 0 x i.terms n.ordered n.terms) in
    let c = above_bound (coefficient x j.terms) (2 ^ 44) (coefficient_bound (2 ^ 44) 0 x j.terms k.ordered k.terms) in
    record {
      ordered = ordered_merge 0 (scaled (pos (above (coefficient x j.terms))) i.terms) (scaled (pos (below (coefficient x i.terms))) j.terms) (ordered_scaled 0 _ i.terms n.ordered) (ordered_scaled 0 _ j.terms k.ordered);
      terms = below_limit _ (small_merge (2 ^ 44 * 2 ^ 44) (2 ^ 44 * 2 ^ 44) (scaled (pos (above (coefficient x j.terms))) i.terms) (scaled (pos (below (coefficient x i.terms))) j.terms)
          (small_scaled (2 ^ 44) (2 ^ 44) (pos (above (coefficient x j.terms))) i.terms c n.terms) (small_scaled (2 ^ 44) (2 ^ 44) (pos (below (coefficient x i.terms))) j.terms a k.terms));
    }

narrow_safe : (i : plain.Inequality) → Narrow i → Safe i
narrow_safe i n = record { ordered = n.ordered; terms = All-weaker (λ t. unsigned_abs t.coefficient ≤ 2 ^ 44) (λ t. unsigned_abs t.coefficient < 2 ^ 127) (λ t k. omega (arith, k)) i.terms n.terms }

pub safe_append : (k l : List plain.Inequality) → SafeAll k → SafeAll l → SafeAll (k ++ l)
safe_append [] l h s = s
safe_append (i ∷ k) l h s = (h.0, safe_append k l h.1 s)

narrow_lowers : (x : ℕ) (l : List plain.Inequality) → NarrowAll l → NarrowAll (lowers x l)
unfolding lowers
narrow_lowers x [] n = tt
narrow_lowers x (i ∷ l) n = elim (bool_cases (is_lower x i)) [
  | inl t ↦ subst (λ (b : Bool). NarrowAll (if b then i ∷ lowers x l else lowers x l)) (sym t) (n.0, narrow_lowers x l n.1)
  | inr t ↦ subst (λ (b : Bool). NarrowAll (if b then i ∷ lowers x l else lowers x l)) (sym t) (narrow_lowers x l n.1)
]

narrow_uppers : (x : ℕ) (l : List plain.Inequality) → NarrowAll l → NarrowAll (uppers x l)
unfolding uppers
narrow_uppers x [] n = tt
narrow_uppers x (i ∷ l) n = elim (bool_cases (is_upper x i)) [
  | inl t ↦ subst (λ (b : Bool). NarrowAll (if b then i ∷ uppers x l else uppers x l)) (sym t) (n.0, narrow_uppers x l n.1)
  | inr t ↦ subst (λ (b : Bool). NarrowAll (if b then i ∷ uppers x l else uppers x l)) (sym t) (narrow_uppers x l n.1)
]

safe_others : (x : ℕ) (l : List plain.Inequality) → NarrowAll l → SafeAll (others x l)
unfolding others
safe_others x [] n = tt
safe_others x (i ∷ l) n = elim (bool_cases (is_lower x i || is_upper x i)) [
  | inl t ↦ subst (λ (b : Bool). SafeAll (if b then others x l else i ∷ others x l)) (sym t) (safe_others x l n.1)
  | inr t ↦ subst (λ (b : Bool). SafeAll (if b then others x l else i ∷ others x l)) (sym t) (narrow_safe i n.0, safe_others x l n.1)
]

safe_with : (m : Mode) (x : ℕ) (i : plain.Inequality) (us : List plain.Inequality) → Narrow i → NarrowAll us → SafeAll (paired_with m x i us)
unfolding paired_with
safe_with m x i [] n k = tt
safe_with m x i (j ∷ us) n k = (pair_safe m x i j n k.0, safe_with m x i us n k.1)

safe_pairs : (m : Mode) (x : ℕ) (ls us : List plain.Inequality) → NarrowAll ls → NarrowAll us → SafeAll (all_paired m x ls us)
unfolding all_paired
safe_pairs m x [] us n k = tt
safe_pairs m x (i ∷ ls) us n k = safe_append (paired_with m x i us) (all_paired m x ls us) (safe_with m x i us n.0 k) (safe_pairs m x ls us n.1 k)

pub safe_eliminate : (m : Mode) (x : ℕ) (l : List plain.Inequality) → NarrowAll l → SafeAll (eliminate m x l)
unfolding eliminate
safe_eliminate m x l n = safe_append (others x l) (all_paired m x (lowers x l) (uppers x l)) (safe_others x l n) (safe_pairs m x (lowers x l) (uppers x l) (narrow_lowers x l n) (narrow_uppers x l n))

-- ---- what is made normal is safe, and narrow where nothing is too wide

pub floor_less : (z : ℤ) (g : ℕ) → unsigned_abs (floor z g) ≤ unsigned_abs z
unfolding floor
floor_less (pos n) g = div-le_self n g
floor_less (negsuc n) g = let h = div-le_self n g in omega (arith, ints, h)

ordered_divided : (n g : ℕ) (l : List Multiple) → Ordered n l → Ordered n (map (divided g) l)
unfolding divided
ordered_divided n g [] o = tt
ordered_divided n g (t ∷ l) o = (o.0, o.1, ordered_divided (suc t.place) g l o.2)

divided_less : (g : ℕ) (t : Multiple) → unsigned_abs (divided g t).coefficient ≤ unsigned_abs t.coefficient
unfolding divided
divided_less g t = floor_less t.coefficient g

safe_divided : (g : ℕ) (i : plain.Inequality) → Safe i → Safe (divided_by g i)
unfolding divided_by
safe_divided zero i s = s
safe_divided (suc g) i s = record {
  ordered = ordered_divided 0 (suc g) i.terms s.ordered;
  terms = All-map (λ t. unsigned_abs t.coefficient < 2 ^ 127) (divided (suc g)) i.terms (All-weaker (λ t. unsigned_abs t.coefficient < 2 ^ 127) (λ t. unsigned_abs (divided (suc g) t).coefficient < 2 ^ 127) (λ t k. let h = divided_less (suc g) t in omega (arith, h, k)) i.terms s.terms);
}

safe_normal : (i : plain.Inequality) → Safe i → Safe (normal i)
unfolding normal
safe_normal i s = safe_divided (divisor i.terms) i s

safe_kept : (i : plain.Inequality) (l : List plain.Inequality) → Safe i → SafeAll l → SafeAll (kept i l)
unfolding kept
safe_kept i [] s a = (s, tt)
safe_kept i (j ∷ l) s a = elim (bool_cases (same_terms i.terms j.terms)) [
  | inl t ↦ subst (λ (b : Bool). SafeAll (if b then record { terms = j.terms; most = lesser i.most j.most } ∷ l else j ∷ kept i l)) (sym t) (record { ordered = (a.0).ordered; terms = (a.0).terms }, a.1)
  | inr t ↦ subst (λ (b : Bool). SafeAll (if b then record { terms = j.terms; most = lesser i.most j.most } ∷ l else j ∷ kept i l)) (sym t) (a.0, safe_kept i l s a.1)
]

safe_tidy : (l : List plain.Inequality) → SafeAll l → SafeAll (tidy l)
unfolding tidy
safe_tidy [] s = tt
safe_tidy (i ∷ l) s = safe_kept (normal i) (tidy l) (safe_normal i s.0) (safe_tidy l s.1)

narrow_terms : (l : List Multiple) → wide_term l ≡ false → Small (2 ^ 44) l
unfolding wide_term
narrow_terms [] h = All-nil (λ t. unsigned_abs t.coefficient ≤ 2 ^ 44)
narrow_terms (t ∷ l) h =
    let r = or_false (nat_lt (2 ^ 44) (unsigned_abs t.coefficient)) (wide_term l) h in let r0 = r.0 in
    All-cons (λ t. unsigned_abs t.coefficient ≤ 2 ^ 44) t l (grind arith) (narrow_terms l r.1)

narrow_one : (i : plain.Inequality) → Safe i → too_wide i ≡ false → Narrow i
unfolding too_wide
narrow_one i s h = let r = or_false (wide_term i.terms) (nat_lt (2 ^ 80) (unsigned_abs i.most)) h in let r1 = r.1 in
    record { ordered = s.ordered; terms = narrow_terms i.terms r.0; most = (grind arith) }

narrow_all : (l : List plain.Inequality) → SafeAll l → some_wide l ≡ false → NarrowAll l
unfolding some_wide
narrow_all [] s h = tt
narrow_all (i ∷ l) s h = let r = or_false (too_wide i) (some_wide l) h in (narrow_one i s.0 r.0, narrow_all l s.1 r.1)

narrow_with : (l : List plain.Inequality) → NarrowAll l → NarrowAll (with_terms l)
unfolding with_terms
narrow_with [] n = tt
narrow_with (i ∷ l) n = elim (bool_cases (has_terms i)) [
  | inl t ↦ subst (λ (b : Bool). NarrowAll (if b then i ∷ with_terms l else with_terms l)) (sym t) (n.0, narrow_with l n.1)
  | inr t ↦ subst (λ (b : Bool). NarrowAll (if b then i ∷ with_terms l else with_terms l)) (sym t) (narrow_with l n.1)
]

pub narrow_left : (l : List plain.Inequality) → SafeAll l → some_wide (tidy l) ≡ false → NarrowAll (with_terms (tidy l))
narrow_left l s h = narrow_with (tidy l) (narrow_all (tidy l) (safe_tidy l s) h)

go_on_list : (k : List plain.Inequality) (x : ℕ) (m : List plain.Inequality) → going x m ≡ go_on k → m ≡ k
unfolding go_on
go_on_list [] x m e = absurd (cc e)
go_on_list (i ∷ k) x m e = cc e

-- a list with which a pass goes on is narrow
pub narrow_going : (l : List plain.Inequality) (x : ℕ) (k : List plain.Inequality) → SafeAll l → going x k ≡ ready l → NarrowAll k
unfolding ready judged
narrow_going l x k s e = elim (bool_cases (some_wide (tidy l))) [
  | inl t ↦ absurd (let f : going x k ≡ ended Open = e ∙ ap (λ (b : Bool). if b then ended Open else (if some_false (tidy l) then ended Empty else go_on (with_terms (tidy l)))) t in cc f)
  | inr t ↦ elim (bool_cases (some_false (tidy l))) [
    | inl u ↦ absurd (let f : going x k ≡ ended Empty = e ∙ ap₂ (λ (b c : Bool). if b then ended Open else (if c then ended Empty else go_on (with_terms (tidy l)))) t u in cc f)
    | inr u ↦
        let f : going x k ≡ go_on (with_terms (tidy l)) = e ∙ ap₂ (λ (b c : Bool). if b then ended Open else (if c then ended Empty else go_on (with_terms (tidy l)))) t u in
        subst (λ (m : List plain.Inequality). NarrowAll m) (sym (go_on_list (with_terms (tidy l)) x k f)) (narrow_left l s t)
  ]
]

-- ---- how a list is judged

pub judged_wide : (l : List plain.Inequality) → some_wide (tidy l) ≡ true → ended Open ≡ ready l
unfolding ready judged
judged_wide l t = sym (ap (λ (b : Bool). if b then ended Open else (if some_false (tidy l) then ended Empty else go_on (with_terms (tidy l)))) t)

pub judged_false : (l : List plain.Inequality) → some_wide (tidy l) ≡ false → some_false (tidy l) ≡ true → ended Empty ≡ ready l
unfolding ready judged
judged_false l t u = sym (ap₂ (λ (b c : Bool). if b then ended Open else (if c then ended Empty else go_on (with_terms (tidy l)))) t u)

pub judged_on : (l : List plain.Inequality) → some_wide (tidy l) ≡ false → some_false (tidy l) ≡ false → go_on (with_terms (tidy l)) ≡ ready l
unfolding ready judged
judged_on l t u = sym (ap₂ (λ (b c : Bool). if b then ended Open else (if c then ended Empty else go_on (with_terms (tidy l)))) t u)
