-- Inequalities that are found by the buckets of their terms.
use Rattle.std.proofs.Common.{◌≡◌, ◌∙◌, sym, ap, ap₂, subst, refl, arith, ℕ, zero, suc, ◌+◌, ◌<◌, ◌≤◌, Bool, true, false, ◌&&◌, inl, inr, nat_eq, List, [], ◌∷◌, ◌++◌, length, replicate, take, drop, set, get_or}
use Rattle.std.proofs.lemmas.List.{drop_more, drop_all}
use Rattle.std.proofs.lemmas.Bool.{cases_lt}
use borrow.Author.Tests.{eqb-true, eq-eqb}
use Rattle.cc_base.specs.Inequality as plain
use Rattle.cc_base.specs.declared.forms.Multiple.{Multiple}
use Rattle.cc_base.specs.Pass.{same_terms, kept}
use Rattle.linear_solver.specs.declared.inequalities.Inequality.{Inequality}
use Rattle.linear_solver.specs.Chains.{mix, mixed, bucket, terms_at, Chained}
use Rattle.linear_solver.specs.Seen.{seen, seen_all}
use Rattle.linear_solver.proofs.Integers.{bool_cases}
use Rattle.linear_solver.proofs.Tidied.{same_tells}
use Rattle.linear_solver.proofs.TidySteps.{int_same_self, kept_other}

-- ---- buckets

pub mixed_more : (h : ℕ) (l : List Multiple) (k : ℕ) (d : Multiple) (n w : ℕ) → k < length l → n ≡ mix h (get_or l k d) → mixed h (drop k l) ≡ w → mixed n (drop (k + 1) l) ≡ w
unfolding mixed
mixed_more h l k d n w i e f = ap (λ (m : ℕ). mixed m (drop (k + 1) l)) e ∙ sym (ap (mixed h) (drop_more l k d i)) ∙ f

pub mixed_end : (h : ℕ) (l : List Multiple) (k w : ℕ) → length l ≤ k → mixed h (drop k l) ≡ w → h ≡ w
unfolding mixed
mixed_end h l k w i f = sym (ap (mixed h) (drop_all k l i)) ∙ f

-- ---- equal terms

pub same_self : (p : List Multiple) → same_terms p p ≡ true
unfolding same_terms
same_self [] = refl
same_self (t ∷ p) = ap₂ (λ (a b : Bool). a && b) (eq-eqb t.place t.place refl) (ap₂ (λ (a b : Bool). a && b) (int_same_self t.coefficient) (same_self p))

pub not_same : (p q : List Multiple) → same_terms p q ≡ false → q ≡ p → ⊥
not_same p q h e = let s = ap (same_terms p) e ∙ same_self p in cc (h, s)

-- ---- the walk along a chain

-- what is left of the walk: no inequality from at on has the terms, and at stands in their bucket
pub record Sought (n : ℕ) (t : ℕ → List Multiple) (c b : ℕ) (p : List Multiple) (at : ℕ) : Type 0 where
  pub within : at ≤ n
  pub same : (k : ℕ) → at ≡ suc k → bucket c (t k) ≡ b
  pub none : (j : ℕ) → at ≤ j → j < n → t j ≡ p → ⊥

pub sought_first : (n : ℕ) (t : ℕ → List Multiple) (last before : List ℕ) (b : ℕ) (p : List Multiple) (at : ℕ) → Chained n t last before → b ≡ bucket (length last) p → at ≡ get_or last b 0 → Sought n t (length last) b p at
sought_first n t last before b p at c e f = record {
  within = (let h = c.last_within b in omega (arith, h, f));
  same = λ k h. c.last_is b k (sym f ∙ h);
  none = λ j h i g. c.none_after b j (omega (arith, h, f)) i (ap (bucket (length last)) g ∙ sym e);
}

pub sought_next : (n : ℕ) (t : ℕ → List Multiple) (last before : List ℕ) (b : ℕ) (p : List Multiple) (at k next : ℕ) → Chained n t last before → b ≡ bucket (length last) p → Sought n t (length last) b p at → at ≡ suc k → (t k ≡ p → ⊥) → next ≡ get_or before k 0 → Sought n t (length last) b p next
sought_next n t last before b p at k next c e s f m g =
    let w = s.within in let kn : k < n = omega (arith, w, f) in record {
      within = (let h = c.before_within k kn in omega (arith, h, g, kn));
      same = λ j h. c.before_is k j kn (sym g ∙ h) ∙ s.same k f;
      none = λ j h i q. elim (cases_lt j k) [
        | inl lt ↦ c.none_between k j kn (omega (arith, h, g)) lt (ap (bucket (length last)) q ∙ sym e ∙ sym (s.same k f))
        | inr ge ↦ elim (cases_lt k j) [
          | inl lt ↦ s.none j (omega (arith, f, lt)) i q
          | inr le ↦ let d : k ≡ j = omega (arith, ge, le) in m (ap t d ∙ q)
        ]
      ];
    }

-- ---- one more inequality

differs : (x b : ℕ) → nat_eq x b ≡ false → x ≡ b → ⊥
differs x b h e = let s = eq-eqb x b e in cc (s, h)

-- the last index, or one before it
pub newest : (n k : ℕ) → k < n + 1 → (k < n → ⊥) → k ≡ n
newest n k h i = elim (cases_lt k n) [ inl l ↦ absurd (i l) | inr g ↦ omega (arith, h, g) ]

pub chained_more : (n : ℕ) (t u : ℕ → List Multiple) (last before last' before' : List ℕ) (b : ℕ) (p : List Multiple) → Chained n t last before →
    ((j : ℕ) → j < n → u j ≡ t j) → u n ≡ p → b ≡ bucket (length last) p → length last' ≡ length last → get_or last' b 0 ≡ n + 1 → ((x : ℕ) → (x ≡ b → ⊥) → get_or last' x 0 ≡ get_or last x 0) →
    length before' ≡ n + 1 → get_or before' n 0 ≡ get_or last b 0 → ((k : ℕ) → k < n → get_or before' k 0 ≡ get_or before k 0) → ((j : ℕ) → j < n → t j ≡ p → ⊥) → Chained (n + 1) u last' before'
chained_more n t u last before last' before' b p c old new e lens lb lo lenb bn bo none = record {
  some = (let h = c.some in omega (arith, h, lens));
  size = lenb;
  last_within = λ x. elim (bool_cases (nat_eq x b)) [
    | inl y ↦ let d = ap (λ (z : ℕ). get_or last' z 0) (eqb-true x b y) ∙ lb in omega (arith, d)
    | inr y ↦ let d = lo x (differs x b y) in let h = c.last_within x in omega (arith, d, h)
  ];
  before_within = λ k h. elim (cases_lt k n) [
    | inl i ↦ let d = bo k i in let w = c.before_within k i in omega (arith, d, w)
    | inr i ↦ let m : k ≡ n = omega (arith, h, i) in let d = ap (λ (z : ℕ). get_or before' z 0) m ∙ bn in let w = c.last_within b in omega (arith, d, w, m)
  ];
  last_is = λ x k h. elim (bool_cases (nat_eq x b)) [
    | inl y ↦ let f = eqb-true x b y in let d = ap (λ (z : ℕ). get_or last' z 0) f ∙ lb in let m : k ≡ n = omega (arith, d, h) in in_new k m ∙ sym f
    | inr y ↦ let d = sym (lo x (differs x b y)) ∙ h in let w = c.last_within x in let i : k < n = omega (arith, d, w) in in_old k i ∙ c.last_is x k d
  ];
  before_is = λ k j h g. elim (cases_lt k n) [
    | inl i ↦ let d = sym (bo k i) ∙ g in let w = c.before_within k i in let l : j < n = omega (arith, d, w, i) in in_old j l ∙ c.before_is k j i d ∙ sym (in_old k i)
    | inr i ↦ let m : k ≡ n = omega (arith, h, i) in let d = sym bn ∙ ap (λ (z : ℕ). get_or before' z 0) (sym m) ∙ g in let w = c.last_within b in
        let l : j < n = omega (arith, d, w) in in_old j l ∙ c.last_is b j d ∙ sym (in_new k m)
  ];
  none_after = λ x j h i g. elim (bool_cases (nat_eq x b)) [
    | inl y ↦ let d = ap (λ (z : ℕ). get_or last' z 0) (eqb-true x b y) ∙ lb in absurd (omega (arith, d, h, i))
    | inr y ↦ elim (cases_lt j n) [
      | inl l ↦ let d = lo x (differs x b y) in c.none_after x j (omega (arith, d, h)) l (sym (in_old j l) ∙ g)
      | inr l ↦ let m : j ≡ n = omega (arith, i, l) in differs x b y (sym g ∙ in_new j m)
    ]
  ];
  none_between = λ k j h i l g. elim (cases_lt k n) [
    | inl q ↦ let d = bo k q in let jn : j < n = omega (arith, l, q) in c.none_between k j q (omega (arith, d, i)) l (sym (in_old j jn) ∙ g ∙ in_old k q)
    | inr q ↦ let m : k ≡ n = omega (arith, h, q) in let d = ap (λ (z : ℕ). get_or before' z 0) m ∙ bn in let jn : j < n = omega (arith, l, m) in
        c.none_after b j (omega (arith, d, i)) jn (sym (in_old j jn) ∙ g ∙ in_new k m)
  ];
  different = λ j k l h g. elim (cases_lt k n) [
    | inl q ↦ let jn : j < n = omega (arith, l, q) in c.different j k l q (sym (old j jn) ∙ g ∙ old k q)
    | inr q ↦ let m : k ≡ n = omega (arith, h, q) in let jn : j < n = omega (arith, l, m) in none j jn (sym (old j jn) ∙ g ∙ ap u m ∙ new)
  ];
}
  where
    in_old : (k : ℕ) → k < n → bucket (length last') (u k) ≡ bucket (length last) (t k)
    in_old k h = ap₂ bucket lens (old k h)

    in_new : (k : ℕ) → k ≡ n → bucket (length last') (u k) ≡ b
    in_new k h = ap₂ bucket lens (ap u h ∙ new) ∙ sym e

pub chained_same : (n m : ℕ) (t u : ℕ → List Multiple) (last before : List ℕ) → m ≡ n → u ≡ t → Chained n t last before → Chained m u last before
chained_same n m t u last before e f c = subst (λ (k : ℕ). Chained k u last before) (sym e) (subst (λ (v : ℕ → List Multiple). Chained n v last before) (sym f) c)

none_in : (n b : ℕ) → get_or {A = ℕ} (replicate n 0) b 0 ≡ 0
none_in zero b = refl
none_in (suc n) zero = refl
none_in (suc n) (suc b) = none_in n b

some_in : (n : ℕ) → length {A = ℕ} (replicate n 0) ≡ n
some_in zero = refl
some_in (suc n) = ap suc (some_in n)

-- nothing is chained yet
pub chained_none : (count n : ℕ) (t : ℕ → List Multiple) (last before : List ℕ) → 0 < count → n ≡ 0 → last ≡ replicate count 0 → before ≡ [] → Chained n t last before
chained_none count n t last before h e f g =
    let z : (b : ℕ) → get_or last b 0 ≡ 0 = λ b. ap (λ (l : List ℕ). get_or l b 0) f ∙ none_in count b in record {
      some = (let s = ap length f ∙ some_in count in omega (arith, s, h));
      size = ap length g ∙ sym e;
      last_within = λ b. (let d = z b in omega (arith, d));
      before_within = λ k i. absurd (omega (arith, i, e));
      last_is = λ b k i. absurd (let d = z b in omega (arith, d, i));
      before_is = λ k j i m. absurd (omega (arith, i, e));
      none_after = λ b j i l m. omega (arith, l, e);
      none_between = λ k j i l m q. omega (arith, i, e);
      different = λ j k i l m. omega (arith, l, e);
    }

-- ---- the terms at an index

pub terms_put : (l : List Inequality) (k : ℕ) (x new : Inequality) (j : ℕ) → k < length l → x ≡ get_or l k x → new.terms.items ≡ x.terms.items → terms_at (seen_all (set l k new)) j ≡ terms_at (seen_all l) j
unfolding terms_at seen_all
terms_put [] k x new j h e f = absurd (omega (arith, h))
terms_put (y ∷ l) zero x new zero h e f = f ∙ ap (λ (z : Inequality). z.terms.items) e
terms_put (y ∷ l) zero x new (suc j) h e f = refl
terms_put (y ∷ l) (suc k) x new zero h e f = refl
terms_put (y ∷ l) (suc k) x new (suc j) h e f = terms_put l k x new j (omega (arith, h)) e f

pub terms_before : (l : List Inequality) (i : Inequality) (j : ℕ) → j < length l → terms_at (seen_all (l ++ (i ∷ []))) j ≡ terms_at (seen_all l) j
unfolding terms_at seen_all
terms_before [] i j h = absurd (omega (arith, h))
terms_before (y ∷ l) i zero h = refl
terms_before (y ∷ l) i (suc j) h = terms_before l i j (omega (arith, h))

pub terms_last : (l : List Inequality) (i : Inequality) → terms_at (seen_all (l ++ (i ∷ []))) (length l) ≡ i.terms.items
unfolding terms_at seen_all
terms_last [] i = refl
terms_last (y ∷ l) i = terms_last l i

pub terms_are : (l : List Inequality) (k : ℕ) (x : Inequality) → k < length l → x ≡ get_or l k x → x.terms.items ≡ terms_at (seen_all l) k
unfolding terms_at seen_all
terms_are [] k x h e = absurd (omega (arith, h))
terms_are (y ∷ l) zero x h e = ap (λ (z : Inequality). z.terms.items) e
terms_are (y ∷ l) (suc k) x h e = terms_are l k x (omega (arith, h)) e

-- ---- an inequality is kept where the first with its terms stands

pub kept_skips : (i : plain.Inequality) (l : List Inequality) (k : ℕ) → ((j : ℕ) → j < k → j < length l → terms_at (seen_all l) j ≡ i.terms → ⊥) → seen_all (take k l) ++ kept i (seen_all (drop k l)) ≡ kept i (seen_all l)
unfolding terms_at seen_all
kept_skips i [] zero n = refl
kept_skips i [] (suc k) n = refl
kept_skips i (y ∷ l) zero n = refl
kept_skips i (y ∷ l) (suc k) n =
    let f : same_terms i.terms y.terms.items ≡ false = elim (bool_cases (same_terms i.terms y.terms.items)) [
      | inl t ↦ absurd (n zero (omega arith) (omega arith) (sym (same_tells i.terms y.terms.items t)))
      | inr t ↦ t
    ] in
    ap (λ (m : List plain.Inequality). seen y ∷ m) (kept_skips i l k (λ j h d e. n (suc j) (omega (arith, h)) (omega (arith, d)) e)) ∙ sym (kept_other i (seen y) (seen_all l) f)
