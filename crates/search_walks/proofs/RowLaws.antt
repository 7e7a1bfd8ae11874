-- Numbers that belong to places.
use Rattle.std.proofs.Common.{◌≡◌, ◌≢◌, ◌<◌, ◌≤◌, ◌⊎◌, inl, inr, ℕ, zero, suc, ◌+◌, List, [], ◌∷◌, ◌++◌, length, take, get_or, set, slice_index_or, refl, sym, ◌∙◌, subst, ap, arith}
use Rattle.std.specs.List.{Contains}
use Rattle.std.proofs.Math.ListN.{length-set}
use Rattle.std.proofs.lemmas.List.{length-append}
use Rattle.std.proofs.lemmas.Bool.{cases_lt, cases_eq}
use Rattle.cc_base.specs.Paths.{In}
use Rattle.search_base.proofs.PathLaws.{in_left, in_right, in_either}
use Rattle.search_walks.specs.Rows.{row, Has, Grows, IsOne, IsAny}

-- one more in the front of a list
pub in_more : {A : Type 0} → (l : List A) (n : ℕ) (x z : A) → n < length l → x ≡ get_or l n x → In z (take (n + 1) l) → In z (take n l) ⊎ (z ≡ x)
in_more {A = A} l n x z h e i = up l n x z h e (subst (λ m. In z (take m l)) m i)
  where
    m : n + 1 ≡ suc n
    m = omega arith

    up : (l : List A) (n : ℕ) (x z : A) → n < length l → x ≡ get_or l n x → In z (take (suc n) l) → In z (take n l) ⊎ (z ≡ x)
    up [] n x z h e i = absurd i
    up (a ∷ l) zero x z h e (inl f) = inr (cc (e, f))
    up (a ∷ l) zero x z h e (inr i) = absurd i
    up (a ∷ l) (suc n) x z h e (inl f) = inl (inl f)
    up (a ∷ l) (suc n) x z h e (inr i) = elim (up l n x z (omega (arith, h)) e i) [ inl j ↦ inl (inr j) | inr j ↦ inr j ]

-- ---- rows

no_row : (rows : List (List ℕ)) (p n : ℕ) → length rows ≤ p → In n (row rows p) → ⊥
no_row [] zero n h i = i
no_row [] (suc p) n h i = i
no_row (r ∷ rows) zero n h i = absurd (omega (arith, h))
no_row (r ∷ rows) (suc p) n h i = no_row rows p n (omega (arith, h)) i

within : (rows : List (List ℕ)) (p n : ℕ) → In n (row rows p) → p < length rows
within rows p n i = by (cases_lt p (length rows))
  where
    by : (p < length rows) ⊎ (length rows ≤ p) → p < length rows
    by (inl h) = h
    by (inr h) = absurd (no_row rows p n h i)

row_push : (rows : List (List ℕ)) (p n : ℕ) → In n (row (rows ++ [] ∷ []) p) → In n (row rows p)
row_push [] zero n i = i
row_push [] (suc p) n i = i
row_push (r ∷ rows) zero n i = i
row_push (r ∷ rows) (suc p) n i = row_push rows p n i

none_more : (rows : List (List ℕ)) → ((p n : ℕ) → Has rows p n → ⊥) → (p n : ℕ) → Has (rows ++ [] ∷ []) p n → ⊥
none_more rows h p n x = h p n (record { is_in = row_push rows p n x.is_in })

pub rows_push : (rows new : List (List ℕ)) (r : List ℕ) (k : ℕ) → r ≡ [] → new ≡ rows ++ r ∷ [] → length rows ≡ k → ((p n : ℕ) → Has rows p n → ⊥) → (length new ≡ k + 1) × ((p n : ℕ) → Has new p n → ⊥)
rows_push rows new r k e f g h = ((ap length f ∙ length-append rows (r ∷ []) ∙ ap (λ m. m + 1) g), λ p n x. none_more rows h p n (subst (λ m. Has m p n) (f ∙ ap (λ m. rows ++ m ∷ []) e) x))

pub none_yet : (p n : ℕ) → Has [] p n → ⊥
none_yet zero n x = x.is_in
none_yet (suc p) n x = x.is_in

row_same : (rows : List (List ℕ)) (p : ℕ) (r : List ℕ) → p < length rows → row (set rows p r) p ≡ r
row_same [] p r h = absurd (omega (arith, h))
row_same (x ∷ rows) zero r h = refl
row_same (x ∷ rows) (suc p) r h = row_same rows p r (omega (arith, h))

row_other : (rows : List (List ℕ)) (p q : ℕ) (r : List ℕ) → q ≢ p → row (set rows p r) q ≡ row rows q
row_other [] p q r h = refl
row_other (x ∷ rows) zero zero r h = absurd (h refl)
row_other (x ∷ rows) zero (suc q) r h = refl
row_other (x ∷ rows) (suc p) zero r h = refl
row_other (x ∷ rows) (suc p) (suc q) r h = row_other rows p q r (λ e. h (ap suc e))

row_is : (rows : List (List ℕ)) (p : ℕ) (r : List ℕ) → p < length rows → r ≡ get_or rows p r → row rows p ≡ r
row_is [] p r h e = absurd (omega (arith, h))
row_is (x ∷ rows) zero r h e = sym e
row_is (x ∷ rows) (suc p) r h e = row_is rows p r (omega (arith, h)) e

-- one more number of a place
pub grown : (rows : List (List ℕ)) (p n : ℕ) (r new : List ℕ) → p < length rows → r ≡ get_or rows p r → new ≡ r ++ n ∷ [] → Grows rows (set rows p new) (IsOne rows p n)
grown rows p n r new h e f = record { places = length-set rows p new; each = λ q m. (to q m, back q m) }
  where
    to : (q m : ℕ) → Has (set rows p new) q m → Has rows q m ⊎ IsOne rows p n q m
    to q m x = elim (cases_eq q p) [
      | inl s ↦ elim (in_either m r (n ∷ []) (subst (λ k. In m k) (ap (λ k. row (set rows p new) k) s ∙ row_same rows p new h ∙ f) x.is_in)) [
        | inl i ↦ inl (record { is_in = subst (λ k. In m k) (sym (ap (row rows) s ∙ row_is rows p r h e)) i })
        | inr i ↦ inr (record { there = subst (λ k. k < length rows) (sym s) h; same_place = s; same_number = one i })
      ]
      | inr s ↦ inl (record { is_in = subst (λ k. In m k) (row_other rows p q new s) x.is_in })
    ]
      where
        one : In m (n ∷ []) → m ≡ n
        one (inl g) = g
        one (inr g) = absurd g

    back : (q m : ℕ) → Has rows q m ⊎ IsOne rows p n q m → Has (set rows p new) q m
    back q m (inl x) = elim (cases_eq q p) [
      | inl s ↦ record { is_in = subst (λ k. In m k) (sym (ap (λ k. row (set rows p new) k) s ∙ row_same rows p new h ∙ f)) (in_left m r (n ∷ []) (subst (λ k. In m k) (ap (row rows) s ∙ row_is rows p r h e) x.is_in)) }
      | inr s ↦ record { is_in = subst (λ k. In m k) (sym (row_other rows p q new s)) x.is_in }
    ]
    back q m (inr x) = record { is_in = subst (λ k. In m k) (sym (ap (λ k. row (set rows p new) k) x.same_place ∙ row_same rows p new h ∙ f)) (in_right m r (n ∷ []) (inl x.same_number)) }

-- ---- growing

module _ (P Q : ℕ → ℕ → Type 0) (old new : List (List ℕ)) where
  -- what says the same as P
  pub grows_by : ((p n : ℕ) → P p n → Q p n) → ((p n : ℕ) → Q p n → P p n) → Grows old new P → Grows old new Q
  grows_by f g x = record { places = x.places; each = λ p n. ((λ h. elim ((x.each p n).0 h) [ inl i ↦ inl i | inr i ↦ inr (f p n i) ]), λ h. (x.each p n).1 (elim h [ inl i ↦ inl i | inr i ↦ inr (g p n i) ])) }

  -- one after another
  pub grows_then : (last : List (List ℕ)) → Grows old new P → Grows new last Q → Grows old last (λ p n. P p n ⊎ Q p n)
  grows_then last x y = record { places = y.places ∙ x.places; each = λ p n. (to p n, back p n) }
    where
      to : (p n : ℕ) → Has last p n → Has old p n ⊎ (P p n ⊎ Q p n)
      to p n h = elim ((y.each p n).0 h) [
        | inl i ↦ elim ((x.each p n).0 i) [ inl j ↦ inl j | inr j ↦ inr (inl j) ]
        | inr i ↦ inr (inr i)
      ]

      back : (p n : ℕ) → Has old p n ⊎ (P p n ⊎ Q p n) → Has last p n
      back p n (inl i) = (y.each p n).1 (inl ((x.each p n).1 (inl i)))
      back p n (inr (inl i)) = (y.each p n).1 (inl ((x.each p n).1 (inr i)))
      back p n (inr (inr i)) = (y.each p n).1 (inr i)

pub grows_none : (P : ℕ → ℕ → Type 0) (old : List (List ℕ)) → ((p n : ℕ) → P p n → ⊥) → Grows old old P
grows_none P old h = record { places = refl; each = λ p n. ((λ x. inl x), λ x. elim x [ inl i ↦ i | inr i ↦ absurd (h p n i) ]) }

-- ---- places of a list

pub from_contains : (l : List ℕ) (x : ℕ) → Contains l x → In x l
from_contains l x (k, h, e) = by l k h e
  where
    by : (l : List ℕ) (k : ℕ) → k < length l → slice_index_or l k x ≡ x → In x l
    by [] k h e = absurd (omega (arith, h))
    by (y ∷ l) zero h e = inl (sym e)
    by (y ∷ l) (suc k) h e = inr (by l k (omega (arith, h)) e)

pub to_contains : (l : List ℕ) (x : ℕ) → In x l → Contains l x
to_contains [] x i = absurd i
to_contains (y ∷ l) x (inl e) = (0, omega arith, sym e)
to_contains (y ∷ l) x (inr i) = let r = to_contains l x i in (suc r.0, omega arith, r.2)

pub in_push : {A : Type 0} → (x y : A) (l : List A) → In x (l ++ y ∷ []) → In x l ⊎ (x ≡ y)
in_push x y l i = elim (in_either x l (y ∷ []) i) [ inl j ↦ inl j | inr j ↦ inr (by j) ]
  where
    by : In x (y ∷ []) → x ≡ y
    by (inl e) = e
    by (inr e) = absurd e

-- the first elements of a list are elements of it
pub in_front : {A : Type 0} → (n : ℕ) (l : List A) (z : A) → In z (take n l) → In z l
in_front zero l z i = absurd i
in_front (suc n) [] z i = absurd i
in_front (suc n) (x ∷ l) z (inl e) = inl e
in_front (suc n) (x ∷ l) z (inr i) = inr (in_front n l z i)

-- and so is the one behind them
pub in_next : {A : Type 0} → (n : ℕ) (l : List A) (x z : A) → n < length l → x ≡ get_or l n x → In z (take n l) ⊎ (z ≡ x) → In z (take (n + 1) l)
in_next {A = A} n l x z h e i = subst (λ m. In z (take m l)) m (up n l h e i)
  where
    m : suc n ≡ n + 1
    m = omega arith

    up : (n : ℕ) (l : List A) → n < length l → x ≡ get_or l n x → In z (take n l) ⊎ (z ≡ x) → In z (take (suc n) l)
    up n [] h e i = absurd (omega (arith, h))
    up zero (a ∷ l) h e (inl i) = absurd i
    up zero (a ∷ l) h e (inr f) = inl (f ∙ e)
    up (suc n) (a ∷ l) h e (inl (inl f)) = inl f
    up (suc n) (a ∷ l) h e (inl (inr j)) = inr (up n l (omega (arith, h)) e (inl j))
    up (suc n) (a ∷ l) h e (inr f) = inr (up n l (omega (arith, h)) e (inr f))

-- ---- one number at several places

pub any_none : (old : List (List ℕ)) (n : ℕ) → Grows old old (IsAny old n [])
any_none old n = grows_none (IsAny old n []) old (λ p m x. x.is_in)

pub get_any : (l : List ℕ) (n x d : ℕ) → n < length l → x ≡ get_or l n d → x ≡ get_or l n x
get_any [] n x d h e = absurd (omega (arith, h))
get_any (y ∷ l) zero x d h e = e
get_any (y ∷ l) (suc n) x d h e = get_any l n x d (omega (arith, h)) e

pub any_more : (old mid new : List (List ℕ)) (n : ℕ) (places : List ℕ) (i p : ℕ) → i < length places → p ≡ get_or places i 0 →
    Grows old mid (IsAny old n (take i places)) → Grows mid new (IsOne mid p n) → Grows old new (IsAny old n (take (i + 1) places))
any_more old mid new n places i p h e' x y =
    grows_by (λ q m. IsAny old n (take i places) q m ⊎ IsOne mid p n q m) (IsAny old n (take (i + 1) places)) old new to back
    (grows_then (IsAny old n (take i places)) (IsOne mid p n) old mid new x y)
  where
    e : p ≡ get_or places i p
    e = get_any places i p 0 h e'

    to : (q m : ℕ) → IsAny old n (take i places) q m ⊎ IsOne mid p n q m → IsAny old n (take (i + 1) places) q m
    to q m (inl z) = record { there = z.there; is_in = in_next i places p q h e (inl z.is_in); same_number = z.same_number }
    to q m (inr z) = record { there = subst (λ k. q < k) x.places z.there; is_in = in_next i places p q h e (inr z.same_place); same_number = z.same_number }

    back : (q m : ℕ) → IsAny old n (take (i + 1) places) q m → IsAny old n (take i places) q m ⊎ IsOne mid p n q m
    back q m z = elim (in_more places i p q h e z.is_in) [
      | inl j ↦ inl (record { there = z.there; is_in = j; same_number = z.same_number })
      | inr f ↦ inr (record { there = subst (λ k. q < k) (sym x.places) z.there; same_place = f; same_number = z.same_number })
    ]

pub in_last : {A : Type 0} → (l : List A) (x : A) → In x (l ++ x ∷ [])
in_last l x = in_right x l (x ∷ []) (inl refl)

pub empty_of : (l : List ℕ) → length l ≡ 0 → l ≡ []
empty_of [] e = refl
empty_of (x ∷ l) e = absurd (omega (arith, e))
