-- One more element in a list that ascends.
use Rattle.std.proofs.Common.{◌≡◌, ℕ, zero, suc, ◌+◌, ◌<◌, ◌≤◌, ◌⊎◌, ◌↔◌, inl, inr, List, [], ◌∷◌, length, take, drop, Some, None, slice_get, refl, sym, subst, arith, get_or, insert}
use Rattle.cc_base.specs.Paths.{In, Pairwise}
use Rattle.search_base.specs.Inserting.{IsPlace}
use Rattle.search_base.proofs.PathLaws.{in_left, in_right, in_either}

pub none_past : {A : Type 0} → (l : List A) (n : ℕ) → length l ≤ n → slice_get l n ≡ None
none_past [] zero h = refl
none_past [] (suc n) h = refl
none_past (x ∷ l) zero h = absurd (omega (arith, h))
none_past (x ∷ l) (suc n) h = none_past l n (omega (arith, h))

in_first : {A : Type 0} → (l : List A) (n : ℕ) (z : A) → In z (take n l) → In z l
in_first l zero z i = absurd i
in_first [] (suc n) z i = absurd i
in_first (x ∷ l) (suc n) z (inl e) = inl e
in_first (x ∷ l) (suc n) z (inr i) = inr (in_first l n z i)

in_parts : {A : Type 0} → (l : List A) (n : ℕ) (z : A) → In z l → In z (take n l) ⊎ In z (drop n l)
in_parts l zero z i = inr i
in_parts [] (suc n) z i = absurd i
in_parts (x ∷ l) (suc n) z (inl e) = inl (inl e)
in_parts (x ∷ l) (suc n) z (inr i) = elim (in_parts l n z i) [ inl j ↦ inl (inr j) | inr j ↦ inr j ]

in_behind : {A : Type 0} → (l : List A) (n : ℕ) (z : A) → In z (drop n l) → In z l
in_behind l zero z i = i
in_behind [] (suc n) z i = absurd i
in_behind (x ∷ l) (suc n) z i = inr (in_behind l n z i)

-- who is in the longer list
pub in_inserted : {A : Type 0} → (l : List A) (n : ℕ) (y z : A) → In z (insert l n y) ↔ (In z l ⊎ (z ≡ y))
in_inserted {A = A} l n y z = (to, back)
  where
    to : In z (insert l n y) → In z l ⊎ (z ≡ y)
    to i = elim (in_either z (take n l) (y ∷ drop n l) i) [
      | inl j ↦ inl (in_first l n z j)
      | inr j ↦ by j
    ]
      where
        by : In z (y ∷ drop n l) → In z l ⊎ (z ≡ y)
        by (inl e) = inr e
        by (inr k) = inl (in_behind l n z k)

    back : In z l ⊎ (z ≡ y) → In z (insert l n y)
    back (inl i) = elim (in_parts l n z i) [ inl j ↦ in_left z (take n l) (y ∷ drop n l) j | inr j ↦ in_right z (take n l) (y ∷ drop n l) (inr j) ]
    back (inr e) = in_right z (take n l) (y ∷ drop n l) (inl e)

-- the longer list ascends
module _ (A : Type 0) (R : A → A → Type 0) (y : A) (trans : (x z : A) → R y x → R x z → R y z) where
  pub ascends : (l : List A) (n : ℕ) → Pairwise R l → ((x : A) → In x (take n l) → R x y) → ((x : A) → slice_get l n ≡ Some x → R y x) → Pairwise R (insert l n y)
  ascends [] zero p h k = ((λ z i. absurd i), tt)
  ascends [] (suc n) p h k = ((λ z i. absurd i), tt)
  ascends (x ∷ l) zero p h k = ((λ z i. first z i), p)
    where
      first : (z : A) → In z (x ∷ l) → R y z
      first z (inl e) = subst (R y) (sym e) (k x refl)
      first z (inr i) = trans x z (k x refl) (p.0 z i)
  ascends (x ∷ l) (suc n) p h k = ((λ z i. above z ((in_inserted l n y z).0 i)), ascends l n p.1 (λ z i. h z (inr i)) k)
    where
      above : (z : A) → In z l ⊎ (z ≡ y) → R x z
      above z (inl i) = p.0 z i
      above z (inr e) = subst (R x) (sym e) (h x (inl refl))

-- ---- the place is found from the front

first_more : {A : Type 0} → (l : List A) (n : ℕ) (x z : A) → n < length l → x ≡ get_or l n x → In z (take (suc n) l) → In z (take n l) ⊎ (z ≡ x)
first_more [] n x z h e i = absurd i
first_more (a ∷ l) zero x z h e (inl f) = inr (cc (e, f))
first_more (a ∷ l) zero x z h e (inr i) = absurd i
first_more (a ∷ l) (suc n) x z h e (inl f) = inl (inl f)
first_more (a ∷ l) (suc n) x z h e (inr i) = elim (first_more l n x z (omega (arith, h)) e i) [ inl j ↦ inl (inr j) | inr j ↦ inr j ]

pub there : {A : Type 0} → (l : List A) (n : ℕ) (x z : A) → x ≡ get_or l n x → slice_get l n ≡ Some z → z ≡ x
there [] n x z e f = absurd (cc f)
there (a ∷ l) zero x z e f = cc (e, f)
there (a ∷ l) (suc n) x z e f = there l n x z e f

module _ (A : Type 0) (C : A → Type 0) (l : List A) where
  pub place_more : (n : ℕ) (x : A) → n < length l → x ≡ get_or l n x → C x → ((z : A) → In z (take n l) → C z) → (z : A) → In z (take (n + 1) l) → C z
  place_more n x h e c k z i = elim (first_more l n x z h e (subst (λ m. In z (take m l)) m i)) [ inl j ↦ k z j | inr f ↦ subst C (sym f) c ]
    where
      m : n + 1 ≡ suc n
      m = omega arith

  pub place_here : (n : ℕ) (x : A) → n < length l → x ≡ get_or l n x → (C x → ⊥) → ((z : A) → In z (take n l) → C z) → IsPlace C l n
  place_here n x h e c k = record { within = omega (arith, h); before = k; next = λ z f d. c (subst C (there l n x z e f) d) }

  pub place_end : (n : ℕ) → n ≡ length l → ((z : A) → In z (take n l) → C z) → IsPlace C l n
  place_end n h k = record { within = omega (arith, h); before = k; next = λ z f d. absurd (not_there z f) }
    where
      not_there : (z : A) → slice_get l n ≡ Some z → ⊥
      not_there z f = let g = none_past l n (omega (arith, h)) in absurd (cc (f, g))

-- an element that is there, whatever stands for those that aren't
pub any_there : {A : Type 0} → (l : List A) (i : ℕ) (d e : A) → i < length l → get_or l i d ≡ get_or l i e
any_there [] i d e h = absurd (omega (arith, h))
any_there (x ∷ l) zero d e h = refl
any_there (x ∷ l) (suc i) d e h = any_there l i d e (omega (arith, h))
