-- Members of lists, and numbers that are the same or not.
use Rattle.std.proofs.Common.{◌≡◌, ◌≢◌, ℕ, suc, ◌+◌, true, false, ◌⊎◌, inl, inr, List, [], ◌∷◌, ◌++◌, map, refl, ap, arith, nat_eq}
use Rattle.std.proofs.lemmas.Bool.Decides.{eqb_tells}
use Rattle.cc_base.specs.Paths.{In}

pub in_left : {A : Type 0} (x : A) (l m : List A) → In x l → In x (l ++ m)
in_left x [] m i = absurd i
in_left x (y ∷ l) m (inl e) = inl e
in_left x (y ∷ l) m (inr i) = inr (in_left x l m i)

pub in_right : {A : Type 0} (x : A) (l m : List A) → In x m → In x (l ++ m)
in_right x [] m i = i
in_right x (y ∷ l) m i = inr (in_right x l m i)

pub in_append : {A : Type 0} (x : A) (l m : List A) → In x (l ++ m) → In x l ⊎ In x m
in_append x [] m i = inr i
in_append x (y ∷ l) m (inl e) = inl (inl e)
in_append x (y ∷ l) m (inr i) = elim (in_append x l m i) [ inl j ↦ inl (inr j) | inr j ↦ inr j ]

pub in_map : {A B : Type 0} (f : A → B) (x : A) (l : List A) → In x l → In (f x) (map f l)
in_map f x [] i = absurd i
in_map f x (y ∷ l) (inl e) = inl (ap f e)
in_map f x (y ∷ l) (inr i) = inr (in_map f x l i)

pub from_map : {A B : Type 0} (f : A → B) (y : B) (l : List A) → In y (map f l) → (x : A) × In x l × (y ≡ f x)
from_map f y [] i = absurd i
from_map f y (x ∷ l) (inl e) = (x, inl refl, e)
from_map f y (x ∷ l) (inr i) = let r = from_map f y l i in (r.0, inr r.1, r.2)

pub not_same : (a b : ℕ) → a ≢ b → nat_eq a b ≡ false
not_same a b n = elim (eqb_tells a b) [ inl q ↦ absurd (n q.1) | inr q ↦ q.0 ]

pub is_same : (a b : ℕ) → a ≡ b → nat_eq a b ≡ true
is_same a b e = elim (eqb_tells a b) [ inl q ↦ q.0 | inr q ↦ absurd (q.1 e) ]

pub suc_sum : (n m : ℕ) → suc n + m ≡ suc (n + m)
suc_sum n m = omega arith
