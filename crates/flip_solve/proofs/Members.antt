-- Members of lists, and their indices.
use Rattle.std.proofs.Common.{◌≡◌, ℕ, zero, suc, ◌<◌, ◌⊎◌, inl, inr, List, [], ◌∷◌, ◌++◌, length, take, Some, refl, sym, ap, arith, slice_get}
use Rattle.cc_base.specs.Paths.{In}

pub some_same : {A : Type 0} → (a c : A) → Some a ≡ Some c → a ≡ c
some_same a c e = cc e

pub in_left : {A : Type 0} → (x : A) (l m : List A) → In x l → In x (l ++ m)
in_left x [] m h = absurd h
in_left x (a ∷ l) m (inl e) = inl e
in_left x (a ∷ l) m (inr h) = inr (in_left x l m h)

pub in_right : {A : Type 0} → (x : A) (l m : List A) → In x m → In x (l ++ m)
in_right x [] m h = h
in_right x (a ∷ l) m h = inr (in_right x l m h)

pub in_either : {A : Type 0} → (x : A) (l m : List A) → In x (l ++ m) → In x l ⊎ In x m
in_either x [] m h = inr h
in_either x (a ∷ l) m (inl e) = inl (inl e)
in_either x (a ∷ l) m (inr h) = elim (in_either x l m h) [ inl i ↦ inl (inr i) | inr i ↦ inr i ]

pub got_in : {A : Type 0} → (l : List A) (k : ℕ) (a : A) → slice_get l k ≡ Some a → In a l
got_in [] k a e = absurd (cc e)
got_in (x ∷ l) zero a e = inl (sym (some_same x a e))
got_in (x ∷ l) (suc k) a e = inr (got_in l k a e)

pub in_got : {A : Type 0} → (l : List A) (a : A) → In a l → (k : ℕ) × (slice_get l k ≡ Some a)
in_got [] a i = absurd i
in_got (x ∷ l) a (inl e) = (zero, ap Some (sym e))
in_got (x ∷ l) a (inr i) = let r = in_got l a i in (suc r.0, r.1)

pub get_some : {A : Type 0} → (l : List A) (k : ℕ) → k < length l → (a : A) × (slice_get l k ≡ Some a)
get_some [] k h = absurd (omega arith)
get_some (x ∷ l) zero h = (x, refl)
get_some (x ∷ l) (suc k) h = get_some l k (omega arith)

pub got_below : {A : Type 0} → (l : List A) (k : ℕ) (a : A) → slice_get l k ≡ Some a → k < length l
got_below [] k a e = absurd (cc e)
got_below (x ∷ l) zero a e = omega arith
got_below (x ∷ l) (suc k) a e = let h = got_below l k a e in omega (arith, h)

pub taken_got : {A : Type 0} → (n : ℕ) (l : List A) (k : ℕ) (a : A) → slice_get (take n l) k ≡ Some a → (k < n) × (slice_get l k ≡ Some a)
taken_got zero l k a e = absurd (cc e)
taken_got (suc n) [] k a e = absurd (cc e)
taken_got (suc n) (x ∷ l) zero a e = (omega arith, e)
taken_got (suc n) (x ∷ l) (suc k) a e = let r = taken_got n l k a e in let h = r.0 in (omega (arith, h), r.1)

pub got_taken : {A : Type 0} → (n : ℕ) (l : List A) (k : ℕ) (a : A) → k < n → slice_get l k ≡ Some a → slice_get (take n l) k ≡ Some a
got_taken zero l k a h e = absurd (omega arith)
got_taken (suc n) [] k a h e = e
got_taken (suc n) (x ∷ l) zero a h e = e
got_taken (suc n) (x ∷ l) (suc k) a h e = got_taken n l k a (omega arith) e

pub take_front : {A : Type 0} → (l m : List A) → take (length l) (l ++ m) ≡ l
take_front [] m = refl
take_front (x ∷ l) m = ap (λ k. x ∷ k) (take_front l m)
