-- The values of places in a list whose parents stand first.
use Rattle.std.proofs.Common.{◌≡◌, ◌∙◌, ◌⊎◌, inl, inr, sym, ap, subst, refl, arith, ℕ, zero, suc, ◌<◌, ℤ, Option, Some, None, IfSome, List, [], ◌∷◌, ◌++◌, length, slice_get}
use Rattle.std.specs.Option.{option_and_then}
use Rattle.std.proofs.lemmas.Option.{same_Some}
use Rattle.cc_base.specs.declared.inputs.Input.{Input}
use Rattle.cc_base.specs.Places.{Place, Placed, arg, field, stream, ParentBelow, ParentsFirst, cell_behind, value_there, value_within, at_place}

-- values of the places before one decide its own
there_same : (f g : ℕ → Option ℤ) (i : Input) (b : ℤ) (q : Place) (id : ℕ) → ParentBelow id q → ((x : ℕ) → x < id → f x ≡ g x) → value_there f i b q ≡ value_there g i b q
unfolding value_there
there_same f g i b (arg k) id h s = refl
there_same f g i b (field p c) id h s = ap (λ (o : Option ℤ). option_and_then (λ a. cell_behind i.cells a c) o) (s p h)
there_same f g i b (stream k) id h s = refl

item_same : (f g : ℕ → Option ℤ) (i : Input) (b : ℤ) (o : Option Placed) (id : ℕ) → IfSome o (λ p. ParentBelow id p.place) → ((x : ℕ) → x < id → f x ≡ g x)
    → option_and_then (λ p. value_there f i b p.place) o ≡ option_and_then (λ p. value_there g i b p.place) o
item_same f g i b None id h s = refl
item_same f g i b (Some p) id h s = there_same f g i b p.place id h s

parent_at : (places : List Placed) → ParentsFirst places → (id : ℕ) (o : Option Placed) → slice_get places id ≡ o → IfSome o (λ p. ParentBelow id p.place)
parent_at places h id None e = tt
parent_at places h id (Some p) e = h.below id p e

pub parent_of : (places : List Placed) → ParentsFirst places → (id : ℕ) → IfSome (slice_get places id) (λ p. ParentBelow id p.place)
parent_of places h id = parent_at places h id (slice_get places id) refl

within_same : (places : List Placed) (i : Input) (b : ℤ) → ParentsFirst places → (n m id : ℕ) → id < n → id < m → value_within n places i b id ≡ value_within m places i b id
unfolding value_within
within_same places i b h zero m id k l = absurd (omega arith)
within_same places i b h (suc n) zero id k l = absurd (omega arith)
within_same places i b h (suc n) (suc m) id k l =
    item_same (value_within n places i b) (value_within m places i b) i b (slice_get places id) id (parent_of places h id)
    (λ x s. within_same places i b h n m x (omega arith) (omega arith))

-- the value at a place, by the values at places before it
pub at_place-is : (places : List Placed) (i : Input) (b : ℤ) (id : ℕ) → ParentsFirst places
    → at_place places i b id ≡ option_and_then (λ p. value_there (at_place places i b) i b p.place) (slice_get places id)
unfolding at_place value_within
at_place-is places i b id h =
    item_same (value_within id places i b) (at_place places i b) i b (slice_get places id) id (parent_of places h id)
    (λ x s. within_same places i b h id (suc x) x s (omega arith))

get_front : (xs ys : List Placed) (k : ℕ) → k < length xs → slice_get (xs ++ ys) k ≡ slice_get xs k
get_front [] ys k h = absurd (omega arith)
get_front (x ∷ xs) ys zero h = refl
get_front (x ∷ xs) ys (suc k) h = get_front xs ys k (omega arith)

within_front : (places more : List Placed) (i : Input) (b : ℤ) → ParentsFirst places → (n id : ℕ) → id < length places
    → value_within n (places ++ more) i b id ≡ value_within n places i b id
unfolding value_within
within_front places more i b h zero id k = refl
within_front places more i b h (suc n) id k =
    ap (λ (o : Option Placed). option_and_then (λ p. value_there (value_within n (places ++ more) i b) i b p.place) o) (get_front places more id k)
    ∙ item_same (value_within n (places ++ more) i b) (value_within n places i b) i b (slice_get places id) id (parent_of places h id)
    (λ x s. within_front places more i b h n x (omega arith))

-- more places change no value
pub at_place-append : (places more : List Placed) (i : Input) (b : ℤ) (id : ℕ) → ParentsFirst places → id < length places
    → at_place (places ++ more) i b id ≡ at_place places i b id
unfolding at_place
at_place-append places more i b id h k = within_front places more i b h (suc id) id k

get_push_cases : (l : List Placed) (p q : Placed) (id : ℕ) → slice_get (l ++ p ∷ []) id ≡ Some q → (slice_get l id ≡ Some q) ⊎ ((id ≡ length l) × (p ≡ q))
get_push_cases [] p q zero e = inr (refl, same_Some p q e)
get_push_cases [] p q (suc id) e = absurd (cc e)
get_push_cases (x ∷ xs) p q zero e = inl e
get_push_cases (x ∷ xs) p q (suc id) e = elim (get_push_cases xs p q id e) [ inl f ↦ inl f | inr f ↦ inr (ap suc f.0, f.1) ]

-- a place whose parent stands in the list keeps it so
pub ParentsFirst-push : (l : List Placed) (p : Placed) → ParentsFirst l → ParentBelow (length l) p.place → ParentsFirst (l ++ p ∷ [])
ParentsFirst-push l p h k = record {
  below = λ id q e. elim (get_push_cases l p q id e) [
    | inl f ↦ h.below id q f
    | inr f ↦ subst (λ (r : Placed). ParentBelow id r.place) f.1 (subst (λ (n : ℕ). ParentBelow n p.place) (sym f.0) k)
  ];
}
