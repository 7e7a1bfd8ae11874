-- What is found by its name's place, where the test has the name last.
use Rattle.std.proofs.Common.{◌≡◌, ◌∙◌, sym, ap, refl, ℕ, Bool, true, false, cond, List, [], ◌∷◌, map, slice_get, Option, Some}
use Rattle.std.specs.Prelude.{position, find, bytes_eq}
use Rattle.std.specs.Option.{option_and_then}
use Rattle.std.proofs.lemmas.Slice.Eq.{bytes_eq-Decides}
use Rattle.c_names.proofs.IndexLemmas.{found_at}

bytes_back : (a b : List ℕ) → bytes_eq a b ≡ true → bytes_eq b a ≡ true
bytes_back a b e =
    let same : a ≡ b = (bytes_eq-Decides a b).0 e in
    ap (λ z. bytes_eq z a) (sym same) ∙ ap (bytes_eq a) same ∙ e

pub bytes_sym : (a b : List ℕ) → bytes_eq a b ≡ bytes_eq b a
bytes_sym a b = by (bytes_eq a b) (bytes_eq b a) refl refl
  where
    by : (x y : Bool) → bytes_eq a b ≡ x → bytes_eq b a ≡ y → x ≡ y
    by true y e f = sym (bytes_back a b e) ∙ f
    by false true e f = sym e ∙ bytes_back b a f
    by false false e f = refl

find_same : {X : Type 0} (p q : X → Bool) → ((x : X) → p x ≡ q x) → (xs : List X) → find p xs ≡ find q xs
find_same p q h [] = refl
find_same p q h (x ∷ xs) = ap (λ b. cond b (Some x) (find p xs)) (h x) ∙ ap (cond (q x) (Some x)) (find_same p q h xs)

-- what is found by its name's place, where the test has the name last
pub found_named : {X : Type 0} (name : List ℕ) (f : X → List ℕ) (xs : List X) (names : List (List ℕ)) → names ≡ map f xs → (n : Option ℕ) → n ≡ position (bytes_eq name) names
    → option_and_then (slice_get xs) n ≡ find (λ x. bytes_eq (f x) name) xs
found_named name f xs names e n h = found_at (bytes_eq name) f xs names e n h ∙ find_same (λ x. bytes_eq name (f x)) (λ x. bytes_eq (f x) name) (λ x. bytes_sym name (f x)) xs
