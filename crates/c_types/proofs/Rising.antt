-- Lists of numbers that rise: two with the same numbers are equal.
use Rattle.std.proofs.Common.{◌≡◌, ◌∙◌, refl, sym, ap, ℕ, suc, ◌+◌, ◌<◌, ◌≤◌, ◌⊎◌, inl, inr, nat_eq, if◌then◌else◌, List, [], ◌∷◌, map, length, get_or, arith}
use Rattle.std.proofs.lemmas.Bool.Decides.{nat_tests}
use Rattle.std.specs.List.Sorted.{IsPermutation, IsNonDecreasingBy}
use Rattle.std.specs.List.{sum_by}
use Rattle.std.proofs.lemmas.List.Sums.{sum_by-cons}
use Rattle.std.proofs.lemmas.List.Sorted.{IsPermutation-map, sum_by-IsPermutation}

-- each number is at least this one
abbrev pub Above : ℕ → List ℕ → Type 0
Above n [] = Unit {0}
Above n (m ∷ l) = (n ≤ m) × Above n l

abbrev pub Rises : List ℕ → Type 0
Rises [] = Unit {0}
Rises (n ∷ l) = Above n l × Rises l

-- 1 for the number, and 0 for any other
abbrev pub hit : ℕ → ℕ → ℕ
hit k n = if nat_eq k n then 1 else 0

-- how often a number stands in a list
abbrev pub times : ℕ → List ℕ → ℕ
times k [] = 0
times k (n ∷ l) = hit k n + times k l

pub times_sum : (k : ℕ) (l : List ℕ) → sum_by (hit k) l ≡ times k l
times_sum k [] = refl
times_sum k (n ∷ l) = sum_by-cons (hit k) n l ∙ ap (λ x. hit k n + x) (times_sum k l)

pub hit_self : (k : ℕ) → hit k k ≡ 1
hit_self k = grind (arith, nat_tests)

hit_cases : (k n : ℕ) → (k ≡ n) ⊎ (hit k n ≡ 0)
hit_cases k n = grind (arith, nat_tests)

-- a number that stands in the list is at least what all are
pub above_times : (n k : ℕ) (l : List ℕ) → Above n l → 0 < times k l → n ≤ k
above_times n k [] a h = omega arith
above_times n k (m ∷ l) a h = elim (hit_cases k m) [ inl e ↦ (let g = a.0 in omega (arith, g)) | inr e ↦ (let g = a.1 in above_times n k l g (omega (arith, e))) ]

pub above_more : (m n : ℕ) (l : List ℕ) → m ≤ n → Above n l → Above m l
above_more m n [] h a = tt
above_more m n (x ∷ l) h a = (let g = a.0 in omega (arith, g), above_more m n l h a.1)

least : (m n : ℕ) (l k : List ℕ) → Above n k → times m (m ∷ l) ≡ times m (n ∷ k) → n ≤ m
least m n l k a h = above_times n m (n ∷ k) (omega arith, a) (let g = hit_self m in omega (arith, h, g))

same_rest : (m n k : ℕ) (a b : List ℕ) → m ≡ n → times k (m ∷ a) ≡ times k (n ∷ b) → times k a ≡ times k b
same_rest m n k a b e h = let g = ap (hit k) e in omega (arith, g, h)

pub same_rising : (a b : List ℕ) → Rises a → Rises b → ((k : ℕ) → times k a ≡ times k b) → a ≡ b
same_rising [] [] r s h = refl
same_rising [] (n ∷ b) r s h = let g = hit_self n in absurd (let f = h n in omega (arith, f, g))
same_rising (m ∷ a) [] r s h = let g = hit_self m in absurd (let f = h m in omega (arith, f, g))
same_rising (m ∷ a) (n ∷ b) r s h = let low = least m n a b s.0 (h m) in let high = least n m b a r.0 (sym (h n)) in let e : m ≡ n = omega arith in
    ap (λ x. x ∷ a) e ∙ ap (λ x. n ∷ x) (same_rising a b r.1 s.1 (λ k. same_rest m n k a b e (h k)))

-- ---- what a sort says

above_all : {X : Type 0} (key : X → ℕ) (n : ℕ) (l : List X) → ((j : ℕ) (d : X) → j < length l → n ≤ key (get_or l j d)) → Above n (map key l)
above_all key n [] h = tt
above_all key n (x ∷ l) h = (h 0 x (omega arith), above_all key n l (λ j d g. h (suc j) d (omega (arith, g))))

pub rises_from : {X : Type 0} (key : X → ℕ) (l : List X) → IsNonDecreasingBy key l → Rises (map key l)
rises_from key [] h = tt
rises_from key (x ∷ l) h = (above_all key (key x) l (λ j d g. h 0 (suc j) d (omega arith) (omega (arith, g))), rises_from key l (λ i j d p g. h (suc i) (suc j) d (omega (arith, p)) (omega (arith, g))))

pub times_moved : {X : Type 0} (key : X → ℕ) (xs ys : List X) (k : ℕ) → IsPermutation xs ys → times k (map key ys) ≡ times k (map key xs)
times_moved key xs ys k h = sym (times_sum k (map key ys)) ∙ sum_by-IsPermutation (hit k) (map key xs) (map key ys) (IsPermutation-map key xs ys h) ∙ times_sum k (map key xs)
