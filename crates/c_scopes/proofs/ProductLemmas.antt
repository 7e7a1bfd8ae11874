-- Products of array lengths, where one above 256 is told as 257.
use Rattle.std.proofs.Common.{◌≡◌, ◌⊎◌, inl, inr, ◌∙◌, sym, ap, arith, ℕ, zero, suc, ◌+◌, ◌-◌, ◌*◌, ◌<◌, ◌≤◌, min, List, drop, length, get_or}
use Rattle.std.proofs.lemmas.List.{drop_more, drop_all}
use Rattle.cc_model.specs.Types.{up_to_257, product}

-- at most 257, or the number by which it is above
excess : (a : ℕ) → (a ≤ 257) ⊎ ((k : ℕ) × (a ≡ 257 + k))
excess zero = inl (omega arith)
excess (suc a) = one_more a (excess a)
  where
    at_most : (a d : ℕ) → a + d ≡ 257 → (suc a ≤ 257) ⊎ ((k : ℕ) × (suc a ≡ 257 + k))
    at_most a zero e = inr (1, omega arith)
    at_most a (suc d) e = inl (omega arith)

    one_more : (a : ℕ) → (a ≤ 257) ⊎ ((k : ℕ) × (a ≡ 257 + k)) → (suc a ≤ 257) ⊎ ((k : ℕ) × (suc a ≡ 257 + k))
    one_more a (inr h) = inr (suc h.0, omega (arith, h.1))
    one_more a (inl h) = at_most a (257 - a) (omega arith)

above : (k b : ℕ) → min (257 * b) 257 ≡ min ((257 + k) * b) 257
above k zero = grind arith
above k (suc b) = grind arith

by_side : (a b : ℕ) → (a ≤ 257) ⊎ ((k : ℕ) × (a ≡ 257 + k)) → up_to_257 (up_to_257 a * b) ≡ up_to_257 (a * b)
by_side a b (inl h) = let e : min a 257 ≡ a = omega arith in ap (λ x. min (x * b) 257) e
by_side a b (inr h) = let f : a ≡ 257 + h.0 = h.1 in let e : min a 257 ≡ 257 = omega arith in ap (λ x. min (x * b) 257) e ∙ above h.0 b ∙ ap (λ x. min (x * b) 257) (sym h.1)

-- a factor may be told as 257
pub up_to_factor : (a b : ℕ) → up_to_257 (up_to_257 a * b) ≡ up_to_257 (a * b)
up_to_factor a b = by_side a b (excess a)

grouped : (a b c : ℕ) → a * b * c ≡ a * (b * c)
grouped a b c = grind arith

pub times_one : (a : ℕ) → up_to_257 (1 * a) ≡ up_to_257 a
times_one a = ap up_to_257 (omega arith)

pub told_again : (m n : ℕ) → n ≡ up_to_257 m → n ≡ up_to_257 n
told_again m n h = omega arith

pub times_more : (l : List ℕ) (k size next r : ℕ) → k < length l → next ≡ up_to_257 (size * get_or l k 0) → up_to_257 (size * product (drop k l)) ≡ r → up_to_257 (next * product (drop (k + 1) l)) ≡ r
times_more l k size next r h f i =
    ap (λ n. up_to_257 (n * product (drop (k + 1) l))) f ∙ up_to_factor (size * get_or l k 0) (product (drop (k + 1) l))
    ∙ ap up_to_257 (grouped size (get_or l k 0) (product (drop (k + 1) l))) ∙ sym (ap (λ (d : List ℕ). up_to_257 (size * product d)) (drop_more l k 0 h)) ∙ i

pub times_all : (l : List ℕ) (k size r : ℕ) → length l ≤ k → size ≡ up_to_257 size → up_to_257 (size * product (drop k l)) ≡ r → size ≡ r
times_all l k size r h e i = e ∙ ap up_to_257 (one size) ∙ sym (ap (λ (d : List ℕ). up_to_257 (size * product d)) (drop_all k l h)) ∙ i
  where
    one : (a : ℕ) → a ≡ a * 1
    one a = omega arith
