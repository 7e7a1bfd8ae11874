-- Numbers that stand in a list once, within bounds.
use Rattle.std.proofs.Common.{◌≡◌, ℕ, zero, suc, ◌+◌, ◌<◌, ◌≤◌, ◌⊎◌, inl, inr, List, [], ◌∷◌, ◌++◌, flat_map, refl, arith}
use Rattle.std.proofs.lemmas.Bool.Decides.{nat_tests}
use Rattle.source_laws.specs.Tokens.{hit, times}

-- ---- how often a number stands in a list

hit_cases : (k n : ℕ) → ((k ≡ n) × (hit k n ≡ 1)) ⊎ (hit k n ≡ 0)
hit_cases k n = grind (arith, nat_tests)

pub times_append : (k : ℕ) (l m : List ℕ) → times k (l ++ m) ≡ times k l + times k m
times_append k [] m = omega arith
times_append k (n ∷ l) m = let e = times_append k l m in omega (arith, e)

-- each number of the list stands there once, from lo on and below hi
pub record Spans (lo hi : ℕ) (l : List ℕ) : Type 0 where
  pub once : (k : ℕ) → times k l ≤ 1
  pub inside : (k : ℕ) → 1 ≤ times k l → (lo ≤ k) × (k < hi)

pub spans_none : (lo hi : ℕ) → Spans lo hi []
spans_none lo hi = record { once = λ k. omega arith; inside = λ k h. absurd (omega (arith, h)) }

pub spans_one : (lo hi n : ℕ) → lo ≤ n → n < hi → Spans lo hi (n ∷ [])
spans_one lo hi n p q = record {
  once = λ k. elim (hit_cases k n) [ inl e ↦ (let z = e.1 in omega (arith, z)) | inr e ↦ omega (arith, e) ];
  inside = λ k h. elim (hit_cases k n) [ inl e ↦ (let z = e.0 in (omega (arith, z, p), omega (arith, z, q))) | inr e ↦ absurd (omega (arith, h, e)) ];
}

pub spans_wider : (lo hi lo' hi' : ℕ) (l : List ℕ) → lo' ≤ lo → hi ≤ hi' → Spans lo hi l → Spans lo' hi' l
spans_wider lo hi lo' hi' l p q h = record { once = h.once; inside = λ k i. let r = h.inside k i in let x = r.0 in let y = r.1 in (omega (arith, x, p), omega (arith, y, q)) }

-- the same numbers as often
pub spans_same : (lo hi : ℕ) (l m : List ℕ) → ((k : ℕ) → times k m ≡ times k l) → Spans lo hi l → Spans lo hi m
spans_same lo hi l m e h = record { once = λ k. (let x = e k in let y = h.once k in omega (arith, x, y)); inside = λ k i. h.inside k (let x = e k in omega (arith, x, i)) }

-- behind one another
pub spans_both : (lo mid mid' hi : ℕ) (l m : List ℕ) → lo ≤ mid → mid ≤ mid' → mid' ≤ hi → Spans lo mid l → Spans mid' hi m → Spans lo hi (l ++ m)
spans_both lo mid mid' hi l m p q r h i = record {
  once = λ k. once_both k (times k l) (times k m) refl refl;
  inside = λ k j. inside_both k (times k l) (times k m) refl refl j;
}
  where
    once_both : (k x y : ℕ) → times k l ≡ x → times k m ≡ y → times k (l ++ m) ≤ 1
    once_both k zero y a b = let e = times_append k l m in let z = i.once k in omega (arith, a, e, z)
    once_both k (suc x) zero a b = let e = times_append k l m in let z = h.once k in omega (arith, b, e, z)
    once_both k (suc x) (suc y) a b = let s = h.inside k (omega (arith, a)) in let t = i.inside k (omega (arith, b)) in let s1 = s.1 in let t0 = t.0 in absurd (omega (arith, s1, t0, q))

    inside_both : (k x y : ℕ) → times k l ≡ x → times k m ≡ y → 1 ≤ times k (l ++ m) → (lo ≤ k) × (k < hi)
    inside_both k (suc x) y a b j = let s = h.inside k (omega (arith, a)) in let s0 = s.0 in let s1 = s.1 in (s0, omega (arith, s1, q, r))
    inside_both k zero (suc y) a b j = let t = i.inside k (omega (arith, b)) in let t0 = t.0 in let t1 = t.1 in (omega (arith, t0, p, q), t1)
    inside_both k zero zero a b j = let e = times_append k l m in absurd (omega (arith, a, b, e, j))

-- a number that stands between two lists is told first
pub spans_between : (lo n hi : ℕ) (l m : List ℕ) → lo ≤ n → suc n ≤ hi → Spans lo n l → Spans (suc n) hi m → Spans lo hi (n ∷ (l ++ m))
spans_between lo n hi l m p q h i =
    let one : Spans n (suc n) (n ∷ []) = spans_one n (suc n) n (omega arith) (omega arith) in
    spans_same lo hi (l ++ (n ∷ m)) (n ∷ (l ++ m)) (λ k. (let a = times_append k l (n ∷ m) in let b = times_append k l m in omega (arith, a, b)))
    (spans_both lo n n hi l (n ∷ m) p (omega arith) (omega (arith, q)) h (spans_both n (suc n) (suc n) hi (n ∷ []) m (omega arith) (omega arith) q one i))

times_last : {A : Type 0} (g : A → List ℕ) (k : ℕ) (l : List A) (a : A) → times k (flat_map g (l ++ a ∷ [])) ≡ times k (flat_map g l ++ g a)
times_last g k [] a = let e = times_append k (g a) [] in omega (arith, e)
times_last g k (x ∷ l) a =
    let e = times_last g k l a in
    let f = times_append k (g x) (flat_map g (l ++ a ∷ [])) in
    let i = times_append k (g x ++ flat_map g l) (g a) in
    let j = times_append k (g x) (flat_map g l) in
    let m = times_append k (flat_map g l) (g a) in
    omega (arith, e, f, i, j, m)

-- one more of a list
pub spans_last : {A : Type 0} (g : A → List ℕ) (lo mid mid' hi : ℕ) (l : List A) (a : A) → lo ≤ mid → mid ≤ mid' → mid' ≤ hi → Spans lo mid (flat_map g l) → Spans mid' hi (g a) → Spans lo hi (flat_map g (l ++ a ∷ []))
spans_last g lo mid mid' hi l a p q r h i = spans_same lo hi (flat_map g l ++ g a) (flat_map g (l ++ a ∷ [])) (λ k. times_last g k l a) (spans_both lo mid mid' hi (flat_map g l) (g a) p q r h i)

-- the only one of a list
pub spans_alone : (lo hi : ℕ) (l : List ℕ) → Spans lo hi l → Spans lo hi (l ++ [])
spans_alone lo hi l h = spans_same lo hi l (l ++ []) (λ k. (let e = times_append k l [] in omega (arith, e))) h
