-- A text has one cut at its first byte of a kind, and one at its last.
use Rattle.std.proofs.Common.{◌≡◌, ◌∙◌, sym, ap, refl, subst, ℕ, zero, suc, ◌+◌, ◌-◌, ◌<◌, ◌≤◌, Bool, true, false, not, cond, if◌then◌else◌, eqb-true, eq-eqb, length-drop, List, [], ◌∷◌, ◌++◌, length, take, drop, slice_index_or, ◌↔◌, arith}
use Rattle.std.specs.Prelude.{◌==◌}
use Rattle.std.proofs.lemmas.List.{take_all}
use Rattle.std.specs.List.{position_or_len}
use Rattle.report_words.specs.Cuts.{Lacks, CutFirst, CutLast}

differ : (b m : ℕ) → b == m ≡ false → b ≡ m → ⊥
differ b m e s = let t = eq-eqb b m s in cc (e, t)

pub lacks_append : (m : ℕ) (a b : List ℕ) → Lacks m a → Lacks m b → Lacks m (a ++ b)
lacks_append m [] b h k = k
lacks_append m (x ∷ a) b h k = (h.0, lacks_append m a b h.1 k)

-- the parts of a text that lacks the byte lack it
pub lacks_first : (m : ℕ) (a b : List ℕ) → Lacks m (a ++ b) → Lacks m a
lacks_first m [] b h = tt
lacks_first m (x ∷ a) b h = (h.0, lacks_first m a b h.1)

pub lacks_second : (m : ℕ) (a b : List ℕ) → Lacks m (a ++ b) → Lacks m b
lacks_second m [] b h = h
lacks_second m (x ∷ a) b h = lacks_second m a b h.1

pub stands : (m : ℕ) (a b : List ℕ) → Lacks m (a ++ m ∷ b) → ⊥
stands m [] b h = h.0 refl
stands m (x ∷ a) b h = stands m a b h.1

same_first : (m : ℕ) (a b c d : List ℕ) → Lacks m a → Lacks m c → a ++ m ∷ b ≡ c ++ m ∷ d → (a ≡ c) × (b ≡ d)
same_first m [] b [] d h k e = (refl, cc e)
same_first m [] b (x ∷ c) d h k e = absurd (k.0 (cc e))
same_first m (x ∷ a) b [] d h k e = absurd (h.0 (cc e))
same_first m (x ∷ a) b (y ∷ c) d h k e = let r = same_first m a b c d h.1 k.1 (cc e) in let q = r.0 in (cc (e, q), r.1)

pub first_once : (m : ℕ) (t a b c d : List ℕ) → CutFirst m t a b → CutFirst m t c d → (a ≡ c) × (b ≡ d)
first_once m t a b c d p q = same_first m a b c d p.first q.first (sym p.is ∙ q.is)

same_last : (m : ℕ) (a b c d : List ℕ) → Lacks m b → Lacks m d → a ++ m ∷ b ≡ c ++ m ∷ d → (a ≡ c) × (b ≡ d)
same_last m [] b [] d h k e = (refl, cc e)
same_last m [] b (x ∷ c) d h k e = let f : b ≡ c ++ m ∷ d = cc e in absurd (stands m c d (subst (λ t. Lacks m t) f h))
same_last m (x ∷ a) b [] d h k e = let f : a ++ m ∷ b ≡ d = cc e in absurd (stands m a b (subst (λ t. Lacks m t) (sym f) k))
same_last m (x ∷ a) b (y ∷ c) d h k e = let r = same_last m a b c d h k (cc e) in let q = r.0 in (cc (e, q), r.1)

pub last_once : (m : ℕ) (t a b c d : List ℕ) → CutLast m t a b → CutLast m t c d → (a ≡ c) × (b ≡ d)
last_once m t a b c d p q = same_last m a b c d p.last q.last (sym p.is ∙ q.is)

pub no_first : (m : ℕ) (t a b : List ℕ) → Lacks m t → CutFirst m t a b → ⊥
no_first m t a b h p = stands m a b (subst (λ s. Lacks m s) p.is h)

pub no_last : (m : ℕ) (t a b : List ℕ) → Lacks m t → CutLast m t a b → ⊥
no_last m t a b h p = stands m a b (subst (λ s. Lacks m s) p.is h)

-- a text that lacks a byte, by a test
unfoldable pub has_none : ℕ → List ℕ → Bool
has_none m [] = true
has_none m (b ∷ t) = if b == m then false else has_none m t

by_test : (m b : ℕ) (t : List ℕ) (q : Bool) → b == m ≡ q → (if q then false else has_none m t) ≡ true → (b ≡ m → ⊥) × (has_none m t ≡ true)
by_test m b t true e h = absurd (cc h)
by_test m b t false e h = ((λ s. differ b m e s), h)

pub lacks_by_test : (m : ℕ) (t : List ℕ) → has_none m t ≡ true → Lacks m t
unfolding has_none
lacks_by_test m [] h = tt
lacks_by_test m (b ∷ t) h = let r = by_test m b t (b == m) refl h in (r.0, lacks_by_test m t r.1)

-- ---- where the first byte of a kind stands

abbrev pub first_at : ℕ → List ℕ → ℕ
first_at m t = position_or_len (λ b. b == m) t

cut_by : (m b : ℕ) (t : List ℕ) (q : Bool) → b == m ≡ q → (n : ℕ) → n ≡ cond (not q) (1 + first_at m t) 0 → n < suc (length t) →
    (first_at m t < length t → CutFirst m t (take (first_at m t) t) (drop (first_at m t + 1) t)) → CutFirst m (b ∷ t) (take n (b ∷ t)) (drop (n + 1) (b ∷ t))
cut_by m b t true e n f h k =
    let z : n ≡ 0 = f in
    let same : b ≡ m = eqb-true b m e in
    subst (λ i. CutFirst m (b ∷ t) (take i (b ∷ t)) (drop (i + 1) (b ∷ t))) (sym z) (record { is = ap (λ x. x ∷ t) same; first = tt })
cut_by m b t false e n f h k =
    let z : n ≡ suc (first_at m t) = omega (arith, f) in
    let r = k (omega (arith, z, h)) in
    let d : suc (first_at m t) + 1 ≡ suc (first_at m t + 1) = omega arith in
    subst (λ i. CutFirst m (b ∷ t) (take i (b ∷ t)) (drop (i + 1) (b ∷ t))) (sym z)
    (record { is = ap (λ (l : List ℕ). b ∷ l) r.is ∙ ap (λ i. b ∷ take (first_at m t) t ++ m ∷ drop i (b ∷ t)) (sym d); first = ((λ s. differ b m e s), r.first) })

cut_at : (m : ℕ) (t : List ℕ) → first_at m t < length t → CutFirst m t (take (first_at m t) t) (drop (first_at m t + 1) t)
cut_at m [] h = absurd (omega (arith, h))
cut_at m (b ∷ t) h = cut_by m b t (b == m) refl (first_at m (b ∷ t)) refl h (cut_at m t)

-- a tail is all of the rest
tail_all : (j : ℕ) (t : List ℕ) → take (length t - j) (drop j t) ≡ drop j t
tail_all j t = let e = length-drop j t in take_all (length t - j) (drop j t) (omega (arith, e))

pub cut_here : (m n : ℕ) (t : List ℕ) → n ≡ first_at m t → n < length t → CutFirst m t (take n t) (take (length t - (n + 1)) (drop (n + 1) t))
cut_here m n t e h = subst (λ l. CutFirst m t (take n t) l) (sym (tail_all (n + 1) t)) (subst (λ i. CutFirst m t (take i t) (drop (i + 1) t)) (sym e) (cut_at m t (omega (arith, e, h))))

lacks_by : (m b : ℕ) (t : List ℕ) (q : Bool) → b == m ≡ q → suc (length t) ≤ cond (not q) (1 + first_at m t) 0 → (b ≡ m → ⊥) × (length t ≤ first_at m t)
lacks_by m b t true e h = absurd (omega (arith, h))
lacks_by m b t false e h = ((λ s. differ b m e s), omega (arith, h))

pub lacks_from : (m : ℕ) (t : List ℕ) → length t ≤ first_at m t → Lacks m t
lacks_from m [] h = tt
lacks_from m (b ∷ t) h = let r = lacks_by m b t (b == m) refl h in (r.0, lacks_from m t r.1)

long_by : (m b : ℕ) (t : List ℕ) (q : Bool) → b == m ≡ q → (b ≡ m → ⊥) → length t ≤ first_at m t → suc (length t) ≤ cond (not q) (1 + first_at m t) 0
long_by m b t true e n h = absurd (n (eqb-true b m e))
long_by m b t false e n h = omega (arith, h)

pub lacks_to : (m : ℕ) (t : List ℕ) → Lacks m t → length t ≤ first_at m t
lacks_to m [] h = omega arith
lacks_to m (b ∷ t) h = long_by m b t (b == m) refl h.0 (lacks_to m t h.1)

pub whole_lacks : (m n : ℕ) (t : List ℕ) → n ≡ first_at m t → n ≤ length t → (n == length t ≡ true) ↔ Lacks m t
whole_lacks m n t e h = (
  (λ q. let s = eqb-true n (length t) q in lacks_from m t (omega (arith, s, e))),
  (λ l. let k = lacks_to m t l in eq-eqb n (length t) (omega (arith, k, e, h))),
)

-- ---- from the end on

pub none_behind : (m : ℕ) (t : List ℕ) → Lacks m (drop (length t) t)
none_behind m [] = tt
none_behind m (b ∷ t) = none_behind m t

one_more : (m i d : ℕ) (t : List ℕ) → i < length t → (P : List ℕ → Type 0) → P (slice_index_or t i d ∷ drop (i + 1) t) → P (drop i t)
one_more m i d [] lt P h = absurd (omega (arith, lt))
one_more m zero d (x ∷ t) lt P h = h
one_more m (suc i) d (x ∷ t) lt P h = let e : suc i + 1 ≡ suc (i + 1) = omega arith in
    one_more m i d t (omega (arith, lt)) P (subst (λ k. P (slice_index_or t i d ∷ drop k (x ∷ t))) e h)

pub lacks_more : (m i d : ℕ) (t : List ℕ) → i < length t → (slice_index_or t i d ≡ m → ⊥) → Lacks m (drop (i + 1) t) → Lacks m (drop i t)
lacks_more m i d t lt n h = one_more m i d t lt (λ l. Lacks m l) (n, h)

around : (i d : ℕ) (t : List ℕ) → i < length t → t ≡ take i t ++ slice_index_or t i d ∷ drop (i + 1) t
around i d [] lt = absurd (omega (arith, lt))
around zero d (x ∷ t) lt = refl
around (suc i) d (x ∷ t) lt = let e : suc i + 1 ≡ suc (i + 1) = omega arith in
    ap (λ (l : List ℕ). x ∷ l) (around i d t (omega (arith, lt))) ∙ ap (λ k. x ∷ take i t ++ slice_index_or t i d ∷ drop k (x ∷ t)) (sym e)

pub cut_last_here : (m i d : ℕ) (t : List ℕ) → i < length t → slice_index_or t i d ≡ m → Lacks m (drop (i + 1) t) → CutLast m t (take i t) (drop (i + 1) t)
cut_last_here m i d t lt e h = record { is = around i d t lt ∙ ap (λ b. take i t ++ b ∷ drop (i + 1) t) e; last = h }
