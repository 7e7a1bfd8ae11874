-- The byte_of order on paths.
use Rattle.std.proofs.Common.{◌≡◌, ◌≢◌, ℕ, suc, ◌+◌, ◌<◌, ◌≤◌, true, false, ◌⊎◌, inl, inr, List, [], ◌∷◌, ◌++◌, length, refl, sym, ap, ap₂, ◌∙◌, subst, arith, nat_eq, if◌then◌else◌, append_assoc, length-append}
use Rattle.std.proofs.lemmas.Bool.Decides.{eqb_tells}
use native.Mathlib.Decide.{ℕ_discrete}
use Rattle.cc_base.specs.declared.outcomes.Outcome.{Outcome}
use Rattle.cc_base.specs.declared.outcomes.Outcome.TheVariants.{Zero, High, Low, Plain, False, True, Object}
use Rattle.cc_base.specs.Outcomes.{byte_of}
use Rattle.cc_base.specs.Paths.{Path, In, Pairwise, Before, next, BeginsWith, in_common}

pub byte_tells : (a b : Outcome) → byte_of a ≡ byte_of b → a ≡ b
byte_tells Zero Zero h = refl
byte_tells High High h = refl
byte_tells Low Low h = refl
byte_tells Plain Plain h = refl
byte_tells False False h = refl
byte_tells True True h = refl
byte_tells (Object n) (Object m) h = ap Object (omega arith)
byte_tells _ _ h = absurd (omega (arith, h))

pub order_of : (a b : ℕ) → (a < b) ⊎ ((a ≡ b) ⊎ (b < a))
order_of a b = elim (ℕ_discrete a b) [ yes e ↦ inr (inl e) | no n ↦ less n ]
  where
    less : (a ≢ b) → (a < b) ⊎ ((a ≡ b) ⊎ (b < a))
    less n = grind arith

pub compare_bytes : (a b : Outcome) → (byte_of a < byte_of b) ⊎ ((a ≡ b) ⊎ (byte_of b < byte_of a))
compare_bytes a b = elim (order_of (byte_of a) (byte_of b)) [
  | inl h ↦ inl h
  | inr (inl h) ↦ inr (inl (byte_tells a b h))
  | inr (inr h) ↦ inr (inr h)
]

pub same_or_not : (a b : Outcome) → (a ≡ b) ⊎ (a ≢ b)
same_or_not a b = elim (ℕ_discrete (byte_of a) (byte_of b)) [ yes e ↦ inl (byte_tells a b e) | no n ↦ inr (λ e. n (ap byte_of e)) ]

-- ---- lists

pub head_same : {A : Type 0} → (a b : A) (p q : List A) → a ∷ p ≡ b ∷ q → a ≡ b
head_same a b p q e = cc e

pub tail_same : {A : Type 0} → (a b : A) (p q : List A) → a ∷ p ≡ b ∷ q → p ≡ q
tail_same a b p q e = cc e

pub not_nil : {A : Type 0} → (a : A) (p : List A) → a ∷ p ≡ [] → ⊥
not_nil a p e = cc e

pub append_nil : {A : Type 0} → (l : List A) → l ++ [] ≡ l
append_nil [] = refl
append_nil (a ∷ l) = ap (λ m. a ∷ m) (append_nil l)

pub append_same : {A : Type 0} → (q r s : List A) → q ++ r ≡ q ++ s → r ≡ s
append_same [] r s e = e
append_same (a ∷ q) r s e = append_same q r s (tail_same _ _ _ _ e)

pub in_left : {A : Type 0} → (x : A) (l m : List A) → In x l → In x (l ++ m)
in_left x [] m h = absurd h
in_left x (a ∷ l) m (inl e) = inl e
in_left x (a ∷ l) m (inr h) = inr (in_left x l m h)

pub in_right : {A : Type 0} → (x : A) (l m : List A) → In x m → In x (l ++ m)
in_right x [] m h = h
in_right x (a ∷ l) m h = inr (in_right x l m h)

pub in_either : {A : Type 0} → (x : A) (l m : List A) → In x (l ++ m) → In x l ⊎ In x m
in_either x [] m h = inr h
in_either x (a ∷ l) m (inl e) = inl (inl e)
in_either x (a ∷ l) m (inr h) = elim (in_either x l m h) [ inl i ↦ inl (inr i) | inr i ↦ inr i ]

pub pairwise_append : {A : Type 0} → (R : A → A → Type 0) (l m : List A) → Pairwise R l → Pairwise R m →
    ((x z : A) → In x l → In z m → R x z) → Pairwise R (l ++ m)
pairwise_append R [] m h k c = k
pairwise_append R (a ∷ l) m h k c =
    (λ z i. elim (in_either z l m i) [ inl j ↦ h.0 z j | inr j ↦ c a z (inl refl) j ], pairwise_append R l m h.1 k (λ x z i j. c x z (inr i) j))

pub pairwise_map : {A : Type 0} → (R S : A → A → Type 0) (l : List A) → ((x z : A) → R x z → S x z) → Pairwise R l → Pairwise S l
pairwise_map R S [] f h = tt
pairwise_map R S (a ∷ l) f h = (λ z i. f a z (h.0 z i), pairwise_map R S l f h.1)

-- two of the list are the same one, or one comes before the other
pub pair_of : {A : Type 0} → (R : A → A → Type 0) (l : List A) (x z : A) → Pairwise R l → In x l → In z l → (x ≡ z) ⊎ (R x z ⊎ R z x)
pair_of R [] x z h i j = absurd i
pair_of R (a ∷ l) x z h (inl e) (inl f) = inl (e ∙ sym f)
pair_of R (a ∷ l) x z h (inl e) (inr j) = inr (inl (subst (λ w. R w z) (sym e) (h.0 z j)))
pair_of R (a ∷ l) x z h (inr i) (inl f) = inr (inr (subst (λ w. R w x) (sym f) (h.0 x i)))
pair_of R (a ∷ l) x z h (inr i) (inr j) = pair_of R l x z h.1 i j

-- ---- prefixes

pub next_append : (q : Path) (o : Outcome) (r : Path) → next q o ++ r ≡ q ++ (o ∷ r)
next_append [] o r = refl
next_append (a ∷ q) o r = ap (λ m. a ∷ m) (next_append q o r)

pub length_next : (q : Path) (o : Outcome) → length (next q o) ≡ suc (length q)
length_next q o = simp length-append (omega arith)

pub begins_self : (p : Path) → BeginsWith p p
begins_self p = ([], sym (append_nil p))

pub begins_nil : (p : Path) → BeginsWith p []
begins_nil p = (p, refl)

pub begins_trans : (p q r : Path) → BeginsWith p q → BeginsWith q r → BeginsWith p r
begins_trans p q r h k = (k.0 ++ h.0, h.1 ∙ ap (λ l. l ++ h.0) k.1 ∙ append_assoc r k.0 h.0)

pub begins_next : (p q : Path) (o : Outcome) → BeginsWith p (next q o) → BeginsWith p q
begins_next p q o h = (o ∷ h.0, h.1 ∙ next_append q o h.0)

pub next_begins : (q : Path) (o : Outcome) → BeginsWith (next q o) q
next_begins q o = (o ∷ [], refl)

-- p goes on after q
pub begins_or_is : (p q : Path) → BeginsWith p q → (p ≡ q) ⊎ ((o : Outcome) × BeginsWith p (next q o))
begins_or_is p q ([], e) = inl (e ∙ append_nil q)
begins_or_is p q (o ∷ r, e) = inr (o, (r, e ∙ sym (next_append q o r)))

pub begins_one : (p q : Path) (a b : Outcome) → BeginsWith p (next q a) → BeginsWith p (next q b) → a ≡ b
begins_one p q a b h k =
    let i : q ++ (a ∷ h.0) ≡ q ++ (b ∷ k.0) = sym (next_append q a h.0) ∙ sym h.1 ∙ k.1 ∙ next_append q b k.0 in
    head_same _ _ _ _ (append_same q _ _ i)

pub not_longer : (q : Path) (o : Outcome) → BeginsWith q (next q o) → ⊥
not_longer q o h =
    let i : q ++ [] ≡ q ++ (o ∷ h.0) = append_nil q ∙ h.1 ∙ next_append q o h.0 in
    not_nil _ _ (sym (append_same q _ _ i))

pub length_begins : (p q : Path) → BeginsWith p q → length q ≤ length p
length_begins p q h = let e : length p ≡ length q + length h.0 = ap length h.1 ∙ length-append q h.0 in omega arith

-- ---- byte_of order

pub before_irr : (p : Path) → Before p p → ⊥
before_irr [] h = h
before_irr (a ∷ p) (inl h) = omega (arith, h)
before_irr (a ∷ p) (inr h) = before_irr p h.1

pub before_trans : (p q r : Path) → Before p q → Before q r → Before p r
before_trans p [] r h k = absurd h
before_trans p (b ∷ q) [] h k = absurd k
before_trans [] (b ∷ q) (c ∷ r) h k = tt
before_trans (a ∷ p) (b ∷ q) (c ∷ r) (inl h) (inl k) = inl (omega (arith, h, k))
before_trans (a ∷ p) (b ∷ q) (c ∷ r) (inl h) (inr k) = inl (subst (λ o. byte_of a < byte_of o) k.0 h)
before_trans (a ∷ p) (b ∷ q) (c ∷ r) (inr h) (inl k) = inl (subst (λ o. byte_of o < byte_of c) (sym h.0) k)
before_trans (a ∷ p) (b ∷ q) (c ∷ r) (inr h) (inr k) = inr (h.0 ∙ k.0, before_trans p q r h.1 k.1)

pub compare_paths : (p q : Path) → Before p q ⊎ ((p ≡ q) ⊎ Before q p)
compare_paths [] [] = inr (inl refl)
compare_paths [] (b ∷ q) = inl tt
compare_paths (a ∷ p) [] = inr (inr tt)
compare_paths (a ∷ p) (b ∷ q) = elim (compare_bytes a b) [
  | inl h ↦ inl (inl h)
  | inr (inr h) ↦ inr (inr (inl h))
  | inr (inl h) ↦ elim (compare_paths p q) [
    | inl k ↦ inl (inr (h, k))
    | inr (inl k) ↦ inr (inl (ap₂ (λ o m. o ∷ m) h k))
    | inr (inr k) ↦ inr (inr (inr (sym h, k)))
  ]
]

pub before_longer : (a p r : Path) → Before a p → Before a (p ++ r)
before_longer a [] r h = absurd h
before_longer [] (b ∷ p) r h = tt
before_longer (a ∷ l) (b ∷ p) r (inl h) = inl h
before_longer (a ∷ l) (b ∷ p) r (inr h) = inr (h.0, before_longer l p r h.1)

-- what begins with p is above what p is above
pub above_under : (a p x : Path) → Before a p → BeginsWith x p → Before a x
above_under a p x h b = subst (λ w. Before a w) (sym b.1) (before_longer a p b.0 h)

pub below_longer : (p a r : Path) → Before p a → (BeginsWith a p → ⊥) → Before (p ++ r) a
below_longer p [] r h n = absurd h
below_longer [] (b ∷ a) r h n = absurd (n (begins_nil _))
below_longer (c ∷ p) (b ∷ a) r (inl h) n = inl h
below_longer (c ∷ p) (b ∷ a) r (inr h) n = inr (h.0, below_longer p a r h.1 (λ k. n (k.0, ap₂ (λ o m. o ∷ m) (sym h.0) k.1)))

-- what begins with p is below what p is below, unless that begins with p
pub below_under : (p a x : Path) → Before p a → (BeginsWith a p → ⊥) → BeginsWith x p → Before x a
below_under p a x h n b = subst (λ w. Before w a) (sym b.1) (below_longer p a b.0 h n)

pub begins_or_not : (p q : Path) → BeginsWith p q ⊎ (BeginsWith p q → ⊥)
begins_or_not p [] = inl (begins_nil p)
begins_or_not [] (b ∷ q) = inr (λ h. not_nil _ _ (sym h.1))
begins_or_not (a ∷ p) (b ∷ q) = elim (same_or_not a b) [
  | inr n ↦ inr (λ h. n (head_same _ _ _ _ h.1))
  | inl e ↦ elim (begins_or_not p q) [
    | inl h ↦ inl (h.0, ap₂ (λ o m. o ∷ m) e h.1)
    | inr n ↦ inr (λ h. n (h.0, tail_same _ _ _ _ h.1))
  ]
]

-- p is below q at a place where the two part
abbrev pub Parts : Path → Path → Type 0
Parts [] q = ⊥
Parts (a ∷ p) [] = ⊥
Parts (a ∷ p) (b ∷ q) = (byte_of a < byte_of b) ⊎ ((a ≡ b) × Parts p q)

pub parts_before : (p q : Path) → Parts p q → Before p q
parts_before [] q h = absurd h
parts_before (a ∷ p) [] h = absurd h
parts_before (a ∷ p) (b ∷ q) (inl h) = inl h
parts_before (a ∷ p) (b ∷ q) (inr h) = inr (h.0, parts_before p q h.1)

pub parts_longer : (p q r s : Path) → Parts p q → Parts (p ++ r) (q ++ s)
parts_longer [] q r s h = absurd h
parts_longer (a ∷ p) [] r s h = absurd h
parts_longer (a ∷ p) (b ∷ q) r s (inl h) = inl h
parts_longer (a ∷ p) (b ∷ q) r s (inr h) = inr (h.0, parts_longer p q r s h.1)

pub parts_under : (p q x z : Path) → Parts p q → BeginsWith x p → BeginsWith z q → Parts x z
parts_under p q x z h b c = subst (λ w. Parts w z) (sym b.1) (subst (λ w. Parts (p ++ b.0) w) (sym c.1) (parts_longer p q b.0 c.0 h))

pub parts_next : (q : Path) (a b : Outcome) → byte_of a < byte_of b → Parts (next q a) (next q b)
parts_next [] a b h = inl h
parts_next (c ∷ q) a b h = inr (refl, parts_next q a b h)

-- neither begins with the other
pub parts_left : (p q : Path) → Parts p q → BeginsWith p q → ⊥
parts_left [] q h b = h
parts_left (a ∷ p) [] h b = h
parts_left (a ∷ p) (c ∷ q) (inl h) b = let e : a ≡ c = head_same _ _ _ _ b.1 in before_irr (c ∷ []) (inl (subst (λ o. byte_of o < byte_of c) e h))
parts_left (a ∷ p) (c ∷ q) (inr h) b = parts_left p q h.1 (b.0, tail_same _ _ _ _ b.1)

pub parts_right : (p q : Path) → Parts p q → BeginsWith q p → ⊥
parts_right [] q h b = h
parts_right (a ∷ p) [] h b = h
parts_right (a ∷ p) (c ∷ q) (inl h) b = let e : c ≡ a = head_same _ _ _ _ b.1 in before_irr (c ∷ []) (inl (subst (λ o. byte_of o < byte_of c) (sym e) h))
parts_right (a ∷ p) (c ∷ q) (inr h) b = parts_right p q h.1 (b.0, tail_same _ _ _ _ b.1)

-- ---- first outcomes in common

nat_eq_self : (n : ℕ) → nat_eq n n ≡ true
nat_eq_self n = elim (eqb_tells n n) [ inl q ↦ q.0 | inr q ↦ absurd (q.1 refl) ]

nat_eq_not : (n m : ℕ) → (n ≢ m) → nat_eq n m ≡ false
nat_eq_not n m h = elim (eqb_tells n m) [ inl q ↦ absurd (h q.1) | inr q ↦ q.0 ]

pub common_prefix : (q r s : Path) → in_common (q ++ r) (q ++ s) ≡ length q + in_common r s
unfolding in_common
common_prefix [] r s = omega arith
common_prefix (a ∷ q) r s =
    ap (λ b. if b then suc (in_common (q ++ r) (q ++ s)) else 0) (nat_eq_self (byte_of a)) ∙ ap suc (common_prefix q r s) ∙ (omega arith)

pub common_part : (a b : Outcome) (r s : Path) → (a ≢ b) → in_common (a ∷ r) (b ∷ s) ≡ 0
unfolding in_common
common_part a b r s n = ap (λ t. if t then suc (in_common r s) else 0) (nat_eq_not (byte_of a) (byte_of b) (λ e. n (byte_tells a b e)))

-- of paths under two outcomes at q, the one that goes on with a's outcome has more in common with a
pub common_more : (a x z q : Path) (o p : Outcome) → BeginsWith a (next q o) → BeginsWith x (next q o) → BeginsWith z (next q p) → (o ≢ p) → in_common a z < in_common a x
common_more a x z q o p ha hx hz n =
    let i : in_common a x ≡ length (next q o) + in_common ha.0 hx.0 = ap₂ in_common ha.1 hx.1 ∙ common_prefix (next q o) ha.0 hx.0 in
    let j : in_common a z ≡ length q + in_common (o ∷ ha.0) (p ∷ hz.0) = ap₂ in_common (ha.1 ∙ next_append q o ha.0) (hz.1 ∙ next_append q p hz.0) ∙ common_prefix q (o ∷ ha.0) (p ∷ hz.0) in
    let k = common_part o p ha.0 hz.0 n in
    let l = length_next q o in
    omega (arith, i, j, k, l)
