-- Lists of names of touched blocks, and ranks in them.
use Rattle.std.proofs.Common.{◌≡◌, ℕ, suc, ◌<◌, Bool, true, false, ◌||◌, ◌⊎◌, inl, inr, List, [], ◌∷◌, ◌++◌, length, refl, sym, ap, ◌∙◌, arith, nat_eq, if◌then◌else◌}
use Rattle.std.proofs.lemmas.Bool.Decides.{eqb_tells}
use Rattle.cc_model.specs.Plain as base
use Rattle.cc_model.specs.Plain.{has, rank}

pub or_assoc : (a b c : Bool) → (a || b) || c ≡ a || (b || c)
or_assoc true b c = refl
or_assoc false b c = refl

pub has_append : (a : ℕ) (l m : List ℕ) → base.has a (l ++ m) ≡ base.has a l || base.has a m
unfolding base.has
has_append a [] m = refl
has_append a (b ∷ l) m = ap (λ c. nat_eq a b || c) (has_append a l m) ∙ sym (or_assoc (nat_eq a b) (base.has a l) (base.has a m))

pub true_or : (a b : Bool) → a ≡ true → a || b ≡ true
true_or true b h = refl
true_or false b h = absurd (cc h)

pub or_right : (a b : Bool) → b ≡ true → a || b ≡ true
or_right true b h = refl
or_right false b h = h

pub eqb_same : (a : ℕ) → nat_eq a a ≡ true
eqb_same a = elim (eqb_tells a a) [ inl h ↦ h.0 | inr h ↦ absurd (h.1 refl) ]

pub bool_cases : (b : Bool) → (b ≡ true) ⊎ (b ≡ false)
bool_cases true = inl refl
bool_cases false = inr refl

abbrev pub Distinct : List ℕ → Type 0
Distinct [] = Unit {0}
Distinct (a ∷ l) = (has a l ≡ false) × Distinct l

or_false_both : (a b : Bool) → a || b ≡ false → (a ≡ false) × (b ≡ false)
or_false_both true b h = absurd (cc h)
or_false_both false b h = (refl, h)

pub has_false : (a b : ℕ) (l : List ℕ) → has a (b ∷ l) ≡ false → (nat_eq a b ≡ false) × (has a l ≡ false)
unfolding has
has_false a b l h = or_false_both _ _ h

pub has_other : (a b : ℕ) (l : List ℕ) → nat_eq a b ≡ false → has a (b ∷ l) ≡ has a l
unfolding has
has_other a b l h = ap (λ t. t || has a l) h

pub rank_here : (a b : ℕ) (l : List ℕ) → nat_eq a b ≡ true → rank a (b ∷ l) ≡ 0
unfolding rank
rank_here a b l h = ap (λ t. if t then 0 else suc (rank a l)) h

pub rank_next : (a b : ℕ) (l : List ℕ) → nat_eq a b ≡ false → rank a (b ∷ l) ≡ suc (rank a l)
unfolding rank
rank_next a b l h = ap (λ t. if t then 0 else suc (rank a l)) h

pub rank_out : (a : ℕ) (l : List ℕ) → has a l ≡ false → rank a l ≡ length l
unfolding rank
rank_out a [] h = refl
rank_out a (b ∷ l) h = let e = has_false a b l h in rank_next a b l e.0 ∙ ap suc (rank_out a l e.1)

pub rank_in : (a : ℕ) (l : List ℕ) → has a l ≡ true → rank a l < length l
unfolding has
rank_in a [] h = absurd (cc h)
rank_in a (b ∷ l) h = elim (eqb_tells a b) [
  | inl q ↦ let e = rank_here a b l q.0 in omega (arith, e)
  | inr q ↦ let e = rank_next a b l q.0 in let i = rank_in a l (sym (has_other a b l q.0) ∙ h) in omega (arith, e, i)
]

pub rank_inj : (a b : ℕ) (l : List ℕ) → has a l ≡ true → has b l ≡ true → rank a l ≡ rank b l → a ≡ b
unfolding has
rank_inj a b [] h k e = absurd (cc h)
rank_inj a b (c ∷ l) h k e = elim (eqb_tells a c) [
  | inl q ↦ elim (eqb_tells b c) [
    | inl r ↦ q.1 ∙ sym r.1
    | inr r ↦ let i = rank_here a c l q.0 in let j = rank_next b c l r.0 in absurd (omega (arith, e, i, j))
  ]
  | inr q ↦ elim (eqb_tells b c) [
    | inl r ↦ let i = rank_next a c l q.0 in let j = rank_here b c l r.0 in absurd (omega (arith, e, i, j))
    | inr r ↦ let i = rank_next a c l q.0 in let j = rank_next b c l r.0 in
        rank_inj a b l (sym (has_other a c l q.0) ∙ h) (sym (has_other b c l r.0) ∙ k) (omega (arith, e, i, j))
  ]
]

pub distinct_add : (l : List ℕ) (a : ℕ) → Distinct l → has a l ≡ false → Distinct (l ++ a ∷ [])
unfolding has
distinct_add [] a d h = (refl, tt)
distinct_add (b ∷ l) a d h = let e = has_false a b l h in (has_append b l (a ∷ []) ∙ no_or _ _ d.0 (single_not b a e.0), distinct_add l a d.1 e.1)
  where
    no_or : (s t : Bool) → s ≡ false → t ≡ false → s || t ≡ false
    no_or true t i j = absurd (cc i)
    no_or false t i j = j

    single_not : (b a : ℕ) → nat_eq a b ≡ false → has b (a ∷ []) ≡ false
    single_not b a i = elim (eqb_tells b a) [
      | inl q ↦ absurd (cc (i, sym (ap (λ n. nat_eq n b) q.1) ∙ eqb_same b))
      | inr q ↦ has_other b a [] q.0
    ]
