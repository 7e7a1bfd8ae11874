-- The lists made normal have the same values, and what a list that is ready says.
use Rattle.std.proofs.Common.{◌≡◌, ℕ, ℤ, pos, ◌≤ℤ◌, ◌<ℤ◌, int_lt, int_le, nat_eq, Bool, true, false, not, ◌&&◌, ◌||◌, ◌⊎◌, ◌↔◌, inl, inr, List, [], ◌∷◌, length, refl, sym, ap, ap₂, ◌∙◌, subst, arith, if◌then◌else◌}
use Rattle.std.proofs.lemmas.Int.{ints}
use borrow.Author.Tests.{eqb-true}
use Rattle.linear_solver.proofs.Integers.{bool_cases}
use Rattle.linear_solver.proofs.Totals.{meets_normal}
use Rattle.cc_base.specs.Inequality.{Inequality, total, Meets, MeetsAll, normal}
use Rattle.cc_base.specs.declared.forms.Multiple.{Multiple}
use Rattle.cc_base.specs.Pass.{int_same, same_terms, lesser, kept, tidy, some_wide, has_terms, is_false, some_false, with_terms, Ready, ended, going, go_on, judged, ready}
use Rattle.cc_base.specs.declared.passes.PassEnd.TheVariants.{Open, Empty, Full}

pub and_true : (a b : Bool) → a && b ≡ true → (a ≡ true) × (b ≡ true)
and_true true b h = (refl, h)
and_true false b h = absurd (cc h)

pub or_true : (a b : Bool) → a || b ≡ true → (a ≡ true) ⊎ (b ≡ true)
or_true true b h = inl refl
or_true false b h = inr h

pub or_false : (a b : Bool) → a || b ≡ false → (a ≡ false) × (b ≡ false)
or_false true b h = absurd (cc h)
or_false false b h = (refl, h)

pub not_true : (t : Bool) → not t ≡ true → t ≡ false
not_true true h = absurd (cc h)
not_true false h = refl

pub same_int : (a b : ℤ) → int_same a b ≡ true → a ≡ b
unfolding int_same
same_int a b h = let r = and_true (int_le a b) (int_le b a) h in let p = r.0 in let q = r.1 in grind (arith, ints)

pub same_tells : (p q : List Multiple) → same_terms p q ≡ true → p ≡ q
unfolding same_terms
same_tells [] [] h = refl
same_tells [] (u ∷ q) h = absurd (cc h)
same_tells (t ∷ p) [] h = absurd (cc h)
same_tells (t ∷ p) (u ∷ q) h =
    let r = and_true _ _ h in let s = and_true _ _ r.1 in
    ap₂ (λ (a : Multiple) (b : List Multiple). a ∷ b) (same_term t u (eqb-true t.place u.place r.0) (same_int t.coefficient u.coefficient s.0)) (same_tells p q s.1)
  where
    same_term : (t u : Multiple) → t.place ≡ u.place → t.coefficient ≡ u.coefficient → t ≡ u
    same_term t u d e = ap₂ (λ (x : ℕ) (k : ℤ). let r : Multiple = record { place = x; coefficient = k } in r) d e

lesser_is : (s a b : ℤ) → (s ≤ℤ lesser a b) ↔ ((s ≤ℤ a) × (s ≤ℤ b))
unfolding lesser
lesser_is s a b = elim (bool_cases (int_le a b)) [
  | inl t ↦ let e : (if int_le a b then a else b) ≡ a = ap (λ (c : Bool). if c then a else b) t in
      ((λ h. (omega (arith, ints, h, e), (let i : a ≤ℤ b = grind (arith, ints) in omega (arith, ints, h, e, i)))), (λ h. let p = h.0 in omega (arith, ints, p, e)))
  | inr t ↦ let e : (if int_le a b then a else b) ≡ b = ap (λ (c : Bool). if c then a else b) t in
      ((λ h. ((let i : b ≤ℤ a = grind (arith, ints) in omega (arith, ints, h, e, i)), omega (arith, ints, h, e))), (λ h. let p = h.1 in omega (arith, ints, p, e)))
]

abbrev Both : (ℕ → ℤ) → List Inequality → Inequality → List Inequality → Type 0
Both v k i l = MeetsAll v k ↔ (Meets v i × MeetsAll v l)

kept_meets : (v : ℕ → ℤ) (i : Inequality) (l : List Inequality) → Both v (kept i l) i l
unfolding kept
kept_meets v i [] = ((λ h. h), (λ h. h))
kept_meets v i (j ∷ l) = elim (bool_cases (same_terms i.terms j.terms)) [
  | inl t ↦
      let e : total v i.terms ≡ total v j.terms = ap (total v) (same_tells i.terms j.terms t) in
      let L = lesser_is (total v j.terms) i.most j.most in
      subst (λ (b : Bool). Both v (if b then record { terms = j.terms; most = lesser i.most j.most } ∷ l else j ∷ kept i l) i (j ∷ l)) (sym t) (
        (λ h. let r = L.0 (h.0).holds in let r0 = r.0 in let r1 = r.1 in (record { holds = omega (arith, ints, r0, e) }, (record { holds = r1 }, h.1))),
        (λ h. (record { holds = L.1 ((let a = (h.0).holds in omega (arith, ints, a, e)), ((h.1).0).holds) }, (h.1).1)),
      )
  | inr t ↦
      let k = kept_meets v i l in
      subst (λ (b : Bool). Both v (if b then record { terms = j.terms; most = lesser i.most j.most } ∷ l else j ∷ kept i l) i (j ∷ l)) (sym t)
      ((λ h. let r = k.0 h.1 in (r.0, (h.0, r.1))), (λ h. ((h.1).0, k.1 (h.0, (h.1).1))))
]

pub tidy_meets : (v : ℕ → ℤ) (l : List Inequality) → MeetsAll v (tidy l) ↔ MeetsAll v l
unfolding tidy
tidy_meets v [] = ((λ h. h), (λ h. h))
tidy_meets v (i ∷ l) =
    let k = kept_meets v (normal i) (tidy l) in let n = meets_normal v i in let t = tidy_meets v l in
    ((λ h. let r = k.0 h in (n.0 r.0, t.0 r.1)), (λ h. k.1 (n.1 h.0, t.1 h.1)))

no_terms : (v : ℕ → ℤ) (l : List Multiple) → nat_eq (length l) 0 ≡ true → total v l ≡ pos 0
unfolding total
no_terms v [] h = refl
no_terms v (t ∷ l) h = absurd (let e = eqb-true (length (t ∷ l)) 0 h in omega (arith, e))

not_false : (t : Bool) → not t ≡ false → t ≡ true
not_false true h = refl
not_false false h = absurd (cc h)

false_meets : (v : ℕ → ℤ) (l : List Inequality) → some_false l ≡ true → MeetsAll v l → ⊥
unfolding some_false is_false has_terms
false_meets v [] h m = cc h
false_meets v (i ∷ l) h m = elim (or_true (is_false i) (some_false l) h) [
  | inl a ↦ let r = and_true _ _ a in let z = no_terms v i.terms (not_false _ (not_true _ r.0)) in let q = r.1 in let u = (m.0).holds in
      let w : i.most <ℤ pos 0 = grind (arith, ints) in omega (arith, ints, u, z, w)
  | inr a ↦ false_meets v l a m.1
]

plain_meets : (v : ℕ → ℤ) (i : Inequality) → is_false i ≡ false → has_terms i ≡ false → Meets v i
unfolding is_false has_terms
plain_meets v i h k = let z = no_terms v i.terms (not_false _ k) in
    let e : int_lt i.most (pos 0) ≡ false = sym (ap (λ (b : Bool). not b && int_lt i.most (pos 0)) k) ∙ h in
    let w : pos 0 ≤ℤ i.most = grind (arith, ints) in record { holds = omega (arith, ints, z, w) }

with_meets : (v : ℕ → ℤ) (l : List Inequality) → some_false l ≡ false → MeetsAll v l ↔ MeetsAll v (with_terms l)
unfolding some_false with_terms
with_meets v [] h = ((λ h. h), (λ h. h))
with_meets v (i ∷ l) h =
    let r = or_false (is_false i) (some_false l) h in let k = with_meets v l r.1 in
    elim (bool_cases (has_terms i)) [
      | inl t ↦ subst (λ (b : Bool). (Meets v i × MeetsAll v l) ↔ MeetsAll v (if b then i ∷ with_terms l else with_terms l)) (sym t)
          ((λ m. (m.0, k.0 m.1)), (λ m. (m.0, k.1 m.1)))
      | inr t ↦ subst (λ (b : Bool). (Meets v i × MeetsAll v l) ↔ MeetsAll v (if b then i ∷ with_terms l else with_terms l)) (sym t)
          ((λ m. k.0 m.1), (λ m. (plain_meets v i r.0 t, k.1 m)))
    ]

-- ---- what it says that a list is ready

abbrev pub Says : List Inequality → Ready → Type 0
Says l (ended Open) = Unit {0}
Says l (ended Empty) = (v : ℕ → ℤ) → MeetsAll v l → ⊥
Says l (ended Full) = (v : ℕ → ℤ) → MeetsAll v l
Says l (going x k) = (v : ℕ → ℤ) → MeetsAll v l ↔ MeetsAll v k

go_on_says : (l k : List Inequality) → ((v : ℕ → ℤ) → MeetsAll v l ↔ MeetsAll v k) → Says l (go_on k)
unfolding go_on
go_on_says l [] h = λ v. (h v).1 tt
go_on_says l (i ∷ k) h = h

judged_says : (t : List Inequality) → Says t (judged t)
unfolding judged
judged_says t = elim (bool_cases (some_wide t)) [
  | inl a ↦ subst (λ (b : Bool). Says t (if b then ended Open else (if some_false t then ended Empty else go_on (with_terms t)))) (sym a) tt
  | inr a ↦ subst (λ (b : Bool). Says t (if b then ended Open else (if some_false t then ended Empty else go_on (with_terms t)))) (sym a)
      (elim (bool_cases (some_false t)) [
        | inl c ↦ subst (λ (b : Bool). Says t (if b then ended Empty else go_on (with_terms t))) (sym c) (λ v. false_meets v t c)
        | inr c ↦ subst (λ (b : Bool). Says t (if b then ended Empty else go_on (with_terms t))) (sym c) (go_on_says t (with_terms t) (λ v. with_meets v t c))
      ])
]

says_of : (l t : List Inequality) → ((v : ℕ → ℤ) → MeetsAll v t ↔ MeetsAll v l) → (r : Ready) → Says t r → Says l r
says_of l t h (ended Open) s = tt
says_of l t h (ended Empty) s = λ v m. s v ((h v).1 m)
says_of l t h (ended Full) s = λ v. (h v).0 (s v)
says_of l t h (going x k) s = λ v. ((λ m. (s v).0 ((h v).1 m)), (λ m. (h v).0 ((s v).1 m)))

pub ready_says : (l : List Inequality) → Says l (ready l)
unfolding ready
ready_says l = says_of l (tidy l) (λ v. tidy_meets v l) (judged (tidy l)) (judged_says (tidy l))
