-- A dark pass over a list that bounds its places by 32-bit numbers leads back to values of 32 bits.
use Rattle.std.proofs.Common.{◌≡◌, ◌≢◌, ◌∙◌, sym, ap, ap₂, subst, refl, arith, ℕ, zero, suc, ℤ, pos, negsuc, neg_ℤ, ◌+ℤ◌, ◌-ℤ◌, ◌*ℤ◌, ◌≤ℤ◌, ◌<◌, ◌≤◌, ◌+◌, ◌-◌, get_or, drop, drop-cons, int_le, nat_eq, Bool, true, false, not, ◌||◌, ◌⊎◌, inl, inr, List, [], ◌∷◌, ◌++◌, length, map, if◌then◌else◌}
use Rattle.std.proofs.lemmas.Int.{ints}
use borrow.Author.Tests.{eqb-true, eq-eqb, eqb-false}
use Rattle.cc_base.specs.declared.forms.Multiple.{Multiple}
use Rattle.cc_base.specs.declared.passes.Mode.{Mode}
use Rattle.cc_base.specs.declared.passes.Mode.TheVariants.{Dark}
use Rattle.cc_base.specs.declared.passes.PassEnd.TheVariants.{Open, Empty, Full}
use Rattle.cc_base.specs.Inequality.{Inequality, total, MeetsAll, gcd, euclid, divisor_from, divisor, floor, divided, divided_by, normal, scaled, coefficient}
use Rattle.cc_base.specs.Pass.{same_terms, lesser, kept, tidy, some_wide, has_terms, some_false, with_terms, below, above, is_positive, is_lower, is_upper, lowers, uppers, others, paired, paired_with, all_paired, eliminate, Ready, ended, going, go_on, judged, ready, Passed, costing, pairs, turns, pass}
use Rattle.cc_base.specs.Witness.{changed, origin, restored, value_for, unwound, witness, Turn}
use Rattle.cc_base.specs.Groups.{Form, Atom, at_most_zero, is_zero, not_zero, same, differ, form_of, contains, put, put_all, named, places_in}
use Rattle.cc_base.specs.Need.{at_most, at_least, bounds, written, all_written, first_list}
use Rattle.linear_solver.specs.declared.atoms.LinearAtom.{LinearAtom}
use Rattle.linear_solver.specs.declared.pass.Step.{Step}
use Rattle.linear_solver.specs.Atoms.{seen_form, seen_atoms}
use Rattle.linear_solver.specs.Seen.{seen_all, seen_turn, seen_turns}
use Rattle.linear_solver.specs.Bounded.{Clear, Has, multiple_of, Held, Bounded, ClearOf, BoundedWith, Fitting}
use Rattle.linear_solver.specs.Trail.{trail_of}
use Rattle.linear_solver.proofs.Integers.{bool_cases, floor_down, scale_le}
use Rattle.linear_solver.proofs.Totals.{Divides, total_changed, total_scaled, total_divided, divisor_divides}
use Rattle.linear_solver.proofs.Tidied.{same_tells, or_true, or_false}
use Rattle.linear_solver.proofs.Parting.{In, put_new, put_old, all_first, all_second}
use Rattle.linear_solver.proofs.Writing.{seen_form_is}
use Rattle.linear_solver.proofs.Evaluation.{changed_same}
use Rattle.linear_solver.proofs.Taken.{pair_total, below_sign, above_sign, no_sign, opposite_products, dark_taken}
use Rattle.linear_solver.proofs.Passes.{dark_turns}
use Rattle.linear_solver.proofs.Counting.{unwound_trail}

-- ---- the coefficient of a place is a sum

unit_at : ℕ → ℕ → ℤ
unit_at x = changed origin x (pos 1)

total_origin : (l : List Multiple) → total origin l ≡ pos 0
unfolding total origin
total_origin [] = refl
total_origin (t ∷ l) = let e = total_origin l in omega (arith, ints, e)

at_unit : (x : ℕ) (l : List Multiple) → total (unit_at x) l ≡ coefficient x l
unfolding unit_at origin
at_unit x l = let e = total_changed origin x (pos 1) l in let f = total_origin l in plain (coefficient x l) (total (changed origin x (pos 1)) l) (total origin l) e f
  where
    plain : (c s o : ℤ) → s ≡ o +ℤ (c *ℤ (pos 1 -ℤ pos 0)) → o ≡ pos 0 → s ≡ c
    plain c s o e f = let g : c *ℤ (pos 1 -ℤ pos 0) ≡ c = omega (arith, ints) in omega (arith, ints, e, f, g)

pub coefficient_scaled : (x : ℕ) (k : ℤ) (l : List Multiple) → coefficient x (scaled k l) ≡ k *ℤ coefficient x l
coefficient_scaled x k l = sym (at_unit x (scaled k l)) ∙ total_scaled (unit_at x) k l ∙ ap (λ (z : ℤ). k *ℤ z) (at_unit x l)

coefficient_paired : (y : ℕ) (m : Mode) (x : ℕ) (i j : Inequality) →
    coefficient y (paired m x i j).terms ≡ (pos (above (coefficient x j.terms)) *ℤ coefficient y i.terms) +ℤ (pos (below (coefficient x i.terms)) *ℤ coefficient y j.terms)
coefficient_paired y m x i j =
    sym (at_unit y (paired m x i j).terms) ∙ pair_total (unit_at y) m x i j
    ∙ ap₂ (λ (p q : ℤ). (pos (above (coefficient x j.terms)) *ℤ p) +ℤ (pos (below (coefficient x i.terms)) *ℤ q)) (at_unit y i.terms) (at_unit y j.terms)

zero_factor : (g : ℕ) (c : ℤ) → pos (suc g) *ℤ c ≡ pos 0 → c ≡ pos 0
zero_factor g (pos zero) h = refl
zero_factor g (pos (suc n)) h = absurd (too_much (pos (suc g) *ℤ pos (suc n)) (scale_le (suc g) (pos 1) (pos (suc n)) (omega (arith, ints))) h)
  where
    too_much : (p : ℤ) → (pos (suc g) *ℤ pos 1) ≤ℤ p → p ≡ pos 0 → ⊥
    too_much p k e = omega (arith, ints, k, e)
zero_factor g (negsuc n) h = absurd (too_little (pos (suc g) *ℤ negsuc n) (scale_le (suc g) (negsuc n) (negsuc 0) (omega (arith, ints))) h)
  where
    too_little : (p : ℤ) → p ≤ℤ (pos (suc g) *ℤ negsuc 0) → p ≡ pos 0 → ⊥
    too_little p k e = omega (arith, ints, k, e)

divided_clear : (x g : ℕ) (i : Inequality) → g ≡ divisor i.terms → coefficient x i.terms ≡ pos 0 → coefficient x (divided_by g i).terms ≡ pos 0
unfolding divided_by
divided_clear x zero i e h = h
divided_clear x (suc g) i e h = zero_factor g (coefficient x (map (divided (suc g)) i.terms))
    (ap (λ (z : ℤ). pos (suc g) *ℤ z) (sym (at_unit x (map (divided (suc g)) i.terms)))
    ∙ total_divided (unit_at x) g i.terms (subst (λ (d : ℕ). Divides d i.terms) (sym e) (divisor_divides i.terms)) ∙ at_unit x i.terms ∙ h)

normal_clear : (x : ℕ) (i : Inequality) → coefficient x i.terms ≡ pos 0 → coefficient x (normal i).terms ≡ pos 0
unfolding normal
normal_clear x i h = divided_clear x (divisor i.terms) i refl h

-- ---- a list that is clear of a place stays so

kept_clear : (x : ℕ) (i : Inequality) (l : List Inequality) → coefficient x i.terms ≡ pos 0 → Clear x l → Clear x (kept i l)
unfolding kept
kept_clear x i [] h c = (h, tt)
kept_clear x i (j ∷ l) h c = elim (bool_cases (same_terms i.terms j.terms)) [
  | inl t ↦ subst (λ (b : Bool). Clear x (if b then record { terms = j.terms; most = lesser i.most j.most } ∷ l else j ∷ kept i l)) (sym t) c
  | inr t ↦ subst (λ (b : Bool). Clear x (if b then record { terms = j.terms; most = lesser i.most j.most } ∷ l else j ∷ kept i l)) (sym t) (c.0, kept_clear x i l h c.1)
]

tidy_clear : (x : ℕ) (l : List Inequality) → Clear x l → Clear x (tidy l)
unfolding tidy
tidy_clear x [] c = tt
tidy_clear x (i ∷ l) c = kept_clear x (normal i) (tidy l) (normal_clear x i c.0) (tidy_clear x l c.1)

with_clear : (x : ℕ) (l : List Inequality) → Clear x l → Clear x (with_terms l)
unfolding with_terms
with_clear x [] c = tt
with_clear x (i ∷ l) c = elim (bool_cases (has_terms i)) [
  | inl t ↦ subst (λ (b : Bool). Clear x (if b then i ∷ with_terms l else with_terms l)) (sym t) (c.0, with_clear x l c.1)
  | inr t ↦ subst (λ (b : Bool). Clear x (if b then i ∷ with_terms l else with_terms l)) (sym t) (with_clear x l c.1)
]

others_clear : (y x : ℕ) (l : List Inequality) → Clear y l → Clear y (others x l)
unfolding others
others_clear y x [] c = tt
others_clear y x (i ∷ l) c = elim (bool_cases (is_lower x i || is_upper x i)) [
  | inl t ↦ subst (λ (b : Bool). Clear y (if b then others x l else i ∷ others x l)) (sym t) (others_clear y x l c.1)
  | inr t ↦ subst (λ (b : Bool). Clear y (if b then others x l else i ∷ others x l)) (sym t) (c.0, others_clear y x l c.1)
]

lowers_clear : (y x : ℕ) (l : List Inequality) → Clear y l → Clear y (lowers x l)
unfolding lowers
lowers_clear y x [] c = tt
lowers_clear y x (i ∷ l) c = elim (bool_cases (is_lower x i)) [
  | inl t ↦ subst (λ (b : Bool). Clear y (if b then i ∷ lowers x l else lowers x l)) (sym t) (c.0, lowers_clear y x l c.1)
  | inr t ↦ subst (λ (b : Bool). Clear y (if b then i ∷ lowers x l else lowers x l)) (sym t) (lowers_clear y x l c.1)
]

uppers_clear : (y x : ℕ) (l : List Inequality) → Clear y l → Clear y (uppers x l)
unfolding uppers
uppers_clear y x [] c = tt
uppers_clear y x (i ∷ l) c = elim (bool_cases (is_upper x i)) [
  | inl t ↦ subst (λ (b : Bool). Clear y (if b then i ∷ uppers x l else uppers x l)) (sym t) (c.0, uppers_clear y x l c.1)
  | inr t ↦ subst (λ (b : Bool). Clear y (if b then i ∷ uppers x l else uppers x l)) (sym t) (uppers_clear y x l c.1)
]

pub append_clear : (x : ℕ) (k l : List Inequality) → Clear x k → Clear x l → Clear x (k ++ l)
append_clear x [] l c d = d
append_clear x (i ∷ k) l c d = (c.0, append_clear x k l c.1 d)

pair_clear : (y : ℕ) (m : Mode) (x : ℕ) (i j : Inequality) → coefficient y i.terms ≡ pos 0 → coefficient y j.terms ≡ pos 0 → coefficient y (paired m x i j).terms ≡ pos 0
pair_clear y m x i j e f =
    coefficient_paired y m x i j ∙ ap₂ (λ (p q : ℤ). (pos (above (coefficient x j.terms)) *ℤ p) +ℤ (pos (below (coefficient x i.terms)) *ℤ q)) e f ∙ none (above (coefficient x j.terms)) (below (coefficient x i.terms))
  where
    none : (a b : ℕ) → (pos a *ℤ pos 0) +ℤ (pos b *ℤ pos 0) ≡ pos 0
    none a b = omega (arith, ints)

with_pairs_clear : (y : ℕ) (m : Mode) (x : ℕ) (i : Inequality) (us : List Inequality) → coefficient y i.terms ≡ pos 0 → Clear y us → Clear y (paired_with m x i us)
unfolding paired_with
with_pairs_clear y m x i [] h c = tt
with_pairs_clear y m x i (j ∷ us) h c = (pair_clear y m x i j h c.0, with_pairs_clear y m x i us h c.1)

pairs_clear : (y : ℕ) (m : Mode) (x : ℕ) (ls us : List Inequality) → Clear y ls → Clear y us → Clear y (all_paired m x ls us)
unfolding all_paired
pairs_clear y m x [] us c d = tt
pairs_clear y m x (i ∷ ls) us c d = append_clear y (paired_with m x i us) (all_paired m x ls us) (with_pairs_clear y m x i us c.0 d) (pairs_clear y m x ls us c.1 d)

pub eliminate_clear : (y : ℕ) (m : Mode) (x : ℕ) (l : List Inequality) → Clear y l → Clear y (eliminate m x l)
unfolding eliminate
eliminate_clear y m x l c = append_clear y (others x l) (all_paired m x (lowers x l) (uppers x l)) (others_clear y x l c) (pairs_clear y m x (lowers x l) (uppers x l) (lowers_clear y x l c) (uppers_clear y x l c))

-- ---- the place that is taken out is gone

own : (x : ℕ) (i : Inequality) → is_lower x i || is_upper x i ≡ false → coefficient x i.terms ≡ pos 0
unfolding is_lower is_upper
own x i t = let r = or_false (is_positive (below (coefficient x i.terms))) (is_positive (above (coefficient x i.terms))) t in no_sign (coefficient x i.terms) r.0 r.1

others_own : (x : ℕ) (l : List Inequality) → Clear x (others x l)
unfolding others
others_own x [] = tt
others_own x (i ∷ l) = elim (bool_cases (is_lower x i || is_upper x i)) [
  | inl t ↦ subst (λ (b : Bool). Clear x (if b then others x l else i ∷ others x l)) (sym t) (others_own x l)
  | inr t ↦ subst (λ (b : Bool). Clear x (if b then others x l else i ∷ others x l)) (sym t) (own x i t, others_own x l)
]

abbrev AllLower : ℕ → List Inequality → Type 0
AllLower x [] = Unit {0}
AllLower x (i ∷ l) = (is_lower x i ≡ true) × AllLower x l

abbrev AllUpper : ℕ → List Inequality → Type 0
AllUpper x [] = Unit {0}
AllUpper x (i ∷ l) = (is_upper x i ≡ true) × AllUpper x l

lowers_are : (x : ℕ) (l : List Inequality) → AllLower x (lowers x l)
unfolding lowers
lowers_are x [] = tt
lowers_are x (i ∷ l) = elim (bool_cases (is_lower x i)) [
  | inl t ↦ subst (λ (b : Bool). AllLower x (if b then i ∷ lowers x l else lowers x l)) (sym t) (t, lowers_are x l)
  | inr t ↦ subst (λ (b : Bool). AllLower x (if b then i ∷ lowers x l else lowers x l)) (sym t) (lowers_are x l)
]

uppers_are : (x : ℕ) (l : List Inequality) → AllUpper x (uppers x l)
unfolding uppers
uppers_are x [] = tt
uppers_are x (i ∷ l) = elim (bool_cases (is_upper x i)) [
  | inl t ↦ subst (λ (b : Bool). AllUpper x (if b then i ∷ uppers x l else uppers x l)) (sym t) (t, uppers_are x l)
  | inr t ↦ subst (λ (b : Bool). AllUpper x (if b then i ∷ uppers x l else uppers x l)) (sym t) (uppers_are x l)
]

pair_own : (m : Mode) (x : ℕ) (i j : Inequality) → is_lower x i ≡ true → is_upper x j ≡ true → coefficient x (paired m x i j).terms ≡ pos 0
unfolding is_lower is_upper
pair_own m x i j h k =
    let A = below_sign (coefficient x i.terms) h in let C = above_sign (coefficient x j.terms) k in
    coefficient_paired x m x i j
    ∙ ap₂ (λ (c a : ℕ). (pos c *ℤ coefficient x i.terms) +ℤ (pos a *ℤ coefficient x j.terms)) C.1 A.1
    ∙ ap₂ (λ (p q : ℤ). (pos (suc C.0) *ℤ p) +ℤ (pos (suc A.0) *ℤ q)) A.2 C.2
    ∙ opposite_products A.0 C.0

with_pairs_own : (m : Mode) (x : ℕ) (i : Inequality) (us : List Inequality) → is_lower x i ≡ true → AllUpper x us → Clear x (paired_with m x i us)
unfolding paired_with
with_pairs_own m x i [] h k = tt
with_pairs_own m x i (j ∷ us) h k = (pair_own m x i j h k.0, with_pairs_own m x i us h k.1)

pairs_own : (m : Mode) (x : ℕ) (ls us : List Inequality) → AllLower x ls → AllUpper x us → Clear x (all_paired m x ls us)
unfolding all_paired
pairs_own m x [] us h k = tt
pairs_own m x (i ∷ ls) us h k = append_clear x (paired_with m x i us) (all_paired m x ls us) (with_pairs_own m x i us h.0 k) (pairs_own m x ls us h.1 k)

eliminate_own : (m : Mode) (x : ℕ) (l : List Inequality) → Clear x (eliminate m x l)
unfolding eliminate
eliminate_own m x l = append_clear x (others x l) (all_paired m x (lowers x l) (uppers x l)) (others_own x l) (pairs_own m x (lowers x l) (uppers x l) (lowers_are x l) (uppers_are x l))

-- ---- the bounds of the other places stay

lesser_first : (a b m : ℤ) → a ≤ℤ m → lesser a b ≤ℤ m
unfolding lesser
lesser_first a b m h = elim (bool_cases (int_le a b)) [
  | inl t ↦ subst (λ (c : Bool). (if c then a else b) ≤ℤ m) (sym t) h
  | inr t ↦ subst (λ (c : Bool). (if c then a else b) ≤ℤ m) (sym t) (let i : b ≤ℤ a = grind (arith, ints) in omega (arith, ints, h, i))
]

lesser_second : (a b m : ℤ) → b ≤ℤ m → lesser a b ≤ℤ m
unfolding lesser
lesser_second a b m h = elim (bool_cases (int_le a b)) [
  | inl t ↦ subst (λ (c : Bool). (if c then a else b) ≤ℤ m) (sym t) (let i : a ≤ℤ b = grind (arith, ints) in omega (arith, ints, h, i))
  | inr t ↦ subst (λ (c : Bool). (if c then a else b) ≤ℤ m) (sym t) h
]

kept_new : (p : List Multiple) (m : ℤ) (i : Inequality) (l : List Inequality) → i.terms ≡ p → i.most ≤ℤ m → Has p m (kept i l)
unfolding kept
kept_new p m i [] e h = inl (e, h)
kept_new p m i (j ∷ l) e h = elim (bool_cases (same_terms i.terms j.terms)) [
  | inl t ↦ subst (λ (b : Bool). Has p m (if b then record { terms = j.terms; most = lesser i.most j.most } ∷ l else j ∷ kept i l)) (sym t) (inl (sym (same_tells i.terms j.terms t) ∙ e, lesser_first i.most j.most m h))
  | inr t ↦ subst (λ (b : Bool). Has p m (if b then record { terms = j.terms; most = lesser i.most j.most } ∷ l else j ∷ kept i l)) (sym t) (inr (kept_new p m i l e h))
]

kept_old : (p : List Multiple) (m : ℤ) (i : Inequality) (l : List Inequality) → Has p m l → Has p m (kept i l)
unfolding kept
kept_old p m i [] (h) = absurd h
kept_old p m i (j ∷ l) h = elim (bool_cases (same_terms i.terms j.terms)) [
  | inl t ↦ subst (λ (b : Bool). Has p m (if b then record { terms = j.terms; most = lesser i.most j.most } ∷ l else j ∷ kept i l)) (sym t)
      (elim h [ inl a ↦ inl (a.0, lesser_second i.most j.most m a.1) | inr a ↦ inr a ])
  | inr t ↦ subst (λ (b : Bool). Has p m (if b then record { terms = j.terms; most = lesser i.most j.most } ∷ l else j ∷ kept i l)) (sym t)
      (elim h [ inl a ↦ inl a | inr a ↦ inr (kept_old p m i l a) ])
]

-- a multiple by 1 or -1 is its own normal form
abbrev Unital : ℤ → Type 0
Unital k = (k ≡ pos 1) ⊎ (k ≡ negsuc 0)

unit_divisor : (x : ℕ) (k : ℤ) → Unital k → divisor (multiple_of x k) ≡ 1
unfolding divisor divisor_from gcd euclid
unit_divisor x k (inl e) = ap (λ (z : ℤ). divisor (multiple_of x z)) e
unit_divisor x k (inr e) = ap (λ (z : ℤ). divisor (multiple_of x z)) e

unit_divided : (x : ℕ) (k : ℤ) → Unital k → map (divided 1) (multiple_of x k) ≡ multiple_of x k
unfolding divided floor
unit_divided x k (inl e) = ap (λ (z : ℤ). map (divided 1) (multiple_of x z)) e ∙ sym (ap (λ (z : ℤ). multiple_of x z) e)
unit_divided x k (inr e) = ap (λ (z : ℤ). map (divided 1) (multiple_of x z)) e ∙ sym (ap (λ (z : ℤ). multiple_of x z) e)

floor_one : (z m : ℤ) → z ≤ℤ m → floor z 1 ≤ℤ m
floor_one z m h = let k = floor_down 1 (floor z 1) z (omega arith) (omega (arith, ints)) in plain (floor z 1) k
  where
    plain : (f : ℤ) → (pos 1 *ℤ f) ≤ℤ z → f ≤ℤ m
    plain f k = omega (arith, ints, k, h)

normal_unit : (x : ℕ) (k m : ℤ) (i : Inequality) → Unital k → i.terms ≡ multiple_of x k → i.most ≤ℤ m → ((normal i).terms ≡ multiple_of x k) × ((normal i).most ≤ℤ m)
unfolding normal divided_by
normal_unit x k m i u e h =
    let d : divisor i.terms ≡ 1 = ap divisor e ∙ unit_divisor x k u in (
      ap (λ (g : ℕ). (divided_by g i).terms) d ∙ ap (λ (p : List Multiple). map (divided 1) p) e ∙ unit_divided x k u,
      subst (λ (g : ℕ). (divided_by g i).most ≤ℤ m) (sym d) (floor_one i.most m h),
    )

tidy_has : (x : ℕ) (k m : ℤ) (l : List Inequality) → Unital k → Has (multiple_of x k) m l → Has (multiple_of x k) m (tidy l)
unfolding tidy
tidy_has x k m [] u h = absurd h
tidy_has x k m (i ∷ l) u h = elim h [
  | inl a ↦ let n = normal_unit x k m i u a.0 a.1 in kept_new (multiple_of x k) m (normal i) (tidy l) n.0 n.1
  | inr a ↦ kept_old (multiple_of x k) m (normal i) (tidy l) (tidy_has x k m l u a)
]

one_has_terms : (x : ℕ) (k : ℤ) (i : Inequality) → i.terms ≡ multiple_of x k → has_terms i ≡ true
unfolding has_terms
one_has_terms x k i e = ap (λ (p : List Multiple). not (nat_eq (length p) 0)) e

with_has : (x : ℕ) (k m : ℤ) (l : List Inequality) → Has (multiple_of x k) m l → Has (multiple_of x k) m (with_terms l)
unfolding with_terms
with_has x k m [] h = absurd h
with_has x k m (i ∷ l) h = elim h [
  | inl a ↦ subst (λ (b : Bool). Has (multiple_of x k) m (if b then i ∷ with_terms l else with_terms l)) (sym (one_has_terms x k i a.0)) (inl a)
  | inr a ↦ elim (bool_cases (has_terms i)) [
    | inl t ↦ subst (λ (b : Bool). Has (multiple_of x k) m (if b then i ∷ with_terms l else with_terms l)) (sym t) (inr (with_has x k m l a))
    | inr t ↦ subst (λ (b : Bool). Has (multiple_of x k) m (if b then i ∷ with_terms l else with_terms l)) (sym t) (with_has x k m l a)
  ]
]

other_place : (y x : ℕ) (k : ℤ) → y ≢ x → coefficient x (multiple_of y k) ≡ pos 0
unfolding coefficient
other_place y x k n = elim (bool_cases (nat_eq x y)) [
  | inl t ↦ absurd (n (sym (eqb-true x y t)))
  | inr t ↦ ap (λ (b : Bool). (if b then k else pos 0) +ℤ pos 0) t
]

neither : (x : ℕ) (i : Inequality) → coefficient x i.terms ≡ pos 0 → is_lower x i || is_upper x i ≡ false
unfolding is_lower is_upper below above is_positive
neither x i e = ap (λ (z : ℤ). is_positive (below z) || is_positive (above z)) e

others_has : (y x : ℕ) (k m : ℤ) (l : List Inequality) → y ≢ x → Has (multiple_of y k) m l → Has (multiple_of y k) m (others x l)
unfolding others
others_has y x k m [] n h = absurd h
others_has y x k m (i ∷ l) n h = elim h [
  | inl a ↦ subst (λ (b : Bool). Has (multiple_of y k) m (if b then others x l else i ∷ others x l)) (sym (neither x i (ap (coefficient x) a.0 ∙ other_place y x k n))) (inl a)
  | inr a ↦ elim (bool_cases (is_lower x i || is_upper x i)) [
    | inl t ↦ subst (λ (b : Bool). Has (multiple_of y k) m (if b then others x l else i ∷ others x l)) (sym t) (others_has y x k m l n a)
    | inr t ↦ subst (λ (b : Bool). Has (multiple_of y k) m (if b then others x l else i ∷ others x l)) (sym t) (inr (others_has y x k m l n a))
  ]
]

has_first : (p : List Multiple) (m : ℤ) (k l : List Inequality) → Has p m k → Has p m (k ++ l)
has_first p m [] l h = absurd h
has_first p m (i ∷ k) l h = elim h [ inl a ↦ inl a | inr a ↦ inr (has_first p m k l a) ]

pub has_second : (p : List Multiple) (m : ℤ) (k l : List Inequality) → Has p m l → Has p m (k ++ l)
has_second p m [] l h = h
has_second p m (i ∷ k) l h = inr (has_second p m k l h)

eliminate_has : (y : ℕ) (m : Mode) (x : ℕ) (k b : ℤ) (l : List Inequality) → y ≢ x → Has (multiple_of y k) b l → Has (multiple_of y k) b (eliminate m x l)
unfolding eliminate
eliminate_has y m x k b l n h = has_first (multiple_of y k) b (others x l) (all_paired m x (lowers x l) (uppers x l)) (others_has y x k b l n h)

-- ---- so that each turn's list bounds its places

tidy_held : (x : ℕ) (l : List Inequality) → Held x l → Held x (with_terms (tidy l))
tidy_held x l h = record {
  high = with_has x (pos 1) (pos 2147483647) (tidy l) (tidy_has x (pos 1) (pos 2147483647) l (inl refl) h.high);
  low = with_has x (negsuc 0) (pos 2147483648) (tidy l) (tidy_has x (negsuc 0) (pos 2147483648) l (inr refl) h.low);
}

bounded_left : (l : List Inequality) → Bounded l → Bounded (with_terms (tidy l))
bounded_left l b = λ x. elim (b x) [ inl c ↦ inl (with_clear x (tidy l) (tidy_clear x l c)) | inr h ↦ inr (tidy_held x l h) ]

going_list : (l : List Inequality) (x : ℕ) (k : List Inequality) → going x k ≡ go_on l → k ≡ l
unfolding go_on
going_list [] x k e = absurd (cc e)
going_list (i ∷ l) x k e = cc e

bounded_going : (l : List Inequality) (x : ℕ) (k : List Inequality) → Bounded l → going x k ≡ ready l → Bounded k
unfolding ready judged
bounded_going l x k s e = elim (bool_cases (some_wide (tidy l))) [
  | inl t ↦ absurd (let f : going x k ≡ ended Open = e ∙ ap (λ (b : Bool). if b then ended Open else (if some_false (tidy l) then ended Empty else go_on (with_terms (tidy l)))) t in cc f)
  | inr t ↦ elim (bool_cases (some_false (tidy l))) [
    | inl u ↦ absurd (let f : going x k ≡ ended Empty = e ∙ ap₂ (λ (b c : Bool). if b then ended Open else (if c then ended Empty else go_on (with_terms (tidy l)))) t u in cc f)
    | inr u ↦
        let f : going x k ≡ go_on (with_terms (tidy l)) = e ∙ ap₂ (λ (b c : Bool). if b then ended Open else (if c then ended Empty else go_on (with_terms (tidy l)))) t u in
        subst (λ (m : List Inequality). Bounded m) (sym (going_list (with_terms (tidy l)) x k f)) (bounded_left l s)
  ]
]

bounded_eliminate : (m : Mode) (x : ℕ) (l : List Inequality) → Bounded l → Bounded (eliminate m x l)
bounded_eliminate m x l b = λ y. elim (b y) [
  | inl c ↦ inl (eliminate_clear y m x l c)
  | inr h ↦ elim (bool_cases (nat_eq y x)) [
    | inl t ↦ inl (subst (λ (z : ℕ). Clear z (eliminate m x l)) (sym (eqb-true y x t)) (eliminate_own m x l))
    | inr t ↦ inr (record {
      high = eliminate_has y m x (pos 1) (pos 2147483647) l (eqb-false y x t) h.high;
      low = eliminate_has y m x (negsuc 0) (pos 2147483648) l (eqb-false y x t) h.low;
    })
  ]
]

-- ---- what meets such a list fits

abbrev pub Fits32 : ℤ → Type 0
Fits32 z = (negsuc 2147483647 ≤ℤ z) × (z ≤ℤ pos 2147483647)

has_meets : (v : ℕ → ℤ) (p : List Multiple) (m : ℤ) (l : List Inequality) → Has p m l → MeetsAll v l → total v p ≤ℤ m
has_meets v p m [] h n = absurd h
has_meets v p m (i ∷ l) h n = elim h [
  | inl a ↦ let e = ap (total v) a.0 in let g = (n.0).holds in let k = a.1 in plain (total v i.terms) (total v p) i.most e g k
  | inr a ↦ has_meets v p m l a n.1
]
  where
    plain : (s t b : ℤ) → s ≡ t → s ≤ℤ b → b ≤ℤ m → t ≤ℤ m
    plain s t b e g k = omega (arith, ints, e, g, k)

held_fits : (v : ℕ → ℤ) (x : ℕ) (l : List Inequality) → Held x l → MeetsAll v l → Fits32 (v x)
unfolding total
held_fits v x l h n =
    let a = has_meets v (multiple_of x (pos 1)) (pos 2147483647) l h.high n in
    let b = has_meets v (multiple_of x (negsuc 0)) (pos 2147483648) l h.low n in plain (v x) a b
  where
    plain : (z : ℤ) → ((pos 1 *ℤ z) +ℤ pos 0) ≤ℤ pos 2147483647 → ((negsuc 0 *ℤ z) +ℤ pos 0) ≤ℤ pos 2147483648 → Fits32 z
    plain z a b = (omega (arith, ints, b), omega (arith, ints, a))

no_lowers : (x : ℕ) (l : List Inequality) → Clear x l → lowers x l ≡ []
unfolding lowers is_lower below is_positive
no_lowers x [] c = refl
no_lowers x (i ∷ l) c = ap (λ (z : ℤ). if is_positive (below z) then i ∷ lowers x l else lowers x l) c.0 ∙ no_lowers x l c.1

no_uppers : (x : ℕ) (l : List Inequality) → Clear x l → uppers x l ≡ []
unfolding uppers is_upper above is_positive
no_uppers x [] c = refl
no_uppers x (i ∷ l) c = ap (λ (z : ℤ). if is_positive (above z) then i ∷ uppers x l else uppers x l) c.0 ∙ no_uppers x l c.1

clear_value : (v : ℕ → ℤ) (x : ℕ) (l : List Inequality) → Clear x l → restored v x l x ≡ pos 0
unfolding restored changed value_for
clear_value v x l c =
    ap (λ (b : Bool). if b then value_for v x (lowers x l) (uppers x l) else v x) (eq-eqb x x refl)
    ∙ ap₂ (λ (p q : List Inequality). value_for v x p q) (no_lowers x l c) (no_uppers x l c)

turn_fits : (v : ℕ → ℤ) (x : ℕ) (l : List Inequality) → Bounded l → MeetsAll (restored v x l) l → Fits32 (restored v x l x)
turn_fits v x l b n = elim (b x) [
  | inl c ↦ subst (λ (z : ℤ). Fits32 z) (sym (clear_value v x l c)) (omega (arith, ints), omega (arith, ints))
  | inr h ↦ held_fits (restored v x l) x l h n
]

next : ℕ → Ready → Passed
next n r = elim r [ ended e ↦ record { how = e; cost = 0 } | going x k ↦ costing (pairs x k) (turns Dark n (eliminate Dark x k)) ]

trail_from : ℕ → Ready → List Turn
trail_from n r = elim r [ ended e ↦ [] | going x k ↦ record { place = x; list = k } ∷ trail_of Dark n (eliminate Dark x k) ]

fitting_from : (n : ℕ) (l : List Inequality) (r : Ready) → r ≡ ready l → Bounded l → (next n r).how ≡ Full →
    ((k : List Inequality) → Bounded k → (turns Dark n k).how ≡ Full → Fitting (trail_of Dark n k)) → Fitting (trail_from n r)
unfolding next costing trail_from unwound
fitting_from n l (ended e) i b h ih = tt
fitting_from n l (going x k) i b h ih =
    let g = bounded_going l x k b i in
    let m = dark_taken (witness Dark n (eliminate Dark x k)) x k (dark_turns n (eliminate Dark x k) h) in
    let f : Fits32 (restored (unwound (trail_of Dark n (eliminate Dark x k)) origin) x k x) =
    subst (λ (v : ℕ → ℤ). Fits32 (restored v x k x)) (sym (unwound_trail Dark n (eliminate Dark x k))) (turn_fits (witness Dark n (eliminate Dark x k)) x k g m) in
    (f.0, f.1, ih (eliminate Dark x k) (bounded_eliminate Dark x k g) h)

pub fitting_trail : (n : ℕ) (l : List Inequality) → Bounded l → (turns Dark n l).how ≡ Full → Fitting (trail_of Dark n l)
unfolding turns next trail_of trail_from
fitting_trail zero l b h = tt
fitting_trail (suc n) l b h = fitting_from n l (ready l) refl b h (fitting_trail n)

pub fitting_pass : (n : ℕ) (l : List Inequality) → Bounded l → Full ≡ (pass Dark n l).how → Fitting (trail_of Dark (n + 1) l)
unfolding pass costing
fitting_pass n l b h = subst (λ (k : ℕ). Fitting (trail_of Dark k l)) (let e : suc n ≡ n + 1 = omega arith in e) (fitting_trail (suc n) l b (sym h))

-- ---- the value at each step

fitting_drop : (l : List Step) (k : ℕ) → Fitting (seen_turns l) → Fitting (seen_turns (drop k l))
unfolding seen_turns
fitting_drop l zero f = f
fitting_drop [] (suc k) f = tt
fitting_drop (s ∷ l) (suc k) f = fitting_drop l k f.2

pub value_fits : (l : List Step) (k : ℕ) (s : Step) (v : ℕ → ℤ) (z : ℤ) → 0 < k → k ≤ length l → s ≡ get_or l (k - 1) s → Fitting (seen_turns l) → v ≡ unwound (seen_turns (drop k l)) origin →
    z ≡ value_for v s.place (lowers s.place (seen_all s.list.items)) (uppers s.place (seen_all s.list.items)) → Fits32 z
unfolding seen_turns unwound restored
value_fits l zero s v z h m e f g i = absurd (omega arith)
value_fits l (suc k) s v z h m e f g i =
    let o : suc k - 1 ≡ k = omega arith in
    let q : s ≡ get_or l k s = e ∙ ap (λ (j : ℕ). get_or l j s) o in
    let d : drop k l ≡ s ∷ drop (suc k) l = drop-cons l k s (omega arith) ∙ ap (λ (t : Step). t ∷ drop (suc k) l) (sym q) in
    let r = subst (λ (t : List Step). Fitting (map seen_turn t)) d (fitting_drop l k f) in
    let w = unwound (map seen_turn (drop (suc k) l)) origin in
    let b = value_for w s.place (lowers s.place (seen_all s.list.items)) (uppers s.place (seen_all s.list.items)) in
    let c : changed w s.place b s.place ≡ z = changed_same w s.place s.place b refl ∙ sym (ap (λ (u : ℕ → ℤ). value_for u s.place (lowers s.place (seen_all s.list.items)) (uppers s.place (seen_all s.list.items))) g) ∙ sym i in
    subst (λ (y : ℤ). Fits32 y) c (r.0, r.1)

-- ---- the first list bounds the places of the atoms

not_in : (b c : Bool) → (b ≡ true → c ≡ true) → c ≡ false → b ≡ false
not_in true c f h = absurd (let e = sym (f refl) ∙ h in cc e)
not_in false c f h = refl

no_match : (x y : ℕ) (k : ℤ) → nat_eq x y ≡ false → coefficient x (multiple_of y k) ≡ pos 0
unfolding coefficient
no_match x y k t = ap (λ (b : Bool). (if b then k else pos 0) +ℤ pos 0) t

named_clear : (x : ℕ) (p : List Multiple) → contains (named p) x ≡ false → coefficient x p ≡ pos 0
unfolding named coefficient
named_clear x [] h = refl
named_clear x (t ∷ p) h =
    let a : nat_eq x t.place ≡ false = not_in (nat_eq x t.place) (contains (put t.place (named p)) x) (λ e. subst (λ (z : ℕ). In z (put t.place (named p))) (sym (eqb-true x t.place e)) (put_new t.place (named p))) h in
    let b : contains (named p) x ≡ false = not_in (contains (named p) x) (contains (put t.place (named p)) x) (put_old t.place x (named p)) h in
    let c = named_clear x p b in
    ap (λ (d : Bool). (if d then t.coefficient else pos 0) +ℤ coefficient x p) a ∙ ap (λ (z : ℤ). pos 0 +ℤ z) c

places_clear : (x : ℕ) (g : List Atom) → contains (places_in g) x ≡ false → ClearOf x g
unfolding places_in
places_clear x [] h = tt
places_clear x (a ∷ g) h = (
  named_clear x (form_of a).terms (not_in (contains (named (form_of a).terms) x) (contains (put_all (named (form_of a).terms) (places_in g)) x) (all_first x (named (form_of a).terms) (places_in g)) h),
  places_clear x g (not_in (contains (places_in g) x) (contains (put_all (named (form_of a).terms) (places_in g)) x) (all_second x (named (form_of a).terms) (places_in g)) h),
)

least_clear : (x : ℕ) (l : List Multiple) → coefficient x l ≡ pos 0 → coefficient x (scaled (negsuc 0) l) ≡ pos 0
least_clear x l h = coefficient_scaled x (negsuc 0) l ∙ ap (λ (z : ℤ). negsuc 0 *ℤ z) h

written_clear : (x : ℕ) (a : Atom) → coefficient x (form_of a).terms ≡ pos 0 → Clear x (written a)
unfolding written form_of at_most at_least
written_clear x (at_most_zero g) h = (h, tt)
written_clear x (is_zero g) h = (h, (least_clear x g.terms h, tt))
written_clear x (not_zero g) h = tt
written_clear x (same a b) h = tt
written_clear x (differ a b) h = tt

all_written_clear : (x : ℕ) (g : List Atom) → ClearOf x g → Clear x (all_written g)
unfolding all_written
all_written_clear x [] c = tt
all_written_clear x (a ∷ g) c = append_clear x (written a) (all_written g) (written_clear x a c.0) (all_written_clear x g c.1)

bounds_clear : (x : ℕ) (lo hi : ℤ) (l : List ℕ) → contains l x ≡ false → Clear x (bounds lo hi l)
unfolding bounds contains
bounds_clear x lo hi [] h = tt
bounds_clear x lo hi (y ∷ l) h = let r = or_false (nat_eq x y) (contains l x) h in (no_match x y (pos 1) r.0, (no_match x y (negsuc 0) r.0, bounds_clear x lo hi l r.1))

bounds_held : (x : ℕ) (lo hi : ℤ) (l : List ℕ) → negsuc 2147483647 ≤ℤ lo → hi ≤ℤ pos 2147483647 → contains l x ≡ true → Held x (bounds lo hi l)
unfolding bounds contains
bounds_held x lo hi [] a b h = absurd (cc h)
bounds_held x lo hi (y ∷ l) a b h = elim (or_true (nat_eq x y) (contains l x) h) [
  | inl t ↦ let e : y ≡ x = sym (eqb-true x y t) in record {
    high = inl (ap (λ (z : ℕ). multiple_of z (pos 1)) e, b);
    low = inr (inl (ap (λ (z : ℕ). multiple_of z (negsuc 0)) e, (let g : neg_ℤ lo ≤ℤ pos 2147483648 = omega (arith, ints, a) in g)));
  }
  | inr t ↦ let r = bounds_held x lo hi l a b t in record { high = inr (inr r.high); low = inr (inr r.low) }
]

pub first_bounded : (lo hi : ℤ) (g : List Atom) → negsuc 2147483647 ≤ℤ lo → hi ≤ℤ pos 2147483647 → BoundedWith g (first_list lo hi g)
unfolding first_list
first_bounded lo hi g a b = λ x. elim (bool_cases (contains (places_in g) x)) [
  | inl t ↦ let r = bounds_held x lo hi (places_in g) a b t in inr (record {
    high = has_second (multiple_of x (pos 1)) (pos 2147483647) (all_written g) (bounds lo hi (places_in g)) r.high;
    low = has_second (multiple_of x (negsuc 0)) (pos 2147483648) (all_written g) (bounds lo hi (places_in g)) r.low;
  })
  | inr t ↦ let c = places_clear x g t in inl (c, append_clear x (all_written g) (bounds lo hi (places_in g)) (all_written_clear x g c) (bounds_clear x lo hi (places_in g) t))
]

clear_at : (x : ℕ) (l : List LinearAtom) (k : ℕ) (a : LinearAtom) → ClearOf x (seen_atoms l) → k < length l → a ≡ get_or l k a → coefficient x (seen_form a).terms ≡ pos 0
unfolding seen_atoms
clear_at x [] k a c h e = absurd (omega arith)
clear_at x (b ∷ l) zero a c h e = subst (λ (y : LinearAtom). coefficient x (seen_form y).terms ≡ pos 0) (sym e) (sym (ap (λ (f : Form). coefficient x f.terms) (seen_form_is b)) ∙ c.0)
clear_at x (b ∷ l) (suc k) a c h e = clear_at x l k a c.1 (omega arith) e

one_more : (g : List Atom) (i : Inequality) (l : List Inequality) → ((x : ℕ) → ClearOf x g → coefficient x i.terms ≡ pos 0) → BoundedWith g l → BoundedWith g (i ∷ l)
one_more g i l f b = λ x. elim (b x) [
  | inl c ↦ inl (c.0, (f x c.0, c.1))
  | inr h ↦ inr (record { high = inr h.high; low = inr h.low })
]

pub bounded_at_most : (l : List LinearAtom) (k : ℕ) (a : LinearAtom) (n : ℤ) (m : List Inequality) → k < length l → a ≡ get_or l k a → BoundedWith (seen_atoms l) m → BoundedWith (seen_atoms l) (at_most (seen_form a) n ∷ m)
unfolding at_most
bounded_at_most l k a n m h e b = one_more (seen_atoms l) (at_most (seen_form a) n) m (λ x c. clear_at x l k a c h e) b

pub bounded_at_least : (l : List LinearAtom) (k : ℕ) (a : LinearAtom) (n : ℤ) (m : List Inequality) → k < length l → a ≡ get_or l k a → BoundedWith (seen_atoms l) m → BoundedWith (seen_atoms l) (at_least (seen_form a) n ∷ m)
unfolding at_least
bounded_at_least l k a n m h e b = one_more (seen_atoms l) (at_least (seen_form a) n) m (λ x c. least_clear x (seen_form a).terms (clear_at x l k a c h e)) b

pub bounded_of : (g : List Atom) (l : List Inequality) → BoundedWith g l → Bounded l
bounded_of g l b = λ x. elim (b x) [ inl c ↦ inl c.1 | inr h ↦ inr h ]
