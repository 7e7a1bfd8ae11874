-- The laws of the forms of traced runs.
use Rattle.std.proofs.Common.{◌≡◌, ℕ, ◌^◌, ◌≤◌, ℤ, pos, zero, suc, negsuc, ◌+ℤ◌, ◌*ℤ◌, Bool, true, false, ◌&&◌, ◌⊎◌, ◌↔◌, inl, inr, nat_le, nat_lt, unsigned_abs, List, [], ◌∷◌, length, map, Some, None, refl, sym, ap, ◌∙◌, subst, arith, if◌then◌else◌}
use Rattle.std.proofs.lemmas.List.Elements.{All-nil, All-cons, All-head, All-tail}
use Rattle.cc_base.specs.declared.forms.Multiple.{Multiple}
use Rattle.cc_base.specs.Forms.{Form}
use Rattle.cc_base.specs.Holds.{value_of_form}
use Rattle.cc_base.specs.Paths.{In}
use Rattle.cc_model.specs.FormOperations.{Laws, places_of_form}
use Rattle.sym_expr.specs.Sums.{is_zero_number, put_unless_zero, merge_term, merge, negated, scaled, sum_of, difference_of, opposite_of, multiple_of_form, AllSmall, IsNarrow}
use Rattle.sym_expr.proofs.FormLaws.{value-sum_of, value-difference_of, value-multiple_of_form, value-shifted, value-opposite_of, value-place_form}
use Rattle.cc_laws.specs.LinearForms.{all_small, is_narrow, if_narrow, linear}

abbrev places : List Multiple → List ℕ
places l = map (λ t. t.place) l

put_places : (x : ℕ) (k : ℤ) (l : List Multiple) (p : ℕ) → In p (places (put_unless_zero x k l)) → (p ≡ x) ⊎ In p (places l)
unfolding put_unless_zero is_zero_number
put_places x (pos zero) l p i = inr i
put_places x (pos (suc n)) l p i = i
put_places x (negsuc n) l p i = i

term_if : (b c : Bool) (t : Multiple) (l m n q r : List Multiple) (p : ℕ)
    → (In p (places l) → (p ≡ t.place) ⊎ (In p (places q) ⊎ In p (places r))) → (In p (places m) → (p ≡ t.place) ⊎ (In p (places q) ⊎ In p (places r))) → (In p (places n) → (p ≡ t.place) ⊎ (In p (places q) ⊎ In p (places r)))
    → In p (places (if b then l else (if c then m else n))) → (p ≡ t.place) ⊎ (In p (places q) ⊎ In p (places r))
term_if true c t l m n q r p f g h i = f i
term_if false true t l m n q r p f g h i = g i
term_if false false t l m n q r p f g h i = h i

-- a merge has the places of its parts
term_places : (t : Multiple) (u : List Multiple) (rest : List Multiple → List Multiple) → ((q : List Multiple) (p : ℕ) → In p (places (rest q)) → In p (places u) ⊎ In p (places q)) → (q : List Multiple) (p : ℕ) → In p (places (merge_term t rest q)) → (p ≡ t.place) ⊎ (In p (places u) ⊎ In p (places q))
unfolding merge_term
term_places t u rest r [] p (inl e) = inl e
term_places t u rest r [] p (inr i) = inr (r [] p i)
term_places t u rest r (v ∷ q) p i = term_if (nat_lt t.place v.place) (nat_lt v.place t.place) t (t ∷ rest (v ∷ q)) (v ∷ merge_term t rest q) (put_unless_zero t.place (t.coefficient +ℤ v.coefficient) (rest q)) u (v ∷ q) p
    (λ j. elim j [ inl e ↦ inl e | inr k ↦ inr (r (v ∷ q) p k) ])
    (λ j. elim j [ inl e ↦ inr (inr (inl e)) | inr k ↦ elim (term_places t u rest r q p k) [ inl e ↦ inl e | inr m ↦ elim m [ inl n ↦ inr (inl n) | inr n ↦ inr (inr (inr n)) ] ] ])
    (λ j. elim (put_places t.place (t.coefficient +ℤ v.coefficient) (rest q) p j) [ inl e ↦ inl e | inr k ↦ elim (r q p k) [ inl n ↦ inr (inl n) | inr n ↦ inr (inr (inr n)) ] ])
    i

merge_places : (l q : List Multiple) (p : ℕ) → In p (places (merge l q)) → In p (places l) ⊎ In p (places q)
unfolding merge
merge_places [] q p i = inr i
merge_places (t ∷ l) q p i = elim (term_places t l (merge l) (λ r n j. merge_places l r n j) q p i) [ inl e ↦ inl (inl e) | inr k ↦ elim k [ inl n ↦ inl (inr n) | inr n ↦ inr n ] ]

scaled_places : (k : ℤ) (l : List Multiple) (p : ℕ) → In p (places (scaled k l)) → In p (places l)
unfolding scaled
scaled_places k [] p i = i
scaled_places k (t ∷ l) p i = elim (put_places t.place (k *ℤ t.coefficient) (scaled k l) p i) [ inl e ↦ inl e | inr j ↦ inr (scaled_places k l p j) ]

negated_places : (l : List Multiple) → places (map negated l) ≡ places l
unfolding negated
negated_places [] = refl
negated_places (t ∷ l) = ap (λ m. t.place ∷ m) (negated_places l)

-- what is kept is the form itself
pub kept : (g c : Form) → if_narrow g ≡ Some c → g ≡ c
unfolding if_narrow
kept g c e = by_if (is_narrow g) e
  where
    by_if : (b : Bool) → (if b then Some g else None) ≡ Some c → g ≡ c
    by_if true e = cc e
    by_if false e = absurd (cc e)

pub sum_places_of : (a b : Form) (p : ℕ) → In p (places_of_form (sum_of a b)) → In p (places_of_form a) ⊎ In p (places_of_form b)
unfolding sum_of
sum_places_of a b p i = merge_places a.terms b.terms p i

pub opposite_places_of : (a : Form) → places_of_form (opposite_of a) ≡ places_of_form a
unfolding opposite_of
opposite_places_of a = negated_places a.terms

pub difference_places_of : (a b : Form) (p : ℕ) → In p (places_of_form (difference_of a b)) → In p (places_of_form a) ⊎ In p (places_of_form b)
unfolding difference_of
difference_places_of a b p i = elim (sum_places_of a (opposite_of b) p i) [ inl j ↦ inl j | inr j ↦ inr (subst (In p) (opposite_places_of b) j) ]

pub multiple_places_of : (k : ℤ) (a : Form) (p : ℕ) → In p (places_of_form (multiple_of_form k a)) → In p (places_of_form a)
unfolding multiple_of_form
multiple_places_of k a p i = scaled_places k a.terms p i

abbrev pub linear_laws : Laws linear
linear_laws = record {
  number = λ z. refl;
  of = λ p h. value-place_form h p;
  of_places = λ p. refl;
  sum = λ a b c e h. ap (value_of_form h) (sym (kept _ c e)) ∙ value-sum_of h a b;
  sum_places = λ a b c e p i. sum_places_of a b p (subst (λ g. In p (places_of_form g)) (sym (kept _ c e)) i);
  difference = λ a b c e h. ap (value_of_form h) (sym (kept _ c e)) ∙ value-difference_of h a b;
  difference_places = λ a b c e p i. difference_places_of a b p (subst (λ g. In p (places_of_form g)) (sym (kept _ c e)) i);
  scale = λ z a c e h. ap (value_of_form h) (sym (kept _ c e)) ∙ value-multiple_of_form h z a;
  scale_places = λ z a c e p i. multiple_places_of z a p (subst (λ g. In p (places_of_form g)) (sym (kept _ c e)) i);
  shift = λ a z h. value-shifted h z a;
  shift_places = λ a z. refl;
  opposite = λ a h. value-opposite_of h a;
  opposite_places = λ a. opposite_places_of a;
}

-- ---- what is kept is exactly what is narrow

and_true : (a b : Bool) → a && b ≡ true → (a ≡ true) × (b ≡ true)
and_true true b e = (refl, e)
and_true false b e = absurd (cc e)

and_both : (a b : Bool) → a ≡ true → b ≡ true → a && b ≡ true
and_both true b e f = f
and_both false b e f = absurd (cc e)

le_told : (a b : ℕ) → nat_le a b ≡ true → a ≤ b
le_told a b e = grind arith

told_le : (a b : ℕ) → a ≤ b → nat_le a b ≡ true
told_le a b i = grind arith

abbrev Small : Multiple → Type 0
Small t = unsigned_abs t.coefficient ≤ 2 ^ 40

small_is : (l : List Multiple) → all_small l ≡ true ↔ AllSmall l
unfolding all_small
small_is [] = ((λ e. All-nil Small), (λ a. refl))
small_is (t ∷ l) = let r = small_is l in (
  (λ e. let q = and_true _ _ e in All-cons Small t l (le_told (unsigned_abs t.coefficient) (2 ^ 40) q.0) (r.0 q.1)),
  (λ a. and_both _ _ (told_le (unsigned_abs t.coefficient) (2 ^ 40) (All-head Small t l a)) (r.1 (All-tail Small t l a))),
)

pub narrow_is : (g : Form) → is_narrow g ≡ true ↔ IsNarrow g
unfolding is_narrow
narrow_is g = let r = small_is g.terms in (
  (λ e. let q = and_true _ _ e in let s = and_true _ _ q.1 in record { few = le_told (length g.terms) 16 q.0; coefficients = r.0 s.0; number = le_told (unsigned_abs g.constant) (2 ^ 72) s.1 }),
  (λ i. and_both _ _ (told_le (length g.terms) 16 i.few) (and_both _ _ (r.1 i.coefficients) (told_le (unsigned_abs g.constant) (2 ^ 72) i.number))),
)
