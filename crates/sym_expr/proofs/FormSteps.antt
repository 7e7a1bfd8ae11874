-- The steps of sums and multiples of forms.
use Rattle.std.proofs.Common.{◌≡◌, ◌∙◌, sym, ap, ap₂, subst, refl, arith, ℕ, zero, suc, ℤ, pos, negsuc, neg_ℤ, ◌+ℤ◌, ◌*ℤ◌, ◌^◌, ◌<◌, ◌≤◌, ◌+◌, List, [], ◌∷◌, ◌++◌, length, map, take, get_or, unsigned_abs, Result, Ok, Err, OkIff, IfOk}
use Rattle.std.proofs.lemmas.Int.{ints}
use Rattle.std.proofs.lemmas.List.{take_more}
use Rattle.std.proofs.lemmas.List.Elements.{All-nil, All-cons, All-head, All-tail}
use Rattle.std.specs.List.{All}
use Rattle.cc_base.specs.declared.forms.Multiple.{Multiple}
use Rattle.cc_base.specs.Forms.{Form}
use Rattle.cc_base.specs.Holds.{total, value_of_form}
use Rattle.sym_expr.specs.declared.forms.FormTerm.{FormTerm}
use Rattle.sym_expr.specs.declared.forms.Wide.{Wide}
use Rattle.sym_expr.specs.TermsSeen.{multiple_of, multiples_of}
use Rattle.sym_expr.specs.Sums.{is_zero_number, put_unless_zero, merge, negated, scaled, sum_of, opposite_of, multiple_of_form, form_with, AllSmall, Ascending, IsForm, IsNarrow}
use Rattle.sym_expr.proofs.FormLaws.{NotZero, value-opposite_of, AllSmall-negated, Ascending-negated, NotZero-negated}
use Rattle.sym_expr.proofs.MergeSteps.{multiples_append}

abbrev pub Small : FormTerm → Type 0
Small t = unsigned_abs t.coefficient ≤ 2 ^ 40

abbrev SmallMultiple : Multiple → Type 0
SmallMultiple t = unsigned_abs t.coefficient ≤ 2 ^ 40

pub small_back : (l : List FormTerm) → AllSmall (multiples_of l) → All Small l
small_back [] a = All-nil Small
small_back (t ∷ l) a = All-cons Small t l (All-head SmallMultiple (multiple_of t) (multiples_of l) a) (small_back l (All-tail SmallMultiple (multiple_of t) (multiples_of l) a))

pub small_forth : (l : List FormTerm) → All Small l → AllSmall (multiples_of l)
small_forth [] a = All-nil SmallMultiple
small_forth (t ∷ l) a = All-cons SmallMultiple (multiple_of t) (multiples_of l) (All-head Small t l a) (small_forth l (All-tail Small t l a))

pub multiples_length : (l : List FormTerm) → length (multiples_of l) ≡ length l
multiples_length [] = refl
multiples_length (t ∷ l) = ap suc (multiples_length l)

pub form_made : (z k : ℤ) (l m : List FormTerm) → k ≡ z → m ≡ l → length l ≤ 16 → unsigned_abs z ≤ 2 ^ 72 → All Small l → Ascending (multiples_of l) → All NotZero (multiples_of l) → IsForm (form_with k (multiples_of m))
form_made z k l m e f few n s a o = subst (λ (g : Form). IsForm g) (ap₂ form_with (sym e) (ap multiples_of (sym f)))
    (record { few = omega (arith, multiples_length l); coefficients = small_forth l s; number = omega arith; ascending = a; not_zero = o })

pub narrow_made : (z k : ℤ) (l m : List FormTerm) → k ≡ z → m ≡ l → length l ≤ 16 → unsigned_abs z ≤ 2 ^ 72 → All Small l → IsNarrow (form_with z (multiples_of l)) × (form_with k (multiples_of m) ≡ form_with z (multiples_of l))
narrow_made z k l m e f few n s = (record { few = omega (arith, multiples_length l); coefficients = small_forth l s; number = n }, ap₂ form_with e (ap multiples_of f))

-- what was made is the sum, or wide as the sum is
pub sum_made : (r : Result Form Wide) (a b : Form) (x y k : ℤ) (p q s : List FormTerm) → OkIff r (IsNarrow (form_with k (multiples_of s))) (form_with k (multiples_of s))
    → k ≡ x +ℤ y → multiples_of s ≡ merge (multiples_of p) (multiples_of q) → form_with x (multiples_of p) ≡ a → form_with y (multiples_of q) ≡ b → OkIff r (IsNarrow (sum_of a b)) (sum_of a b)
unfolding sum_of
sum_made r a b x y k p q s o e f g h = subst (λ (w : Form). OkIff r (IsNarrow w) w) (ap₂ form_with e f ∙ ap₂ sum_of g h) o

pub multiple_made : (r : Result Form Wide) (a : Form) (c x k : ℤ) (p s : List FormTerm) → OkIff r (IsNarrow (form_with k (multiples_of s))) (form_with k (multiples_of s))
    → k ≡ c *ℤ x → multiples_of s ≡ scaled c (multiples_of p) → form_with x (multiples_of p) ≡ a → OkIff r (IsNarrow (multiple_of_form c a)) (multiple_of_form c a)
unfolding multiple_of_form
multiple_made r a c x k p s o e f g = subst (λ (w : Form). OkIff r (IsNarrow w) w) (ap₂ form_with e f ∙ ap (multiple_of_form c) g) o

-- a multiple with a constant or a coefficient past its limit isn't narrow
pub constant_wide : (a : Form) (c x : ℤ) (p : List FormTerm) → form_with x (multiples_of p) ≡ a → 2 ^ 72 < unsigned_abs (c *ℤ x) → IsNarrow (multiple_of_form c a) → ⊥
unfolding multiple_of_form
constant_wide a c x p e h n = let m : unsigned_abs (c *ℤ a.constant) ≤ 2 ^ 72 = n.number in
    let k : unsigned_abs (c *ℤ x) ≤ 2 ^ 72 = subst (λ (g : Form). unsigned_abs (c *ℤ g.constant) ≤ 2 ^ 72) (sym e) m in omega (arith, h, k)

pub terms_wide : (a : Form) (c x : ℤ) (p : List FormTerm) → form_with x (multiples_of p) ≡ a → (AllSmall (scaled c (multiples_of p)) → ⊥) → IsNarrow (multiple_of_form c a) → ⊥
unfolding multiple_of_form
terms_wide a c x p e h n = h (subst (λ (g : Form). AllSmall (scaled c g.terms)) (sym e) n.coefficients)

-- what holds of the value holds of an Ok
pub ok_value : (r : Result Form Wide) (P : Type 0) (v : Form) (Q : Form → Type 0) → OkIff r P v → Q v → IfOk r Q
ok_value (Ok x) P v Q o q = subst Q (sym o.1) q
ok_value (Err e) P v Q o q = tt

-- one more term, with the opposite sign
negated_append : (p q : List Multiple) → map negated (p ++ q) ≡ map negated p ++ map negated q
negated_append [] q = refl
negated_append (t ∷ p) q = ap (λ (l : List Multiple). negated t ∷ l) (negated_append p q)

more : (p : List FormTerm) (i : ℕ) (d : FormTerm) → i < length p → multiples_of (take (i + 1) p) ≡ multiples_of (take i p) ++ multiple_of (get_or p i d) ∷ []
more p i d h = ap multiples_of (take_more p i d h) ∙ multiples_append (take i p) (get_or p i d ∷ [])

pub negated_more : (o u : List FormTerm) (t : FormTerm) (p : List FormTerm) (i : ℕ) (d : FormTerm) → i < length p → u ≡ o ++ t ∷ [] → multiple_of t ≡ negated (multiple_of (get_or p i d))
    → multiples_of o ≡ map negated (multiples_of (take i p)) → multiples_of u ≡ map negated (multiples_of (take (i + 1) p))
negated_more o u t p i d h e f g =
    ap multiples_of e ∙ multiples_append o (t ∷ []) ∙ ap₂ (λ (l : List Multiple) (m : Multiple). l ++ m ∷ []) g f
    ∙ sym (negated_append (multiples_of (take i p)) (multiple_of (get_or p i d) ∷ [])) ∙ ap (map negated) (sym (more p i d h))

-- one more multiple
put_append : (x : ℕ) (k : ℤ) (l m : List Multiple) → put_unless_zero x k l ++ m ≡ put_unless_zero x k (l ++ m)
unfolding put_unless_zero is_zero_number
put_append x (pos zero) l m = refl
put_append x (pos (suc n)) l m = refl
put_append x (negsuc n) l m = refl

scaled_append : (k : ℤ) (p q : List Multiple) → scaled k (p ++ q) ≡ scaled k p ++ scaled k q
unfolding scaled
scaled_append k [] q = refl
scaled_append k (t ∷ p) q = ap (put_unless_zero t.place (k *ℤ t.coefficient)) (scaled_append k p q) ∙ sym (put_append t.place (k *ℤ t.coefficient) (scaled k p) (scaled k q))

pub scaled_more : (o u : List FormTerm) (x : ℕ) (z k : ℤ) (p : List FormTerm) (i : ℕ) (d : FormTerm) → i < length p → multiples_of u ≡ multiples_of o ++ put_unless_zero x z [] → x ≡ (get_or p i d).place.0 → z ≡ k *ℤ (get_or p i d).coefficient
    → multiples_of o ≡ scaled k (multiples_of (take i p)) → multiples_of u ≡ scaled k (multiples_of (take (i + 1) p))
unfolding scaled
scaled_more o u x z k p i d h e f j g =
    e ∙ ap₂ (λ (l m : List Multiple). l ++ m) g (ap₂ (λ (y : ℕ) (w : ℤ). put_unless_zero y w []) f j)
    ∙ sym (scaled_append k (multiples_of (take i p)) (multiple_of (get_or p i d) ∷ [])) ∙ ap (scaled k) (sym (more p i d h))

put_small_head : (x : ℕ) (k : ℤ) (l : List Multiple) → AllSmall (put_unless_zero x k l) → unsigned_abs k ≤ 2 ^ 40
unfolding put_unless_zero is_zero_number
put_small_head x (pos zero) l a = omega arith
put_small_head x (pos (suc n)) l a = All-head SmallMultiple _ l a
put_small_head x (negsuc n) l a = All-head SmallMultiple _ l a

put_small_tail : (x : ℕ) (k : ℤ) (l : List Multiple) → AllSmall (put_unless_zero x k l) → AllSmall l
unfolding put_unless_zero is_zero_number
put_small_tail x (pos zero) l a = a
put_small_tail x (pos (suc n)) l a = All-tail SmallMultiple _ l a
put_small_tail x (negsuc n) l a = All-tail SmallMultiple _ l a

pub scaled_small_at : (k : ℤ) (p : List FormTerm) (i : ℕ) (d : FormTerm) → i < length p → AllSmall (scaled k (multiples_of p)) → unsigned_abs (k *ℤ (get_or p i d).coefficient) ≤ 2 ^ 40
unfolding scaled
scaled_small_at k [] i d h a = absurd (omega arith)
scaled_small_at k (t ∷ p) zero d h a = put_small_head t.place.0 (k *ℤ t.coefficient) (scaled k (multiples_of p)) a
scaled_small_at k (t ∷ p) (suc i) d h a = scaled_small_at k p i d (omega arith) (put_small_tail t.place.0 (k *ℤ t.coefficient) (scaled k (multiples_of p)) a)

-- the opposite of a form is one
pub opposite_form : (g : Form) → IsForm g → IsForm (opposite_of g)
unfolding opposite_of
opposite_form g h = record {
  few = omega (arith, negated_length g.terms, h.few);
  coefficients = AllSmall-negated g.terms h.coefficients;
  number = omega (arith, ints, h.number);
  ascending = Ascending-negated g.terms h.ascending;
  not_zero = NotZero-negated g.terms h.not_zero;
}
  where
    negated_length : (l : List Multiple) → length (map negated l) ≡ length l
    negated_length [] = refl
    negated_length (t ∷ l) = ap suc (negated_length l)

pub opposite_made : (g : Form) (x k : ℤ) (p s m : List FormTerm) → k ≡ neg_ℤ x → multiples_of m ≡ map negated (multiples_of s) → s ≡ p → form_with x (multiples_of p) ≡ g → form_with k (multiples_of m) ≡ opposite_of g
unfolding opposite_of
opposite_made g x k p s m e f h i = ap₂ form_with e (f ∙ ap (λ (l : List FormTerm). map negated (multiples_of l)) h) ∙ ap opposite_of i

pub of_opposite : (r g : Form) → r ≡ opposite_of g → (h : ℕ → ℤ) → value_of_form h r ≡ neg_ℤ (value_of_form h g)
of_opposite r g e h = ap (value_of_form h) e ∙ value-opposite_of h g

-- the total with one more term
total_append : (h : ℕ → ℤ) (p q : List Multiple) → total h (p ++ q) ≡ total h p +ℤ total h q
unfolding total
total_append h [] q = omega (arith, ints)
total_append h (t ∷ p) q = ap (λ (z : ℤ). (t.coefficient *ℤ h t.place) +ℤ z) (total_append h p q) ∙ regroup (t.coefficient *ℤ h t.place) (total h p) (total h q)
  where
    regroup : (a b c : ℤ) → a +ℤ (b +ℤ c) ≡ (a +ℤ b) +ℤ c
    regroup a b c = omega (arith, ints)

pub total_more : (h : ℕ → ℤ) (p : List FormTerm) (i : ℕ) (d : FormTerm) → i < length p → total h (multiples_of (take (i + 1) p)) ≡ total h (multiples_of (take i p)) +ℤ ((get_or p i d).coefficient *ℤ h (get_or p i d).place.0)
unfolding total
total_more h p i d k = ap (total h) (more p i d k) ∙ total_append h (multiples_of (take i p)) (multiple_of (get_or p i d) ∷ [])
    ∙ (let e : ((get_or p i d).coefficient *ℤ h (get_or p i d).place.0) +ℤ pos 0 ≡ (get_or p i d).coefficient *ℤ h (get_or p i d).place.0 = omega (arith, ints) in ap (λ (z : ℤ). total h (multiples_of (take i p)) +ℤ z) e)
