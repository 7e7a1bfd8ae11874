-- The steps of the loops that make a list normal.
use Rattle.std.proofs.Common.{◌≡◌, ◌∙◌, sym, ap, ap₂, subst, refl, arith, ℕ, suc, ◌+◌, ◌^◌, ◌<◌, ◌≤◌, Bool, true, false, not, ◌||◌, ◌&&◌, inl, inr, nat_eq, nat_lt, int_le, int_lt, List, [], ◌∷◌, ◌++◌, length, map, reverse, take, drop, set, get_or, append_assoc, append-nil, ℤ, pos, ◌≤ℤ◌, unsigned_abs, if◌then◌else◌, SFits, to_z, of_z}
use Rattle.std.proofs.lemmas.List.{drop_more, drop_all, take_all, set_split, map-append, reverse-append, length-append}
use Rattle.std.proofs.lemmas.Int.{ints, to_z-of_z}
use mir.Syntax.{w128}
use borrow.Author.Tests.{eqb-true, eq-eqb}
use Rattle.cc_base.specs.Inequality as plain
use Rattle.cc_base.specs.Inequality.{normal}
use Rattle.cc_base.specs.declared.forms.Multiple.{Multiple}
use Rattle.cc_base.specs.Pass.{int_same, same_terms, lesser, kept, tidy, wide_term, too_wide, some_wide, has_terms, is_false, some_false, with_terms}
use Rattle.linear_solver.specs.declared.inequalities.Inequality.{Inequality}
use Rattle.linear_solver.specs.Seen.{seen, seen_all, with_most}
use Rattle.linear_solver.specs.Ordered.{Safe, SafeAll}
use Rattle.linear_solver.proofs.Integers.{bool_cases}
use Rattle.linear_solver.proofs.Tidied.{same_int, same_tells}
use Rattle.linear_solver.proofs.Loops.{seen_drop, seen_end, seen_push, seen_take}

-- ---- equal terms

le_self : (a : ℤ) → int_le a a ≡ true
le_self a = let h : a ≤ℤ a = omega (arith, ints) in grind (arith, ints)

pub int_same_self : (a : ℤ) → int_same a a ≡ true
unfolding int_same
int_same_self a = ap₂ (λ (x y : Bool). x && y) (le_self a) (le_self a)

bits_same : (a b : ℤ) → SFits w128 a → SFits w128 b → nat_eq (of_z w128 a) (of_z w128 b) ≡ int_same a b
bits_same a b f g = elim (bool_cases (nat_eq (of_z w128 a) (of_z w128 b))) [
  | inl t ↦ let e : a ≡ b = sym (to_z-of_z w128 a f) ∙ ap (to_z w128) (eqb-true (of_z w128 a) (of_z w128 b) t) ∙ to_z-of_z w128 b g in
      t ∙ sym (int_same_self a) ∙ ap (int_same a) e
  | inr t ↦ elim (bool_cases (int_same a b)) [
    | inl s ↦ absurd (let e = eq-eqb (of_z w128 a) (of_z w128 b) (ap (of_z w128) (same_int a b s)) in cc (e, t))
    | inr s ↦ t ∙ sym s
  ]
]

first_only : (x y : Bool) → x ≡ true → y ≡ x && (y && true)
first_only true true h = refl
first_only true false h = refl
first_only false y h = absurd (cc h)

first_fails : (x y : Bool) → x ≡ false → false ≡ x && (y && true)
first_fails true y h = absurd (cc h)
first_fails false y h = refl

pub numbers_same : (t u : Multiple) → t.place ≡ u.place → SFits w128 t.coefficient → SFits w128 u.coefficient → nat_eq (of_z w128 t.coefficient) (of_z w128 u.coefficient) ≡ same_terms (t ∷ []) (u ∷ [])
unfolding same_terms
numbers_same t u e f g = bits_same t.coefficient u.coefficient f g ∙ first_only (nat_eq t.place u.place) (int_same t.coefficient u.coefficient) (eq-eqb t.place u.place e)

pub numbers_differ : (t u : Multiple) → (t.place ≡ u.place → ⊥) → false ≡ same_terms (t ∷ []) (u ∷ [])
unfolding same_terms
numbers_differ t u n = first_fails (nat_eq t.place u.place) (int_same t.coefficient u.coefficient) (elim (bool_cases (nat_eq t.place u.place)) [ inl t' ↦ absurd (n (eqb-true t.place u.place t')) | inr t' ↦ t' ])

three : (x y r : Bool) → x && (y && r) ≡ (x && (y && true)) && r
three true true r = refl
three true false r = refl
three false y r = refl

same_split : (t u : Multiple) (p q : List Multiple) → same_terms (t ∷ p) (u ∷ q) ≡ same_terms (t ∷ []) (u ∷ []) && same_terms p q
unfolding same_terms
same_split t u p q = three (nat_eq t.place u.place) (int_same t.coefficient u.coefficient) (same_terms p q)

same_drop : (p q : List Multiple) (k : ℕ) (d : Multiple) → k < length p → k < length q → same_terms (drop k p) (drop k q) ≡ same_terms (get_or p k d ∷ []) (get_or q k d ∷ []) && same_terms (drop (k + 1) p) (drop (k + 1) q)
same_drop p q k d h i = ap₂ same_terms (drop_more p k d h) (drop_more q k d i) ∙ same_split (get_or p k d) (get_or q k d) (drop (k + 1) p) (drop (k + 1) q)

pub same_next : (p q : List Multiple) (k : ℕ) (d : Multiple) (w : Bool) → k < length p → k < length q → true ≡ same_terms (get_or p k d ∷ []) (get_or q k d ∷ []) → same_terms (drop k p) (drop k q) ≡ w → same_terms (drop (k + 1) p) (drop (k + 1) q) ≡ w
same_next p q k d w h i e f = ap (λ (b : Bool). b && same_terms (drop (k + 1) p) (drop (k + 1) q)) e ∙ sym (same_drop p q k d h i) ∙ f

pub same_fails : (p q : List Multiple) (k : ℕ) (d : Multiple) (w : Bool) → k < length p → k < length q → false ≡ same_terms (get_or p k d ∷ []) (get_or q k d ∷ []) → same_terms (drop k p) (drop k q) ≡ w → false ≡ w
same_fails p q k d w h i e f = ap (λ (b : Bool). b && same_terms (drop (k + 1) p) (drop (k + 1) q)) e ∙ sym (same_drop p q k d h i) ∙ f

pub same_ends : (p q : List Multiple) (k : ℕ) (w : Bool) → length p ≤ k → length p ≡ length q → same_terms (drop k p) (drop k q) ≡ w → true ≡ w
unfolding same_terms
same_ends p q k w h e f = sym (ap₂ same_terms (drop_all k p h) (drop_all k q (omega (arith, e, h)))) ∙ f

pub lengths_differ : (p q : List Multiple) → (length p ≡ length q → ⊥) → false ≡ same_terms p q
lengths_differ p q n = elim (bool_cases (same_terms p q)) [ inl t ↦ absurd (n (ap length (same_tells p q t))) | inr t ↦ sym t ]

-- ---- the lesser bound

pub lesser_first : (a b : ℤ) → a ≤ℤ b → a ≡ lesser a b
unfolding lesser
lesser_first a b h = let t : int_le a b ≡ true = grind (arith, ints) in sym (ap (λ (c : Bool). if c then a else b) t)

pub lesser_second : (a b : ℤ) → b ≤ℤ a → b ≡ lesser a b
unfolding lesser
lesser_second a b h = elim (bool_cases (int_le a b)) [
  | inl t ↦ (let k : a ≤ℤ b = grind (arith, ints) in let e : b ≡ a = omega (arith, ints, h, k) in e) ∙ sym (ap (λ (c : Bool). if c then a else b) t)
  | inr t ↦ sym (ap (λ (c : Bool). if c then a else b) t)
]

pub most_is : (i : plain.Inequality) (m k : ℤ) → m ≡ k → (let r : plain.Inequality = record { terms = i.terms; most = m } in r) ≡ with_most k i
unfolding with_most
most_is i m k e = ap (λ (z : ℤ). let r : plain.Inequality = record { terms = i.terms; most = z } in r) e

-- ---- keeping

kept_same : (i j : plain.Inequality) (l : List plain.Inequality) → same_terms i.terms j.terms ≡ true → kept i (j ∷ l) ≡ with_most (lesser i.most j.most) j ∷ l
unfolding kept with_most
kept_same i j l e = ap (λ (b : Bool). if b then record { terms = j.terms; most = lesser i.most j.most } ∷ l else j ∷ kept i l) e

pub kept_other : (i j : plain.Inequality) (l : List plain.Inequality) → same_terms i.terms j.terms ≡ false → kept i (j ∷ l) ≡ j ∷ kept i l
unfolding kept
kept_other i j l e = ap (λ (b : Bool). if b then record { terms = j.terms; most = lesser i.most j.most } ∷ l else j ∷ kept i l) e

pub kept_here : (i : plain.Inequality) (l : List Inequality) (k : ℕ) (x new : Inequality) (w : List plain.Inequality) → k < length l → x ≡ get_or l k x → same_terms i.terms x.terms.items ≡ true → seen new ≡ with_most (lesser i.most x.most) (seen x) →
    seen_all (take k l) ++ kept i (seen_all (drop k l)) ≡ w → seen_all (set l k new) ≡ w
unfolding seen_all
kept_here i l k x new w h e s n f =
    ap (map seen) (set_split l k new h) ∙ map-append seen (take k l) (new ∷ drop (suc k) l)
    ∙ ap₂ (λ (y : plain.Inequality) (m : List Inequality). seen_all (take k l) ++ (y ∷ seen_all m)) n (let s : suc k ≡ k + 1 = omega arith in ap (λ (j : ℕ). drop j l) s)
    ∙ sym (ap (λ (m : List plain.Inequality). seen_all (take k l) ++ m) (ap (kept i) (seen_drop l k x h e) ∙ kept_same i (seen x) (seen_all (drop (k + 1) l)) s)) ∙ f

pub kept_on : (i : plain.Inequality) (l : List Inequality) (k : ℕ) (x : Inequality) (w : List plain.Inequality) → k < length l → x ≡ get_or l k x → same_terms i.terms x.terms.items ≡ false →
    seen_all (take k l) ++ kept i (seen_all (drop k l)) ≡ w → seen_all (take (k + 1) l) ++ kept i (seen_all (drop (k + 1) l)) ≡ w
kept_on i l k x w h e s f =
    ap (λ (m : List plain.Inequality). m ++ kept i (seen_all (drop (k + 1) l))) (seen_take l (k + 1) k x refl h e)
    ∙ append_assoc (seen_all (take k l)) (seen x ∷ []) (kept i (seen_all (drop (k + 1) l)))
    ∙ sym (ap (λ (m : List plain.Inequality). seen_all (take k l) ++ m) (ap (kept i) (seen_drop l k x h e) ∙ kept_other i (seen x) (seen_all (drop (k + 1) l)) s)) ∙ f

pub kept_end : (i : Inequality) (l m : List Inequality) (k : ℕ) (w : List plain.Inequality) → length l ≤ k → m ≡ l ++ (i ∷ []) → seen_all (take k l) ++ kept (seen i) (seen_all (drop k l)) ≡ w → seen_all m ≡ w
unfolding kept
kept_end i l m k w h e f = ap seen_all e ∙ seen_push l i
    ∙ sym (ap₂ (λ (p q : List plain.Inequality). p ++ kept (seen i) q) (ap seen_all (take_all k l h)) (seen_end l k h)) ∙ f

-- ---- a list made normal from its end

unfoldable pub tidy_on : List plain.Inequality → List plain.Inequality → List plain.Inequality
tidy_on [] acc = acc
tidy_on (i ∷ l) acc = kept (normal i) (tidy_on l acc)

tidy_on_none : (l : List plain.Inequality) → tidy_on l [] ≡ tidy l
unfolding tidy_on tidy
tidy_on_none [] = refl
tidy_on_none (i ∷ l) = ap (kept (normal i)) (tidy_on_none l)

tidy_on_more : (l : List plain.Inequality) (i : plain.Inequality) (acc : List plain.Inequality) → tidy_on (l ++ (i ∷ [])) acc ≡ tidy_on l (kept (normal i) acc)
unfolding tidy_on
tidy_on_more [] i acc = refl
tidy_on_more (j ∷ l) i acc = ap (kept (normal j)) (tidy_on_more l i acc)

pub tidy_start : (l : List plain.Inequality) (o : List Inequality) → o ≡ [] → tidy_on l (seen_all o) ≡ tidy l
unfolding seen_all
tidy_start l o e = ap (λ (m : List Inequality). tidy_on l (map seen m)) e ∙ tidy_on_none l

pub tidy_step : (r s : List Inequality) (x n : Inequality) (o u : List Inequality) (w : List plain.Inequality) → r ≡ s ++ (x ∷ []) → seen n ≡ normal (seen x) → seen_all u ≡ kept (seen n) (seen_all o) → tidy_on (seen_all r) (seen_all o) ≡ w → tidy_on (seen_all s) (seen_all u) ≡ w
tidy_step r s x n o u w e f g h =
    ap (tidy_on (seen_all s)) (g ∙ ap (λ (i : plain.Inequality). kept i (seen_all o)) f)
    ∙ sym (ap (λ (m : List plain.Inequality). tidy_on m (seen_all o)) (ap seen_all e ∙ seen_push s x) ∙ tidy_on_more (seen_all s) (seen x) (seen_all o)) ∙ h

pub tidy_end : (r o : List Inequality) (w : List plain.Inequality) → r ≡ [] → tidy_on (seen_all r) (seen_all o) ≡ w → seen_all o ≡ w
unfolding seen_all tidy_on
tidy_end r o w e h = sym (ap (λ (m : List Inequality). tidy_on (map seen m) (seen_all o)) e) ∙ h

pub safe_front : (r s : List Inequality) (x : Inequality) → r ≡ s ++ (x ∷ []) → SafeAll (seen_all r) → SafeAll (seen_all s) × Safe (seen x)
unfolding seen_all
safe_front r s x e h = split s (subst (λ (m : List Inequality). SafeAll (map seen m)) e h)
  where
    split : (s : List Inequality) → SafeAll (map seen (s ++ (x ∷ []))) → SafeAll (map seen s) × Safe (seen x)
    split [] h = (tt, h.0)
    split (i ∷ s) h = let r = split s h.1 in ((h.0, r.0), r.1)

pub shorter : (r s : List Inequality) (x : Inequality) → r ≡ s ++ (x ∷ []) → length s < length r
shorter r s x e = omega (arith, ap length e, length-append s (x ∷ []))

-- ---- too wide

or_yes : (a b w : Bool) → a ≡ true → a || b ≡ w → true ≡ w
or_yes true b w h e = e
or_yes false b w h e = absurd (cc h)

or_on : (a b w : Bool) → a ≡ false → a || b ≡ w → b ≡ w
or_on true b w h e = absurd (cc h)
or_on false b w h e = e

lt_true : (a b : ℕ) → a < b → nat_lt a b ≡ true
lt_true a b h = grind arith

lt_false : (a b : ℕ) → b ≤ a → nat_lt a b ≡ false
lt_false a b h = grind arith

pub wide_here : (l : List Multiple) (k n : ℕ) (d : Multiple) (w : Bool) → k < length l → n ≡ unsigned_abs (get_or l k d).coefficient → 2 ^ 44 < n → wide_term (drop k l) ≡ w → true ≡ w
unfolding wide_term
wide_here l k n d w h e i f = or_yes (nat_lt (2 ^ 44) (unsigned_abs (get_or l k d).coefficient)) (wide_term (drop (k + 1) l)) w (ap (nat_lt (2 ^ 44)) (sym e) ∙ lt_true (2 ^ 44) n i) (sym (ap wide_term (drop_more l k d h)) ∙ f)

pub wide_on : (l : List Multiple) (k n : ℕ) (d : Multiple) (w : Bool) → k < length l → n ≡ unsigned_abs (get_or l k d).coefficient → n ≤ 2 ^ 44 → wide_term (drop k l) ≡ w → wide_term (drop (k + 1) l) ≡ w
unfolding wide_term
wide_on l k n d w h e i f = or_on (nat_lt (2 ^ 44) (unsigned_abs (get_or l k d).coefficient)) (wide_term (drop (k + 1) l)) w (ap (nat_lt (2 ^ 44)) (sym e) ∙ lt_false (2 ^ 44) n i) (sym (ap wide_term (drop_more l k d h)) ∙ f)

pub wide_end : (l : List Multiple) (k : ℕ) (w : Bool) → length l ≤ k → wide_term (drop k l) ≡ w → false ≡ w
unfolding wide_term
wide_end l k w h f = sym (ap wide_term (drop_all k l h)) ∙ f

pub wide_terms : (i : plain.Inequality) → wide_term i.terms ≡ true → true ≡ too_wide i
unfolding too_wide
wide_terms i e = or_yes (wide_term i.terms) (nat_lt (2 ^ 80) (unsigned_abs i.most)) (too_wide i) e refl

pub wide_most : (i : plain.Inequality) (n : ℕ) → wide_term i.terms ≡ false → n ≡ unsigned_abs i.most → nat_lt (2 ^ 80) n ≡ too_wide i
unfolding too_wide
wide_most i n e f = ap (nat_lt (2 ^ 80)) f ∙ or_on (wide_term i.terms) (nat_lt (2 ^ 80) (unsigned_abs i.most)) (too_wide i) e refl

pub some_wide_here : (l : List Inequality) (k : ℕ) (x : Inequality) (w : Bool) → k < length l → x ≡ get_or l k x → too_wide (seen x) ≡ true → some_wide (seen_all (drop k l)) ≡ w → true ≡ w
unfolding some_wide
some_wide_here l k x w h e i f = or_yes (too_wide (seen x)) (some_wide (seen_all (drop (k + 1) l))) w i (sym (ap some_wide (seen_drop l k x h e)) ∙ f)

pub some_wide_on : (l : List Inequality) (k : ℕ) (x : Inequality) (w : Bool) → k < length l → x ≡ get_or l k x → too_wide (seen x) ≡ false → some_wide (seen_all (drop k l)) ≡ w → some_wide (seen_all (drop (k + 1) l)) ≡ w
unfolding some_wide
some_wide_on l k x w h e i f = or_on (too_wide (seen x)) (some_wide (seen_all (drop (k + 1) l))) w i (sym (ap some_wide (seen_drop l k x h e)) ∙ f)

pub some_wide_end : (l : List Inequality) (k : ℕ) (w : Bool) → length l ≤ k → some_wide (seen_all (drop k l)) ≡ w → false ≡ w
unfolding some_wide
some_wide_end l k w h f = sym (ap some_wide (seen_end l k h)) ∙ f

-- ---- false ones

pub some_false_here : (l : List Inequality) (k : ℕ) (x : Inequality) (w : Bool) → k < length l → x ≡ get_or l k x → is_false (seen x) ≡ true → some_false (seen_all (drop k l)) ≡ w → true ≡ w
unfolding some_false
some_false_here l k x w h e i f = or_yes (is_false (seen x)) (some_false (seen_all (drop (k + 1) l))) w i (sym (ap some_false (seen_drop l k x h e)) ∙ f)

pub some_false_on : (l : List Inequality) (k : ℕ) (x : Inequality) (w : Bool) → k < length l → x ≡ get_or l k x → is_false (seen x) ≡ false → some_false (seen_all (drop k l)) ≡ w → some_false (seen_all (drop (k + 1) l)) ≡ w
unfolding some_false
some_false_on l k x w h e i f = or_on (is_false (seen x)) (some_false (seen_all (drop (k + 1) l))) w i (sym (ap some_false (seen_drop l k x h e)) ∙ f)

pub some_false_end : (l : List Inequality) (k : ℕ) (w : Bool) → length l ≤ k → some_false (seen_all (drop k l)) ≡ w → false ≡ w
unfolding some_false
some_false_end l k w h f = sym (ap some_false (seen_end l k h)) ∙ f

not_not : (b : Bool) → b ≡ true → not (not b) ≡ true
not_not true h = refl
not_not false h = absurd (cc h)

not_not_no : (b : Bool) → b ≡ false → not (not b) ≡ false
not_not_no true h = absurd (cc h)
not_not_no false h = refl

pub false_none : (i : plain.Inequality) (b : Bool) → length i.terms ≡ 0 → b ≡ int_lt i.most (pos 0) → b ≡ is_false i
unfolding is_false has_terms
false_none i b h e = e ∙ sym (ap (λ (c : Bool). c && int_lt i.most (pos 0)) (not_not (nat_eq (length i.terms) 0) (eq-eqb (length i.terms) 0 h)))

pub false_some : (i : plain.Inequality) → (length i.terms ≡ 0 → ⊥) → false ≡ is_false i
unfolding is_false has_terms
false_some i n = sym (ap (λ (c : Bool). c && int_lt i.most (pos 0)) (not_not_no (nat_eq (length i.terms) 0) (elim (bool_cases (nat_eq (length i.terms) 0)) [ inl t ↦ absurd (n (eqb-true (length i.terms) 0 t)) | inr t ↦ t ])))

-- ---- those with terms

with_append : (l : List plain.Inequality) (i : plain.Inequality) → with_terms (l ++ (i ∷ [])) ≡ with_terms l ++ (if has_terms i then i ∷ [] else [])
unfolding with_terms
with_append [] i = refl
with_append (j ∷ l) i = elim (bool_cases (has_terms j)) [
  | inl t ↦ ap (λ (b : Bool). if b then j ∷ with_terms (l ++ (i ∷ [])) else with_terms (l ++ (i ∷ []))) t ∙ ap (λ (m : List plain.Inequality). j ∷ m) (with_append l i)
      ∙ sym (ap (λ (b : Bool). (if b then j ∷ with_terms l else with_terms l) ++ (if has_terms i then i ∷ [] else [])) t)
  | inr t ↦ ap (λ (b : Bool). if b then j ∷ with_terms (l ++ (i ∷ [])) else with_terms (l ++ (i ∷ []))) t ∙ with_append l i
      ∙ sym (ap (λ (b : Bool). (if b then j ∷ with_terms l else with_terms l) ++ (if has_terms i then i ∷ [] else [])) t)
]

has_some : (i : plain.Inequality) → (length i.terms ≡ 0 → ⊥) → has_terms i ≡ true
unfolding has_terms
has_some i n = elim (bool_cases (nat_eq (length i.terms) 0)) [ inl t ↦ absurd (n (eqb-true (length i.terms) 0 t)) | inr t ↦ ap not t ]

has_none : (i : plain.Inequality) → length i.terms ≡ 0 → has_terms i ≡ false
unfolding has_terms
has_none i e = ap not (eq-eqb (length i.terms) 0 e)

pub with_start : (l o : List Inequality) → o ≡ [] → with_terms (seen_all l) ++ reverse (seen_all o) ≡ with_terms (seen_all l)
unfolding seen_all
with_start l o e = ap (λ (m : List Inequality). with_terms (seen_all l) ++ reverse (map seen m)) e ∙ append-nil (with_terms (seen_all l))

pub with_drop : (r s : List Inequality) (x : Inequality) (o w : List plain.Inequality) → r ≡ s ++ (x ∷ []) → length x.terms.items ≡ 0 → with_terms (seen_all r) ++ o ≡ w → with_terms (seen_all s) ++ o ≡ w
with_drop r s x o w e h f =
    let g : with_terms (seen_all r) ≡ with_terms (seen_all s) = ap with_terms (ap seen_all e ∙ seen_push s x) ∙ with_append (seen_all s) (seen x)
    ∙ ap (λ (b : Bool). with_terms (seen_all s) ++ (if b then seen x ∷ [] else [])) (has_none (seen x) h) ∙ append-nil (with_terms (seen_all s)) in
    ap (λ (m : List plain.Inequality). m ++ o) (sym g) ∙ f

pub with_keep : (r s : List Inequality) (x : Inequality) (o u : List Inequality) (w : List plain.Inequality) → r ≡ s ++ (x ∷ []) → (length x.terms.items ≡ 0 → ⊥) → u ≡ o ++ (x ∷ []) →
    with_terms (seen_all r) ++ reverse (seen_all o) ≡ w → with_terms (seen_all s) ++ reverse (seen_all u) ≡ w
with_keep r s x o u w e n p f =
    let g : with_terms (seen_all r) ≡ with_terms (seen_all s) ++ (seen x ∷ []) = ap with_terms (ap seen_all e ∙ seen_push s x) ∙ with_append (seen_all s) (seen x)
    ∙ ap (λ (b : Bool). with_terms (seen_all s) ++ (if b then seen x ∷ [] else [])) (has_some (seen x) n) in
    let h : reverse (seen_all u) ≡ (seen x ∷ []) ++ reverse (seen_all o) = ap (λ (m : List Inequality). reverse (seen_all m)) p ∙ ap reverse (seen_push o x) ∙ reverse-append (seen_all o) (seen x ∷ []) in
    ap (λ (m : List plain.Inequality). with_terms (seen_all s) ++ m) h ∙ sym (append_assoc (with_terms (seen_all s)) (seen x ∷ []) (reverse (seen_all o)))
    ∙ ap (λ (m : List plain.Inequality). m ++ reverse (seen_all o)) (sym g) ∙ f

reverse_map : (l : List Inequality) → map seen (reverse l) ≡ reverse (map seen l)
reverse_map [] = refl
reverse_map (i ∷ l) = ap (map seen) (reverse-append (i ∷ []) l) ∙ map-append seen (reverse l) (i ∷ []) ∙ ap (λ (m : List plain.Inequality). m ++ (seen i ∷ [])) (reverse_map l) ∙ sym (reverse-append (seen i ∷ []) (map seen l))

pub with_end : (r o v : List Inequality) (w : List plain.Inequality) → r ≡ [] → v ≡ reverse o → with_terms (seen_all r) ++ reverse (seen_all o) ≡ w → seen_all v ≡ w
unfolding seen_all with_terms
with_end r o v w e f g = ap (map seen) f ∙ reverse_map o ∙ sym (ap (λ (m : List Inequality). with_terms (map seen m) ++ reverse (map seen o)) e) ∙ g
