-- Who meets a condition refutes that it has no input.
use Rattle.std.proofs.Common.{◌≡◌, ℕ, ℤ, pos, ◌+ℤ◌, ◌*ℤ◌, ◌≤ℤ◌, Bool, true, false, ◌⊎◌, inl, inr, List, [], ◌∷◌, ◌++◌, length, Option, refl, sym, ap, ◌∙◌, subst, nat_eq, if◌then◌else◌}
use Rattle.cc_base.specs.Classes.{Forced, stated, itself, turned, along}
use Rattle.cc_base.specs.declared.forms.Multiple.{Multiple}
use Rattle.cc_base.specs.Forms.{Form, Side, Atom, at_most_zero, is_zero, not_zero, same, differ}
use Rattle.cc_base.specs.Groups.{form_of, put, put_all, contains, named, places_in, shares, parts, atoms_on, placeless, groups_of, groups, HoldAll, Between}
use Rattle.cc_base.specs.Groups as grouped
use Rattle.cc_base.specs.Inequality as inequality
use Rattle.cc_base.specs.Holds.{total, value_of_form, value_of_side, or_zero, Compares, Holds, Meets}
use Rattle.cc_base.specs.Paths.{In}
use Rattle.cc_base.specs.Slice.{slice_of}
use Rattle.cc_base.specs.Solve.{SomeRefuted}
use Rattle.cc_model.specs.Answers.{HasNoInput}
use Rattle.flip_solve.proofs.Members.{got_in, in_left, in_right, in_either}

-- ---- values

pub total_same : (v : ℕ → ℤ) (l : List Multiple) → inequality.total v l ≡ total v l
unfolding total inequality.total
total_same v [] = refl
total_same v (t ∷ l) = ap (λ (z : ℤ). (t.coefficient *ℤ v t.place) +ℤ z) (total_same v l)

pub value_same : (v : ℕ → ℤ) (g : Form) → grouped.value v g ≡ value_of_form v g
unfolding value_of_form grouped.value
value_same v g = ap (λ (z : ℤ). g.constant +ℤ z) (total_same v g.terms)

atom_holds : (v : ℕ → ℤ) (a : Atom) → Compares v a → grouped.Holds v a
atom_holds v (at_most_zero g) h = subst (λ (z : ℤ). z ≤ℤ pos 0) (sym (value_same v g)) h
atom_holds v (is_zero g) h = value_same v g ∙ h
atom_holds v (not_zero g) h = λ e. h (sym (value_same v g) ∙ e)
atom_holds v (same a b) h = tt
atom_holds v (differ a b) h = tt

-- ---- members

-- each one of the first list is in the second
abbrev pub Inside : List Atom → List Atom → Type 0
Inside l m = (a : Atom) → In a l → In a m

kept_here : (b : Bool) (x a : Atom) (k l : List Atom) → Inside k l → In a (if b then x ∷ k else k) → In a (x ∷ l)
kept_here true x a k l h (inl e) = inl e
kept_here true x a k l h (inr j) = inr (h a j)
kept_here false x a k l h j = inr (h a j)

on_inside : (c : List ℕ) (l : List Atom) → Inside (atoms_on c l) l
unfolding atoms_on
on_inside c [] a i = i
on_inside c (x ∷ l) a i = kept_here (shares (named (form_of x).terms) c) x a (atoms_on c l) l (on_inside c l) i

slice_inside : (condition alternative : List Atom) → Inside (slice_of condition alternative) (condition ++ alternative)
unfolding slice_of
slice_inside c d a i = elim (in_either a _ d i) [
  | inl j ↦ in_left a c d (on_inside _ c a j)
  | inr j ↦ in_right a c d j
]

abbrev All_inside : List (List Atom) → List Atom → Type 0
All_inside gs l = (g : List Atom) → In g gs → Inside g l

skipped : (b : Bool) (x : List Atom) (gs : List (List Atom)) (l : List Atom) → Inside x l → All_inside gs l → All_inside (if b then gs else x ∷ gs) l
skipped true x gs l h k g j = k g j
skipped false x gs l h k g (inl e) = λ a i. h a (subst (In a) e i)
skipped false x gs l h k g (inr j) = k g j

groups_of_inside : (cs : List (List ℕ)) (l : List Atom) → All_inside (groups_of cs l) l
unfolding groups_of
groups_of_inside [] l g i = absurd i
groups_of_inside (c ∷ cs) l g i = skipped (nat_eq (length c) 0) (atoms_on c l) (groups_of cs l) l (on_inside c l) (groups_of_inside cs l) g i

added : (b : Bool) (x : Atom) (gs : List (List Atom)) (l : List Atom) → All_inside gs l → All_inside (if b then (x ∷ []) ∷ gs else gs) (x ∷ l)
added true x gs l k g (inl e) = λ a i. in_left a (x ∷ []) l (subst (In a) e i)
added true x gs l k g (inr j) = λ a i. inr (k g j a i)
added false x gs l k g j = λ a i. inr (k g j a i)

placeless_inside : (l : List Atom) → All_inside (placeless l) l
unfolding placeless
placeless_inside [] g i = absurd i
placeless_inside (x ∷ l) g i = added (nat_eq (length (form_of x).terms) 0) x (placeless l) l (placeless_inside l) g i

group_inside : (l g : List Atom) → In g (groups l) → Inside g l
unfolding groups
group_inside l g i = elim (in_either g _ (placeless l) i) [
  | inl j ↦ groups_of_inside (parts l) l g j
  | inr j ↦ placeless_inside l g j
]

-- ---- places

pub put_in : (x y : ℕ) (l : List ℕ) → In y (put x l) → (y ≡ x) ⊎ In y l
unfolding put
put_in x y l i = kept (contains l x) i
  where
    kept : (b : Bool) → In y (if b then l else x ∷ l) → (y ≡ x) ⊎ In y l
    kept true j = inr j
    kept false j = j

put_all_in : (p : List ℕ) (y : ℕ) (l : List ℕ) → In y (put_all p l) → In y p ⊎ In y l
unfolding put_all
put_all_in [] y l i = inr i
put_all_in (x ∷ p) y l i = elim (put_in x y (put_all p l) i) [
  | inl e ↦ inl (inl e)
  | inr j ↦ elim (put_all_in p y l j) [ inl k ↦ inl (inr k) | inr k ↦ inr k ]
]

-- the places of the integer form of an atom
abbrev pub places_asked : Atom → List ℕ
places_asked a = named (form_of a).terms

places_of : (l : List Atom) (y : ℕ) → In y (places_in l) → (a : Atom) × In a l × In y (places_asked a)
unfolding places_in
places_of [] y i = absurd i
places_of (a ∷ l) y i = elim (put_all_in (named (form_of a).terms) y (places_in l) i) [
  | inl j ↦ (a, inl refl, j)
  | inr j ↦ let r = places_of l y j in (r.0, inr r.1, r.2)
]

between_all : (lo hi : ℤ) (v : ℕ → ℤ) (l : List ℕ) → ((y : ℕ) → In y l → (lo ≤ℤ v y) × (v y ≤ℤ hi)) → Between lo hi v l
between_all lo hi v [] h = tt
between_all lo hi v (x ∷ l) h = let r = h x (inl refl) in (r.0, r.1, between_all lo hi v l (λ y i. h y (inr i)))

-- ---- conditions

pub meets_in : (f : ℕ → Option ℤ) (l : List Atom) → Meets f l → (a : Atom) → In a l → Holds f a
meets_in f [] m a i = absurd i
meets_in f (x ∷ l) m a (inl e) = subst (Holds f) (sym e) m.0
meets_in f (x ∷ l) m a (inr i) = meets_in f l m.1 a i

hold_all : (f : ℕ → Option ℤ) (l g : List Atom) → Meets f l → Inside g l → HoldAll (or_zero f) g
hold_all f l [] m h = tt
hold_all f l (a ∷ g) m h = (atom_holds (or_zero f) a (meets_in f l m a (h a (inl refl))).compares, hold_all f l g m (λ b i. h b (inr i)))

forced_same : (f : ℕ → Option ℤ) (l : List Atom) → Meets f l → (a b : Side) → Forced l a b → value_of_side (or_zero f) a ≡ value_of_side (or_zero f) b
forced_same f l m _ _ (stated k a b e) = (meets_in f l m (same a b) (got_in l k (same a b) e)).compares
forced_same f l m _ _ (itself a) = refl
forced_same f l m _ _ (turned a b d) = sym (forced_same f l m a b d)
forced_same f l m _ _ (along a b c d e) = forced_same f l m a b d ∙ forced_same f l m b c e

module _ (lo hi : ℤ) where
  -- the integers of which the atoms speak are within lo..hi
  abbrev pub InRange : (ℕ → Option ℤ) → List Atom → Type 0
  InRange f l = (a : Atom) → In a l → (p : ℕ) → In p (places_asked a) → (lo ≤ℤ or_zero f p) × (or_zero f p ≤ℤ hi)

module _ (lo hi : ℤ) (budget : ℕ) where
  none_refuted : (f : ℕ → Option ℤ) (l : List Atom) → Meets f l → InRange lo hi f l → (gs : List (List Atom)) → ((g : List Atom) → In g gs → Inside g l) → SomeRefuted lo hi budget gs → ⊥
  none_refuted f l m r [] h s = s
  none_refuted f l m r (g ∷ gs) h (inr s) = none_refuted f l m r gs (λ k i. h k (inr i)) s
  none_refuted f l m r (g ∷ gs) h (inl s) =
      let inside = h g (inl refl) in
      s.none (or_zero f, between_all lo hi (or_zero f) (places_in g) (λ y i. let w = places_of g y i in r w.0 (inside w.0 w.1) y w.2), hold_all f l g m inside)

  -- values that meet the atoms taken before and those of the alternative
  pub some_input : (f : ℕ → Option ℤ) (c d : List Atom) → Meets f (c ++ d) → InRange lo hi f (c ++ d) → HasNoInput lo hi budget c d → ⊥
  some_input f c d m r (inl (k, (a, b, e, forced))) = (meets_in f (c ++ d) m (differ a b) (got_in (c ++ d) k (differ a b) e)).compares (forced_same f (c ++ d) m a b forced)
  some_input f c d m r (inr s) = none_refuted f (c ++ d) m r (groups (slice_of c d)) (λ g i a j. slice_inside c d a (group_inside (slice_of c d) g i a j)) s
