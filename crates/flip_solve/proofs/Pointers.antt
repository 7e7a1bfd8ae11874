-- The pointer atoms of a list force what the list forces.
use Rattle.std.proofs.Common.{◌≡◌, ℕ, zero, suc, ◌⊎◌, inl, inr, List, [], ◌∷◌, ◌++◌, Option, Some, None, option_map, refl, sym, ap, ◌∙◌, subst, append_assoc, slice_get}
use native.Mathlib.Decide.{ℕ_discrete}
use Rattle.cc_base.specs.declared.cells.CellTy.{CellTy}
use Rattle.cc_base.specs.Classes.{Forced, stated, itself, turned, along, HasSide, Mentions, Contradicts, AreClasses}
use Rattle.cc_base.specs.Forms.{Side, nothing, at, Atom, at_most_zero, is_zero, not_zero, same, differ}
use Rattle.cc_base.specs.Paths.{In}
use Rattle.cc_base.specs.Places.{Placed}
use Rattle.sym_run.specs.Placing.{NamesSide, OfOneType}
use Rattle.flip_solve.specs.Choosing.{pointer_part, pointers_of}
use Rattle.flip_solve.proofs.Members.{in_left, in_right, in_either, got_in, in_got}

pub part_in : (x a : Atom) → In a (pointer_part x) → a ≡ x
part_in (same p q) a (inl e) = e
part_in (same p q) a (inr i) = absurd i
part_in (differ p q) a (inl e) = e
part_in (differ p q) a (inr i) = absurd i
part_in (at_most_zero g) a i = absurd i
part_in (is_zero g) a i = absurd i
part_in (not_zero g) a i = absurd i

pub only_those : (l : List Atom) (a : Atom) → In a (pointers_of l) → In a l
unfolding pointers_of
only_those [] a i = absurd i
only_those (x ∷ l) a i = elim (in_either a (pointer_part x) (pointers_of l) i) [ inl j ↦ inl (part_in x a j) | inr j ↦ inr (only_those l a j) ]

pub kept : (l : List Atom) (a : Atom) → In a (pointer_part a) → In a l → In a (pointers_of l)
unfolding pointers_of
kept [] a p i = absurd i
kept (x ∷ l) a p (inl e) = in_left a (pointer_part x) (pointers_of l) (subst (λ y. In a (pointer_part y)) e p)
kept (x ∷ l) a p (inr i) = in_right a (pointer_part x) (pointers_of l) (kept l a p i)

pub pointers_append : (l m : List Atom) → pointers_of (l ++ m) ≡ pointers_of l ++ pointers_of m
unfolding pointers_of
pointers_append [] m = refl
pointers_append (x ∷ l) m = ap (λ k. pointer_part x ++ k) (pointers_append l m) ∙ sym (append_assoc (pointer_part x) (pointers_of l) (pointers_of m))

forced_in : (l m : List Atom) → ((a b : Side) → In (same a b) l → In (same a b) m) → (x y : Side) → Forced l x y → Forced m x y
forced_in l m h _ _ (stated k a b e) = let g = in_got m (same a b) (h a b (got_in l k (same a b) e)) in stated g.0 a b g.1
forced_in l m h _ _ (itself a) = itself a
forced_in l m h _ _ (turned a b d) = turned a b (forced_in l m h a b d)
forced_in l m h _ _ (along a b c d e) = along a b c (forced_in l m h a b d) (forced_in l m h b c e)

pub forced_wide : (l : List Atom) (x y : Side) → Forced (pointers_of l) x y → Forced l x y
forced_wide l = forced_in (pointers_of l) l (λ a b i. only_those l (same a b) i)

pub forced_narrow : (l : List Atom) (x y : Side) → Forced l x y → Forced (pointers_of l) x y
forced_narrow l = forced_in l (pointers_of l) (λ a b i. kept l (same a b) (inl refl) i)

side_part : (a : Atom) (p : ℕ) → HasSide (at p) a → In a (pointer_part a)
side_part (same a b) p s = inl refl
side_part (differ a b) p s = inl refl
side_part (at_most_zero g) p s = absurd s
side_part (is_zero g) p s = absurd s
side_part (not_zero g) p s = absurd s

mention_narrow : (l : List Atom) (p : ℕ) → Mentions l p → Mentions (pointers_of l) p
mention_narrow l p w = let g = in_got (pointers_of l) w.1 (kept l w.1 (side_part w.1 p w.3) (got_in l w.0 w.1 w.2)) in (g.0, w.1, g.1, w.3)

mention_wide : (l : List Atom) (p : ℕ) → Mentions (pointers_of l) p → Mentions l p
mention_wide l p w = let g = in_got l w.1 (only_those l w.1 (got_in (pointers_of l) w.0 w.1 w.2)) in (g.0, w.1, g.1, w.3)

pub contradicts_wide : (l : List Atom) (k : ℕ) → Contradicts (pointers_of l) k → (j : ℕ) × Contradicts l j
contradicts_wide l k w =
    let g = in_got l (differ w.0 w.1) (only_those l (differ w.0 w.1) (got_in (pointers_of l) k (differ w.0 w.1) w.2)) in
    (g.0, (w.0, w.1, g.1, forced_wide l w.0 w.1 w.3))

contradicts_narrow : (l : List Atom) (k : ℕ) → Contradicts l k → (j : ℕ) × Contradicts (pointers_of l) j
contradicts_narrow l k w =
    let g = in_got (pointers_of l) (differ w.0 w.1) (kept l (differ w.0 w.1) (inl refl) (got_in l k (differ w.0 w.1) w.2)) in
    (g.0, (w.0, w.1, g.1, forced_narrow l w.0 w.1 w.3))

-- the classes of a list's pointer atoms are its own
pub whole_classes : (l : List Atom) (n : ℕ) (classes : List ℕ) → AreClasses (pointers_of l) n classes → AreClasses l n classes
whole_classes l n classes h = record {
  each = h.each;
  together = λ p q c d mp mq ep eq.
      let r = h.together p q c d (mention_narrow l p mp) (mention_narrow l q mq) ep eq in
      ((λ e. forced_wide l (at p) (at q) (r.0 e)), (λ f. r.1 (forced_narrow l (at p) (at q) f)));
  null = λ p c e. let r = h.null p c e in (
    (λ z. elim (r.0 z) [ inl f ↦ inl (forced_wide l (at p) nothing f) | inr m ↦ inr (λ w. m (mention_narrow l p w)) ]),
    (λ f. r.1 (elim f [ inl g ↦ inl (forced_narrow l (at p) nothing g) | inr m ↦ inr (λ w. m (mention_wide l p w)) ])),
  );
  apart = λ k w. let r = contradicts_narrow l k w in h.apart r.0 r.1;
}

-- ---- types

module _ (all : List Placed) where
  abbrev pub holds_at : Side → Option CellTy
  holds_at nothing = None
  holds_at (at p) = option_map (λ e. e.holds) (slice_get all p)

  -- both are forced to be NULL, or they hold one type
  abbrev pub OneType : List Atom → Side → Side → Type 0
  OneType l x y = (Forced l x nothing × Forced l y nothing) ⊎ (holds_at x ≡ holds_at y)

  stated_type : (l : List Atom) (k : ℕ) (a b : Side) → slice_get l k ≡ Some (same a b) → NamesSide all a → NamesSide all b → OfOneType all a b → OneType l a b
  stated_type l k nothing b e m n t = inl (itself nothing, turned nothing b (stated k nothing b e))
  stated_type l k (at p) nothing e m n t = inl (stated k (at p) nothing e, itself nothing)
  stated_type l k (at p) (at q) e m n t = inr (ap (option_map (λ e. e.holds)) m.2 ∙ ap Some (t _ _ m.2 n.2) ∙ sym (ap (option_map (λ e. e.holds)) n.2))

  joined : (l : List Atom) (a b c : Side) → Forced l a b → Forced l b c → OneType l a b → OneType l b c → OneType l a c
  joined l a b c d e (inl r) s = inl (r.0, along c b nothing (turned b c e) r.1)
  joined l a b c d e (inr r) (inl s) = inl (along a b nothing d s.0, s.1)
  joined l a b c d e (inr r) (inr s) = inr (r ∙ s)

  -- places that are forced to be the same hold one type, unless they are NULL
  pub forced_type : (l : List Atom) → ((a b : Side) → In (same a b) l → NamesSide all a × NamesSide all b × OfOneType all a b) → (x y : Side) → Forced l x y → OneType l x y
  forced_type l h _ _ (stated k a b e) = let r = h a b (got_in l k (same a b) e) in stated_type l k a b e r.0 r.1 r.2
  forced_type l h _ _ (itself a) = inr refl
  forced_type l h _ _ (turned a b d) = elim (forced_type l h a b d) [ inl r ↦ inl (r.1, r.0) | inr e ↦ inr (sym e) ]
  forced_type l h _ _ (along a b c d e) = joined l a b c d e (forced_type l h a b d) (forced_type l h b c e)

-- ---- mentioned places

at_same : (p q : ℕ) → at p ≡ at q → p ≡ q
at_same p q e = cc e

side_is : (s : Side) (p : ℕ) → (s ≡ at p) ⊎ ((s ≡ at p) → ⊥)
side_is nothing p = inr (λ e. cc e)
side_is (at q) p = elim (ℕ_discrete q p) [ yes e ↦ inl (ap at e) | no n ↦ inr (λ e. n (at_same q p e)) ]

either_side : (a b : Side) (p : ℕ) → ((a ≡ at p) ⊎ (b ≡ at p)) ⊎ (((a ≡ at p) ⊎ (b ≡ at p)) → ⊥)
either_side a b p = elim (side_is a p) [
  | inl e ↦ inl (inl e)
  | inr n ↦ elim (side_is b p) [ inl e ↦ inl (inr e) | inr m ↦ inr (λ w. elim w [ inl e ↦ n e | inr e ↦ m e ]) ]
]

has_side : (a : Atom) (p : ℕ) → HasSide (at p) a ⊎ (HasSide (at p) a → ⊥)
has_side (same a b) p = either_side a b p
has_side (differ a b) p = either_side a b p
has_side (at_most_zero g) p = inr (λ s. s)
has_side (is_zero g) p = inr (λ s. s)
has_side (not_zero g) p = inr (λ s. s)

none_later : (x : Atom) (l : List Atom) (p : ℕ) → (HasSide (at p) x → ⊥) → (Mentions l p → ⊥) → (k : ℕ) (a : Atom) → slice_get (x ∷ l) k ≡ Some a → HasSide (at p) a → ⊥
none_later x l p n m zero a e s = n (subst (HasSide (at p)) (same_some a x e) s)
  where
    same_some : (a x : Atom) → Some x ≡ Some a → a ≡ x
    same_some a x e = cc e
none_later x l p n m (suc k) a e s = m (k, a, e, s)

pub mentioned : (l : List Atom) (p : ℕ) → Mentions l p ⊎ (Mentions l p → ⊥)
mentioned [] p = inr (λ w. cc (w.2))
mentioned (x ∷ l) p = elim (has_side x p) [
  | inl s ↦ inl (zero, x, refl, s)
  | inr n ↦ elim (mentioned l p) [
    | inl w ↦ inl (suc w.0, w.1, w.2, w.3)
    | inr m ↦ inr (λ w. none_later x l p n m w.0 w.1 w.2 w.3)
  ]
]
