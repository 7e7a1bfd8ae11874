-- The classes that are written are those of the list.
use Rattle.std.proofs.Common.{◌≡◌, ◌≢◌, ◌∙◌, ◌⊎◌, inl, inr, sym, ap, subst, refl, arith, ℕ, zero, suc, Bool, true, false, nat_eq, if◌then◌else◌, List, [], ◌∷◌, ◌++◌, length, set, replicate, slice_get, Some, length-set}
use Rattle.std.proofs.lemmas.Bool.{cases_eq}
use Rattle.std.proofs.lemmas.List.{length-replicate}
use Rattle.std.proofs.lemmas.Option.{same_Some, slice_get_within}
use Rattle.cc_base.specs.Forms.{Side, nothing, at, Atom, at_most_zero, is_zero, not_zero, same, differ}
use Rattle.cc_base.specs.Classes.{HasSide, Mentions, AreClasses, FirstContradiction}
use Rattle.pointer_solver.specs.Forest.{IsRooted, Agrees, ContradictedAt, NoneBefore, IsFirst}
use Rattle.pointer_solver.specs.Marks.{class, marked, marked_by, marked_all}

get_set_same : (l : List ℕ) (q v c : ℕ) → slice_get (set l q v) q ≡ Some c → v ≡ c
get_set_same [] q v c e = absurd (cc e)
get_set_same (x ∷ l) zero v c e = same_Some v c e
get_set_same (x ∷ l) (suc q) v c e = get_set_same l q v c e

get_set_other : (l : List ℕ) (q v p : ℕ) → q ≢ p → slice_get (set l q v) p ≡ slice_get l p
get_set_other [] q v p n = refl
get_set_other (x ∷ l) zero v zero n = absurd (n refl)
get_set_other (x ∷ l) zero v (suc p) n = refl
get_set_other (x ∷ l) (suc q) v zero n = refl
get_set_other (x ∷ l) (suc q) v (suc p) n = get_set_other l q v p (λ e. n (ap suc e))

module _ (root : ℕ → ℕ) where
  side_marked : (s : Side) (l : List ℕ) (p c : ℕ) → slice_get (marked root s l) p ≡ Some c → ((s ≡ at p) × (c ≡ class root p)) ⊎ ((s ≡ at p → ⊥) × (slice_get l p ≡ Some c))
  side_marked nothing l p c e = inr (λ h. cc h, e)
  side_marked (at q) l p c e = elim (cases_eq q p) [
    | inl i ↦ inl (ap at i, sym (get_set_same l q (class root q) c (subst (λ (z : ℕ). slice_get (set l q (class root q)) z ≡ Some c) (sym i) e)) ∙ ap (class root) i)
    | inr n ↦ inr (λ h. n (cc h), sym (get_set_other l q (class root q) p n) ∙ e)
  ]

  two_marked : (a b : Side) (l : List ℕ) (p c : ℕ) → slice_get (marked root b (marked root a l)) p ≡ Some c
      → (((a ≡ at p) ⊎ (b ≡ at p)) × (c ≡ class root p)) ⊎ ((((a ≡ at p) ⊎ (b ≡ at p)) → ⊥) × (slice_get l p ≡ Some c))
  two_marked a b l p c e = elim (side_marked b (marked root a l) p c e) [
    | inl i ↦ inl (inr i.0, i.1)
    | inr n ↦ elim (side_marked a l p c n.1) [
      | inl i ↦ inl (inl i.0, i.1)
      | inr m ↦ inr (λ h. elim h [ inl q ↦ m.0 q | inr q ↦ n.0 q ], m.1)
    ]
  ]

  atom_marked : (a : Atom) (l : List ℕ) (p c : ℕ) → slice_get (marked_by root a l) p ≡ Some c → (HasSide (at p) a × (c ≡ class root p)) ⊎ ((HasSide (at p) a → ⊥) × (slice_get l p ≡ Some c))
  atom_marked (same a b) l p c e = two_marked a b l p c e
  atom_marked (differ a b) l p c e = two_marked a b l p c e
  atom_marked (at_most_zero g) l p c e = inr (λ h. h, e)
  atom_marked (is_zero g) l p c e = inr (λ h. h, e)
  atom_marked (not_zero g) l p c e = inr (λ h. h, e)

  later : (a : Atom) (l : List Atom) (p : ℕ) → Mentions l p → Mentions (a ∷ l) p
  later a l p m = (suc m.0, m.1, m.2, m.3)

  split : (a : Atom) (l : List Atom) (p : ℕ) → (HasSide (at p) a → ⊥) → (Mentions l p → ⊥) → Mentions (a ∷ l) p → ⊥
  split a l p n m h = at_index h.0 h.1 h.2 h.3
    where
      at_index : (k : ℕ) (b : Atom) → slice_get (a ∷ l) k ≡ Some b → HasSide (at p) b → ⊥
      at_index zero b e s = n (subst (HasSide (at p)) (sym (same_Some a b e)) s)
      at_index (suc k) b e s = m (k, b, e, s)

  all_marked : (atoms : List Atom) (l : List ℕ) (p c : ℕ) → slice_get (marked_all root atoms l) p ≡ Some c → (Mentions atoms p × (c ≡ class root p)) ⊎ ((Mentions atoms p → ⊥) × (slice_get l p ≡ Some c))
  all_marked [] l p c e = inr (λ m. let h = m.2 in cc h, e)
  all_marked (a ∷ atoms) l p c e = elim (all_marked atoms (marked_by root a l) p c e) [
    | inl i ↦ inl (later a atoms p i.0, i.1)
    | inr n ↦ elim (atom_marked a l p c n.1) [
      | inl i ↦ inl ((zero, a, refl, i.0), i.1)
      | inr m ↦ inr (split a atoms p m.0 n.0, m.1)
    ]
  ]

  length_marked : (s : Side) (l : List ℕ) → length (marked root s l) ≡ length l
  length_marked nothing l = refl
  length_marked (at p) l = length-set l p (class root p)

  length_marked_by : (a : Atom) (l : List ℕ) → length (marked_by root a l) ≡ length l
  length_marked_by (same a b) l = length_marked b (marked root a l) ∙ length_marked a l
  length_marked_by (differ a b) l = length_marked b (marked root a l) ∙ length_marked a l
  length_marked_by (at_most_zero g) l = refl
  length_marked_by (is_zero g) l = refl
  length_marked_by (not_zero g) l = refl

  length_marked_all : (atoms : List Atom) (l : List ℕ) → length (marked_all root atoms l) ≡ length l
  length_marked_all [] l = refl
  length_marked_all (a ∷ atoms) l = length_marked_all atoms (marked_by root a l) ∙ length_marked_by a l

  -- one atom more
  pub marked_all-push : (atoms : List Atom) (a : Atom) (l : List ℕ) → marked_all root (atoms ++ a ∷ []) l ≡ marked_by root a (marked_all root atoms l)
  marked_all-push [] a l = refl
  marked_all-push (b ∷ atoms) a l = marked_all-push atoms a (marked_by root b l)

pub length-marked : (root : ℕ → ℕ) (s : Side) (l : List ℕ) → length (marked root s l) ≡ length l
length-marked root s l = length_marked root s l

pub length-marked_by : (root : ℕ → ℕ) (a : Atom) (l : List ℕ) → length (marked_by root a l) ≡ length l
length-marked_by root a l = length_marked_by root a l

zeros : (n p c : ℕ) → slice_get (replicate n 0) p ≡ Some c → c ≡ 0
zeros zero p c e = absurd (cc e)
zeros (suc n) zero c e = sym (same_Some 0 c e)
zeros (suc n) (suc p) c e = zeros n p c e

-- ---- classes

pub class_null : (root : ℕ → ℕ) (p : ℕ) → root (suc p) ≡ root zero → class root p ≡ 0
unfolding class
class_null root p e = ap (λ (b : Bool). if b then 0 else root (suc p)) (tested (root (suc p)) (root zero) e)
  where
    tested : (a b : ℕ) → a ≡ b → nat_eq a b ≡ true
    tested a b h = grind arith

pub class_other : (root : ℕ → ℕ) (p : ℕ) → root (suc p) ≢ root zero → class root p ≡ root (suc p)
unfolding class
class_other root p e = ap (λ (b : Bool). if b then 0 else root (suc p)) (tested (root (suc p)) (root zero) e)
  where
    tested : (a b : ℕ) → a ≢ b → nat_eq a b ≡ false
    tested a b h = grind arith

class_same : (root : ℕ → ℕ) (p q : ℕ) → root (suc p) ≡ root (suc q) → class root p ≡ class root q
unfolding class
class_same root p q e = ap (λ (n : ℕ). if nat_eq n (root zero) then 0 else n) e

module _ (parents : List ℕ) (root : ℕ → ℕ) (t : IsRooted parents root) where
  not_zero_class : (p : ℕ) → root (suc p) ≢ root zero → class root p ≢ 0
  not_zero_class p n e =
      let z : root (suc p) ≡ 0 = sym (class_other root p n) ∙ e in
      n (sym (sym (ap root z) ∙ t.fixed (root (suc p)) (t.top (suc p))))

  null_class : (p : ℕ) → class root p ≡ 0 → root (suc p) ≡ root zero
  null_class p e = elim (cases_eq (root (suc p)) (root zero)) [ inl i ↦ i | inr n ↦ absurd (not_zero_class p n e) ]

  same_class : (p q : ℕ) → class root p ≡ class root q → root (suc p) ≡ root (suc q)
  same_class p q e = elim (cases_eq (root (suc p)) (root zero)) [
    | inl i ↦ i ∙ sym (null_class q (sym e ∙ class_null root p i))
    | inr n ↦ elim (cases_eq (root (suc q)) (root zero)) [
      | inl j ↦ absurd (not_zero_class p n (e ∙ class_null root q j))
      | inr m ↦ sym (class_other root p n) ∙ e ∙ class_other root q m
    ]
  ]

  module _ (l : List Atom) (h : Agrees root l) (n : ℕ) where
    stands : (p c : ℕ) → slice_get (marked_all root l (replicate n 0)) p ≡ Some c → (Mentions l p × (c ≡ class root p)) ⊎ ((Mentions l p → ⊥) × (c ≡ 0))
    stands p c e = elim (all_marked root l (replicate n 0) p c e) [ inl i ↦ inl i | inr m ↦ inr (m.0, zeros n p c m.1) ]

    class_at : (p c : ℕ) → Mentions l p → slice_get (marked_all root l (replicate n 0)) p ≡ Some c → c ≡ class root p
    class_at p c m e = elim (stands p c e) [ inl i ↦ i.1 | inr k ↦ absurd (k.0 m) ]

    pub are_classes : NoneBefore root l (length l) → AreClasses l n (marked_all root l (replicate n 0))
    are_classes none = let z : ℕ = 0 in record {
      each = length_marked_all root l (replicate n 0) ∙ length-replicate n z;
      together = λ p q c d m k e f. (
        (λ i. (h (at p) (at q)).0 (same_class p q (sym (class_at p c m e) ∙ i ∙ class_at q d k f))),
        (λ i. class_at p c m e ∙ class_same root p q ((h (at p) (at q)).1 i) ∙ sym (class_at q d k f)),
      );
      null = λ p c e. (
        (λ i. elim (stands p c e) [ inl k ↦ inl ((h (at p) nothing).0 (null_class p (sym k.1 ∙ i))) | inr k ↦ inr k.0 ]),
        (λ i. elim (stands p c e) [
          | inl k ↦ elim i [ inl f ↦ k.1 ∙ class_null root p ((h (at p) nothing).1 f) | inr m ↦ absurd (m k.0) ]
          | inr k ↦ k.1
        ]),
      );
      apart = λ k c. none k (differ c.0 c.1) (slice_get_within l k (differ c.0 c.1) c.2) c.2 ((h c.0 c.1).1 c.3);
    }

-- ---- the first contradiction

pub first_contradiction : (root : ℕ → ℕ) (l : List Atom) (k : ℕ) → Agrees root l → IsFirst root l (Some k) → FirstContradiction l k
first_contradiction root l k h f = by_atom f.0 f.1 f.2
  where
    by_atom : (a : Atom) → slice_get l k ≡ Some a → ContradictedAt root a → FirstContradiction l k
    by_atom (differ x y) e c = record { here = (x, y, e, (h x y).0 c); first = λ j i g. f.3 j (differ g.0 g.1) i g.2 ((h g.0 g.1).1 g.3) }
    by_atom (same x y) e c = absurd c
    by_atom (at_most_zero g) e c = absurd c
    by_atom (is_zero g) e c = absurd c
    by_atom (not_zero g) e c = absurd c
