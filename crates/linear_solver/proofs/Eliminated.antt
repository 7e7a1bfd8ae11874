-- Elimination is right where it decides.
use Rattle.std.proofs.Common.{◌≡◌, ◌≢◌, ℕ, zero, suc, ◌+◌, ℤ, pos, negsuc, ◌*ℤ◌, ◌≤ℤ◌, ◌⊎◌, ◌↔◌, inl, inr, List, [], ◌∷◌, ◌++◌, length, refl, sym, ap, arith}
use Rattle.std.proofs.lemmas.Int.{ints}
use Rattle.cc_base.specs.Inequality.{Inequality, total, Meets, MeetsAll, scaled}
use Rattle.cc_base.specs.Pass.{Passed, pass}
use Rattle.cc_base.specs.declared.passes.PassEnd.{PassEnd}
use Rattle.cc_base.specs.declared.passes.Mode.TheVariants.{Real, Dark}
use Rattle.cc_base.specs.declared.passes.PassEnd.TheVariants.{Open, Empty, Full}
use Rattle.cc_base.specs.Witness.{witness}
use Rattle.cc_base.specs.Groups.{Form, Atom, at_most_zero, is_zero, not_zero, same, differ, value, Holds, HoldAll, Between, places_in, HasValues}
use Rattle.cc_base.specs.Need.{at_most, at_least, bounds, written, all_written, first_list, disequality, disequalities, Tried, found, closed, open_choice, after, after_open, by_dark, one_choice, tried, elimination}
use Rattle.linear_solver.specs.Atoms.{Apart}
use Rattle.linear_solver.proofs.Totals.{total_scaled}
use Rattle.linear_solver.proofs.Taken.{meets_append}
use Rattle.linear_solver.proofs.Passes.{real_pass, dark_pass}

pub at_most_meets : (v : ℕ → ℤ) (g : Form) (n : ℤ) → Meets v (at_most g n) ↔ (value v g ≤ℤ n)
unfolding at_most value
at_most_meets v g n = ((λ h. let k = h.holds in omega (arith, ints, k)), (λ h. record { holds = omega (arith, ints, h) }))

pub at_least_meets : (v : ℕ → ℤ) (g : Form) (n : ℤ) → Meets v (at_least g n) ↔ (n ≤ℤ value v g)
unfolding at_least value
at_least_meets v g n = let e : total v (scaled (negsuc 0) g.terms) ≡ negsuc 0 *ℤ total v g.terms = total_scaled v (negsuc 0) g.terms in
    ((λ h. let k = h.holds in omega (arith, ints, k, e)), (λ h. record { holds = omega (arith, ints, h, e) }))

-- what the choices showed
abbrev pub Tells : List Inequality → List Form → Tried → Type 0
Tells l fs (found c) = (v : ℕ → ℤ) × MeetsAll v l × Apart v fs
Tells l fs (closed c) = (v : ℕ → ℤ) → MeetsAll v l → Apart v fs → ⊥
Tells l fs (open_choice c) = Unit {0}

by_dark_tells : (n c : ℕ) (l : List Inequality) (p : Passed) → p ≡ pass Dark n l → Tells l [] (by_dark c p)
unfolding by_dark
by_dark_tells n c l p e = at_end p.how (ap (λ (q : Passed). q.how) (sym e))
  where
    at_end : (h : PassEnd) → (pass Dark n l).how ≡ h → Tells l [] (elim h [ Full ↦ found (c + p.cost) | Empty ↦ open_choice (c + p.cost) | Open ↦ open_choice (c + p.cost) ])
    at_end Full i = (witness Dark (suc n) l, dark_pass n l i, tt)
    at_end Empty i = tt
    at_end Open i = tt

one_tells : (n : ℕ) (l : List Inequality) → Tells l [] (one_choice n l)
unfolding one_choice
one_tells n l = at_end (pass Real n l).how refl
  where
    at_end : (h : PassEnd) → (pass Real n l).how ≡ h → Tells l [] (elim h [ Empty ↦ closed (pass Real n l).cost | Full ↦ by_dark (pass Real n l).cost (pass Dark n l) | Open ↦ by_dark (pass Real n l).cost (pass Dark n l) ])
    at_end Empty i = λ v m a. real_pass n l i v m
    at_end Full i = by_dark_tells n (pass Real n l).cost l (pass Dark n l) refl
    at_end Open i = by_dark_tells n (pass Real n l).cost l (pass Dark n l) refl

pub below_zero : (z : ℤ) → z ≤ℤ negsuc 0 → z ≢ pos 0
below_zero z h e = omega (arith, ints, h, e)

pub above_zero : (z : ℤ) → pos 1 ≤ℤ z → z ≢ pos 0
above_zero z h e = omega (arith, ints, h, e)

sides : (z : ℤ) → z ≢ pos 0 → (z ≤ℤ negsuc 0) ⊎ (pos 1 ≤ℤ z)
sides (pos zero) h = absurd (h refl)
sides (pos (suc n)) h = inr (omega (arith, ints))
sides (negsuc n) h = inl (omega (arith, ints))

module _ (l : List Inequality) (g : Form) (fs : List Form) where
  under : List Inequality
  under = at_most g (negsuc 0) ∷ l

  over : List Inequality
  over = at_least g (pos 1) ∷ l

  by_under : (c : ℕ) → Tells under fs (found c) → Tells l (g ∷ fs) (found c)
  unfolding under
  by_under c t = (t.0, (t.1).1, (below_zero (value t.0 g) ((at_most_meets t.0 g (negsuc 0)).0 (t.1).0), t.2))

  by_over : (c : ℕ) → Tells over fs (found c) → Tells l (g ∷ fs) (found c)
  unfolding over
  by_over c t = (t.0, (t.1).1, (above_zero (value t.0 g) ((at_least_meets t.0 g (pos 1)).0 (t.1).0), t.2))

  by_both : (c d e : ℕ) → Tells under fs (closed c) → Tells over fs (closed d) → Tells l (g ∷ fs) (closed e)
  unfolding under over
  by_both c d e t u = λ v m a. elim (sides (value v g) a.0) [
    | inl h ↦ t v ((at_most_meets v g (negsuc 0)).1 h, m) a.1
    | inr h ↦ u v ((at_least_meets v g (pos 1)).1 h, m) a.1
  ]

  after_tells : (c d : ℕ) (b : Tried) → Tells under fs (closed d) → Tells over fs b → Tells l (g ∷ fs) (after c b)
  unfolding after
  after_tells c d (found k) t u = by_over k u
  after_tells c d (closed k) t u = by_both d k k t u
  after_tells c d (open_choice k) t u = tt

  after_open_tells : (c : ℕ) (b : Tried) → Tells over fs b → Tells l (g ∷ fs) (after_open c b)
  unfolding after_open
  after_open_tells c (found k) u = by_over k u
  after_open_tells c (closed k) u = tt
  after_open_tells c (open_choice k) u = tt

  both_tell : (a b : Tried) → Tells under fs a → Tells over fs b → Tells l (g ∷ fs) (elim a [ found c ↦ found c | closed c ↦ after c b | open_choice c ↦ after_open c b ])
  both_tell (found c) b t u = by_under c t
  both_tell (closed c) b t u = after_tells c c b t u
  both_tell (open_choice c) b t u = after_open_tells c b u

pub tried_tells : (n : ℕ) (l : List Inequality) (fs : List Form) → Tells l fs (tried n l fs)
unfolding tried under over
tried_tells n l [] = one_tells n l
tried_tells n l (g ∷ fs) = both_tell l g fs (tried n (at_most g (negsuc 0) ∷ l) fs) (tried n (at_least g (pos 1) ∷ l) fs) (tried_tells n (at_most g (negsuc 0) ∷ l) fs) (tried_tells n (at_least g (pos 1) ∷ l) fs)

-- ---- the first list says what the atoms but the disequalities say

bounds_meet : (v : ℕ → ℤ) (lo hi : ℤ) (l : List ℕ) → MeetsAll v (bounds lo hi l) ↔ Between lo hi v l
unfolding bounds total
bounds_meet v lo hi [] = ((λ h. h), (λ h. h))
bounds_meet v lo hi (x ∷ l) = let r = bounds_meet v lo hi l in (
  (λ h. let a = (h.0).holds in let b = ((h.1).0).holds in (omega (arith, ints, b), omega (arith, ints, a), r.0 (h.1).1)),
  (λ h. let a = h.0 in let b = h.1 in (record { holds = omega (arith, ints, b) }, (record { holds = omega (arith, ints, a) }, r.1 h.2))),
)

atom_meets : (v : ℕ → ℤ) (a : Atom) → Holds v a ↔ (MeetsAll v (written a) × Apart v (disequality a))
unfolding written disequality
atom_meets v (at_most_zero g) = let r = at_most_meets v g (pos 0) in ((λ h. ((r.1 h, tt), tt)), (λ h. r.0 (h.0).0))
atom_meets v (is_zero g) = let r = at_most_meets v g (pos 0) in let s = at_least_meets v g (pos 0) in (
  (λ h. ((r.1 (omega (arith, ints, h)), (s.1 (omega (arith, ints, h)), tt)), tt)),
  (λ h. let a = r.0 (h.0).0 in let b = s.0 ((h.0).1).0 in omega (arith, ints, a, b)),
)
atom_meets v (not_zero g) = ((λ h. (tt, (h, tt))), (λ h. (h.1).0))
atom_meets v (same a b) = ((λ h. (tt, tt)), (λ h. tt))
atom_meets v (differ a b) = ((λ h. (tt, tt)), (λ h. tt))

apart_append : (v : ℕ → ℤ) (k l : List Form) → Apart v (k ++ l) ↔ (Apart v k × Apart v l)
apart_append v [] l = ((λ h. (tt, h)), (λ h. h.1))
apart_append v (i ∷ k) l = let r = apart_append v k l in
    ((λ h. let s = r.0 h.1 in ((h.0, s.0), s.1)), (λ h. ((h.0).0, r.1 ((h.0).1, h.1))))

atoms_meet : (v : ℕ → ℤ) (l : List Atom) → HoldAll v l ↔ (MeetsAll v (all_written l) × Apart v (disequalities l))
unfolding all_written disequalities
atoms_meet v [] = ((λ h. (tt, tt)), (λ h. tt))
atoms_meet v (a ∷ l) =
    let r = atom_meets v a in let s = atoms_meet v l in let m = meets_append v (written a) (all_written l) in let p = apart_append v (disequality a) (disequalities l) in (
      (λ h. let x = r.0 h.0 in let y = s.0 h.1 in (m.1 (x.0, y.0), p.1 (x.1, y.1))),
      (λ h. let x = m.0 h.0 in let y = p.0 h.1 in (r.1 (x.0, y.0), s.1 (x.1, y.1))),
    )

-- (d)
abbrev pub Right : ℤ → ℤ → List Atom → Tried → Type 0
Right lo hi l (found c) = HasValues lo hi l
Right lo hi l (closed c) = HasValues lo hi l → ⊥
Right lo hi l (open_choice c) = Unit {0}

pub right_of : (lo hi : ℤ) (l : List Atom) (t : Tried) → Tells (first_list lo hi l) (disequalities l) t → Right lo hi l t
unfolding first_list
right_of lo hi l (found c) t = let v = t.0 in
    let m = (meets_append v (all_written l) (bounds lo hi (places_in l))).0 t.1 in
    (v, (bounds_meet v lo hi (places_in l)).0 m.1, (atoms_meet v l).1 (m.0, t.2))
right_of lo hi l (closed c) t = λ h. let v = h.0 in let a = (atoms_meet v l).0 h.2 in
    t v ((meets_append v (all_written l) (bounds lo hi (places_in l))).1 (a.0, (bounds_meet v lo hi (places_in l)).1 h.1)) a.1
right_of lo hi l (open_choice c) t = tt

after_right : (l : List Inequality) (fs : List Form) (n : ℕ) (t : Tried) → Tells l fs t → Tells l fs (after n t)
unfolding after
after_right l fs n (found c) h = h
after_right l fs n (closed c) h = h
after_right l fs n (open_choice c) h = h

pub elimination_right : (lo hi : ℤ) (l : List Atom) → Right lo hi l (elimination lo hi l)
unfolding elimination
elimination_right lo hi l = right_of lo hi l _ (at_end (pass Real (length (places_in l)) (first_list lo hi l)).how refl)
  where
    at_end : (h : PassEnd) → (pass Real (length (places_in l)) (first_list lo hi l)).how ≡ h → Tells (first_list lo hi l) (disequalities l)
        (elim h [
          | Empty ↦ closed (pass Real (length (places_in l)) (first_list lo hi l)).cost
          | Full ↦ after (pass Real (length (places_in l)) (first_list lo hi l)).cost (tried (length (places_in l)) (first_list lo hi l) (disequalities l))
          | Open ↦ after (pass Real (length (places_in l)) (first_list lo hi l)).cost (tried (length (places_in l)) (first_list lo hi l) (disequalities l))
        ])
    at_end Empty i = λ v m a. real_pass (length (places_in l)) (first_list lo hi l) i v m
    at_end Full i = after_right _ _ _ _ (tried_tells (length (places_in l)) (first_list lo hi l) (disequalities l))
    at_end Open i = after_right _ _ _ _ (tried_tells (length (places_in l)) (first_list lo hi l) (disequalities l))

-- what meets the first list, and is apart from the disequalities, lies in the range and meets the atoms
pub first_means : (lo hi : ℤ) (l : List Atom) (v : ℕ → ℤ) → MeetsAll v (first_list lo hi l) → Apart v (disequalities l) → Between lo hi v (places_in l) × HoldAll v l
unfolding first_list
first_means lo hi l v m a = let s = (meets_append v (all_written l) (bounds lo hi (places_in l))).0 m in
    ((bounds_meet v lo hi (places_in l)).0 s.1, (atoms_meet v l).1 (s.0, a))
