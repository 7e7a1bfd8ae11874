-- What answers an alternative's linear atoms answers its atoms: a pointer atom is a group of its own, which numbers meet.
use Rattle.std.proofs.Common.{◌≡◌, ◌∙◌, ◌⊎◌, inl, inr, sym, ap, ap₂, subst, refl, arith, ℕ, ◌<◌, ◌≤◌, ℤ, pos, ◌≤ℤ◌, Bool, true, false, nat_eq, if◌then◌else◌, List, [], ◌∷◌, ◌++◌, length, map}
use Rattle.std.proofs.lemmas.Int.{ints}
use Rattle.cc_base.specs.Forms.{Form, Atom, at_most_zero, is_zero, not_zero, same, differ}
use Rattle.cc_base.specs.Inequality.{total}
use Rattle.cc_base.specs.Groups.{form_of, value, contains, named, put_all, places_in, shares, touching, apart, parts, atoms_on, placeless, groups_of, groups, HoldAll, Between}
use Rattle.cc_base.specs.Need.{need, need_at}
use Rattle.cc_base.specs.Solve.{Refuted, SomeRefuted, SomeBeyond, Answer, sat, unsat, spent, Right}
use Rattle.linear_solver.specs.Answers.{Given}
use Rattle.linear_solver.specs.declared.solve.Solved.{Solved}
use Rattle.linear_solver.specs.declared.solve.Solved.TheVariants.{Sat, Unsat, Spent}
use Rattle.linear_solver.proofs.Integers.{bool_cases}
use Rattle.slice_solve.specs.Linear.{linear}

-- ---- places and parts stay

pub form_linear : (a : Atom) → form_of (linear a) ≡ form_of a
unfolding linear form_of
form_linear (at_most_zero g) = refl
form_linear (is_zero g) = refl
form_linear (not_zero g) = refl
form_linear (same a b) = refl
form_linear (differ a b) = refl

places_linear : (l : List Atom) → places_in (map linear l) ≡ places_in l
unfolding places_in
places_linear [] = refl
places_linear (a ∷ l) = ap₂ (λ (g : Form) (p : List ℕ). put_all (named g.terms) p) (form_linear a) (places_linear l)

parts_linear : (l : List Atom) → parts (map linear l) ≡ parts l
unfolding parts
parts_linear [] = refl
parts_linear (a ∷ l) = ap₂ (λ (g : Form) (cs : List (List ℕ)). touching (named g.terms) cs ∷ apart (named g.terms) cs) (form_linear a) (parts_linear l)

-- an atom that names a place stays as it is
placed_linear : (a : Atom) (c : List ℕ) → shares (named (form_of a).terms) c ≡ true → linear a ≡ a
unfolding linear form_of named shares
placed_linear (at_most_zero g) c h = refl
placed_linear (is_zero g) c h = refl
placed_linear (not_zero g) c h = refl
placed_linear (same a b) c h = absurd (cc h)
placed_linear (differ a b) c h = absurd (cc h)

on_linear : (c : List ℕ) (l : List Atom) → atoms_on c (map linear l) ≡ atoms_on c l
unfolding atoms_on
on_linear c [] = refl
on_linear c (a ∷ l) =
    ap₂ (λ (g : Form) (q : List Atom). if shares (named g.terms) c then linear a ∷ q else q) (form_linear a) (on_linear c l)
    ∙ elim (bool_cases (shares (named (form_of a).terms) c)) [
      | inl t ↦ ap (λ (b : Bool). if b then linear a ∷ atoms_on c l else atoms_on c l) t
          ∙ ap (λ (d : Atom). d ∷ atoms_on c l) (placed_linear a c t)
          ∙ sym (ap (λ (b : Bool). if b then a ∷ atoms_on c l else atoms_on c l) t)
      | inr t ↦ ap (λ (b : Bool). if b then linear a ∷ atoms_on c l else atoms_on c l) t
          ∙ sym (ap (λ (b : Bool). if b then a ∷ atoms_on c l else atoms_on c l) t)
    ]

groups_linear : (cs : List (List ℕ)) (l : List Atom) → groups_of cs (map linear l) ≡ groups_of cs l
unfolding groups_of
groups_linear [] l = refl
groups_linear (c ∷ cs) l = ap₂ (λ (g : List Atom) (gs : List (List Atom)). if nat_eq (length c) 0 then gs else g ∷ gs) (on_linear c l) (groups_linear cs l)

-- ---- what is said of an atom alone

abbrev Tells : (List Atom → Type 0) → Type 0
Tells P = (a : Atom) → (P (linear a ∷ []) → P (a ∷ [])) × (P (a ∷ []) → P (linear a ∷ []))

meets_nothing : (v : ℕ → ℤ) → value v (record { constant = pos 0; terms = [] }) ≤ℤ pos 0
unfolding value total
meets_nothing v = omega (arith, ints)

refuted_tells : (lo hi : ℤ) (b : ℕ) → Tells (Refuted lo hi b)
unfolding linear form_of need need_at places_in named put_all
refuted_tells lo hi b (at_most_zero g) = ((λ r. r), (λ r. r))
refuted_tells lo hi b (is_zero g) = ((λ r. r), (λ r. r))
refuted_tells lo hi b (not_zero g) = ((λ r. r), (λ r. r))
refuted_tells lo hi b (same x y) = (
  (λ r. record { within = r.within; none = λ h. r.none (h.0, tt, (meets_nothing h.0, tt)) }),
  (λ r. record { within = r.within; none = λ h. r.none (h.0, tt, (tt, tt)) }),
)
refuted_tells lo hi b (differ x y) = (
  (λ r. record { within = r.within; none = λ h. r.none (h.0, tt, (meets_nothing h.0, tt)) }),
  (λ r. record { within = r.within; none = λ h. r.none (h.0, tt, (tt, tt)) }),
)

beyond_tells : (lo hi : ℤ) (b : ℕ) → Tells (λ g. b < need lo hi g)
unfolding linear form_of need need_at places_in named put_all
beyond_tells lo hi b (at_most_zero g) = ((λ r. r), (λ r. r))
beyond_tells lo hi b (is_zero g) = ((λ r. r), (λ r. r))
beyond_tells lo hi b (not_zero g) = ((λ r. r), (λ r. r))
beyond_tells lo hi b (same x y) = ((λ r. r), (λ r. r))
beyond_tells lo hi b (differ x y) = ((λ r. r), (λ r. r))

-- ---- and so of the groups

abbrev Some : (List Atom → Type 0) → List (List Atom) → Type 0
Some P [] = ⊥
Some P (g ∷ gs) = P g ⊎ Some P gs

module _ (P : List Atom → Type 0) (tells : Tells P) where
  some_front : (gs hs ks : List (List Atom)) → (Some P hs → Some P ks) → Some P (gs ++ hs) → Some P (gs ++ ks)
  some_front [] hs ks f h = f h
  some_front (g ∷ gs) hs ks f h = elim h [ inl p ↦ inl p | inr q ↦ inr (some_front gs hs ks f q) ]

  placeless_tells : (l : List Atom) → (Some P (placeless (map linear l)) → Some P (placeless l)) × (Some P (placeless l) → Some P (placeless (map linear l)))
  unfolding placeless
  placeless_tells [] = ((λ h. h), (λ h. h))
  placeless_tells (a ∷ l) =
      let r = placeless_tells l in
      subst (λ (g : Form).
      (Some P (if nat_eq (length g.terms) 0 then (linear a ∷ []) ∷ placeless (map linear l) else placeless (map linear l)) → Some P (if nat_eq (length (form_of a).terms) 0 then (a ∷ []) ∷ placeless l else placeless l))
      × (Some P (if nat_eq (length (form_of a).terms) 0 then (a ∷ []) ∷ placeless l else placeless l) → Some P (if nat_eq (length g.terms) 0 then (linear a ∷ []) ∷ placeless (map linear l) else placeless (map linear l))))
      (sym (form_linear a))
      (chosen (nat_eq (length (form_of a).terms) 0) (linear a ∷ []) (a ∷ []) (placeless (map linear l)) (placeless l) (tells a) r)
    where
      chosen : (b : Bool) (g h : List Atom) (gs hs : List (List Atom)) → (P g → P h) × (P h → P g) → (Some P gs → Some P hs) × (Some P hs → Some P gs)
          → (Some P (if b then g ∷ gs else gs) → Some P (if b then h ∷ hs else hs)) × (Some P (if b then h ∷ hs else hs) → Some P (if b then g ∷ gs else gs))
      chosen true g h gs hs f e = ((λ w. elim w [ inl p ↦ inl (f.0 p) | inr q ↦ inr (e.0 q) ]), (λ w. elim w [ inl p ↦ inl (f.1 p) | inr q ↦ inr (e.1 q) ]))
      chosen false g h gs hs f e = e

  groups_tell : (l : List Atom) → (Some P (groups (map linear l)) → Some P (groups l)) × (Some P (groups l) → Some P (groups (map linear l)))
  unfolding groups
  groups_tell l =
      let r = placeless_tells l in
      let e : groups_of (parts (map linear l)) (map linear l) ≡ groups_of (parts l) l = ap (λ (cs : List (List ℕ)). groups_of cs (map linear l)) (parts_linear l) ∙ groups_linear (parts l) l in
      subst (λ (gs : List (List Atom)). (Some P (gs ++ placeless (map linear l)) → Some P (groups_of (parts l) l ++ placeless l)) × (Some P (groups_of (parts l) l ++ placeless l) → Some P (gs ++ placeless (map linear l)))) (sym e)
      (some_front (groups_of (parts l) l) (placeless (map linear l)) (placeless l) r.0, some_front (groups_of (parts l) l) (placeless l) (placeless (map linear l)) r.1)

to_refuted : (lo hi : ℤ) (b : ℕ) (gs : List (List Atom)) → (Some (Refuted lo hi b) gs → SomeRefuted lo hi b gs) × (SomeRefuted lo hi b gs → Some (Refuted lo hi b) gs)
to_refuted lo hi b [] = ((λ h. h), (λ h. h))
to_refuted lo hi b (g ∷ gs) = let r = to_refuted lo hi b gs in
    ((λ h. elim h [ inl p ↦ inl p | inr q ↦ inr (r.0 q) ]), (λ h. elim h [ inl p ↦ inl p | inr q ↦ inr (r.1 q) ]))

to_beyond : (lo hi : ℤ) (b : ℕ) (gs : List (List Atom)) → (Some (λ g. b < need lo hi g) gs → SomeBeyond lo hi b gs) × (SomeBeyond lo hi b gs → Some (λ g. b < need lo hi g) gs)
to_beyond lo hi b [] = ((λ h. h), (λ h. h))
to_beyond lo hi b (g ∷ gs) = let r = to_beyond lo hi b gs in
    ((λ h. elim h [ inl p ↦ inl p | inr q ↦ inr (r.0 q) ]), (λ h. elim h [ inl p ↦ inl p | inr q ↦ inr (r.1 q) ]))

-- ---- the answers

hold_linear : (v : ℕ → ℤ) (l : List Atom) → HoldAll v (map linear l) → HoldAll v l
unfolding linear
hold_linear v [] h = tt
hold_linear v (at_most_zero g ∷ l) h = (h.0, hold_linear v l h.1)
hold_linear v (is_zero g ∷ l) h = (h.0, hold_linear v l h.1)
hold_linear v (not_zero g ∷ l) h = (h.0, hold_linear v l h.1)
hold_linear v (same a b ∷ l) h = (tt, hold_linear v l h.1)
hold_linear v (differ a b ∷ l) h = (tt, hold_linear v l h.1)

module _ (lo hi : ℤ) (b : ℕ) (l : List Atom) where
  refuted_as : (SomeRefuted lo hi b (groups (map linear l)) → SomeRefuted lo hi b (groups l)) × (SomeRefuted lo hi b (groups l) → SomeRefuted lo hi b (groups (map linear l)))
  refuted_as = let r = groups_tell (Refuted lo hi b) (refuted_tells lo hi b) l in let p = to_refuted lo hi b (groups (map linear l)) in let q = to_refuted lo hi b (groups l) in
      ((λ h. q.0 (r.0 (p.1 h))), (λ h. p.0 (r.1 (q.1 h))))

  beyond_as : (SomeBeyond lo hi b (groups (map linear l)) → SomeBeyond lo hi b (groups l)) × (SomeBeyond lo hi b (groups l) → SomeBeyond lo hi b (groups (map linear l)))
  beyond_as = let r = groups_tell (λ g. b < need lo hi g) (beyond_tells lo hi b) l in let p = to_beyond lo hi b (groups (map linear l)) in let q = to_beyond lo hi b (groups l) in
      ((λ h. q.0 (r.0 (p.1 h))), (λ h. p.0 (r.1 (q.1 h))))

  pub right_linear : (s : Answer) → Right lo hi b (map linear l) s → Right lo hi b l s
  right_linear (sat v) h = (subst (Between lo hi v) (places_linear l) h.0, hold_linear v l h.1, (λ r. h.2 (refuted_as.1 r)), (λ r. h.3 (beyond_as.1 r)))
  right_linear unsat h = refuted_as.0 h
  right_linear spent h = ((λ r. h.0 (refuted_as.1 r)), beyond_as.0 h.1)

pub given_linear : (lo hi : ℤ) (n : ℕ) (l : List Atom) (s : Solved) → Given lo hi n (map linear l) s → Given lo hi n l s
given_linear lo hi n l (Sat o) h = (
  h.0,
  (λ x i. h.1 x (subst (λ (p : List ℕ). contains p x ≡ true) (sym (places_linear l)) i)),
  (λ x i. h.2 x (subst (λ (p : List ℕ). contains p x ≡ false) (sym (places_linear l)) i)),
)
given_linear lo hi n l Unsat h = tt
given_linear lo hi n l Spent h = tt
