-- The groups of a list of atoms: their parts are disjoint, and cover the atoms.
use Rattle.std.proofs.Common.{◌≡◌, ◌≢◌, ◌∙◌, sym, ap, ap₂, subst, refl, arith, ℕ, suc, ℤ, pos, ◌+ℤ◌, ◌*ℤ◌, ◌≤ℤ◌, Bool, true, false, ◌||◌, ◌⊎◌, inl, inr, nat_eq, List, [], ◌∷◌, ◌++◌, length, reverse, if◌then◌else◌}
use Rattle.std.proofs.lemmas.List.{reverse-append}
use borrow.Author.Tests.{eqb-true, eq-eqb}
use Rattle.cc_base.specs.Inequality.{total}
use Rattle.cc_base.specs.declared.forms.Multiple.{Multiple}
use Rattle.cc_base.specs.Groups.{Atom, at_most_zero, is_zero, not_zero, same, differ, value, Holds, HoldAll, form_of, contains, put, put_all, named, shares, touching, apart, parts, atoms_on, placeless, groups_of, groups}
use Rattle.linear_solver.specs.Standing.{OutOf, Member}
use Rattle.linear_solver.proofs.Integers.{bool_cases}
use Rattle.linear_solver.proofs.Tidied.{or_true}

abbrev pub In : ℕ → List ℕ → Type 0
In x l = contains l x ≡ true

pub or_left : (a b : Bool) → a ≡ true → a || b ≡ true
or_left true b h = refl
or_left false b h = absurd (cc h)

pub or_right : (a b : Bool) → b ≡ true → a || b ≡ true
or_right true b h = refl
or_right false b h = h

pub same_nat : (x : ℕ) → nat_eq x x ≡ true
same_nat x = eq-eqb x x refl

pub put_new : (x : ℕ) (l : List ℕ) → In x (put x l)
unfolding put contains
put_new x l = elim (bool_cases (contains l x)) [
  | inl t ↦ subst (λ (b : Bool). In x (if b then l else x ∷ l)) (sym t) t
  | inr t ↦ subst (λ (b : Bool). In x (if b then l else x ∷ l)) (sym t) (or_left (nat_eq x x) (contains l x) (same_nat x))
]

pub put_old : (x y : ℕ) (l : List ℕ) → In y l → In y (put x l)
unfolding put contains
put_old x y l h = elim (bool_cases (contains l x)) [
  | inl t ↦ subst (λ (b : Bool). In y (if b then l else x ∷ l)) (sym t) h
  | inr t ↦ subst (λ (b : Bool). In y (if b then l else x ∷ l)) (sym t) (or_right (nat_eq y x) (contains l y) h)
]

pub put_out : (x y : ℕ) (l : List ℕ) → In y (put x l) → (y ≡ x) ⊎ In y l
unfolding put contains
put_out x y l h = elim (bool_cases (contains l x)) [
  | inl t ↦ inr (subst (λ (b : Bool). In y (if b then l else x ∷ l)) t h)
  | inr t ↦ elim (or_true (nat_eq y x) (contains l y) (subst (λ (b : Bool). In y (if b then l else x ∷ l)) t h)) [
    | inl e ↦ inl (eqb-true y x e)
    | inr e ↦ inr e
  ]
]

pub all_first : (x : ℕ) (p l : List ℕ) → In x p → In x (put_all p l)
unfolding put_all contains
all_first x [] l h = absurd (cc h)
all_first x (y ∷ p) l h = elim (or_true (nat_eq x y) (contains p x) h) [
  | inl e ↦ subst (λ (z : ℕ). In z (put y (put_all p l))) (sym (eqb-true x y e)) (put_new y (put_all p l))
  | inr e ↦ put_old y x (put_all p l) (all_first x p l e)
]

pub all_second : (x : ℕ) (p l : List ℕ) → In x l → In x (put_all p l)
unfolding put_all
all_second x [] l h = h
all_second x (y ∷ p) l h = put_old y x (put_all p l) (all_second x p l h)

pub all_out : (x : ℕ) (p l : List ℕ) → In x (put_all p l) → In x p ⊎ In x l
unfolding put_all contains
all_out x [] l h = inr h
all_out x (y ∷ p) l h = elim (put_out y x (put_all p l) h) [
  | inl e ↦ inl (or_left (nat_eq x y) (contains p x) (eq-eqb x y e))
  | inr e ↦ elim (all_out x p l e) [ inl k ↦ inl (or_right (nat_eq x y) (contains p x) k) | inr k ↦ inr k ]
]

-- two lists that share a place
pub shares_of : (x : ℕ) (p q : List ℕ) → In x p → In x q → shares p q ≡ true
unfolding shares contains
shares_of x [] q h k = absurd (cc h)
shares_of x (y ∷ p) q h k = elim (or_true (nat_eq x y) (contains p x) h) [
  | inl e ↦ or_left (contains q y) (shares p q) (subst (λ (z : ℕ). In z q) (eqb-true x y e) k)
  | inr e ↦ or_right (contains q y) (shares p q) (shares_of x p q e k)
]

pub shared : (p q : List ℕ) → shares p q ≡ true → (x : ℕ) × In x p × In x q
unfolding shares contains
shared [] q h = absurd (cc h)
shared (y ∷ p) q h = elim (or_true (contains q y) (shares p q) h) [
  | inl e ↦ (y, or_left (nat_eq y y) (contains p y) (same_nat y), e)
  | inr e ↦ let r = shared p q e in (r.0, or_right (nat_eq r.0 y) (contains p r.0) r.1, r.2)
]

-- ---- parts

abbrev pub Disjoint : List (List ℕ) → Type 0
Disjoint [] = Unit {0}
Disjoint (c ∷ cs) = ((x : ℕ) → In x c → OutOf x cs) × Disjoint cs

out_of_apart : (x : ℕ) (p : List ℕ) (cs : List (List ℕ)) → OutOf x cs → OutOf x (apart p cs)
unfolding apart
out_of_apart x p [] h = tt
out_of_apart x p (c ∷ cs) h = elim (bool_cases (shares p c)) [
  | inl t ↦ subst (λ (b : Bool). OutOf x (if b then apart p cs else c ∷ apart p cs)) (sym t) (out_of_apart x p cs h.1)
  | inr t ↦ subst (λ (b : Bool). OutOf x (if b then apart p cs else c ∷ apart p cs)) (sym t) (h.0, out_of_apart x p cs h.1)
]

-- a place of the joined part is one of p, or of a part
touching_out : (x : ℕ) (p : List ℕ) (cs : List (List ℕ)) → In x (touching p cs) → OutOf x cs → In x p
unfolding touching
touching_out x p [] h o = h
touching_out x p (c ∷ cs) h o = elim (bool_cases (shares p c)) [
  | inl t ↦ elim (all_out x c (touching p cs) (subst (λ (b : Bool). In x (if b then put_all c (touching p cs) else touching p cs)) t h)) [
    | inl k ↦ absurd (o.0 k)
    | inr k ↦ touching_out x p cs k o.1
  ]
  | inr t ↦ touching_out x p cs (subst (λ (b : Bool). In x (if b then put_all c (touching p cs) else touching p cs)) t h) o.1
]

touching_apart : (x : ℕ) (p : List ℕ) (cs : List (List ℕ)) → Disjoint cs → In x (touching p cs) → OutOf x (apart p cs)
unfolding touching apart
touching_apart x p [] d h = tt
touching_apart x p (c ∷ cs) d h = elim (bool_cases (shares p c)) [
  | inl t ↦ subst (λ (b : Bool). OutOf x (if b then apart p cs else c ∷ apart p cs)) (sym t)
      (elim (all_out x c (touching p cs) (subst (λ (b : Bool). In x (if b then put_all c (touching p cs) else touching p cs)) t h)) [
        | inl k ↦ out_of_apart x p cs (d.0 x k)
        | inr k ↦ touching_apart x p cs d.1 k
      ])
  | inr t ↦
      let k = subst (λ (b : Bool). In x (if b then put_all c (touching p cs) else touching p cs)) t h in
      subst (λ (b : Bool). OutOf x (if b then apart p cs else c ∷ apart p cs)) (sym t)
      ((λ i. let s = shares_of x p c (touching_out x p cs k (d.0 x i)) i in cc (s, t)), touching_apart x p cs d.1 k)
]

apart_disjoint : (p : List ℕ) (cs : List (List ℕ)) → Disjoint cs → Disjoint (apart p cs)
unfolding apart
apart_disjoint p [] d = tt
apart_disjoint p (c ∷ cs) d = elim (bool_cases (shares p c)) [
  | inl t ↦ subst (λ (b : Bool). Disjoint (if b then apart p cs else c ∷ apart p cs)) (sym t) (apart_disjoint p cs d.1)
  | inr t ↦ subst (λ (b : Bool). Disjoint (if b then apart p cs else c ∷ apart p cs)) (sym t) ((λ x i. out_of_apart x p cs (d.0 x i)), apart_disjoint p cs d.1)
]

pub parts_disjoint : (l : List Atom) → Disjoint (parts l)
unfolding parts
parts_disjoint [] = tt
parts_disjoint (a ∷ l) = let p = named (form_of a).terms in let d = parts_disjoint l in ((λ x i. touching_apart x p (parts l) d i), apart_disjoint p (parts l) d)

-- ---- an atom depends on its places alone

total_same : (v w : ℕ → ℤ) (p : List Multiple) → ((x : ℕ) → In x (named p) → v x ≡ w x) → total v p ≡ total w p
unfolding total named
total_same v w [] h = refl
total_same v w (t ∷ p) h = ap₂ (λ (m n : ℤ). (t.coefficient *ℤ m) +ℤ n) (h t.place (put_new t.place (named p))) (total_same v w p (λ x i. h x (put_old t.place x (named p) i)))

pub holds_same : (v w : ℕ → ℤ) (a : Atom) → ((x : ℕ) → In x (named (form_of a).terms) → v x ≡ w x) → Holds v a → Holds w a
unfolding value form_of
holds_same v w (at_most_zero g) h m = subst (λ (n : ℤ). (g.constant +ℤ n) ≤ℤ pos 0) (total_same v w g.terms h) m
holds_same v w (is_zero g) h m = subst (λ (n : ℤ). g.constant +ℤ n ≡ pos 0) (total_same v w g.terms h) m
holds_same v w (not_zero g) h m = subst (λ (n : ℤ). g.constant +ℤ n ≢ pos 0) (total_same v w g.terms h) m
holds_same v w (same a b) h m = tt
holds_same v w (differ a b) h m = tt

-- each atom of the list lies in one of the parts
abbrev pub Inside : List ℕ → List (List ℕ) → Type 0
Inside p [] = ⊥
Inside p (c ∷ cs) = ((x : ℕ) → In x p → In x c) ⊎ Inside p cs

abbrev pub AllInside : List Atom → List (List ℕ) → Type 0
AllInside [] cs = Unit {0}
AllInside (a ∷ l) cs = Inside (named (form_of a).terms) cs × AllInside l cs

touching_keeps : (x : ℕ) (p : List ℕ) (cs : List (List ℕ)) → In x p → In x (touching p cs)
unfolding touching
touching_keeps x p [] h = h
touching_keeps x p (c ∷ cs) h = elim (bool_cases (shares p c)) [
  | inl t ↦ subst (λ (b : Bool). In x (if b then put_all c (touching p cs) else touching p cs)) (sym t) (all_second x c (touching p cs) (touching_keeps x p cs h))
  | inr t ↦ subst (λ (b : Bool). In x (if b then put_all c (touching p cs) else touching p cs)) (sym t) (touching_keeps x p cs h)
]

inside_joined : (q p : List ℕ) (cs : List (List ℕ)) → Inside q cs → ((x : ℕ) → In x q → In x (touching p cs)) ⊎ Inside q (apart p cs)
unfolding touching apart
inside_joined q p [] h = absurd h
inside_joined q p (c ∷ cs) h = elim (bool_cases (shares p c)) [
  | inl t ↦ subst (λ (b : Bool). ((x : ℕ) → In x q → In x (if b then put_all c (touching p cs) else touching p cs)) ⊎ Inside q (if b then apart p cs else c ∷ apart p cs)) (sym t)
      (elim h [
        | inl k ↦ inl (λ x i. all_first x c (touching p cs) (k x i))
        | inr k ↦ elim (inside_joined q p cs k) [ inl m ↦ inl (λ x i. all_second x c (touching p cs) (m x i)) | inr m ↦ inr m ]
      ])
  | inr t ↦ subst (λ (b : Bool). ((x : ℕ) → In x q → In x (if b then put_all c (touching p cs) else touching p cs)) ⊎ Inside q (if b then apart p cs else c ∷ apart p cs)) (sym t)
      (elim h [
        | inl k ↦ inr (inl k)
        | inr k ↦ elim (inside_joined q p cs k) [ inl m ↦ inl m | inr m ↦ inr (inr m) ]
      ])
]

inside_more : (l : List Atom) (p : List ℕ) (cs : List (List ℕ)) → AllInside l cs → AllInside l (touching p cs ∷ apart p cs)
inside_more [] p cs h = tt
inside_more (a ∷ l) p cs h = (inside_joined (named (form_of a).terms) p cs h.0, inside_more l p cs h.1)

pub parts_cover : (l : List Atom) → AllInside l (parts l)
unfolding parts
parts_cover [] = tt
parts_cover (a ∷ l) = let p = named (form_of a).terms in (inl (λ x i. touching_keeps x p (parts l) i), inside_more l p (parts l) (parts_cover l))

-- ---- values that meet each group meet the list

abbrev pub AllHold : (ℕ → ℤ) → List (List Atom) → Type 0
AllHold v [] = Unit {0}
AllHold v (g ∷ gs) = HoldAll v g × AllHold v gs

all_hold_parts : (v : ℕ → ℤ) (k l : List (List Atom)) → AllHold v (k ++ l) → AllHold v k × AllHold v l
all_hold_parts v [] l h = (tt, h)
all_hold_parts v (g ∷ k) l h = let r = all_hold_parts v k l h.1 in ((h.0, r.0), r.1)

suc_is_not : (n : ℕ) → nat_eq (suc n) 0 ≡ false
suc_is_not n = grind arith

pub not_none : (c : List ℕ) (x : ℕ) → In x c → nat_eq (length c) 0 ≡ false
unfolding contains
not_none [] x h = absurd (cc h)
not_none (y ∷ c) x h = suc_is_not (length c)

part_holds : (v : ℕ → ℤ) (cs : List (List ℕ)) (l : List Atom) → AllHold v (groups_of cs l) → (c : List ℕ) → Member c cs → (x : ℕ) → In x c → HoldAll v (atoms_on c l)
unfolding groups_of
part_holds v [] l h c m x i = absurd m
part_holds v (d ∷ ds) l h c m x i = elim (bool_cases (nat_eq (length d) 0)) [
  | inl t ↦ elim m [
    | inl e ↦ absurd (let n = not_none d x (subst (λ (k : List ℕ). In x k) e i) in cc (n, t))
    | inr k ↦ part_holds v ds l (subst (λ (b : Bool). AllHold v (if b then groups_of ds l else atoms_on d l ∷ groups_of ds l)) t h) c k x i
  ]
  | inr t ↦ let h' = subst (λ (b : Bool). AllHold v (if b then groups_of ds l else atoms_on d l ∷ groups_of ds l)) t h in elim m [
    | inl e ↦ subst (λ (k : List ℕ). HoldAll v (atoms_on k l)) (sym e) h'.0
    | inr k ↦ part_holds v ds l h'.1 c k x i
  ]
]

pub inside_member : (p : List ℕ) (cs : List (List ℕ)) → Inside p cs → (c : List ℕ) × Member c cs × ((x : ℕ) → In x p → In x c)
inside_member p [] h = absurd h
inside_member p (c ∷ cs) h = elim h [
  | inl k ↦ (c, inl refl, k)
  | inr k ↦ let r = inside_member p cs k in (r.0, inr r.1, r.2)
]

no_place : (p : List Multiple) → (nat_eq (length p) 0 ≡ true) ⊎ ((x : ℕ) × In x (named p))
unfolding named
no_place [] = inl refl
no_place (t ∷ p) = inr (t.place, put_new t.place (named p))

module _ (v : ℕ → ℤ) (cs : List (List ℕ)) where
  some_place : (p : List Multiple) → nat_eq (length p) 0 ≡ false → (x : ℕ) × In x (named p)
  some_place p h = elim (no_place p) [ inl e ↦ absurd (cc (e, h)) | inr r ↦ r ]

  from_groups : (l : List Atom) → AllInside l cs → ((c : List ℕ) → Member c cs → (x : ℕ) → In x c → HoldAll v (atoms_on c l)) → AllHold v (placeless l) → HoldAll v l
  unfolding atoms_on placeless
  from_groups [] i h n = tt
  from_groups (a ∷ l) i h n =
      let tail : (c : List ℕ) → Member c cs → (x : ℕ) → In x c → HoldAll v (atoms_on c l) = λ c m x j. elim (bool_cases (shares (named (form_of a).terms) c)) [
        | inl t ↦ (subst (λ (b : Bool). HoldAll v (if b then a ∷ atoms_on c l else atoms_on c l)) t (h c m x j)).1
        | inr t ↦ subst (λ (b : Bool). HoldAll v (if b then a ∷ atoms_on c l else atoms_on c l)) t (h c m x j)
      ] in
      elim (bool_cases (nat_eq (length (form_of a).terms) 0)) [
        | inl t ↦ let n' = subst (λ (b : Bool). AllHold v (if b then (a ∷ []) ∷ placeless l else placeless l)) t n in ((n'.0).0, from_groups l i.1 tail n'.1)
        | inr t ↦
            let n' = subst (λ (b : Bool). AllHold v (if b then (a ∷ []) ∷ placeless l else placeless l)) t n in
            let r = inside_member (named (form_of a).terms) cs i.0 in
            let x = some_place (form_of a).terms t in
            let s = shares_of x.0 (named (form_of a).terms) r.0 x.1 (r.2 x.0 x.1) in
            ((subst (λ (b : Bool). HoldAll v (if b then a ∷ atoms_on r.0 l else atoms_on r.0 l)) s (h r.0 r.1 x.0 (r.2 x.0 x.1))).0, from_groups l i.1 tail n')
      ]

pub groups_hold : (v : ℕ → ℤ) (l : List Atom) → AllHold v (groups l) → HoldAll v l
unfolding groups
groups_hold v l h = let r = all_hold_parts v (groups_of (parts l) l) (placeless l) h in
    from_groups v (parts l) l (parts_cover l) (part_holds v (parts l) l r.0) r.1

-- ---- and what is written for one part leaves the atoms of the others

out_inside : (x : ℕ) (p : List ℕ) (cs : List (List ℕ)) → OutOf x cs → Inside p cs → In x p → ⊥
out_inside x p [] o i h = i
out_inside x p (c ∷ cs) o i h = elim i [ inl k ↦ o.0 (k x h) | inr k ↦ out_inside x p cs o.1 k h ]

pub out_member : (x : ℕ) (c : List ℕ) (cs : List (List ℕ)) → OutOf x cs → Member c cs → In x c → ⊥
out_member x c [] o m h = m
out_member x c (d ∷ ds) o m h = elim m [ inl e ↦ o.0 (subst (λ (k : List ℕ). In x k) e h) | inr k ↦ out_member x c ds o.1 k h ]

pub inside_shared : (p c : List ℕ) (cs : List (List ℕ)) → Disjoint cs → Inside p cs → Member c cs → shares p c ≡ true → (x : ℕ) → In x p → In x c
inside_shared p c [] d i m s x h = absurd m
inside_shared p c (e ∷ es) d i m s x h = let y = shared p c s in elim m [
  | inl q ↦ elim i [
    | inl k ↦ subst (λ (z : List ℕ). In x z) (sym q) (k x h)
    | inr k ↦ absurd (out_inside y.0 p es (d.0 y.0 (subst (λ (z : List ℕ). In y.0 z) q y.2)) k y.1)
  ]
  | inr q ↦ elim i [
    | inl k ↦ absurd (out_member y.0 c es (d.0 y.0 (k y.0 y.1)) q y.2)
    | inr k ↦ inside_shared p c es d.1 k q s x h
  ]
]

-- ---- lists of places, built from their ends

pub put_named : (t : Multiple) (p : List Multiple) (l : List ℕ) → put_all (named (t ∷ p)) l ≡ put t.place (put_all (named p) l)
unfolding named put put_all
put_named t p l = elim (bool_cases (contains (named p) t.place)) [
  | inl e ↦ ap (λ (b : Bool). put_all (if b then named p else t.place ∷ named p) l) e
      ∙ sym (ap (λ (b : Bool). if b then put_all (named p) l else t.place ∷ put_all (named p) l) (all_first t.place (named p) l e))
  | inr e ↦ ap (λ (b : Bool). put_all (if b then named p else t.place ∷ named p) l) e
]

pub contains_append : (p q : List ℕ) (x : ℕ) → contains (p ++ q) x ≡ contains p x || contains q x
unfolding contains
contains_append [] q x = refl
contains_append (y ∷ p) q x = ap (λ (b : Bool). nat_eq x y || b) (contains_append p q x) ∙ or_assoc (nat_eq x y) (contains p x) (contains q x)
  where
    or_assoc : (a b c : Bool) → a || (b || c) ≡ (a || b) || c
    or_assoc true b c = refl
    or_assoc false b c = refl

or_comm : (a b : Bool) → a || b ≡ b || a
or_comm true true = refl
or_comm true false = refl
or_comm false true = refl
or_comm false false = refl

pub contains_reverse : (l : List ℕ) (x : ℕ) → contains (reverse l) x ≡ contains l x
unfolding contains
contains_reverse [] x = refl
contains_reverse (y ∷ l) x = ap (λ (m : List ℕ). contains m x) (reverse-append (y ∷ []) l) ∙ contains_append (reverse l) (y ∷ []) x ∙ or_comm (contains (reverse l) x) (nat_eq x y || false)
    ∙ ap₂ (λ (a b : Bool). a || b) (or_no (nat_eq x y)) (contains_reverse l x)
  where
    or_no : (a : Bool) → a || false ≡ a
    or_no true = refl
    or_no false = refl

pub put_in : (x : ℕ) (l : List ℕ) → contains l x ≡ true → reverse l ≡ put x (reverse l)
unfolding put
put_in x l e = sym (ap (λ (b : Bool). if b then reverse l else x ∷ reverse l) (contains_reverse l x ∙ e))

pub put_out_of : (x : ℕ) (l m : List ℕ) → contains l x ≡ false → m ≡ l ++ (x ∷ []) → reverse m ≡ put x (reverse l)
unfolding put
put_out_of x l m e f = ap reverse f ∙ reverse-append l (x ∷ []) ∙ sym (ap (λ (b : Bool). if b then reverse l else x ∷ reverse l) (contains_reverse l x ∙ e))
