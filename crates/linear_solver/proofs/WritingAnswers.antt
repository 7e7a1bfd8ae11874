-- The steps of writing answers, and of the loops over parts and atoms.
use Rattle.std.proofs.Common.{◌≡◌, ◌≢◌, ◌∙◌, sym, ap, subst, refl, arith, ℕ, zero, suc, ◌+◌, ◌<◌, ◌≤◌, Bool, true, false, ◌||◌, inl, inr, nat_eq, List, [], ◌∷◌, ◌++◌, length, map, reverse, set, take, drop, get_or, append_assoc, append-nil, All, Option, Some, None, ℤ, if◌then◌else◌, Vec, Global}
use Rattle.std.proofs.lemmas.List.{take_more, take_all, get_or-set_same, get_or-set_other, length-set, take-append-drop, map-append}
use Rattle.std.proofs.lemmas.List.Elements.{All-nil, All-cons}
use borrow.Author.Tests.{eqb-true, eq-eqb}
use Rattle.cc_base.specs.declared.forms.Multiple.{Multiple}
use Rattle.cc_base.specs.Groups.{Form, Atom, form_of, contains, named, put_all, places_in, shares, parts, atoms_on, placeless, groups_of, groups}
use Rattle.cc_base.specs.Solve.{Refuted, SomeRefuted}
use Rattle.linear_solver.specs.declared.atoms.LinearAtom.{LinearAtom}
use Rattle.linear_solver.specs.Answers.{Advanced, PartAdvanced, AloneAdvanced, Below, BelowAll}
use Rattle.linear_solver.specs.Atoms.{seen_form, seen_atom, seen_atoms, FitForm, FitAll}
use Rattle.linear_solver.specs.Parts.{Wrote, backwards, all_backwards}
use Rattle.linear_solver.specs.Standing.{Member, Stands}
use Rattle.linear_solver.proofs.Assembling.{values_stand, beyond_stand, empty_stands, alone_values, alone_beyond, groups_last, part_named}
use Rattle.linear_solver.proofs.Integers.{bool_cases}
use Rattle.linear_solver.proofs.Parting.{In, Disjoint, parts_disjoint, parts_cover, out_member, contains_append, contains_reverse, put_out, all_out}
use Rattle.linear_solver.proofs.PartSteps.{back_drop}
use Rattle.std.proofs.Common.{SFits, to_z, of_z, replicate}
use Rattle.std.proofs.lemmas.Int.{to_z-of_z}
use Rattle.std.proofs.lemmas.List.{nil_from_length, length-replicate, length-reverse}
use mir.Syntax.{w32}
use Rattle.linear_solver.specs.Seen.{at_places}
use Rattle.linear_solver.specs.Settled.{Settles}
use Rattle.linear_solver.specs.declared.group.GroupAnswer.TheVariants.{Values, Beyond}
use Rattle.linear_solver.proofs.Writing.{seen_form_is}

or_last : (a : Bool) → a || false ≡ a
or_last true = refl
or_last false = refl

take_contains : (p : List ℕ) (k y : ℕ) → k < length p → contains (take (k + 1) p) y ≡ contains (take k p) y || nat_eq y (get_or p k 0)
unfolding contains
take_contains p k y h = ap (λ (l : List ℕ). contains l y) (take_more p k 0 h) ∙ contains_append (take k p) (get_or p k 0 ∷ []) y ∙ ap (λ (b : Bool). contains (take k p) y || b) (or_last (nat_eq y (get_or p k 0)))

pub wrote_none : (w : ℕ → ℤ) (o : List (Option ℤ)) (p : List ℕ) → Wrote (take 0 p) w o o
unfolding contains
wrote_none w o p = (refl, λ y. refl)

pub wrote_more : (w : ℕ → ℤ) (o u : List (Option ℤ)) (p : List ℕ) (k : ℕ) (z : ℤ) → k < length p → get_or p k 0 < length u → z ≡ w (get_or p k 0) → Wrote (take k p) w o u → Wrote (take (k + 1) p) w o (set u (get_or p k 0) (Some z))
wrote_more w o u p k z h l e r =
    let x = get_or p k 0 in (
      length-set u x (Some z) ∙ r.0,
      λ y. elim (bool_cases (nat_eq y x)) [
        | inl t ↦
            let s : y ≡ x = eqb-true y x t in
            ap (λ (n : ℕ). get_or (set u x (Some z)) n None) s ∙ get_or-set_same u x (Some z) None l ∙ ap (λ (n : ℤ). Some n) (e ∙ ap w (sym s))
            ∙ sym (ap (λ (b : Bool). if b then Some (w y) else get_or o y None) (take_contains p k y h ∙ ap (λ (b : Bool). contains (take k p) y || b) t ∙ or_true_last (contains (take k p) y)))
        | inr t ↦
            let n : y ≢ x = λ s. (let q = eq-eqb y x s in cc (q, t)) in
            get_or-set_other u x y (Some z) None n ∙ r.1 y
            ∙ sym (ap (λ (b : Bool). if b then Some (w y) else get_or o y None) (take_contains p k y h ∙ ap (λ (b : Bool). contains (take k p) y || b) t ∙ or_last (contains (take k p) y)))
      ],
    )
  where
    or_true_last : (a : Bool) → a || true ≡ true
    or_true_last true = refl
    or_true_last false = refl

pub wrote_all : (w : ℕ → ℤ) (o u : List (Option ℤ)) (p : List ℕ) (k : ℕ) → length p ≤ k → Wrote (take k p) w o u → Wrote (reverse p) w o u
wrote_all w o u p k h r = (r.0, λ y. r.1 y ∙ ap (λ (b : Bool). if b then Some (w y) else get_or o y None) (ap (λ (l : List ℕ). contains l y) (take_all k p h) ∙ sym (contains_reverse p y)))

-- ---- below and fitting

below_in : (n : ℕ) (p : List Multiple) (x : ℕ) → Below n p → In x (named p) → x < n
unfolding named contains
below_in n [] x b i = absurd (cc i)
below_in n (t ∷ p) x b i = elim (put_out t.place x (named p) i) [ inl e ↦ (let a = b.0 in omega (arith, a, e)) | inr j ↦ below_in n p x b.1 j ]

below_places : (n : ℕ) (l : List Atom) (x : ℕ) → BelowAll n l → In x (places_in l) → x < n
unfolding places_in contains
below_places n [] x b i = absurd (cc i)
below_places n (a ∷ l) x b i = elim (all_out x (named (form_of a).terms) (places_in l) i) [ inl j ↦ below_in n (form_of a).terms x b.0 j | inr j ↦ below_places n l x b.1 j ]

in_first : (y : ℕ) (c : List ℕ) → In y (y ∷ c)
unfolding contains
in_first y c = ap (λ (a : Bool). a || contains c y) (eq-eqb y y refl)

or_true_at : (a : Bool) → a || true ≡ true
or_true_at true = refl
or_true_at false = refl

in_later : (x y : ℕ) (c : List ℕ) → In x c → In x (y ∷ c)
unfolding contains
in_later x y c i = ap (λ (b : Bool). nat_eq x y || b) i ∙ or_true_at (nat_eq x y)

each_below : (n : ℕ) (c : List ℕ) → ((x : ℕ) → In x c → x < n) → All (λ x. x < n) c
each_below n [] h = All-nil (λ x. x < n)
each_below n (y ∷ c) h = All-cons (λ x. x < n) y c (h y (in_first y c)) (each_below n c (λ x i. h x (in_later x y c i)))

pub part_below : (n : ℕ) (l : List Atom) (p : List ℕ) → BelowAll n l → Member (reverse p) (parts l) → All (λ x. x < n) p
part_below n l p b m = each_below n p (λ x i. below_places n l x b (part_named l (reverse p) x m (contains_reverse p x ∙ i)))

pub fit_on : (c : List ℕ) (l : List Atom) → FitAll l → FitAll (atoms_on c l)
unfolding atoms_on
fit_on c [] f = tt
fit_on c (a ∷ l) f = elim (bool_cases (shares (named (form_of a).terms) c)) [
  | inl t ↦ subst (λ (b : Bool). FitAll (if b then a ∷ atoms_on c l else atoms_on c l)) (sym t) (f.0, fit_on c l f.1)
  | inr t ↦ subst (λ (b : Bool). FitAll (if b then a ∷ atoms_on c l else atoms_on c l)) (sym t) (fit_on c l f.1)
]

-- ---- the loop over the parts

back_take : (l : List (Vec ℕ Global)) (k : ℕ) (x : Vec ℕ Global) → k < length l → x ≡ get_or l k x → all_backwards (take (k + 1) l) ≡ all_backwards (take k l) ++ (backwards x ∷ [])
unfolding all_backwards
back_take l k x h e = ap (map backwards) (take_more l k x h ∙ ap (λ (y : Vec ℕ Global). take k l ++ (y ∷ [])) (sym e)) ∙ map-append backwards (take k l) (x ∷ [])

join : (l : List (Vec ℕ Global)) (k : ℕ) → all_backwards (take k l) ++ all_backwards (drop k l) ≡ all_backwards l
unfolding all_backwards
join l k = sym (map-append backwards (take k l) (drop k l)) ∙ ap (map backwards) (take-append-drop k l)

back_split : (l : List (Vec ℕ Global)) (k : ℕ) (x : Vec ℕ Global) → k < length l → x ≡ get_or l k x → all_backwards (take k l) ++ (backwards x ∷ all_backwards (drop (k + 1) l)) ≡ all_backwards l
back_split l k x h e = ap (λ (m : List (List ℕ)). all_backwards (take k l) ++ m) (sym (back_drop l k x h e)) ∙ join l k

member_mid : (ds : List (List ℕ)) (c : List ℕ) (r : List (List ℕ)) → Member c (ds ++ (c ∷ r))
member_mid [] c r = inl refl
member_mid (d ∷ ds) c r = inr (member_mid ds c r)

member_front : (ds : List (List ℕ)) (r : List (List ℕ)) (d : List ℕ) → Member d ds → Member d (ds ++ r)
member_front [] r d m = absurd m
member_front (e ∷ ds) r d m = elim m [ inl k ↦ inl k | inr k ↦ inr (member_front ds r d k) ]

apart_mid : (ds : List (List ℕ)) (c : List ℕ) (r : List (List ℕ)) → Disjoint (ds ++ (c ∷ r)) → (d : List ℕ) → Member d ds → (x : ℕ) → In x d → In x c → ⊥
apart_mid [] c r p d m x i j = m
apart_mid (e ∷ ds) c r p d m x i j = elim m [
  | inl k ↦ out_member x c (ds ++ (c ∷ r)) (p.0 x (subst (λ (q : List ℕ). In x q) k i)) (member_mid ds c r) j
  | inr k ↦ apart_mid ds c r p.1 d k x i j
]

pub member_at : (l : List (Vec ℕ Global)) (k : ℕ) (x : Vec ℕ Global) (cs : List (List ℕ)) → k < length l → x ≡ get_or l k x → all_backwards l ≡ cs → Member (backwards x) cs
member_at l k x cs h e f = subst (λ (m : List (List ℕ)). Member (backwards x) m) (back_split l k x h e ∙ f) (member_mid (all_backwards (take k l)) (backwards x) (all_backwards (drop (k + 1) l)))

-- the answers after one part more
pub part_stands : (lo hi : ℤ) (b n : ℕ) (o u : List (Option ℤ)) (s t : Bool) (L : List Atom) (l : List (Vec ℕ Global)) (k : ℕ) (x : Vec ℕ Global) → k < length l → x ≡ get_or l k x → all_backwards l ≡ parts L →
    PartAdvanced lo hi b (backwards x) L o s u t false → Stands lo hi b n o s (all_backwards (take k l)) (groups_of (all_backwards (take k l)) L) → Stands lo hi b n u t (all_backwards (take (k + 1) l)) (groups_of (all_backwards (take (k + 1) l)) L)
part_stands lo hi b n o u s t L l k x h e f a st =
    let ds = all_backwards (take k l) in let c = backwards x in
    let whole = back_split l k x h e ∙ f in
    let p = subst (λ (m : List (List ℕ)). Disjoint m) (sym whole) (parts_disjoint L) in
    let mc = subst (λ (m : List (List ℕ)). Member c m) whole (member_mid ds c (all_backwards (drop (k + 1) l))) in
    let md : (d : List ℕ) → Member d ds → Member d (parts L) × ((y : ℕ) → In y d → In y c → ⊥) = λ d m.
    (subst (λ (q : List (List ℕ)). Member d q) whole (member_front ds (c ∷ all_backwards (drop (k + 1) l)) d m), λ y i j. apart_mid ds c (all_backwards (drop (k + 1) l)) p d m y i j) in
    subst (λ (m : List (List ℕ)). Stands lo hi b n u t m (groups_of m L)) (sym (back_take l k x h e))
    (by_case ds c mc md a st)
  where
    grown : (ds : List (List ℕ)) (c : List ℕ) → nat_eq (length c) 0 ≡ false → groups_of ds L ++ (atoms_on c L ∷ []) ≡ groups_of (ds ++ (c ∷ [])) L
    grown ds c z = sym (groups_last ds c L ∙ ap (λ (q : Bool). groups_of ds L ++ (if q then [] else atoms_on c L ∷ [])) z)

    same : (ds : List (List ℕ)) (c : List ℕ) → c ≡ [] → groups_of ds L ≡ groups_of (ds ++ (c ∷ [])) L
    same ds c z = sym (groups_last ds c L ∙ ap (λ (q : List ℕ). groups_of ds L ++ (if nat_eq (length q) 0 then [] else atoms_on q L ∷ [])) z ∙ append-nil (groups_of ds L))

    moved : (ds : List (List ℕ)) → o ≡ u → s ≡ t → Stands lo hi b n o s ds (groups_of ds L) → Stands lo hi b n u t ds (groups_of ds L)
    moved ds q r w = subst (λ (v : List (Option ℤ)). Stands lo hi b n v t ds (groups_of ds L)) q (subst (λ (v : Bool). Stands lo hi b n o v ds (groups_of ds L)) r w)

    by_case : (ds : List (List ℕ)) (c : List ℕ) → Member c (parts L) → ((d : List ℕ) → Member d ds → Member d (parts L) × ((y : ℕ) → In y d → In y c → ⊥)) → PartAdvanced lo hi b c L o s u t false → Stands lo hi b n o s ds (groups_of ds L) → Stands lo hi b n u t (ds ++ (c ∷ [])) (groups_of (ds ++ (c ∷ [])) L)
    by_case ds c mc md a st = elim a [
      | inl z ↦ subst (λ (g : List (List Atom)). Stands lo hi b n u t (ds ++ (c ∷ [])) g) (same ds c z.0) (empty_stands lo hi b n u t ds (groups_of ds L) c z.0 (moved ds (sym z.1) (sym z.2) st))
      | inr z ↦ subst (λ (g : List (List Atom)). Stands lo hi b n u t (ds ++ (c ∷ [])) g) (grown ds c z.0) (elim z.1 [
        | inl w ↦ values_stand lo hi b n L (parts L) ds c (parts_disjoint L) (parts_cover L) mc mc md o u s t w.0 st (w.1, w.2, w.3) w.4 w.5
        | inr w ↦ beyond_stand lo hi b n L (parts L) ds c (parts_disjoint L) (parts_cover L) mc mc md o u s t st w.0 w.1 w.2
      ])
    ]

some_of_member : (lo hi : ℤ) (b : ℕ) (L : List Atom) (cs : List (List ℕ)) (c : List ℕ) → Member c cs → nat_eq (length c) 0 ≡ false → Refuted lo hi b (atoms_on c L) → SomeRefuted lo hi b (groups_of cs L)
unfolding groups_of
some_of_member lo hi b L [] c m z r = absurd m
some_of_member lo hi b L (d ∷ cs) c m z r = elim (bool_cases (nat_eq (length d) 0)) [
  | inl t ↦ subst (λ (q : Bool). SomeRefuted lo hi b (if q then groups_of cs L else atoms_on d L ∷ groups_of cs L)) (sym t) (elim m [
    | inl e ↦ absurd (let f : nat_eq (length d) 0 ≡ false = subst (λ (q : List ℕ). nat_eq (length q) 0 ≡ false) e z in cc (f, t))
    | inr k ↦ some_of_member lo hi b L cs c k z r
  ])
  | inr t ↦ subst (λ (q : Bool). SomeRefuted lo hi b (if q then groups_of cs L else atoms_on d L ∷ groups_of cs L)) (sym t) (elim m [
    | inl e ↦ inl (subst (λ (q : List ℕ). Refuted lo hi b (atoms_on q L)) e r)
    | inr k ↦ inr (some_of_member lo hi b L cs c k z r)
  ])
]

pub part_refutes : (lo hi : ℤ) (b : ℕ) (o u : List (Option ℤ)) (s t : Bool) (L : List Atom) (c : List ℕ) → Member c (parts L) → PartAdvanced lo hi b c L o s u t true → SomeRefuted lo hi b (groups_of (parts L) L)
part_refutes lo hi b o u s t L c m a = some_of_member lo hi b L (parts L) c m a.0 a.1

pub parts_start : (lo hi : ℤ) (b n : ℕ) (o : List (Option ℤ)) (s : Bool) (L : List Atom) (l : List (Vec ℕ Global)) → Stands lo hi b n o s [] [] → Stands lo hi b n o s (all_backwards (take 0 l)) (groups_of (all_backwards (take 0 l)) L)
unfolding all_backwards groups_of
parts_start lo hi b n o s L l st = st

pub parts_end : (lo hi : ℤ) (b n : ℕ) (o : List (Option ℤ)) (s : Bool) (L : List Atom) (l : List (Vec ℕ Global)) (k : ℕ) → length l ≤ k → all_backwards l ≡ parts L → Stands lo hi b n o s (all_backwards (take k l)) (groups_of (all_backwards (take k l)) L) → Stands lo hi b n o s (parts L) (groups_of (parts L) L)
parts_end lo hi b n o s L l k h e st = subst (λ (m : List (List ℕ)). Stands lo hi b n o s m (groups_of m L)) (ap all_backwards (take_all k l h) ∙ e) st

-- ---- the loop over the atoms without place

placeless_last : (l : List Atom) (a : Atom) → placeless (l ++ (a ∷ [])) ≡ placeless l ++ (if nat_eq (length (form_of a).terms) 0 then (a ∷ []) ∷ [] else [])
unfolding placeless
placeless_last [] a = refl
placeless_last (f ∷ l) a = elim (bool_cases (nat_eq (length (form_of f).terms) 0)) [
  | inl t ↦ ap (λ (q : Bool). if q then (f ∷ []) ∷ placeless (l ++ (a ∷ [])) else placeless (l ++ (a ∷ []))) t ∙ ap (λ (m : List (List Atom)). (f ∷ []) ∷ m) (placeless_last l a)
      ∙ sym (ap (λ (q : Bool). (if q then (f ∷ []) ∷ placeless l else placeless l) ++ (if nat_eq (length (form_of a).terms) 0 then (a ∷ []) ∷ [] else [])) t)
  | inr t ↦ ap (λ (q : Bool). if q then (f ∷ []) ∷ placeless (l ++ (a ∷ [])) else placeless (l ++ (a ∷ []))) t ∙ placeless_last l a
      ∙ sym (ap (λ (q : Bool). (if q then (f ∷ []) ∷ placeless l else placeless l) ++ (if nat_eq (length (form_of a).terms) 0 then (a ∷ []) ∷ [] else [])) t)
]

atoms_take : (l : List LinearAtom) (k : ℕ) (x : LinearAtom) → k < length l → x ≡ get_or l k x → seen_atoms (take (k + 1) l) ≡ seen_atoms (take k l) ++ (seen_atom x ∷ [])
unfolding seen_atoms
atoms_take l k x h e = ap (map seen_atom) (take_more l k x h ∙ ap (λ (y : LinearAtom). take k l ++ (y ∷ [])) (sym e)) ∙ map-append seen_atom (take k l) (x ∷ [])

no_terms : (p : List Multiple) → nat_eq (length p) 0 ≡ true → p ≡ []
no_terms [] h = refl
no_terms (t ∷ p) h = absurd (let e = eqb-true (length (t ∷ p)) 0 h in omega (arith, e))

no_places : (a : Atom) → nat_eq (length (form_of a).terms) 0 ≡ true → [] ≡ places_in (a ∷ [])
unfolding places_in named put_all
no_places a h = sym (ap (λ (p : List Multiple). put_all (named p) []) (no_terms (form_of a).terms h))

pub alone_stands : (lo hi : ℤ) (b n : ℕ) (o u : List (Option ℤ)) (s t : Bool) (cs : List (List ℕ)) (gs : List (List Atom)) (l : List LinearAtom) (k : ℕ) (x : LinearAtom) → k < length l → x ≡ get_or l k x →
    AloneAdvanced lo hi b (seen_atom x) o s u t false → Stands lo hi b n o s cs (gs ++ placeless (seen_atoms (take k l))) → Stands lo hi b n u t cs (gs ++ placeless (seen_atoms (take (k + 1) l)))
alone_stands lo hi b n o u s t cs gs l k x h e a st =
    subst (λ (g : List (List Atom)). Stands lo hi b n u t cs (gs ++ g)) (sym (ap placeless (atoms_take l k x h e) ∙ placeless_last (seen_atoms (take k l)) (seen_atom x))) (elim a [
      | inl z ↦ subst (λ (q : Bool). Stands lo hi b n u t cs (gs ++ (placeless (seen_atoms (take k l)) ++ (if q then (seen_atom x ∷ []) ∷ [] else [])))) (sym z.0)
          (subst (λ (m : List (List Atom)). Stands lo hi b n u t cs (gs ++ m)) (sym (append-nil (placeless (seen_atoms (take k l)))))
          (subst (λ (v : List (Option ℤ)). Stands lo hi b n v t cs (gs ++ placeless (seen_atoms (take k l)))) (sym z.1) (subst (λ (v : Bool). Stands lo hi b n o v cs (gs ++ placeless (seen_atoms (take k l)))) (sym z.2) st)))
      | inr z ↦ subst (λ (q : Bool). Stands lo hi b n u t cs (gs ++ (placeless (seen_atoms (take k l)) ++ (if q then (seen_atom x ∷ []) ∷ [] else [])))) (sym z.0)
          (subst (λ (m : List (List Atom)). Stands lo hi b n u t cs m) (append_assoc gs (placeless (seen_atoms (take k l))) ((seen_atom x ∷ []) ∷ []))
          (elim z.1 [
            | inl w ↦ alone_values lo hi b n o u s t cs (gs ++ placeless (seen_atoms (take k l))) (seen_atom x ∷ []) w.0 (no_places (seen_atom x) z.0) (w.1, w.2, w.3) w.4 w.5 st
            | inr w ↦ alone_beyond lo hi b n o u s t cs (gs ++ placeless (seen_atoms (take k l))) (seen_atom x ∷ []) w.0 w.1 w.2 st
          ]))
    ])

refuted_behind : (lo hi : ℤ) (b : ℕ) (gs hs : List (List Atom)) → SomeRefuted lo hi b hs → SomeRefuted lo hi b (gs ++ hs)
refuted_behind lo hi b [] hs r = r
refuted_behind lo hi b (g ∷ gs) hs r = inr (refuted_behind lo hi b gs hs r)

refuted_front : (lo hi : ℤ) (b : ℕ) (gs hs : List (List Atom)) → SomeRefuted lo hi b gs → SomeRefuted lo hi b (gs ++ hs)
refuted_front lo hi b [] hs r = absurd r
refuted_front lo hi b (g ∷ gs) hs r = elim r [ inl k ↦ inl k | inr k ↦ inr (refuted_front lo hi b gs hs k) ]

alone_member : (lo hi : ℤ) (b : ℕ) (l : List LinearAtom) (k : ℕ) (x : LinearAtom) → k < length l → x ≡ get_or l k x → nat_eq (length (form_of (seen_atom x)).terms) 0 ≡ true → Refuted lo hi b (seen_atom x ∷ []) → SomeRefuted lo hi b (placeless (seen_atoms l))
unfolding placeless seen_atoms
alone_member lo hi b [] k x h e z r = absurd (omega arith)
alone_member lo hi b (a ∷ l) zero x h e z r =
    let q : nat_eq (length (form_of (seen_atom a)).terms) 0 ≡ true = subst (λ (y : LinearAtom). nat_eq (length (form_of (seen_atom y)).terms) 0 ≡ true) e z in
    subst (λ (c : Bool). SomeRefuted lo hi b (if c then (seen_atom a ∷ []) ∷ placeless (map seen_atom l) else placeless (map seen_atom l))) (sym q) (inl (subst (λ (y : LinearAtom). Refuted lo hi b (seen_atom y ∷ [])) e r))
alone_member lo hi b (a ∷ l) (suc k) x h e z r = elim (bool_cases (nat_eq (length (form_of (seen_atom a)).terms) 0)) [
  | inl t ↦ subst (λ (c : Bool). SomeRefuted lo hi b (if c then (seen_atom a ∷ []) ∷ placeless (map seen_atom l) else placeless (map seen_atom l))) (sym t) (inr (alone_member lo hi b l k x (omega arith) e z r))
  | inr t ↦ subst (λ (c : Bool). SomeRefuted lo hi b (if c then (seen_atom a ∷ []) ∷ placeless (map seen_atom l) else placeless (map seen_atom l))) (sym t) (alone_member lo hi b l k x (omega arith) e z r)
]

pub alone_refutes : (lo hi : ℤ) (b : ℕ) (o u : List (Option ℤ)) (s t : Bool) (l : List LinearAtom) (k : ℕ) (x : LinearAtom) → k < length l → x ≡ get_or l k x → AloneAdvanced lo hi b (seen_atom x) o s u t true → SomeRefuted lo hi b (groups (seen_atoms l))
unfolding groups
alone_refutes lo hi b o u s t l k x h e a = refuted_behind lo hi b (groups_of (parts (seen_atoms l)) (seen_atoms l)) (placeless (seen_atoms l)) (alone_member lo hi b l k x h e a.0 a.1)

pub parts_refute : (lo hi : ℤ) (b : ℕ) (L : List Atom) → SomeRefuted lo hi b (groups_of (parts L) L) → SomeRefuted lo hi b (groups L)
unfolding groups
parts_refute lo hi b L r = refuted_front lo hi b (groups_of (parts L) L) (placeless L) r

pub alone_start : (lo hi : ℤ) (b n : ℕ) (o : List (Option ℤ)) (s : Bool) (cs : List (List ℕ)) (gs : List (List Atom)) (l : List LinearAtom) → Stands lo hi b n o s cs gs → Stands lo hi b n o s cs (gs ++ placeless (seen_atoms (take 0 l)))
unfolding seen_atoms placeless
alone_start lo hi b n o s cs gs l st = subst (λ (m : List (List Atom)). Stands lo hi b n o s cs m) (sym (append-nil gs)) st

pub alone_end : (lo hi : ℤ) (b n : ℕ) (o : List (Option ℤ)) (s : Bool) (cs : List (List ℕ)) (l : List LinearAtom) (k : ℕ) → length l ≤ k → Stands lo hi b n o s cs (groups_of (parts (seen_atoms l)) (seen_atoms l) ++ placeless (seen_atoms (take k l))) → Stands lo hi b n o s cs (groups (seen_atoms l))
unfolding groups
alone_end lo hi b n o s cs l k h st = subst (λ (m : List LinearAtom). Stands lo hi b n o s cs (groups_of (parts (seen_atoms l)) (seen_atoms l) ++ placeless (seen_atoms m))) (take_all k l h) st

-- lo and hi as the code has them
pub at_bounds : (P : ℤ → ℤ → Type 0) (lo hi : ℤ) → SFits w32 lo → SFits w32 hi → P (to_z w32 (of_z w32 lo)) (to_z w32 (of_z w32 hi)) → P lo hi
at_bounds P lo hi f g h = subst (λ (z : ℤ). P z hi) (to_z-of_z w32 lo f) (subst (λ (z : ℤ). P (to_z w32 (of_z w32 lo)) z) (to_z-of_z w32 hi g) h)

pub from_bounds : (P : ℤ → ℤ → Type 0) (lo hi : ℤ) → SFits w32 lo → SFits w32 hi → P lo hi → P (to_z w32 (of_z w32 lo)) (to_z w32 (of_z w32 hi))
from_bounds P lo hi f g h = subst (λ (z : ℤ). P z (to_z w32 (of_z w32 hi))) (sym (to_z-of_z w32 lo f)) (subst (λ (z : ℤ). P lo z) (sym (to_z-of_z w32 hi g)) h)

pub values_settled : (lo hi : ℤ) (b : ℕ) (c : List ℕ) (g : List Atom) (o u : List (Option ℤ)) (s : Bool) (v : Vec ℤ Global) → Settles lo hi b g (Values v) → Wrote c (at_places v.items) o u → Advanced lo hi b c g o s u s false
values_settled lo hi b c g o u s v h w = inl (at_places v.items, h.0, h.1, h.2, w, refl)

pub beyond_settled : (lo hi : ℤ) (b : ℕ) (c : List ℕ) (g : List Atom) (o : List (Option ℤ)) (s : Bool) → Settles lo hi b g Beyond → Advanced lo hi b c g o s o true false
beyond_settled lo hi b c g o s h = inr (h, refl, refl)

pub part_result : (lo hi : ℤ) (b : ℕ) (c : List ℕ) (l : List Atom) (o u : List (Option ℤ)) (s t r : Bool) → nat_eq (length c) 0 ≡ false → Advanced lo hi b c (atoms_on c l) o s u t r → PartAdvanced lo hi b c l o s u t r
part_result lo hi b c l o u s t true z a = (z, a)
part_result lo hi b c l o u s t false z a = inr (z, a)

pub alone_result : (lo hi : ℤ) (b : ℕ) (a : Atom) (o u : List (Option ℤ)) (s t r : Bool) → nat_eq (length (form_of a).terms) 0 ≡ true → Advanced lo hi b [] (a ∷ []) o s u t r → AloneAdvanced lo hi b a o s u t r
alone_result lo hi b a o u s t true z k = (z, k)
alone_result lo hi b a o u s t false z k = inr (z, k)

reverse_length : (p : List ℕ) → length (reverse p) ≡ length p
reverse_length p = length-reverse p

pub not_empty : (p : List ℕ) → (length p ≡ 0 → ⊥) → nat_eq (length (reverse p)) 0 ≡ false
not_empty p n = elim (bool_cases (nat_eq (length (reverse p)) 0)) [ inl t ↦ absurd (n (sym (reverse_length p) ∙ eqb-true (length (reverse p)) 0 t)) | inr t ↦ t ]

pub is_empty : (p : List ℕ) → length p ≡ 0 → reverse p ≡ []
is_empty p e = nil_from_length (reverse p) (reverse_length p ∙ e)

pub terms_none : (a : LinearAtom) → length a.terms.items ≡ 0 → nat_eq (length (form_of (seen_atom a)).terms) 0 ≡ true
terms_none a e = ap (λ (g : Form). nat_eq (length g.terms) 0) (seen_form_is a) ∙ eq-eqb (length a.terms.items) 0 e

pub terms_some : (a : LinearAtom) → (length a.terms.items ≡ 0 → ⊥) → nat_eq (length (form_of (seen_atom a)).terms) 0 ≡ false
terms_some a n = ap (λ (g : Form). nat_eq (length g.terms) 0) (seen_form_is a) ∙ elim (bool_cases (nat_eq (length a.terms.items) 0)) [ inl t ↦ absurd (n (eqb-true (length a.terms.items) 0 t)) | inr t ↦ t ]

pub fit_one : (a : LinearAtom) → FitForm (seen_form a) → FitAll (seen_atom a ∷ [])
fit_one a f = (subst FitForm (sym (seen_form_is a)) f, tt)

pub one_atom : (o p : List LinearAtom) (r : LinearAtom) (a : Atom) → o ≡ [] → p ≡ o ++ (r ∷ []) → seen_atom r ≡ a → seen_atoms p ≡ a ∷ []
unfolding seen_atoms
one_atom o p r a e f g = ap (map seen_atom) (f ∙ ap (λ (m : List LinearAtom). m ++ (r ∷ [])) e) ∙ ap (λ (b : Atom). b ∷ []) g

none_at : (o : Option ℤ) (n x : ℕ) → get_or (replicate n o) x o ≡ o
none_at o zero x = refl
none_at o (suc n) zero = refl
none_at o (suc n) (suc x) = none_at o n x

-- nothing yet
pub nothing_stands : (lo hi : ℤ) (b n : ℕ) (o : List (Option ℤ)) → o ≡ replicate n None → Stands lo hi b n o false [] []
nothing_stands lo hi b n o e = record {
  size = ap length e ∙ length-replicate n None;
  good = λ f. tt;
  numbers = λ f c m x i. absurd m;
  beyond = λ f. absurd (cc f);
  unrefuted = λ h. h;
  none = λ x h. ap (λ (m : List (Option ℤ)). get_or m x None) e ∙ none_at None n x;
}

-- lo and hi of the bounds, as the code has them
pub at_limits : (P : ℤ → ℤ → Type 0) (lo hi l h : ℤ) → SFits w32 l → SFits w32 h → l ≡ lo → h ≡ hi → P (to_z w32 (of_z w32 l)) (to_z w32 (of_z w32 h)) → P lo hi
at_limits P lo hi l h f g e i p = subst (λ (z : ℤ). P z hi) e (subst (λ (z : ℤ). P l z) i (at_bounds P l h f g p))
