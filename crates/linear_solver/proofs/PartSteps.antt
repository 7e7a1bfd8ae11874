-- The steps of the loops that part places.
use Rattle.std.proofs.Common.{◌≡◌, ◌∙◌, sym, ap, ap₂, refl, ℕ, ◌+◌, ◌<◌, ◌≤◌, Bool, true, false, ◌||◌, inl, inr, List, [], ◌∷◌, ◌++◌, length, map, reverse, drop, get_or, append_assoc, append-nil, if◌then◌else◌, Vec, Global}
use Rattle.std.proofs.lemmas.List.{drop_more, drop_all, reverse-append, map-append}
use Rattle.cc_base.specs.declared.forms.Multiple.{Multiple}
use Rattle.cc_base.specs.Groups.{Form, Atom, form_of, contains, put, put_all, named, shares, touching, apart, parts, atoms_on}
use Rattle.linear_solver.specs.declared.atoms.LinearAtom.{LinearAtom}
use Rattle.linear_solver.specs.Atoms.{seen_atom, seen_atoms}
use Rattle.linear_solver.specs.Parts.{backwards, all_backwards}
use Rattle.linear_solver.proofs.Integers.{bool_cases}
use Rattle.linear_solver.proofs.Parting.{In, shared, shares_of, contains_reverse, put_named}
use Rattle.linear_solver.proofs.Tidied.{or_true}
use Rattle.linear_solver.proofs.Writing.{atoms_drop, atoms_end, seen_form_is}

-- ---- sharing

or_yes : (a b w : Bool) → a ≡ true → a || b ≡ w → true ≡ w
or_yes true b w h e = e
or_yes false b w h e = absurd (cc h)

or_on : (a b w : Bool) → a ≡ false → a || b ≡ w → b ≡ w
or_on true b w h e = absurd (cc h)
or_on false b w h e = e

pub share_here : (p q : List ℕ) (k : ℕ) (w : Bool) → k < length p → contains q (get_or p k 0) ≡ true → shares (drop k p) q ≡ w → true ≡ w
unfolding shares
share_here p q k w h e f = or_yes (contains q (get_or p k 0)) (shares (drop (k + 1) p) q) w e (sym (ap (λ (m : List ℕ). shares m q) (drop_more p k 0 h)) ∙ f)

pub share_on : (p q : List ℕ) (k : ℕ) (w : Bool) → k < length p → contains q (get_or p k 0) ≡ false → shares (drop k p) q ≡ w → shares (drop (k + 1) p) q ≡ w
unfolding shares
share_on p q k w h e f = or_on (contains q (get_or p k 0)) (shares (drop (k + 1) p) q) w e (sym (ap (λ (m : List ℕ). shares m q) (drop_more p k 0 h)) ∙ f)

pub share_end : (p q : List ℕ) (k : ℕ) (w : Bool) → length p ≤ k → shares (drop k p) q ≡ w → false ≡ w
unfolding shares
share_end p q k w h f = sym (ap (λ (m : List ℕ). shares m q) (drop_all k p h)) ∙ f

-- equal where each implies the other
both_ways : (a b : Bool) → (a ≡ true → b ≡ true) → (b ≡ true → a ≡ true) → a ≡ b
both_ways true b f g = sym (f refl)
both_ways false true f g = g refl
both_ways false false f g = refl

in_back : (x : ℕ) (l : List ℕ) → In x l → In x (reverse l)
in_back x l i = contains_reverse l x ∙ i

in_forth : (x : ℕ) (l : List ℕ) → In x (reverse l) → In x l
in_forth x l i = sym (contains_reverse l x) ∙ i

pub shares_back : (p q : List ℕ) → shares p q ≡ shares (reverse p) (reverse q)
shares_back p q = both_ways (shares p q) (shares (reverse p) (reverse q))
    (λ s. (let r = shared p q s in shares_of r.0 (reverse p) (reverse q) (in_back r.0 p r.1) (in_back r.0 q r.2)))
    (λ s. (let r = shared (reverse p) (reverse q) s in shares_of r.0 p q (in_forth r.0 p r.1) (in_forth r.0 q r.2)))

-- ---- the terms of an atom against a part

named_step : (t : Multiple) (p : List Multiple) (c : List ℕ) → shares (named (t ∷ p)) c ≡ contains c t.place || shares (named p) c
unfolding named put shares
named_step t p c = elim (bool_cases (contains (named p) t.place)) [
  | inl e ↦ ap (λ (b : Bool). shares (if b then named p else t.place ∷ named p) c) e ∙ both_ways (shares (named p) c) (contains c t.place || shares (named p) c)
      (λ s. or_second (contains c t.place) (shares (named p) c) s)
      (λ s. elim (or_true (contains c t.place) (shares (named p) c) s) [ inl i ↦ shares_of t.place (named p) c e i | inr i ↦ i ])
  | inr e ↦ ap (λ (b : Bool). shares (if b then named p else t.place ∷ named p) c) e
]
  where
    or_second : (a b : Bool) → b ≡ true → a || b ≡ true
    or_second true b h = refl
    or_second false b h = h

pub touch_here : (l : List Multiple) (c : List ℕ) (k : ℕ) (d : Multiple) (w : Bool) → k < length l → contains c (get_or l k d).place ≡ true → shares (named (drop k l)) c ≡ w → true ≡ w
touch_here l c k d w h e f = or_yes (contains c (get_or l k d).place) (shares (named (drop (k + 1) l)) c) w e (sym (ap (λ (m : List Multiple). shares (named m) c) (drop_more l k d h) ∙ named_step (get_or l k d) (drop (k + 1) l) c) ∙ f)

pub touch_on : (l : List Multiple) (c : List ℕ) (k : ℕ) (d : Multiple) (w : Bool) → k < length l → contains c (get_or l k d).place ≡ false → shares (named (drop k l)) c ≡ w → shares (named (drop (k + 1) l)) c ≡ w
touch_on l c k d w h e f = or_on (contains c (get_or l k d).place) (shares (named (drop (k + 1) l)) c) w e (sym (ap (λ (m : List Multiple). shares (named m) c) (drop_more l k d h) ∙ named_step (get_or l k d) (drop (k + 1) l) c) ∙ f)

pub touch_end : (l : List Multiple) (c : List ℕ) (k : ℕ) (w : Bool) → length l ≤ k → shares (named (drop k l)) c ≡ w → false ≡ w
unfolding named shares
touch_end l c k w h f = sym (ap (λ (m : List Multiple). shares (named m) c) (drop_all k l h)) ∙ f

-- ---- adding a whole part

reverse_more : (l : List ℕ) (k : ℕ) → k < length l → reverse (drop k l) ≡ reverse (drop (k + 1) l) ++ (get_or l k 0 ∷ [])
reverse_more l k h = ap reverse (drop_more l k 0 h) ∙ reverse-append (get_or l k 0 ∷ []) (drop (k + 1) l)

put_last : (p : List ℕ) (x : ℕ) (l : List ℕ) → put_all (p ++ (x ∷ [])) l ≡ put_all p (put x l)
unfolding put_all
put_last [] x l = refl
put_last (y ∷ p) x l = ap (put y) (put_last p x l)

pub add_more : (l : List ℕ) (k : ℕ) (o u w : List ℕ) → k < length l → u ≡ put (get_or l k 0) o → put_all (reverse (drop k l)) o ≡ w → put_all (reverse (drop (k + 1) l)) u ≡ w
add_more l k o u w h e f = ap (put_all (reverse (drop (k + 1) l))) e ∙ sym (ap (λ (m : List ℕ). put_all m o) (reverse_more l k h) ∙ put_last (reverse (drop (k + 1) l)) (get_or l k 0) o) ∙ f

pub add_end : (l : List ℕ) (k : ℕ) (o w : List ℕ) → length l ≤ k → put_all (reverse (drop k l)) o ≡ w → o ≡ w
unfolding put_all
add_end l k o w h f = sym (ap (λ (m : List ℕ). put_all (reverse m) o) (drop_all k l h)) ∙ f

-- ---- the parts that touch

pub back_drop : (l : List (Vec ℕ Global)) (k : ℕ) (x : Vec ℕ Global) → k < length l → x ≡ get_or l k x → all_backwards (drop k l) ≡ backwards x ∷ all_backwards (drop (k + 1) l)
unfolding all_backwards
back_drop l k x h e = ap (map backwards) (drop_more l k x h ∙ ap (λ (y : Vec ℕ Global). y ∷ drop (k + 1) l) (sym e))

pub touch_none : (p : List ℕ) (l : List (Vec ℕ Global)) (n : ℕ) → length l ≤ n → p ≡ touching p (all_backwards (drop n l))
unfolding all_backwards touching
touch_none p l n h = sym (ap (λ (m : List (Vec ℕ Global)). touching p (map backwards m)) (drop_all n l h))

pub touch_more : (p o u : List ℕ) (l : List (Vec ℕ Global)) (n k : ℕ) (x : Vec ℕ Global) (q : List ℕ) → n ≡ k + 1 → k < length l → x ≡ get_or l k x → p ≡ reverse q →
    u ≡ (if shares q x.items then put_all (backwards x) o else o) → o ≡ touching p (all_backwards (drop n l)) → u ≡ touching p (all_backwards (drop k l))
unfolding touching
touch_more p o u l n k x q e h i r f g =
    let s : shares q x.items ≡ shares p (backwards x) = shares_back q x.items ∙ ap (λ (m : List ℕ). shares m (backwards x)) (sym r) in
    f ∙ ap₂ (λ (b : Bool) (m : List ℕ). if b then put_all (backwards x) m else m) s (g ∙ ap (λ (j : ℕ). touching p (all_backwards (drop j l))) e)
    ∙ sym (ap (touching p) (back_drop l k x h i))

-- ---- the parts that stay apart

apart_last : (p : List ℕ) (l : List (List ℕ)) (c : List ℕ) → apart p (l ++ (c ∷ [])) ≡ apart p l ++ (if shares p c then [] else c ∷ [])
unfolding apart
apart_last p [] c = refl
apart_last p (d ∷ l) c = elim (bool_cases (shares p d)) [
  | inl t ↦ ap (λ (b : Bool). if b then apart p (l ++ (c ∷ [])) else d ∷ apart p (l ++ (c ∷ []))) t ∙ apart_last p l c
      ∙ sym (ap (λ (b : Bool). (if b then apart p l else d ∷ apart p l) ++ (if shares p c then [] else c ∷ [])) t)
  | inr t ↦ ap (λ (b : Bool). if b then apart p (l ++ (c ∷ [])) else d ∷ apart p (l ++ (c ∷ []))) t ∙ ap (λ (m : List (List ℕ)). d ∷ m) (apart_last p l c)
      ∙ sym (ap (λ (b : Bool). (if b then apart p l else d ∷ apart p l) ++ (if shares p c then [] else c ∷ [])) t)
]

back_push : (l : List (Vec ℕ Global)) (c : Vec ℕ Global) → all_backwards (l ++ (c ∷ [])) ≡ all_backwards l ++ (backwards c ∷ [])
unfolding all_backwards
back_push l c = map-append backwards l (c ∷ [])

pub apart_start : (p : List ℕ) (l : List (Vec ℕ Global)) (o : List (Vec ℕ Global)) → o ≡ [] → apart p (all_backwards l) ++ reverse (all_backwards o) ≡ apart p (all_backwards l)
unfolding all_backwards
apart_start p l o e = ap (λ (m : List (Vec ℕ Global)). apart p (map backwards l) ++ reverse (map backwards m)) e ∙ append-nil (apart p (map backwards l))

pub apart_drop : (p : List ℕ) (r s : List (Vec ℕ Global)) (c : Vec ℕ Global) (o w : List (List ℕ)) → r ≡ s ++ (c ∷ []) → shares p (backwards c) ≡ true → apart p (all_backwards r) ++ o ≡ w → apart p (all_backwards s) ++ o ≡ w
apart_drop p r s c o w e t f =
    let g : apart p (all_backwards r) ≡ apart p (all_backwards s) = ap (λ (m : List (Vec ℕ Global)). apart p (all_backwards m)) e ∙ ap (apart p) (back_push s c) ∙ apart_last p (all_backwards s) (backwards c)
    ∙ ap (λ (b : Bool). apart p (all_backwards s) ++ (if b then [] else backwards c ∷ [])) t ∙ append-nil (apart p (all_backwards s)) in
    ap (λ (m : List (List ℕ)). m ++ o) (sym g) ∙ f

pub apart_keep : (p : List ℕ) (r s : List (Vec ℕ Global)) (c : Vec ℕ Global) (o u : List (Vec ℕ Global)) (w : List (List ℕ)) → r ≡ s ++ (c ∷ []) → shares p (backwards c) ≡ false → u ≡ o ++ (c ∷ []) →
    apart p (all_backwards r) ++ reverse (all_backwards o) ≡ w → apart p (all_backwards s) ++ reverse (all_backwards u) ≡ w
apart_keep p r s c o u w e t i f =
    let g : apart p (all_backwards r) ≡ apart p (all_backwards s) ++ (backwards c ∷ []) = ap (λ (m : List (Vec ℕ Global)). apart p (all_backwards m)) e ∙ ap (apart p) (back_push s c) ∙ apart_last p (all_backwards s) (backwards c)
    ∙ ap (λ (b : Bool). apart p (all_backwards s) ++ (if b then [] else backwards c ∷ [])) t in
    let h : reverse (all_backwards u) ≡ (backwards c ∷ []) ++ reverse (all_backwards o) = ap (λ (m : List (Vec ℕ Global)). reverse (all_backwards m)) i ∙ ap reverse (back_push o c) ∙ reverse-append (all_backwards o) (backwards c ∷ []) in
    ap (λ (m : List (List ℕ)). apart p (all_backwards s) ++ m) h ∙ sym (append_assoc (apart p (all_backwards s)) (backwards c ∷ []) (reverse (all_backwards o))) ∙ ap (λ (m : List (List ℕ)). m ++ reverse (all_backwards o)) (sym g) ∙ f

back_reverse : (l : List (Vec ℕ Global)) → all_backwards (reverse l) ≡ reverse (all_backwards l)
unfolding all_backwards
back_reverse [] = refl
back_reverse (c ∷ l) = ap (map backwards) (reverse-append (c ∷ []) l) ∙ map-append backwards (reverse l) (c ∷ []) ∙ ap (λ (m : List (List ℕ)). m ++ (backwards c ∷ [])) (back_reverse l) ∙ sym (reverse-append (backwards c ∷ []) (map backwards l))

no_parts : (p : List ℕ) (l : List (List ℕ)) → apart p (all_backwards []) ++ l ≡ l
unfolding apart all_backwards
no_parts p l = refl

pub apart_end : (p : List ℕ) (r o u v : List (Vec ℕ Global)) (c : Vec ℕ Global) (w : List (List ℕ)) → r ≡ [] → u ≡ o ++ (c ∷ []) → v ≡ reverse u → apart p (all_backwards r) ++ reverse (all_backwards o) ≡ w → all_backwards v ≡ backwards c ∷ w
apart_end p r o u v c w e f g h =
    ap all_backwards g ∙ back_reverse u ∙ ap (λ (m : List (Vec ℕ Global)). reverse (all_backwards m)) f ∙ ap reverse (back_push o c) ∙ reverse-append (all_backwards o) (backwards c ∷ [])
    ∙ ap (λ (m : List (List ℕ)). backwards c ∷ m) (sym (ap (λ (m : List (Vec ℕ Global)). apart p (all_backwards m) ++ reverse (all_backwards o)) e ∙ no_parts p (reverse (all_backwards o))) ∙ h)

-- ---- the parts of atoms

pub named_once : (p : List Multiple) → put_all (named p) [] ≡ named p
unfolding named put_all
named_once [] = refl
named_once (t ∷ p) = put_named t p [] ∙ ap (put t.place) (named_once p)

pub part_more : (l : List LinearAtom) (n k : ℕ) (x : LinearAtom) (o u : List (List ℕ)) → n ≡ k + 1 → k < length l → x ≡ get_or l k x → u ≡ touching (named x.terms.items) o ∷ apart (named x.terms.items) o → o ≡ parts (seen_atoms (drop n l)) → u ≡ parts (seen_atoms (drop k l))
unfolding parts
part_more l n k x o u e h i f g =
    f ∙ ap (λ (m : List (List ℕ)). touching (named x.terms.items) m ∷ apart (named x.terms.items) m) (g ∙ ap (λ (j : ℕ). parts (seen_atoms (drop j l))) e)
    ∙ sym (ap parts (atoms_drop l k x h i) ∙ ap (λ (q : Form). touching (named q.terms) (parts (seen_atoms (drop (k + 1) l))) ∷ apart (named q.terms) (parts (seen_atoms (drop (k + 1) l)))) (seen_form_is x))

pub part_none : (l : List LinearAtom) (n : ℕ) (o : List (Vec ℕ Global)) → o ≡ [] → length l ≤ n → all_backwards o ≡ parts (seen_atoms (drop n l))
unfolding parts all_backwards
part_none l n o e h = ap (map backwards) e ∙ sym (ap parts (atoms_end l n h))

-- ---- the atoms of a part

on_if : (b : Bool) (a : Atom) (r : List Atom) → (if b then a ∷ r else r) ≡ (if b then a ∷ [] else []) ++ r
on_if true a r = refl
on_if false a r = refl

pub on_split : (c : List ℕ) (a : Atom) (l : List Atom) → atoms_on c (a ∷ l) ≡ atoms_on c (a ∷ []) ++ atoms_on c l
unfolding atoms_on
on_split c a l = on_if (shares (named (form_of a).terms) c) a (atoms_on c l)

push_atom : (o : List LinearAtom) (a : LinearAtom) → seen_atoms (o ++ (a ∷ [])) ≡ seen_atoms o ++ (seen_atom a ∷ [])
unfolding seen_atoms
push_atom o a = map-append seen_atom o (a ∷ [])

pub on_one : (c : List ℕ) (a r : LinearAtom) (o u : List LinearAtom) → shares (named a.terms.items) c ≡ true → u ≡ o ++ (r ∷ []) → seen_atom r ≡ seen_atom a → seen_atoms u ≡ seen_atoms o ++ atoms_on c (seen_atom a ∷ [])
unfolding atoms_on
on_one c a r o u t e f = ap seen_atoms e ∙ push_atom o r ∙ ap (λ (b : Atom). seen_atoms o ++ (b ∷ [])) f
    ∙ sym (ap (λ (b : Bool). seen_atoms o ++ (if b then seen_atom a ∷ [] else [])) (ap (λ (g : Form). shares (named g.terms) c) (seen_form_is a) ∙ t))

pub on_none : (c : List ℕ) (a : LinearAtom) (o : List LinearAtom) → shares (named a.terms.items) c ≡ false → seen_atoms o ≡ seen_atoms o ++ atoms_on c (seen_atom a ∷ [])
unfolding atoms_on
on_none c a o t = sym (append-nil (seen_atoms o)) ∙ sym (ap (λ (b : Bool). seen_atoms o ++ (if b then seen_atom a ∷ [] else [])) (ap (λ (g : Form). shares (named g.terms) c) (seen_form_is a) ∙ t))

pub on_more : (c : List ℕ) (o u : List LinearAtom) (l : List LinearAtom) (k : ℕ) (a : LinearAtom) (w : List Atom) → k < length l → a ≡ get_or l k a → seen_atoms u ≡ seen_atoms o ++ atoms_on c (seen_atom a ∷ []) →
    seen_atoms o ++ atoms_on c (seen_atoms (drop k l)) ≡ w → seen_atoms u ++ atoms_on c (seen_atoms (drop (k + 1) l)) ≡ w
on_more c o u l k a w h e f g =
    ap (λ (m : List Atom). m ++ atoms_on c (seen_atoms (drop (k + 1) l))) f ∙ append_assoc (seen_atoms o) (atoms_on c (seen_atom a ∷ [])) (atoms_on c (seen_atoms (drop (k + 1) l)))
    ∙ sym (ap (λ (m : List Atom). seen_atoms o ++ m) (ap (atoms_on c) (atoms_drop l k a h e) ∙ on_split c (seen_atom a) (seen_atoms (drop (k + 1) l)))) ∙ g

pub on_end : (c : List ℕ) (o : List LinearAtom) (l : List LinearAtom) (k : ℕ) (w : List Atom) → length l ≤ k → seen_atoms o ++ atoms_on c (seen_atoms (drop k l)) ≡ w → seen_atoms o ≡ w
unfolding atoms_on
on_end c o l k w h g = sym (ap (λ (m : List Atom). seen_atoms o ++ atoms_on c m) (atoms_end l k h) ∙ append-nil (seen_atoms o)) ∙ g

pub on_start : (c : List ℕ) (o l : List LinearAtom) → o ≡ [] → seen_atoms o ++ atoms_on c (seen_atoms l) ≡ atoms_on c (seen_atoms l)
unfolding seen_atoms
on_start c o l e = ap (λ (m : List LinearAtom). map seen_atom m ++ atoms_on c (map seen_atom l)) e
