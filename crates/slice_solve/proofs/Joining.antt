-- A place shares a part with the alternative exactly where the equalities force it to be NULL.
use Rattle.std.proofs.Common.{◌≡◌, ◌∙◌, ◌⊎◌, inl, inr, sym, ap, subst, refl, arith, ℕ, zero, suc, ◌<◌, Bool, true, false, nat_eq, if◌then◌else◌, List, [], ◌∷◌, ◌++◌, get_or, slice_get, Some}
use Rattle.std.proofs.lemmas.Option.{same_Some, slice_get-get_or}
use borrow.Author.Tests.{eqb-true, eq-eqb}
use Rattle.cc_base.specs.Forms.{Side, nothing, at, Atom, at_most_zero, is_zero, not_zero, same, differ}
use Rattle.cc_base.specs.declared.forms.Multiple.{Multiple}
use Rattle.cc_base.specs.Classes.{Forced, stated, itself, turned, along, Mentions, AreClasses}
use Rattle.cc_base.specs.Groups.{form_of, contains, put_all, named, places_in, shares, touching, apart, parts, atoms_on}
use Rattle.cc_base.specs.Slice.{parts_with, slice_of}
use Rattle.linear_solver.specs.Answers.{Below, BelowAll}
use Rattle.linear_solver.specs.Standing.{Member}
use Rattle.linear_solver.proofs.Integers.{bool_cases}
use Rattle.linear_solver.proofs.Tidied.{or_true}
use Rattle.linear_solver.proofs.Parting.{In, AllInside, Disjoint, parts_cover, parts_disjoint, inside_shared, inside_member, shares_of, shared, or_left, or_right, contains_append, put_new, put_old, put_out, all_first, all_second, all_out}
use Rattle.slice_solve.specs.Joins.{joined_to, joined, all_joined, all_null, joins, first_is_null, met}

-- ---- places of one part are related, where those of each atom are

abbrev Related : (ℕ → ℕ → Type 0) → List ℕ → Type 0
Related R c = (x y : ℕ) → In x c → In y c → R x y

abbrev AllRelated : (ℕ → ℕ → Type 0) → List (List ℕ) → Type 0
AllRelated R [] = Unit {0}
AllRelated R (c ∷ cs) = Related R c × AllRelated R cs

abbrev AtomsRelated : (ℕ → ℕ → Type 0) → List Atom → Type 0
AtomsRelated R [] = Unit {0}
AtomsRelated R (a ∷ l) = Related R (named (form_of a).terms) × AtomsRelated R l

module _ (R : ℕ → ℕ → Type 0) (self : (x : ℕ) → R x x) (back : (x y : ℕ) → R x y → R y x) (on : (x y z : ℕ) → R x y → R y z → R x z) where
  reaches : (p : List ℕ) (cs : List (List ℕ)) → AllRelated R cs → (x : ℕ) → In x (touching p cs) → (z : ℕ) × In z p × R x z
  unfolding touching
  reaches p [] h x i = (x, i, self x)
  reaches p (c ∷ cs) h x i = elim (bool_cases (shares p c)) [
    | inl t ↦ elim (all_out x c (touching p cs) (subst (λ (b : Bool). In x (if b then put_all c (touching p cs) else touching p cs)) t i)) [
      | inl k ↦ let s = shared p c t in (s.0, s.1, h.0 x s.0 k s.2)
      | inr k ↦ reaches p cs h.1 x k
    ]
    | inr t ↦ reaches p cs h.1 x (subst (λ (b : Bool). In x (if b then put_all c (touching p cs) else touching p cs)) t i)
  ]

  apart_related : (p : List ℕ) (cs : List (List ℕ)) → AllRelated R cs → AllRelated R (apart p cs)
  unfolding apart
  apart_related p [] h = tt
  apart_related p (c ∷ cs) h = elim (bool_cases (shares p c)) [
    | inl t ↦ subst (λ (b : Bool). AllRelated R (if b then apart p cs else c ∷ apart p cs)) (sym t) (apart_related p cs h.1)
    | inr t ↦ subst (λ (b : Bool). AllRelated R (if b then apart p cs else c ∷ apart p cs)) (sym t) (h.0, apart_related p cs h.1)
  ]

  touching_related : (p : List ℕ) (cs : List (List ℕ)) → Related R p → AllRelated R cs → Related R (touching p cs)
  touching_related p cs r h x y i j =
      let u = reaches p cs h x i in let w = reaches p cs h y j in
      on x u.0 y u.2 (on u.0 w.0 y (r u.0 w.0 u.1 w.1) (back y w.0 w.2))

  parts_related : (l : List Atom) → AtomsRelated R l → AllRelated R (parts l)
  unfolding parts
  parts_related [] h = tt
  parts_related (a ∷ l) h =
      let p = named (form_of a).terms in let r = parts_related l h.1 in
      (touching_related p (parts l) h.0 r, apart_related p (parts l) r)

part_of : (R : ℕ → ℕ → Type 0) (cs : List (List ℕ)) (c : List ℕ) → AllRelated R cs → Member c cs → Related R c
part_of R [] c h m = absurd m
part_of R (d ∷ ds) c h m = elim m [ inl e ↦ subst (Related R) (sym e) h.0 | inr k ↦ part_of R ds c h.1 k ]

atoms_append : (R : ℕ → ℕ → Type 0) (k l : List Atom) → AtomsRelated R k → AtomsRelated R l → AtomsRelated R (k ++ l)
atoms_append R [] l h i = i
atoms_append R (a ∷ k) l h i = (h.0, atoms_append R k l h.1 i)

-- ---- the places of the parts that share one with p

append_out : (p q : List ℕ) (x : ℕ) → In x (p ++ q) → In x p ⊎ In x q
append_out p q x h = or_true (contains p x) (contains q x) (sym (contains_append p q x) ∙ h)

append_first : (p q : List ℕ) (x : ℕ) → In x p → In x (p ++ q)
append_first p q x h = contains_append p q x ∙ or_left (contains p x) (contains q x) h

append_second : (p q : List ℕ) (x : ℕ) → In x q → In x (p ++ q)
append_second p q x h = contains_append p q x ∙ or_right (contains p x) (contains q x) h

with_out : (p : List ℕ) (cs : List (List ℕ)) (x : ℕ) → In x (parts_with p cs) → (c : List ℕ) × Member c cs × (shares c p ≡ true) × In x c
unfolding parts_with contains
with_out p [] x h = absurd (cc h)
with_out p (c ∷ cs) x h = elim (bool_cases (shares c p)) [
  | inl t ↦ elim (append_out c (parts_with p cs) x (subst (λ (b : Bool). In x (if b then c ++ parts_with p cs else parts_with p cs)) t h)) [
    | inl i ↦ (c, inl refl, t, i)
    | inr i ↦ let r = with_out p cs x i in (r.0, inr r.1, r.2, r.3)
  ]
  | inr t ↦ let r = with_out p cs x (subst (λ (b : Bool). In x (if b then c ++ parts_with p cs else parts_with p cs)) t h) in (r.0, inr r.1, r.2, r.3)
]

with_in : (p : List ℕ) (cs : List (List ℕ)) (c : List ℕ) (x : ℕ) → Member c cs → shares c p ≡ true → In x c → In x (parts_with p cs)
unfolding parts_with
with_in p [] c x m s h = absurd m
with_in p (d ∷ cs) c x m s h = elim (bool_cases (shares d p)) [
  | inl t ↦ subst (λ (b : Bool). In x (if b then d ++ parts_with p cs else parts_with p cs)) (sym t) (elim m [
    | inl e ↦ append_first d (parts_with p cs) x (subst (In x) e h)
    | inr k ↦ append_second d (parts_with p cs) x (with_in p cs c x k s h)
  ])
  | inr t ↦ subst (λ (b : Bool). In x (if b then d ++ parts_with p cs else parts_with p cs)) (sym t) (elim m [
    | inl e ↦ absurd (let i : shares d p ≡ true = subst (λ (k : List ℕ). shares k p ≡ true) e s in cc (i, t))
    | inr k ↦ with_in p cs c x k s h
  ])
]

-- ---- what is stated

abbrev Stated : List Atom → Side → Side → Type 0
Stated m a b = (k : ℕ) × (slice_get m k ≡ Some (same a b))

stated_front : (k l : List Atom) (a b : Side) → Stated k a b → Stated (k ++ l) a b
stated_front k l a b s = (s.0, front k s.0 s.1)
  where
    front : (p : List Atom) (n : ℕ) → slice_get p n ≡ Some (same a b) → slice_get (p ++ l) n ≡ Some (same a b)
    front [] n e = absurd (cc e)
    front (y ∷ p) zero e = e
    front (y ∷ p) (suc n) e = front p n e

stated_back : (k l : List Atom) (a b : Side) → Stated l a b → Stated (k ++ l) a b
stated_back [] l a b s = s
stated_back (y ∷ k) l a b s = let r = stated_back k l a b s in (suc r.0, r.1)

to_each : (s : Side) (p : List Multiple) (x : ℕ) → In x (named p) → Stated (joined_to s p) s (at x)
unfolding joined_to named contains
to_each s [] x h = absurd (cc h)
to_each s (t ∷ p) x h = elim (put_out t.place x (named p) h) [
  | inl e ↦ (zero, ap (λ (y : ℕ). Some (same s (at y))) (sym e))
  | inr i ↦ let r = to_each s p x i in (suc r.0, r.1)
]

-- each place of an atom is stated to be the same as its first
from_first : (p : List Multiple) (x : ℕ) → In x (named p) → (y : ℕ) × ((z : ℕ) → In z (named p) → Stated (joined p) (at y) (at z))
unfolding joined named contains
from_first [] x h = absurd (cc h)
from_first (t ∷ p) x h = (t.place, λ z i. to_each (at t.place) (t ∷ p) z i)

module _ (m : List Atom) where
  join_related : (p : List Multiple) → ((a b : Side) → Stated (joined p) a b → Stated m a b) → Related (λ (x y : ℕ). Forced m (at x) (at y)) (named p)
  join_related p h x y i j =
      let r = from_first p x i in let u = h (at r.0) (at x) (r.1 x i) in let w = h (at r.0) (at y) (r.1 y j) in
      along (at x) (at r.0) (at y) (turned (at r.0) (at x) (stated u.0 (at r.0) (at x) u.1)) (stated w.0 (at r.0) (at y) w.1)

  joins_related : (l : List Atom) → ((a b : Side) → Stated (all_joined l) a b → Stated m a b) → AtomsRelated (λ (x y : ℕ). Forced m (at x) (at y)) l
  unfolding all_joined
  joins_related [] h = tt
  joins_related (a ∷ l) h = (
    join_related (form_of a).terms (λ x y s. h x y (stated_front (joined (form_of a).terms) (all_joined l) x y s)),
    joins_related l (λ x y s. h x y (stated_back (joined (form_of a).terms) (all_joined l) x y s)),
  )

  nulls_forced : (l : List Atom) → ((a b : Side) → Stated (all_null l) a b → Stated m a b) → (x : ℕ) → In x (places_in l) → Forced m nothing (at x)
  unfolding all_null places_in contains
  nulls_forced [] h x i = absurd (cc i)
  nulls_forced (a ∷ l) h x i = elim (all_out x (named (form_of a).terms) (places_in l) i) [
    | inl k ↦ let r = h nothing (at x) (stated_front (joined_to nothing (form_of a).terms) (all_null l) nothing (at x) (to_each nothing (form_of a).terms x k)) in stated r.0 nothing (at x) r.1
    | inr k ↦ nulls_forced l (λ y z s. h y z (stated_back (joined_to nothing (form_of a).terms) (all_null l) y z s)) x k
  ]

  nulls_related : (l : List Atom) → ((x : ℕ) → In x (places_in l) → Forced m nothing (at x)) → AtomsRelated (λ (x y : ℕ). Forced m (at x) (at y)) l
  unfolding places_in
  nulls_related [] h = tt
  nulls_related (a ∷ l) h = (
    (λ x y i j. along (at x) nothing (at y) (turned nothing (at x) (h x (all_first x (named (form_of a).terms) (places_in l) i))) (h y (all_first y (named (form_of a).terms) (places_in l) j))),
    nulls_related l (λ x i. h x (all_second x (named (form_of a).terms) (places_in l) i)),
  )

-- ---- a place of the slice is forced to be NULL

module _ (c a : List Atom) where
  all_related : AtomsRelated (λ (x y : ℕ). Forced (joins c a) (at x) (at y)) (c ++ a)
  unfolding joins
  all_related = atoms_append (λ (x y : ℕ). Forced (joins c a) (at x) (at y)) c a
      (joins_related (joins c a) c (λ x y s. stated_front (all_joined c) (all_null a) x y s))
      (nulls_related (joins c a) a (nulls_forced (joins c a) a (λ x y s. stated_back (all_joined c) (all_null a) x y s)))

  null_in : (x : ℕ) → In x (places_in a) → Forced (joins c a) nothing (at x)
  unfolding joins
  null_in x i = nulls_forced (joins c a) a (λ y z s. stated_back (all_joined c) (all_null a) y z s) x i

  pub slice_forced : (x : ℕ) → In x (parts_with (places_in a) (parts (c ++ a))) → Forced (joins c a) (at x) nothing
  slice_forced x h =
      let cs = parts (c ++ a) in
      let r = with_out (places_in a) cs x h in
      let y = shared r.0 (places_in a) r.2 in
      let all : AllRelated (λ (u w : ℕ). Forced (joins c a) (at u) (at w)) cs = parts_related (λ (u w : ℕ). Forced (joins c a) (at u) (at w))
      (λ u. itself (at u)) (λ u w f. turned (at u) (at w) f) (λ u w z f g. along (at u) (at w) (at z) f g) (c ++ a) all_related in
      along (at x) (at y.0) nothing (part_of (λ (u w : ℕ). Forced (joins c a) (at u) (at w)) cs r.0 all r.1 x y.0 r.3 y.1) (turned nothing (at y.0) (null_in y.0 y.2))

-- ---- and a place that is forced to be NULL is one of the slice

-- the side is NULL or a place of the list
abbrev Within : List ℕ → Side → Type 0
Within s nothing = Unit {0}
Within s (at x) = In x s

-- what is the same is within the list, or neither side is
abbrev Agrees : List ℕ → Atom → Type 0
Agrees s (same a b) = (Within s a → Within s b) × (Within s b → Within s a)
Agrees s (differ a b) = Unit {0}
Agrees s (at_most_zero g) = Unit {0}
Agrees s (is_zero g) = Unit {0}
Agrees s (not_zero g) = Unit {0}

abbrev AgreeAll : List ℕ → List Atom → Type 0
AgreeAll s [] = Unit {0}
AgreeAll s (a ∷ l) = Agrees s a × AgreeAll s l

agree_at : (s : List ℕ) (l : List Atom) (k : ℕ) (a : Atom) → AgreeAll s l → slice_get l k ≡ Some a → Agrees s a
agree_at s [] k a h e = absurd (cc e)
agree_at s (b ∷ l) zero a h e = subst (Agrees s) (same_Some b a e) h.0
agree_at s (b ∷ l) (suc k) a h e = agree_at s l k a h.1 e

agree_append : (s : List ℕ) (k l : List Atom) → AgreeAll s k → AgreeAll s l → AgreeAll s (k ++ l)
agree_append s [] l h i = i
agree_append s (a ∷ k) l h i = (h.0, agree_append s k l h.1 i)

forced_within : (s : List ℕ) (l : List Atom) (a b : Side) → AgreeAll s l → Forced l a b → (Within s a → Within s b) × (Within s b → Within s a)
forced_within s l a b h (stated k _ _ e) = agree_at s l k (same a b) h e
forced_within s l a b h (itself _) = ((λ w. w), (λ w. w))
forced_within s l a b h (turned _ _ f) = let r = forced_within s l b a h f in (r.1, r.0)
forced_within s l a b h (along _ c _ f g) =
    let r = forced_within s l a c h f in let q = forced_within s l c b h g in ((λ w. q.0 (r.0 w)), (λ w. r.1 (q.1 w)))

agree_to : (s : List ℕ) (x : Side) (p : List Multiple) → ((y : ℕ) → In y (named p) → (Within s x → In y s) × (In y s → Within s x)) → AgreeAll s (joined_to x p)
unfolding joined_to named
agree_to s x [] h = tt
agree_to s x (t ∷ p) h = (h t.place (put_new t.place (named p)), agree_to s x p (λ y i. h y (put_old t.place y (named p) i)))

-- all places of the terms are in the list, or none
abbrev Whole : List ℕ → List Multiple → Type 0
Whole s p = (x y : ℕ) → In x (named p) → In y (named p) → In x s → In y s

abbrev WholeAll : List ℕ → List Atom → Type 0
WholeAll s [] = Unit {0}
WholeAll s (a ∷ l) = Whole s (form_of a).terms × WholeAll s l

first_in : (t : Multiple) (p : List Multiple) → In t.place (named (t ∷ p))
unfolding named
first_in t p = put_new t.place (named p)

agree_joined : (s : List ℕ) (p : List Multiple) → Whole s p → AgreeAll s (joined p)
unfolding joined
agree_joined s [] h = tt
agree_joined s (t ∷ p) h = agree_to s (at t.place) (t ∷ p) (λ y i. (h t.place y (first_in t p) i, h y t.place i (first_in t p)))

agree_all_joined : (s : List ℕ) (l : List Atom) → WholeAll s l → AgreeAll s (all_joined l)
unfolding all_joined
agree_all_joined s [] h = tt
agree_all_joined s (a ∷ l) h = agree_append s (joined (form_of a).terms) (all_joined l) (agree_joined s (form_of a).terms h.0) (agree_all_joined s l h.1)

agree_all_null : (s : List ℕ) (l : List Atom) → ((x : ℕ) → In x (places_in l) → In x s) → AgreeAll s (all_null l)
unfolding all_null places_in
agree_all_null s [] h = tt
agree_all_null s (a ∷ l) h = agree_append s (joined_to nothing (form_of a).terms) (all_null l)
    (agree_to s nothing (form_of a).terms (λ y i. ((λ w. h y (all_first y (named (form_of a).terms) (places_in l) i)), (λ w. tt))))
    (agree_all_null s l (λ x i. h x (all_second x (named (form_of a).terms) (places_in l) i)))

inside_front : (k l : List Atom) (cs : List (List ℕ)) → AllInside (k ++ l) cs → AllInside k cs
inside_front [] l cs h = tt
inside_front (a ∷ k) l cs h = (h.0, inside_front k l cs h.1)

inside_back : (k l : List Atom) (cs : List (List ℕ)) → AllInside (k ++ l) cs → AllInside l cs
inside_back [] l cs h = h
inside_back (a ∷ k) l cs h = inside_back k l cs h.1

-- a place of an atom is in the part in which the atom lies
part_with : (l : List Atom) (cs : List (List ℕ)) → AllInside l cs → (x : ℕ) → In x (places_in l) → (c : List ℕ) × Member c cs × In x c
unfolding places_in contains
part_with [] cs h x i = absurd (cc i)
part_with (a ∷ l) cs h x i = elim (all_out x (named (form_of a).terms) (places_in l) i) [
  | inl k ↦ let r = inside_member (named (form_of a).terms) cs h.0 in (r.0, r.1, r.2 x k)
  | inr k ↦ part_with l cs h.1 x k
]

whole_parts : (q : List ℕ) (cs : List (List ℕ)) (l : List Atom) → Disjoint cs → AllInside l cs → WholeAll (parts_with q cs) l
whole_parts q cs [] d h = tt
whole_parts q cs (a ∷ l) d h = (
  (λ x y i j w. let r = with_out q cs x w in let p = named (form_of a).terms in
      with_in q cs r.0 y r.1 r.2 (inside_shared p r.0 cs d h.0 r.1 (shares_of x p r.0 i r.3) y j)),
  whole_parts q cs l d h.1,
)

module _ (c a : List Atom) where
  own_places : (x : ℕ) → In x (places_in a) → In x (parts_with (places_in a) (parts (c ++ a)))
  own_places x i = let cs = parts (c ++ a) in let r = part_with a cs (inside_back c a cs (parts_cover (c ++ a))) x i in
      with_in (places_in a) cs r.0 x r.1 (shares_of x r.0 (places_in a) r.2 i) r.2

  condition_whole : WholeAll (parts_with (places_in a) (parts (c ++ a))) c
  condition_whole = let cs = parts (c ++ a) in whole_parts (places_in a) cs c (parts_disjoint (c ++ a)) (inside_front c a cs (parts_cover (c ++ a)))

  forced_slice : (x : ℕ) → Forced (joins c a) (at x) nothing → In x (parts_with (places_in a) (parts (c ++ a)))
  unfolding joins
  forced_slice x f = let s = parts_with (places_in a) (parts (c ++ a)) in
      (forced_within s (all_joined c ++ all_null a) (at x) nothing
      (agree_append s (all_joined c) (all_null a) (agree_all_joined s c condition_whole) (agree_all_null s a own_places)) f).1 tt

-- ---- what the classes let in

no_share : (q : List ℕ) → shares (named []) q ≡ false
unfolding named shares
no_share q = refl

mention : (m : List Atom) (t : Multiple) (p : List Multiple) → ((x y : Side) → Stated (joined (t ∷ p)) x y → Stated m x y) → Mentions m t.place
unfolding joined
mention m t p h = let r = h (at t.place) (at t.place) (to_each (at t.place) (t ∷ p) t.place (first_in t p)) in (r.0, same (at t.place) (at t.place), r.1, inl refl)

all_stated : (c a : List Atom) (x y : Side) → Stated (all_joined c) x y → Stated (joins c a) x y
unfolding joins
all_stated c a x y s = stated_front (all_joined c) (all_null a) x y s

module _ (c a : List Atom) (n : ℕ) (k : List ℕ) (classes : AreClasses (joins c a) n k) where
  class_null : (x : ℕ) → x < n → Mentions (joins c a) x → nat_eq (get_or k x 0) 0 ≡ true → In x (parts_with (places_in a) (parts (c ++ a)))
  class_null x l m e = elim ((classes.null x (get_or k x 0) (slice_get-get_or k x 0 (omega (arith, classes.each)))).0 (eqb-true (get_or k x 0) 0 e)) [
    | inl f ↦ forced_slice c a x f
    | inr o ↦ absurd (o m)
  ]

  null_class : (x : ℕ) → x < n → In x (parts_with (places_in a) (parts (c ++ a))) → nat_eq (get_or k x 0) 0 ≡ true
  null_class x l i = eq-eqb (get_or k x 0) 0 ((classes.null x (get_or k x 0) (slice_get-get_or k x 0 (omega (arith, classes.each)))).1 (inl (slice_forced c a x i)))

  first_met : (p : List Multiple) → Whole (parts_with (places_in a) (parts (c ++ a))) p → Below n p → ((x y : Side) → Stated (joined p) x y → Stated (joins c a) x y)
      → first_is_null k p ≡ shares (named p) (parts_with (places_in a) (parts (c ++ a)))
  unfolding first_is_null
  first_met [] w b h = sym (no_share (parts_with (places_in a) (parts (c ++ a))))
  first_met (t ∷ p) w b h =
      let s = parts_with (places_in a) (parts (c ++ a)) in
      let first : In t.place (named (t ∷ p)) = first_in t p in
      elim (bool_cases (nat_eq (get_or k t.place 0) 0)) [
        | inl e ↦ e ∙ sym (shares_of t.place (named (t ∷ p)) s first (class_null t.place b.0 (mention (joins c a) t p h) e))
        | inr e ↦ elim (bool_cases (shares (named (t ∷ p)) s)) [
          | inl u ↦ let r = shared (named (t ∷ p)) s u in
              let y = null_class t.place b.0 (w r.0 t.place r.1 first r.2) in absurd (cc (e, y))
          | inr u ↦ e ∙ sym u
        ]
      ]

  all_met : (l : List Atom) → WholeAll (parts_with (places_in a) (parts (c ++ a))) l → BelowAll n l → ((x y : Side) → Stated (all_joined l) x y → Stated (joins c a) x y)
      → met k l ≡ atoms_on (parts_with (places_in a) (parts (c ++ a))) l
  unfolding met atoms_on all_joined
  all_met [] w b h = refl
  all_met (d ∷ l) w b h =
      let s = parts_with (places_in a) (parts (c ++ a)) in
      let e = first_met (form_of d).terms w.0 b.0 (λ x y i. h x y (stated_front (joined (form_of d).terms) (all_joined l) x y i)) in
      let r = all_met l w.1 b.1 (λ x y i. h x y (stated_back (joined (form_of d).terms) (all_joined l) x y i)) in
      ap (λ (q : Bool). if q then d ∷ met k l else met k l) e ∙ ap (λ (q : List Atom). if shares (named (form_of d).terms) s then d ∷ q else q) r

  -- the condition's atoms of which the first place's class is NULL's are those of the slice
  pub met_slice : BelowAll n c → met k c ++ a ≡ slice_of c a
  unfolding slice_of
  met_slice b = ap (λ (q : List Atom). q ++ a) (all_met c (condition_whole c a) b (all_stated c a))
