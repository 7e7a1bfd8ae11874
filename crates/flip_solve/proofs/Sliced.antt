-- What stands outside of a slice shares no place with it.
use Rattle.std.proofs.Common.{◌≡◌, ℕ, Bool, true, ◌⊎◌, inl, inr, List, [], ◌∷◌, ◌++◌, map, refl, sym, ◌∙◌, subst, nat_eq, if◌then◌else◌}
use borrow.Author.Tests.{eq-eqb}
use Rattle.cc_base.specs.declared.forms.Multiple.{Multiple}
use Rattle.cc_base.specs.Groups.{Atom, form_of, contains, named, places_in, shares, parts, atoms_on}
use Rattle.cc_base.specs.Paths as listed
use Rattle.cc_base.specs.Slice.{parts_with, slice_of}
use Rattle.linear_solver.specs.Standing.{Member}
use Rattle.linear_solver.proofs.Integers.{bool_cases}
use Rattle.linear_solver.proofs.Tidied.{or_true}
use Rattle.linear_solver.proofs.Parting.{In, or_left, or_right, put_new, put_old, put_out, all_first, all_second, all_out, shares_of, shared, Disjoint, parts_disjoint, Inside, AllInside, parts_cover, inside_member, inside_shared, contains_append}
use Rattle.flip_solve.proofs.Members.{in_left, in_right, in_either}

none_in : (x : ℕ) → In x [] → ⊥
unfolding contains
none_in x i = cc i

-- ---- the parts that share a place

abbrev joined_if : Bool → List ℕ → List ℕ → List ℕ
joined_if b c rest = if b then c ++ rest else rest

with_in : (ps : List ℕ) (cs : List (List ℕ)) (c : List ℕ) (x : ℕ) → Member c cs → shares c ps ≡ true → In x c → In x (parts_with ps cs)
unfolding parts_with
with_in ps [] c x m s i = absurd m
with_in ps (d ∷ ds) c x (inl e) s i =
    let s' : shares d ps ≡ true = subst (λ (k : List ℕ). shares k ps ≡ true) e s in
    let i' : In x d = subst (λ (k : List ℕ). In x k) e i in
    subst (λ (b : Bool). In x (joined_if b d (parts_with ps ds))) (sym s') (contains_append d (parts_with ps ds) x ∙ or_left (contains d x) (contains (parts_with ps ds) x) i')
with_in ps (d ∷ ds) c x (inr m) s i = let r = with_in ps ds c x m s i in elim (bool_cases (shares d ps)) [
  | inl t ↦ subst (λ (b : Bool). In x (joined_if b d (parts_with ps ds))) (sym t) (contains_append d (parts_with ps ds) x ∙ or_right (contains d x) (contains (parts_with ps ds) x) r)
  | inr t ↦ subst (λ (b : Bool). In x (joined_if b d (parts_with ps ds))) (sym t) r
]

abbrev Found : List ℕ → List (List ℕ) → ℕ → Type 0
Found ps cs x = (c : List ℕ) × Member c cs × (shares c ps ≡ true) × In x c

later : (ps d : List ℕ) (ds : List (List ℕ)) (x : ℕ) → Found ps ds x → Found ps (d ∷ ds) x
later ps d ds x r = (r.0, inr r.1, r.2, r.3)

with_out : (ps : List ℕ) (cs : List (List ℕ)) (x : ℕ) → In x (parts_with ps cs) → Found ps cs x
unfolding parts_with
with_out ps [] x i = absurd (none_in x i)
with_out ps (d ∷ ds) x i = elim (bool_cases (shares d ps)) [
  | inr t ↦ later ps d ds x (with_out ps ds x (subst (λ (b : Bool). In x (joined_if b d (parts_with ps ds))) t i))
  | inl t ↦ elim (or_true (contains d x) (contains (parts_with ps ds) x) (sym (contains_append d (parts_with ps ds) x) ∙ subst (λ (b : Bool). In x (joined_if b d (parts_with ps ds))) t i)) [
    | inl e ↦ (d, inl refl, t, e)
    | inr e ↦ later ps d ds x (with_out ps ds x e)
  ]
]

-- where one place of an atom stands in them, each does
closed : (ps p : List ℕ) (cs : List (List ℕ)) → Disjoint cs → Inside p cs → (x y : ℕ) → In x p → In y p → In x (parts_with ps cs) → In y (parts_with ps cs)
closed ps p cs d k x y i j h = let r = with_out ps cs x h in with_in ps cs r.0 y r.1 r.2 (inside_shared p r.0 cs d k r.1 (shares_of x p r.0 i r.3) y j)

-- ---- atoms and their places

abbrev pub places_asked : Atom → List ℕ
places_asked a = named (form_of a).terms

pub some_atom : (l : List Atom) (x : ℕ) → In x (places_in l) → (a : Atom) × listed.In a l × In x (places_asked a)
unfolding places_in
some_atom [] x i = absurd (none_in x i)
some_atom (a ∷ l) x i = elim (all_out x (places_asked a) (places_in l) i) [
  | inl j ↦ (a, inl refl, j)
  | inr j ↦ let r = some_atom l x j in (r.0, inr r.1, r.2)
]

pub in_places : (l : List Atom) (a : Atom) (x : ℕ) → listed.In a l → In x (places_asked a) → In x (places_in l)
unfolding places_in
in_places [] a x i j = absurd i
in_places (b ∷ l) a x (inl e) j = all_first x (places_asked b) (places_in l) (subst (λ (k : Atom). In x (places_asked k)) e j)
in_places (b ∷ l) a x (inr i) j = all_second x (places_asked b) (places_in l) (in_places l a x i j)

inside_of : (l : List Atom) (cs : List (List ℕ)) (a : Atom) → AllInside l cs → listed.In a l → Inside (places_asked a) cs
inside_of [] cs a h i = absurd i
inside_of (b ∷ l) cs a h (inl e) = subst (λ (k : Atom). Inside (places_asked k) cs) (sym e) h.0
inside_of (b ∷ l) cs a h (inr i) = inside_of l cs a h.1 i

abbrev kept_if : Bool → Atom → List Atom → List Atom
kept_if b a rest = if b then a ∷ rest else rest

on_out : (s : List ℕ) (l : List Atom) (a : Atom) → listed.In a (atoms_on s l) → listed.In a l × (shares (places_asked a) s ≡ true)
unfolding atoms_on
on_out s [] a i = absurd i
on_out s (b ∷ l) a i = elim (bool_cases (shares (places_asked b) s)) [
  | inr t ↦ let r = on_out s l a (subst (λ (k : Bool). listed.In a (kept_if k b (atoms_on s l))) t i) in (inr r.0, r.1)
  | inl t ↦ elim (subst (λ (k : Bool). listed.In a (kept_if k b (atoms_on s l))) t i) [
    | inl e ↦ (inl e, subst (λ (k : Atom). shares (places_asked k) s ≡ true) (sym e) t)
    | inr j ↦ let r = on_out s l a j in (inr r.0, r.1)
  ]
]

on_in : (s : List ℕ) (l : List Atom) (a : Atom) → listed.In a l → shares (places_asked a) s ≡ true → listed.In a (atoms_on s l)
unfolding atoms_on
on_in s [] a i h = absurd i
on_in s (b ∷ l) a (inl e) h = subst (λ (k : Bool). listed.In a (kept_if k b (atoms_on s l))) (sym (subst (λ (k : Atom). shares (places_asked k) s ≡ true) e h)) (inl e)
on_in s (b ∷ l) a (inr i) h = let r = on_in s l a i h in elim (bool_cases (shares (places_asked b) s)) [
  | inl t ↦ subst (λ (k : Bool). listed.In a (kept_if k b (atoms_on s l))) (sym t) (inr r)
  | inr t ↦ subst (λ (k : Bool). listed.In a (kept_if k b (atoms_on s l))) (sym t) r
]

-- ---- the slice

module _ (c d : List Atom) where
  abbrev reached : List ℕ
  reached = parts_with (places_in d) (parts (c ++ d))

  slice_places : (x : ℕ) → In x (places_in (slice_of c d)) → In x reached
  unfolding slice_of
  slice_places x i = let r = some_atom (atoms_on reached c ++ d) x i in elim (in_either r.0 (atoms_on reached c) d r.1) [
    | inl j ↦
        let o = on_out reached c r.0 j in
        let y = shared (places_asked r.0) reached o.1 in
        closed (places_in d) (places_asked r.0) (parts (c ++ d)) (parts_disjoint (c ++ d)) (inside_of (c ++ d) (parts (c ++ d)) r.0 (parts_cover (c ++ d)) (in_left r.0 c d o.0)) y.0 x y.1 r.2 y.2
    | inr j ↦
        let m = inside_member (places_asked r.0) (parts (c ++ d)) (inside_of (c ++ d) (parts (c ++ d)) r.0 (parts_cover (c ++ d)) (in_right r.0 c d j)) in
        with_in (places_in d) (parts (c ++ d)) m.0 x m.1 (shares_of x m.0 (places_in d) (m.2 x r.2) (in_places d r.0 x j r.2)) (m.2 x r.2)
  ]

  -- an atom is in the slice, or it is of the condition and has no place of the slice
  pub in_or_out : (a : Atom) → listed.In a (c ++ d) → listed.In a (slice_of c d) ⊎ (listed.In a c × ((x : ℕ) → In x (places_asked a) → In x (places_in (slice_of c d)) → ⊥))
  unfolding slice_of
  in_or_out a i = elim (in_either a c d i) [
    | inr j ↦ inl (in_right a (atoms_on reached c) d j)
    | inl j ↦ elim (bool_cases (shares (places_asked a) reached)) [
      | inl t ↦ inl (in_left a (atoms_on reached c) d (on_in reached c a j t))
      | inr t ↦ inr (j, λ x k m. absurd (let s = shares_of x (places_asked a) reached k (slice_places x m) in cc (s, t)))
    ]
  ]

-- ---- a form's places

pub named_in : (l : List Multiple) (x : ℕ) → listed.In x (map (λ t. t.place) l) → In x (named l)
unfolding named
named_in [] x i = absurd i
named_in (t ∷ l) x (inl e) = subst (λ (y : ℕ). In y (named (t ∷ l))) (sym e) (put_new t.place (named l))
named_in (t ∷ l) x (inr i) = put_old t.place x (named l) (named_in l x i)

pub in_named : (l : List Multiple) (x : ℕ) → In x (named l) → listed.In x (map (λ t. t.place) l)
unfolding named
in_named [] x i = absurd (none_in x i)
in_named (t ∷ l) x i = elim (put_out t.place x (named l) i) [ inl e ↦ inl e | inr j ↦ inr (in_named l x j) ]

pub listed_in : (l : List ℕ) (x : ℕ) → listed.In x l → In x l
unfolding contains
listed_in [] x i = absurd i
listed_in (y ∷ l) x (inl e) = or_left (nat_eq x y) (contains l x) (eq-eqb x y e)
listed_in (y ∷ l) x (inr i) = or_right (nat_eq x y) (contains l x) (listed_in l x i)
