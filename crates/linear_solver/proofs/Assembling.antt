-- The answers of the groups make the answer of the list.
use Rattle.std.proofs.Common.{◌≡◌, ◌∙◌, sym, ap, subst, refl, arith, ℕ, ◌<◌, Bool, true, false, ◌⊎◌, inl, inr, nat_eq, List, [], ◌∷◌, ◌++◌, length, get_or, Option, Some, None, ℤ, ◌≤ℤ◌, if◌then◌else◌}
use Rattle.cc_base.specs.Groups.{Atom, form_of, contains, put_all, named, places_in, shares, touching, apart, parts, atoms_on, groups_of, groups}
use Rattle.cc_base.specs.Need.{need}
use Rattle.cc_base.specs.Solve.{Refuted, SomeRefuted, SomeBeyond, Right, sat, spent}
use Rattle.linear_solver.specs.Answers.{HasNumber}
use Rattle.linear_solver.specs.Parts.{answered, number_of, Wrote}
use Rattle.linear_solver.specs.Standing.{OutOf, Member, Good, AllGood, Stands}
use Rattle.linear_solver.proofs.Integers.{bool_cases}
use Rattle.linear_solver.proofs.Parting.{In, Disjoint, AllInside, AllHold, parts_cover, inside_shared, inside_member, groups_hold, shares_of, all_out, all_first, all_second}
use Rattle.linear_solver.proofs.Settling.{same_places, between_all, between_at}

-- ---- lists with one more

some_refuted_last : (lo hi : ℤ) (b : ℕ) (gs : List (List Atom)) (g : List Atom) → SomeRefuted lo hi b (gs ++ (g ∷ [])) → SomeRefuted lo hi b gs ⊎ Refuted lo hi b g
some_refuted_last lo hi b [] g h = elim h [ inl r ↦ inr r | inr r ↦ absurd r ]
some_refuted_last lo hi b (f ∷ gs) g h = elim h [ inl r ↦ inl (inl r) | inr r ↦ elim (some_refuted_last lo hi b gs g r) [ inl s ↦ inl (inr s) | inr s ↦ inr s ] ]

some_beyond_first : (lo hi : ℤ) (b : ℕ) (gs : List (List Atom)) (g : List Atom) → SomeBeyond lo hi b gs → SomeBeyond lo hi b (gs ++ (g ∷ []))
some_beyond_first lo hi b [] g h = absurd h
some_beyond_first lo hi b (f ∷ gs) g h = elim h [ inl r ↦ inl r | inr r ↦ inr (some_beyond_first lo hi b gs g r) ]

some_beyond_last : (lo hi : ℤ) (b : ℕ) (gs : List (List Atom)) (g : List Atom) → b < need lo hi g → SomeBeyond lo hi b (gs ++ (g ∷ []))
some_beyond_last lo hi b [] g h = inl h
some_beyond_last lo hi b (f ∷ gs) g h = inr (some_beyond_last lo hi b gs g h)

all_good_last : (lo hi : ℤ) (b : ℕ) (v : ℕ → ℤ) (gs : List (List Atom)) (g : List Atom) → AllGood lo hi b v gs → Good lo hi b v g → AllGood lo hi b v (gs ++ (g ∷ []))
all_good_last lo hi b v [] g h i = (i, tt)
all_good_last lo hi b v (f ∷ gs) g h i = (h.0, all_good_last lo hi b v gs g h.1 i)

member_last : (c : List ℕ) (ds : List (List ℕ)) (d : List ℕ) → Member c (ds ++ (d ∷ [])) → Member c ds ⊎ (c ≡ d)
member_last c [] d h = elim h [ inl e ↦ inr e | inr e ↦ absurd e ]
member_last c (f ∷ ds) d h = elim h [ inl e ↦ inl (inl e) | inr e ↦ elim (member_last c ds d e) [ inl m ↦ inl (inr m) | inr m ↦ inr m ] ]

out_first : (x : ℕ) (ds : List (List ℕ)) (d : List ℕ) → OutOf x (ds ++ (d ∷ [])) → OutOf x ds × (In x d → ⊥)
out_first x [] d h = (tt, h.0)
out_first x (f ∷ ds) d h = let r = out_first x ds d h.1 in ((h.0, r.0), r.1)

-- ---- writing the values of a part

wrote_in : (c : List ℕ) (w : ℕ → ℤ) (o u : List (Option ℤ)) (x : ℕ) → Wrote c w o u → In x c → get_or u x None ≡ Some (w x)
wrote_in c w o u x r i = r.1 x ∙ ap (λ (b : Bool). if b then Some (w x) else get_or o x None) i

not_in : (c : List ℕ) (x : ℕ) → (In x c → ⊥) → contains c x ≡ false
not_in c x n = elim (bool_cases (contains c x)) [ inl t ↦ absurd (n t) | inr t ↦ t ]

wrote_out : (c : List ℕ) (w : ℕ → ℤ) (o u : List (Option ℤ)) (x : ℕ) → Wrote c w o u → (In x c → ⊥) → get_or u x None ≡ get_or o x None
wrote_out c w o u x r n = r.1 x ∙ ap (λ (b : Bool). if b then Some (w x) else get_or o x None) (not_in c x n)

answered_in : (c : List ℕ) (w : ℕ → ℤ) (o u : List (Option ℤ)) (x : ℕ) → Wrote c w o u → In x c → w x ≡ answered u x
unfolding answered number_of
answered_in c w o u x r i = sym (ap number_of (wrote_in c w o u x r i))

answered_out : (c : List ℕ) (w : ℕ → ℤ) (o u : List (Option ℤ)) (x : ℕ) → Wrote c w o u → (In x c → ⊥) → answered o x ≡ answered u x
unfolding answered
answered_out c w o u x r n = sym (ap number_of (wrote_out c w o u x r n))

good_same : (lo hi : ℤ) (b : ℕ) (v u : ℕ → ℤ) (g : List Atom) → ((x : ℕ) → In x (places_in g) → v x ≡ u x) → Good lo hi b v g → Good lo hi b u g
good_same lo hi b v u g h k = (
  k.0,
  between_all lo hi u (places_in g) (λ x i. (let a = between_at lo hi v (places_in g) x k.1 i in let e = h x i in
      (subst (λ (z : ℤ). lo ≤ℤ z) e a.0, subst (λ (z : ℤ). z ≤ℤ hi) e a.1))),
  same_places v u g h k.2,
)

-- the places of the atoms of a part lie in it
on_places : (l : List Atom) (d : List ℕ) (cs : List (List ℕ)) → Disjoint cs → AllInside l cs → Member d cs → (x : ℕ) → In x (places_in (atoms_on d l)) → In x d
unfolding places_in atoms_on contains
on_places [] d cs p a m x i = absurd (cc i)
on_places (f ∷ l) d cs p a m x i = elim (bool_cases (shares (named (form_of f).terms) d)) [
  | inl t ↦ elim (all_out x (named (form_of f).terms) (places_in (atoms_on d l)) (subst (λ (b : Bool). In x (places_in (if b then f ∷ atoms_on d l else atoms_on d l))) t i)) [
    | inl j ↦ inside_shared (named (form_of f).terms) d cs p a.0 m t x j
    | inr j ↦ on_places l d cs p a.1 m x j
  ]
  | inr t ↦ on_places l d cs p a.1 m x (subst (λ (b : Bool). In x (places_in (if b then f ∷ atoms_on d l else atoms_on d l))) t i)
]

-- groups_of with one part more
pub groups_last : (ds : List (List ℕ)) (d : List ℕ) (l : List Atom) → groups_of (ds ++ (d ∷ [])) l ≡ groups_of ds l ++ (if nat_eq (length d) 0 then [] else atoms_on d l ∷ [])
unfolding groups_of
groups_last [] d l = refl
groups_last (f ∷ ds) d l = elim (bool_cases (nat_eq (length f) 0)) [
  | inl t ↦ ap (λ (b : Bool). if b then groups_of (ds ++ (d ∷ [])) l else atoms_on f l ∷ groups_of (ds ++ (d ∷ [])) l) t ∙ groups_last ds d l
      ∙ sym (ap (λ (b : Bool). (if b then groups_of ds l else atoms_on f l ∷ groups_of ds l) ++ (if nat_eq (length d) 0 then [] else atoms_on d l ∷ [])) t)
  | inr t ↦ ap (λ (b : Bool). if b then groups_of (ds ++ (d ∷ [])) l else atoms_on f l ∷ groups_of (ds ++ (d ∷ [])) l) t ∙ ap (λ (m : List (List Atom)). atoms_on f l ∷ m) (groups_last ds d l)
      ∙ sym (ap (λ (b : Bool). (if b then groups_of ds l else atoms_on f l ∷ groups_of ds l) ++ (if nat_eq (length d) 0 then [] else atoms_on d l ∷ [])) t)
]

good_kept : (lo hi : ℤ) (b : ℕ) (v u : ℕ → ℤ) (l : List Atom) (cs ds : List (List ℕ)) → Disjoint cs → AllInside l cs → ((d : List ℕ) → Member d ds → Member d cs × ((x : ℕ) → In x d → v x ≡ u x)) → AllGood lo hi b v (groups_of ds l) → AllGood lo hi b u (groups_of ds l)
unfolding groups_of
good_kept lo hi b v u l cs [] p a m g = tt
good_kept lo hi b v u l cs (d ∷ ds) p a m g = elim (bool_cases (nat_eq (length d) 0)) [
  | inl t ↦ subst (λ (c : Bool). AllGood lo hi b u (if c then groups_of ds l else atoms_on d l ∷ groups_of ds l)) (sym t)
      (good_kept lo hi b v u l cs ds p a (λ e n. m e (inr n)) (subst (λ (c : Bool). AllGood lo hi b v (if c then groups_of ds l else atoms_on d l ∷ groups_of ds l)) t g))
  | inr t ↦ let h = subst (λ (c : Bool). AllGood lo hi b v (if c then groups_of ds l else atoms_on d l ∷ groups_of ds l)) t g in let q = m d (inl refl) in
      subst (λ (c : Bool). AllGood lo hi b u (if c then groups_of ds l else atoms_on d l ∷ groups_of ds l)) (sym t)
      (good_same lo hi b v u (atoms_on d l) (λ x i. q.1 x (on_places l d cs p a q.0 x i)) h.0, good_kept lo hi b v u l cs ds p a (λ e n. m e (inr n)) h.1)
]

-- each place of a part is named by an atom of its group
member_apart : (c p : List ℕ) (cs : List (List ℕ)) → Member c (apart p cs) → Member c cs
unfolding apart
member_apart c p [] m = m
member_apart c p (d ∷ cs) m = elim (bool_cases (shares p d)) [
  | inl t ↦ inr (member_apart c p cs (subst (λ (b : Bool). Member c (if b then apart p cs else d ∷ apart p cs)) t m))
  | inr t ↦ elim (subst (λ (b : Bool). Member c (if b then apart p cs else d ∷ apart p cs)) t m) [ inl e ↦ inl e | inr k ↦ inr (member_apart c p cs k) ]
]

touching_from : (x : ℕ) (p : List ℕ) (cs : List (List ℕ)) → In x (touching p cs) → In x p ⊎ ((c : List ℕ) × Member c cs × In x c)
unfolding touching
touching_from x p [] i = inl i
touching_from x p (d ∷ cs) i = elim (bool_cases (shares p d)) [
  | inl t ↦ elim (all_out x d (touching p cs) (subst (λ (b : Bool). In x (if b then put_all d (touching p cs) else touching p cs)) t i)) [
    | inl j ↦ inr (d, inl refl, j)
    | inr j ↦ elim (touching_from x p cs j) [ inl k ↦ inl k | inr k ↦ inr (k.0, inr k.1, k.2) ]
  ]
  | inr t ↦ elim (touching_from x p cs (subst (λ (b : Bool). In x (if b then put_all d (touching p cs) else touching p cs)) t i)) [ inl k ↦ inl k | inr k ↦ inr (k.0, inr k.1, k.2) ]
]

pub part_named : (l : List Atom) (c : List ℕ) (x : ℕ) → Member c (parts l) → In x c → In x (places_in l)
unfolding parts places_in
part_named [] c x m i = absurd m
part_named (f ∷ l) c x m i = elim m [
  | inl e ↦ elim (touching_from x (named (form_of f).terms) (parts l) (subst (λ (q : List ℕ). In x q) e i)) [
    | inl j ↦ all_first x (named (form_of f).terms) (places_in l) j
    | inr j ↦ all_second x (named (form_of f).terms) (places_in l) (part_named l j.0 x j.1 j.2)
  ]
  | inr k ↦ all_second x (named (form_of f).terms) (places_in l) (part_named l c x (member_apart c (named (form_of f).terms) (parts l) k) i)
]

in_group : (c : List ℕ) (l : List Atom) (x : ℕ) → In x c → In x (places_in l) → In x (places_in (atoms_on c l))
unfolding places_in atoms_on contains
in_group c [] x i j = absurd (cc j)
in_group c (f ∷ l) x i j = elim (bool_cases (shares (named (form_of f).terms) c)) [
  | inl t ↦ subst (λ (b : Bool). In x (places_in (if b then f ∷ atoms_on c l else atoms_on c l))) (sym t)
      (elim (all_out x (named (form_of f).terms) (places_in l) j) [
        | inl k ↦ all_first x (named (form_of f).terms) (places_in (atoms_on c l)) k
        | inr k ↦ all_second x (named (form_of f).terms) (places_in (atoms_on c l)) (in_group c l x i k)
      ])
  | inr t ↦ subst (λ (b : Bool). In x (places_in (if b then f ∷ atoms_on c l else atoms_on c l))) (sym t)
      (elim (all_out x (named (form_of f).terms) (places_in l) j) [
        | inl k ↦ absurd (let s = shares_of x (named (form_of f).terms) c k i in cc (s, t))
        | inr k ↦ in_group c l x i k
      ])
]

-- ---- a part that is settled

two_ways : (s : Bool) → s ≡ true → s ≡ false → ⊥
two_ways s e f = cc (e, f)

module _ (lo hi : ℤ) (b n : ℕ) (l : List Atom) (cs ds : List (List ℕ)) (c : List ℕ) (p : Disjoint cs) (a : AllInside l cs) (mc : Member c cs) (ml : Member c (parts l))
    (md : (d : List ℕ) → Member d ds → Member d cs × ((x : ℕ) → In x d → In x c → ⊥)) where
  abbrev pub group : List Atom
  group = atoms_on c l

  refuted_not : (w : ℕ → ℤ) → Good lo hi b w group → Refuted lo hi b group → ⊥
  refuted_not w g r = r.none (w, g.1, g.2)

  pub values_stand : (o u : List (Option ℤ)) (s t : Bool) (w : ℕ → ℤ) → Stands lo hi b n o s ds (groups_of ds l) → Good lo hi b w group → Wrote c w o u → t ≡ s → Stands lo hi b n u t (ds ++ (c ∷ [])) (groups_of ds l ++ (group ∷ []))
  values_stand o u s t w st g r e = record {
    size = r.0 ∙ st.size;
    good = λ f. all_good_last lo hi b (answered u) (groups_of ds l) group
        (good_kept lo hi b (answered o) (answered u) l cs ds p a (λ d m. ((md d m).0, λ x i. answered_out c w o u x r (λ j. (md d m).1 x i j))) (st.good (sym e ∙ f)))
        (good_same lo hi b w (answered u) group (λ x i. answered_in c w o u x r (on_places l c cs p a mc x i)) g);
    numbers = λ f d m x i. elim (member_last d ds c m) [
      | inl k ↦ let h = st.numbers (sym e ∙ f) d k x i in record { number = h.number; given = wrote_out c w o u x r (λ j. (md d k).1 x i j) ∙ h.given; low = h.low; high = h.high }
      | inr k ↦ let j = subst (λ (q : List ℕ). In x q) k i in number_in o u w r g x j
    ];
    beyond = λ f. some_beyond_first lo hi b (groups_of ds l) group (st.beyond (sym e ∙ f));
    unrefuted = λ h. elim (some_refuted_last lo hi b (groups_of ds l) group h) [ inl k ↦ st.unrefuted k | inr k ↦ refuted_not w g k ];
    none = λ x h. let q = out_first x ds c h in wrote_out c w o u x r q.1 ∙ st.none x q.0;
  }
    where
      number_in : (o u : List (Option ℤ)) (w : ℕ → ℤ) → Wrote c w o u → Good lo hi b w group → (x : ℕ) → In x c → HasNumber lo hi u x
      number_in o u w r g x j = let q = between_at lo hi w (places_in group) x g.1 (in_group c l x j (part_named l c x ml j)) in record { number = w x; given = wrote_in c w o u x r j; low = q.0; high = q.1 }

  pub beyond_stand : (o u : List (Option ℤ)) (s t : Bool) → Stands lo hi b n o s ds (groups_of ds l) → b < need lo hi group → u ≡ o → t ≡ true → Stands lo hi b n u t (ds ++ (c ∷ [])) (groups_of ds l ++ (group ∷ []))
  beyond_stand o u s t st h e f = record {
    size = ap length e ∙ st.size;
    good = λ k. absurd (two_ways t f k);
    numbers = λ k d m x i. absurd (two_ways t f k);
    beyond = λ k. some_beyond_last lo hi b (groups_of ds l) group h;
    unrefuted = λ k. elim (some_refuted_last lo hi b (groups_of ds l) group k) [ inl r ↦ st.unrefuted r | inr r ↦ (let w = r.within in omega (arith, w, h)) ];
    none = λ x k. let q = out_first x ds c k in ap (λ (m : List (Option ℤ)). get_or m x None) e ∙ st.none x q.0;
  }

-- an empty part changes nothing
pub empty_stands : (lo hi : ℤ) (b n : ℕ) (o : List (Option ℤ)) (s : Bool) (ds : List (List ℕ)) (gs : List (List Atom)) (c : List ℕ) → c ≡ [] → Stands lo hi b n o s ds gs → Stands lo hi b n o s (ds ++ (c ∷ [])) gs
unfolding contains
empty_stands lo hi b n o s ds gs c e st = record {
  size = st.size;
  good = st.good;
  numbers = λ f d m x i. elim (member_last d ds c m) [
    | inl k ↦ st.numbers f d k x i
    | inr k ↦ absurd (let j : contains [] x ≡ true = subst (λ (q : List ℕ). In x q) (k ∙ e) i in cc j)
  ];
  beyond = st.beyond;
  unrefuted = st.unrefuted;
  none = λ x h. st.none x (out_first x ds c h).0;
}

-- a group without places
pub alone_values : (lo hi : ℤ) (b n : ℕ) (o u : List (Option ℤ)) (s t : Bool) (cs : List (List ℕ)) (gs : List (List Atom)) (g : List Atom) (w : ℕ → ℤ) → [] ≡ places_in g → Good lo hi b w g → Wrote [] w o u → t ≡ s →
    Stands lo hi b n o s cs gs → Stands lo hi b n u t cs (gs ++ (g ∷ []))
unfolding contains
alone_values lo hi b n o u s t cs gs g w q k r e st =
    let same : (x : ℕ) → get_or u x None ≡ get_or o x None = λ x. r.1 x in
    record {
      size = r.0 ∙ st.size;
      good = λ f. all_good_last lo hi b (answered u) gs g (all_same lo hi b (answered o) (answered u) gs (λ x. answered_out [] w o u x r (λ i. absurd (cc i))) (st.good (sym e ∙ f)))
          (good_same lo hi b w (answered u) g (λ x i. absurd (let j : contains [] x ≡ true = ap (λ (p : List ℕ). contains p x) q ∙ i in cc j)) k);
      numbers = λ f d m x i. (let h = st.numbers (sym e ∙ f) d m x i in record { number = h.number; given = same x ∙ h.given; low = h.low; high = h.high });
      beyond = λ f. some_beyond_first lo hi b gs g (st.beyond (sym e ∙ f));
      unrefuted = λ h. elim (some_refuted_last lo hi b gs g h) [ inl m ↦ st.unrefuted m | inr m ↦ m.none (w, k.1, k.2) ];
      none = λ x h. same x ∙ st.none x h;
    }
  where
    all_same : (lo hi : ℤ) (b : ℕ) (v u : ℕ → ℤ) (gs : List (List Atom)) → ((x : ℕ) → v x ≡ u x) → AllGood lo hi b v gs → AllGood lo hi b u gs
    all_same lo hi b v u [] h k = tt
    all_same lo hi b v u (f ∷ gs) h k = (good_same lo hi b v u f (λ x i. h x) k.0, all_same lo hi b v u gs h k.1)

pub alone_beyond : (lo hi : ℤ) (b n : ℕ) (o u : List (Option ℤ)) (s t : Bool) (cs : List (List ℕ)) (gs : List (List Atom)) (g : List Atom) → b < need lo hi g → u ≡ o → t ≡ true → Stands lo hi b n o s cs gs → Stands lo hi b n u t cs (gs ++ (g ∷ []))
alone_beyond lo hi b n o u s t cs gs g h e f st = record {
  size = ap length e ∙ st.size;
  good = λ k. absurd (two_ways t f k);
  numbers = λ k d m x i. absurd (two_ways t f k);
  beyond = λ k. some_beyond_last lo hi b gs g h;
  unrefuted = λ k. elim (some_refuted_last lo hi b gs g k) [ inl r ↦ st.unrefuted r | inr r ↦ (let w = r.within in omega (arith, w, h)) ];
  none = λ x k. ap (λ (m : List (Option ℤ)). get_or m x None) e ∙ st.none x k;
}

-- ---- the whole list

all_hold : (lo hi : ℤ) (b : ℕ) (v : ℕ → ℤ) (gs : List (List Atom)) → AllGood lo hi b v gs → AllHold v gs
all_hold lo hi b v [] g = tt
all_hold lo hi b v (f ∷ gs) g = ((g.0).2, all_hold lo hi b v gs g.1)

none_beyond : (lo hi : ℤ) (b : ℕ) (v : ℕ → ℤ) (gs : List (List Atom)) → AllGood lo hi b v gs → SomeBeyond lo hi b gs → ⊥
none_beyond lo hi b v [] g h = h
none_beyond lo hi b v (f ∷ gs) g h = elim h [ inl k ↦ (let a = (g.0).0 in omega (arith, a, k)) | inr k ↦ none_beyond lo hi b v gs g.1 k ]

place_part : (l : List Atom) (cs : List (List ℕ)) (x : ℕ) → AllInside l cs → In x (places_in l) → (c : List ℕ) × Member c cs × In x c
unfolding places_in contains
place_part [] cs x a i = absurd (cc i)
place_part (f ∷ l) cs x a i = elim (all_out x (named (form_of f).terms) (places_in l) i) [
  | inl j ↦ (let r = inside_member (named (form_of f).terms) cs a.0 in (r.0, r.1, r.2 x j))
  | inr j ↦ place_part l cs x a.1 j
]

number_answered : (o : List (Option ℤ)) (x : ℕ) (z : ℤ) → get_or o x None ≡ Some z → z ≡ answered o x
unfolding answered number_of
number_answered o x z e = sym (ap number_of e)

out_all : (x : ℕ) (l : List Atom) (cs : List (List ℕ)) → ((c : List ℕ) → Member c cs → Member c (parts l)) → contains (places_in l) x ≡ false → OutOf x cs
out_all x l [] m e = tt
out_all x l (c ∷ cs) m e = ((λ i. let j = part_named l c x (m c (inl refl)) i in cc (j, e)), out_all x l cs (λ d k. m d (inr k)) e)

module _ (lo hi : ℤ) (b n : ℕ) (l : List Atom) (o : List (Option ℤ)) (s : Bool) (st : Stands lo hi b n o s (parts l) (groups l)) where
  number_at : s ≡ false → (x : ℕ) → In x (places_in l) → HasNumber lo hi o x
  number_at f x i = let r = place_part l (parts l) x (parts_cover l) i in st.numbers f r.0 r.1 x r.2

  pub right_sat : s ≡ false → Right lo hi b l (sat (answered o))
  right_sat f = (
    between_all lo hi (answered o) (places_in l) (λ x i. (let h = number_at f x i in let e = number_answered o x h.number h.given in
        (subst (λ (z : ℤ). lo ≤ℤ z) e h.low, subst (λ (z : ℤ). z ≤ℤ hi) e h.high))),
    groups_hold (answered o) l (all_hold lo hi b (answered o) (groups l) (st.good f)),
    st.unrefuted,
    none_beyond lo hi b (answered o) (groups l) (st.good f),
  )

  pub right_spent : s ≡ true → Right lo hi b l spent
  right_spent t = (st.unrefuted, st.beyond t)

  pub given_sat : s ≡ false → (length o ≡ n) × ((x : ℕ) → contains (places_in l) x ≡ true → HasNumber lo hi o x) × ((x : ℕ) → contains (places_in l) x ≡ false → get_or o x None ≡ None)
  given_sat f = (st.size, number_at f, λ x e. st.none x (out_all x l (parts l) (λ c m. m) e))
