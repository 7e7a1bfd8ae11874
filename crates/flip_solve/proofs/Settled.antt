-- The answer that is due, with the input that is built.
use Rattle.std.proofs.Common.{◌≡◌, ℕ, ◌<◌, inl, inr, ℤ, pos, ◌≤ℤ◌, List, [], ◌∷◌, ◌++◌, map, take, Option, Some, None, IsSome, unwrap_or, get_or, refl, sym, ap, ◌∙◌, subst}
use Rattle.cc_base.specs.declared.inputs.Input.{Input}
use Rattle.cc_base.specs.declared.forms.Multiple.{Multiple}
use Rattle.cc_base.specs.Classes.{Contradicts, AreClasses}
use Rattle.cc_base.specs.Forms.{Side, nothing, at, Atom, at_most_zero, is_zero, not_zero, same, differ}
use Rattle.cc_base.specs.Groups.{form_of, contains, places_in, groups}
use Rattle.cc_base.specs.Holds.{places_of_atom, places_of_side, AllValued, or_zero, Meets}
use Rattle.cc_base.specs.Limits.{Limits, base_of}
use Rattle.cc_base.specs.Paths.{In}
use Rattle.cc_base.specs.Places.{Placed, at_place}
use Rattle.cc_base.specs.Slice.{slice_of}
use Rattle.cc_base.specs.Solve.{Right, sat, unsat, spent, SomeRefuted}
use Rattle.cc_model.specs.Answers.{HasNoInput}
use Rattle.cc_model.specs.Canonical.{Within}
use Rattle.cc_model.specs.Core.{Program}
use Rattle.cc_model.specs.Runs.{params_of}
use Rattle.linear_solver.specs.Answers.{Below, BelowAll, Given, answer_of as solved_answer}
use Rattle.linear_solver.specs.declared.solve.Solved.{Solved}
use Rattle.linear_solver.specs.declared.solve.Solved.TheVariants.{Sat, Spent}
use Rattle.linear_solver.specs.Parts.{answered}
use Rattle.linear_solver.proofs.Integers.{bool_cases}
use Rattle.sym_run.specs.Placing.{IsNumberAt, NamesSide, NamesAtom}
use Rattle.input_map.specs.declared.building.Assignment.{Assignment}
use Rattle.flip_solve.specs.declared.flipping.Turned.TheVariants as came
use Rattle.input_map.specs.Builds.{IsAssignment, IsBuilt}
use Rattle.flip_solve.specs.Choosing.{AtomBelow, NamesPlaces, AreClassesIf, LieWithin, IsChosen, IsAskedOf}
use Rattle.flip_solve.specs.Settling.{Settles}
use Rattle.flip_solve.proofs.Members.{some_same, taken_got, in_left, in_right}
use Rattle.flip_solve.proofs.Refuted.{meets_in, InRange}
use Rattle.flip_solve.proofs.Sliced.{places_asked, in_named, listed_in}
use Rattle.flip_solve.proofs.Holding.{some_of}
use Rattle.flip_solve.proofs.Assigned.{is_assignment}
use Rattle.flip_solve.proofs.Kept.{meets_atoms, keeps}

-- ---- names

side_below : (n : ℕ) (all : List Placed) (s : Side) → NamesSide (take n all) s → (x : ℕ) → In x (places_of_side s) → x < n
side_below n all nothing h x i = absurd i
side_below n all (at p) h x (inl e) = subst (λ (y : ℕ). y < n) (sym e) (taken_got n all p _ h.2).0
side_below n all (at p) h x (inr i) = absurd i

either_below : (n : ℕ) (all : List Placed) (a b : Side) → NamesSide (take n all) a → NamesSide (take n all) b → (x : ℕ) → In x (places_of_side a ++ places_of_side b) → x < n
either_below n all nothing b g h x i = side_below n all b h x i
either_below n all (at p) b g h x (inl e) = side_below n all (at p) g x (inl e)
either_below n all (at p) b g h x (inr i) = side_below n all b h x i

-- what stands among the first n places is below n
atom_below : (n : ℕ) (all : List Placed) (a : Atom) → NamesAtom (take n all) a → AtomBelow n a
atom_below n all (at_most_zero g) h x i = (taken_got n all x _ (h x i).1).0
atom_below n all (is_zero g) h x i = (taken_got n all x _ (h x i).1).0
atom_below n all (not_zero g) h x i = (taken_got n all x _ (h x i).1).0
atom_below n all (same a b) h x i = either_below n all a b h.0 h.1 x i
atom_below n all (differ a b) h x i = either_below n all a b h.0 h.1 x i

pub names_places : (n : ℕ) (all : List Placed) (l : List Atom) → ((a : Atom) → In a l → NamesAtom (take n all) a) → NamesPlaces n l
names_places n all l h a i = atom_below n all a (h a i)

terms_below : (n : ℕ) (l : List Multiple) → ((x : ℕ) → In x (map (λ t. t.place) l) → x < n) → Below n l
terms_below n [] h = tt
terms_below n (t ∷ l) h = (h t.place (inl refl), terms_below n l (λ x i. h x (inr i)))

form_below : (n : ℕ) (a : Atom) → AtomBelow n a → Below n (form_of a).terms
unfolding form_of
form_below n (at_most_zero g) h = terms_below n g.terms h
form_below n (is_zero g) h = terms_below n g.terms h
form_below n (not_zero g) h = terms_below n g.terms h
form_below n (same a b) h = tt
form_below n (differ a b) h = tt

pub below_all : (n : ℕ) (l : List Atom) → NamesPlaces n l → BelowAll n l
below_all n [] h = tt
below_all n (a ∷ l) h = (form_below n a (h a (inl refl)), below_all n l (λ x i. h x (inr i)))

-- ---- ranges

-- the values of numbers that meet atoms lie within the bounds
valued_at : (f : ℕ → Option ℤ) (l : List ℕ) → AllValued f l → (x : ℕ) → In x l → IsSome (f x)
valued_at f [] v x i = absurd i
valued_at f (y ∷ l) v x (inl e) = subst (λ (z : ℕ). IsSome (f z)) (sym e) v.0
valued_at f (y ∷ l) v x (inr i) = valued_at f l v.1 x i

asked_number : (front : List Placed) (a : Atom) → NamesAtom front a → (x : ℕ) → In x (places_asked a) → In x (places_of_atom a) × IsNumberAt front x
unfolding form_of
asked_number front (at_most_zero g) n x i = let j = in_named g.terms x (listed_in (places_asked (at_most_zero g)) x i) in (j, n x j)
asked_number front (is_zero g) n x i = let j = in_named g.terms x (listed_in (places_asked (is_zero g)) x i) in (j, n x j)
asked_number front (not_zero g) n x i = let j = in_named g.terms x (listed_in (places_asked (not_zero g)) x i) in (j, n x j)
asked_number front (same a b) n x i = absurd (in_named [] x (listed_in (places_asked (same a b)) x i))
asked_number front (differ a b) n x i = absurd (in_named [] x (listed_in (places_asked (differ a b)) x i))

pub in_range : (b : Limits) (all : List Placed) (n : ℕ) (h : Input) (l : List Atom) → ((a : Atom) → In a l → NamesAtom (take n all) a) → LieWithin b all h
    → Meets (at_place all h (base_of b)) l → InRange b.lo b.hi (at_place all h (base_of b)) l
in_range b all n h l names within m a i x j =
    let r = asked_number (take n all) a (names a i) x j in
    let v = some_of (at_place all h (base_of b) x) (valued_at (at_place all h (base_of b)) (places_of_atom a) (meets_in (at_place all h (base_of b)) l m a i).valued x r.0) in
    let g = taken_got n all x _ (r.1).1 in
    let w = within x _ g.1 refl v.0 v.1 in
    let e : or_zero (at_place all h (base_of b)) x ≡ v.0 = ap (λ (o : Option ℤ). unwrap_or o (pos 0)) v.1 in
    (subst (λ (z : ℤ). b.lo ≤ℤ z) (sym e) w.0, subst (λ (z : ℤ). z ≤ℤ b.hi) (sym e) w.1)

-- ---- answers

module _ (p : Program) (b : Limits) (budget : ℕ) (all : List Placed) (n : ℕ) (c d : List Atom) (u : Input) where
  pub never_pointers : ((k : ℕ) × Contradicts (c ++ d) k) → Settles p b budget all n c d u came.Never
  never_pointers w = record { answer = inl w; settled = tt }

  pub never_numbers : Right b.lo b.hi budget (slice_of c d) unsat → Settles p b budget all n c d u came.Never
  never_numbers r = record { answer = inr r; settled = tt }

  no_input : (classes : List ℕ) → AreClasses (c ++ d) n classes → (SomeRefuted b.lo b.hi budget (groups (slice_of c d)) → ⊥) → HasNoInput b.lo b.hi budget c d → ⊥
  no_input classes are none (inl w) = are.apart w.0 w.1
  no_input classes are none (inr s) = none s

  pub spent_numbers : (classes : List ℕ) → AreClasses (c ++ d) n classes → Right b.lo b.hi budget (slice_of c d) spent → Settles p b budget all n c d u came.Spent
  spent_numbers classes are r = record { answer = (no_input classes are r.0, r.1); settled = tt }

  module _ (asked : IsAskedOf p b all n c d u) (classes : List ℕ) (are : AreClasses (c ++ d) n classes) (o : List (Option ℤ)) (given : Given b.lo b.hi n (slice_of c d) (Sat o))
      (v : Assignment) (chosen : IsChosen all n u (base_of b) o classes v) where
    given_within : (x : ℕ) (z : ℤ) → get_or o x None ≡ Some z → Within b z
    given_within x z e = elim (bool_cases (contains (places_in (slice_of c d)) x)) [
      | inl t ↦ let s = given.1 x t in let q = some_same s.number z (sym s.given ∙ e) in (subst (λ (y : ℤ). b.lo ≤ℤ y) q s.low, subst (λ (y : ℤ). y ≤ℤ b.hi) q s.high)
      | inr t ↦ absurd (let q = given.2 x t in cc (q, e))
    ]

    pub assigned : IsAssignment p.layouts (params_of p) b all v
    assigned = is_assignment p.layouts (params_of p) all n c d asked.asked classes are b u (base_of b) o v chosen given_within (λ id e z g h k. asked.within id e g h z k)

    pub turned_built : Right b.lo b.hi budget (slice_of c d) (sat (answered o)) → (i : Input) → IsBuilt p b all v i → Settles p b budget all n c d u (came.Turned i)
    turned_built r i built = record {
      answer = (no_input classes are r.2, r.3);
      settled = record {
        input = built.input;
        few = built.few;
        meets = meets_atoms p b all n c d u asked.asked classes are o given v chosen asked.valued i built r.1 (λ a j. meets_in (at_place all u (base_of b)) c asked.own a j);
        keeps = keeps p b all n c d u asked.asked classes are o given v chosen asked.valued i built;
      };
    }

-- ---- from the answers of the calls

module _ (p : Program) (b : Limits) (budget : ℕ) (all : List Placed) (n : ℕ) (c d : List Atom) (u : Input) (x : Option (List ℕ)) (classes : List ℕ) (is : x ≡ Some classes) (are : AreClassesIf (c ++ d) n x) where
  some_classes : AreClasses (c ++ d) n classes
  some_classes = subst (AreClassesIf (c ++ d) n) is are

  pub spent_from : (s : Solved) → s ≡ Spent → Right b.lo b.hi budget (slice_of c d) (solved_answer s) → Settles p b budget all n c d u came.Spent
  spent_from s e r = spent_numbers p b budget all n c d u classes some_classes (subst (λ (y : Solved). Right b.lo b.hi budget (slice_of c d) (solved_answer y)) e r)

  module _ (asked : IsAskedOf p b all n c d u) (s : Solved) (o o' : List (Option ℤ)) (e : s ≡ Sat o) (given : Given b.lo b.hi n (slice_of c d) s) (same_list : o' ≡ o) (v : Assignment) (chosen : IsChosen all n u (base_of b) o' classes v) where
    given_sat : Given b.lo b.hi n (slice_of c d) (Sat o)
    given_sat = subst (Given b.lo b.hi n (slice_of c d)) e given

    chosen_sat : IsChosen all n u (base_of b) o classes v
    chosen_sat = subst (λ (l : List (Option ℤ)). IsChosen all n u (base_of b) l classes v) same_list chosen

    pub assigned_from : IsAssignment p.layouts (params_of p) b all v
    assigned_from = assigned p b budget all n c d u asked classes some_classes o given_sat v chosen_sat

    pub settled_from : Right b.lo b.hi budget (slice_of c d) (solved_answer s) → (i : Input) → IsBuilt p b all v i → Settles p b budget all n c d u (came.Turned i)
    settled_from r i built = turned_built p b budget all n c d u asked classes some_classes o given_sat v chosen_sat (subst (λ (y : Solved). Right b.lo b.hi budget (slice_of c d) (solved_answer y)) e r) i built

pub front_names : (n : ℕ) (l m : List Atom) → NamesPlaces n (l ++ m) → NamesPlaces n l
front_names n l m h a i = h a (in_left a l m i)

pub back_names : (n : ℕ) (l m : List Atom) → NamesPlaces n (l ++ m) → NamesPlaces n m
back_names n l m h a i = h a (in_right a l m i)
