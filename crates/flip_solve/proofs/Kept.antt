-- What is built from a choice for the first places of a run keeps what is promised, and meets the atoms.
use Rattle.std.proofs.Common.{◌≡◌, ℕ, ◌<◌, ◌⊎◌, inl, inr, ◌↔◌, ℤ, pos, true, false, List, [], ◌++◌, length, take, Option, Some, None, IsSome, unwrap_or, get_or, refl, sym, ap, ◌∙◌, subst, arith, slice_get}
use Rattle.cc_base.specs.declared.cells.CellTy.TheVariants as cell
use Rattle.cc_base.specs.declared.inputs.Input.{Input}
use Rattle.cc_base.specs.Classes.{Forced, Mentions, AreClasses}
use Rattle.cc_base.specs.Forms.{nothing, at, Atom, at_most_zero, is_zero, not_zero, same, differ}
use Rattle.cc_base.specs.Groups.{form_of, contains, places_in, HoldAll}
use Rattle.cc_base.specs.Holds.{places_of_atom, Holds, Meets}
use Rattle.cc_base.specs.Limits.{Limits, base_of}
use Rattle.cc_base.specs.Paths.{In}
use Rattle.cc_base.specs.Places.{Placed, at_place}
use Rattle.cc_base.specs.Slice.{slice_of}
use Rattle.cc_model.specs.CheckedProgram.{flat}
use Rattle.cc_model.specs.Core.{Program}
use Rattle.cc_model.specs.Runs.{params_of}
use Rattle.linear_solver.specs.Answers.{Given}
use Rattle.linear_solver.specs.declared.solve.Solved.TheVariants.{Sat}
use Rattle.linear_solver.specs.Parts as parts
use Rattle.linear_solver.specs.Parts.{answered}
use Rattle.linear_solver.proofs.Integers.{bool_cases}
use Rattle.input_map.specs.declared.building.Assignment.{Assignment}
use Rattle.sym_run.specs.Placing.{IsNumberAt, IsPointerAt}
use Rattle.flip_solve.specs.Choosing.{number_for, IsChosen, IsAsked}
use Rattle.input_map.specs.Builds.{class_of, number_of, stream_length, IsBuilt}
use Rattle.flip_solve.specs.Turning.{Names, Keeps}
use Rattle.flip_solve.proofs.Members.{some_same, get_some, taken_got, got_taken}
use Rattle.flip_solve.proofs.Sliced.{places_asked, some_atom, in_named}
use Rattle.flip_solve.proofs.Holding.{some_of, is_some_of, PointersStand, NumbersStand, each_holds, meets_all}
use Rattle.flip_solve.proofs.Assigned.{class_in, class_got}

pos_same : (a c : ℕ) → pos a ≡ pos c → a ≡ c
pos_same a c e = cc e

answered_is : (o : List (Option ℤ)) (x : ℕ) (z : ℤ) → get_or o x None ≡ Some z → answered o x ≡ z
unfolding answered parts.number_of
answered_is o x z e = ap (λ (y : Option ℤ). parts.number_of y) e

-- a place of an atom's form is one of the atom's
form_place : (a : Atom) (x : ℕ) → contains (places_asked a) x ≡ true → In x (places_of_atom a)
unfolding form_of
form_place (at_most_zero g) x i = in_named g.terms x i
form_place (is_zero g) x i = in_named g.terms x i
form_place (not_zero g) x i = in_named g.terms x i
form_place (same a b) x i = absurd (in_named [] x i)
form_place (differ a b) x i = absurd (in_named [] x i)

module _ (p : Program) (b : Limits) (all : List Placed) (n : ℕ) (c d : List Atom) (u : Input)
    (known : IsAsked p.layouts (params_of p) all n c d) (classes : List ℕ) (are : AreClasses (c ++ d) n classes)
    (o : List (Option ℤ)) (given : Given b.lo b.hi n (slice_of c d) (Sat o))
    (v : Assignment) (chosen : IsChosen all n u (base_of b) o classes v)
    (valued : (x : ℕ) → x < length all → IsSome (at_place all u (base_of b) x))
    (h : Input) (built : IsBuilt p b all v h) where
  abbrev f : ℕ → Option ℤ
  f x = at_place all h (base_of b) x

  abbrev g : ℕ → Option ℤ
  g x = at_place all u (base_of b) x

  size : length v.classes ≡ n
  size = ap length chosen.marks ∙ are.each

  below_classes : (x : ℕ) → x < n → x < length v.classes
  below_classes x k = subst (λ (m : ℕ). x < m) (sym size) k

  below_all : (x : ℕ) → x < n → x < length all
  below_all x k = let low = known.below in omega (arith, k, low)

  class_is : (x : ℕ) → class_of v x ≡ class_in classes x
  class_is x = ap (λ (cs : List ℕ). class_in cs x) chosen.marks

  class_at : (x : ℕ) → x < n → (k : ℕ) × (slice_get classes x ≡ Some k)
  class_at x k = get_some classes x (subst (λ (m : ℕ). x < m) (sym are.each) k)

  -- ---- pointers

  valued_pointer : (x : ℕ) → IsPointerAt (take n all) x → IsSome (f x)
  valued_pointer x w = let r = taken_got n all x _ w.2 in let q = built.pointers x _ w.1 (below_classes x r.0) r.1 refl in is_some_of (f x) (pos q.0) q.1

  equal : (x y : ℕ) → IsPointerAt (take n all) x → IsPointerAt (take n all) y → Mentions (c ++ d) x → Mentions (c ++ d) y → (f x ≡ f y) ↔ Forced (c ++ d) (at x) (at y)
  equal x y s t m k =
      let i = taken_got n all x _ s.2 in
      let j = taken_got n all y _ t.2 in
      let q = built.classes x y _ _ s.1 t.1 (below_classes x i.0) (below_classes y j.0) i.1 j.1 refl refl in
      let a = class_at x i.0 in
      let e = class_at y j.0 in
      let r = are.together x y a.0 e.0 m k a.1 e.1 in
      let l : class_of v x ≡ a.0 = class_is x ∙ class_got classes x a.0 a.1 in
      let z : class_of v y ≡ e.0 = class_is y ∙ class_got classes y e.0 e.1 in
      ((λ w. r.0 (sym l ∙ q.0 w ∙ z)), (λ w. q.1 (l ∙ r.1 w ∙ sym z)))

  null : (x : ℕ) → IsPointerAt (take n all) x → (f x ≡ Some (pos 0)) ↔ (Forced (c ++ d) (at x) nothing ⊎ (Mentions (c ++ d) x → ⊥))
  null x s =
      let i = taken_got n all x _ s.2 in
      let q = built.pointers x _ s.1 (below_classes x i.0) i.1 refl in
      let a = class_at x i.0 in
      let r = are.null x a.0 a.1 in
      let l : class_of v x ≡ a.0 = class_is x ∙ class_got classes x a.0 a.1 in (
        (λ w. r.0 (sym l ∙ (q.2).0 (pos_same q.0 0 (some_same (pos q.0) (pos 0) (sym q.1 ∙ w))))),
        (λ w. q.1 ∙ ap (λ (m : ℕ). Some (pos m)) ((q.2).1 (l ∙ r.1 w))),
      )

  pointers_stand : PointersStand (take n all) (c ++ d) f
  pointers_stand = record { valued = valued_pointer; equal = equal; null = null; apart = are.apart }

  -- ---- numbers

  number_is : (x : ℕ) → IsNumberAt (take n all) x → (z : ℤ) → number_for cell.Int (get_or o x None) (g x) ≡ Some z → f x ≡ Some z
  number_is x w z e =
      let i = taken_got n all x _ w.1 in
      built.numbers x _ (below_classes x i.0) i.1 refl
      ∙ ap (λ (y : Option (Option ℤ)). Some (unwrap_or (flat y) (base_of b))) (chosen.numbers x _ i.0 i.1)
      ∙ ap (λ (y : Option ℤ). Some (unwrap_or y (base_of b))) e

  given_number : (x : ℕ) → IsNumberAt (take n all) x → contains (places_in (slice_of c d)) x ≡ true → f x ≡ Some (answered o x)
  given_number x w k =
      let s = given.1 x k in
      number_is x w (answered o x) (ap (λ (y : Option ℤ). number_for cell.Int y (g x)) s.given ∙ ap Some (sym (answered_is o x s.number s.given)))

  kept_number : (x : ℕ) → IsNumberAt (take n all) x → contains (places_in (slice_of c d)) x ≡ false → f x ≡ g x
  kept_number x w k =
      let i = taken_got n all x _ w.1 in
      let z = some_of (g x) (valued x (below_all x i.0)) in
      number_is x w z.0 (ap (λ (y : Option ℤ). number_for cell.Int y (g x)) (given.2 x k) ∙ z.1) ∙ sym z.1

  numbers_stand : NumbersStand (take n all) c d f g (answered o)
  numbers_stand = record { given = given_number; kept = kept_number }

  -- what is built meets the atoms
  pub meets_atoms : HoldAll (answered o) (slice_of c d) → ((a : Atom) → In a c → Holds g a) → Meets f (c ++ d)
  meets_atoms solved own = meets_all f (c ++ d) (λ a i. each_holds (take n all) c d f g (answered o) pointers_stand numbers_stand solved own a i (known.names a i))

  unnamed : (x : ℕ) → IsNumberAt (take n all) x → (Names (slice_of c d) x → ⊥) → f x ≡ g x
  unnamed x w none = elim (bool_cases (contains (places_in (slice_of c d)) x)) [
    | inl t ↦ let r = some_atom (slice_of c d) x t in absurd (none (r.0, r.1, form_place r.0 x r.2))
    | inr t ↦ kept_number x w t
  ]

  pub keeps : Keeps p b all n c d u h
  keeps = record {
    unnamed = unnamed;
    equal = equal;
    null = null;
    others = λ k ty e none. built.others k ty e (λ x q i m s. none x q (got_taken n all x q (subst (λ (z : ℕ). x < z) size i) m) s);
    ends = built.ends ∙ ap (λ (m : ℕ). stream_length (take m all)) size;
    other_numbers = λ k i none. built.other_numbers k i (λ x q j m s. none x q (got_taken n all x q (subst (λ (z : ℕ). x < z) size j) m) s);
  }
