-- What is known at an event of a traced run.
use Rattle.std.proofs.Common.{◌≡◌, ℕ, zero, suc, ◌≤◌, inl, inr, ℤ, pos, ◌≤ℤ◌, Bool, true, false, List, [], ◌∷◌, ◌++◌, length, map, take, Some, refl, sym, ap, ap₂, ◌∙◌, subst, arith, length-append, slice_get, int_lt, if◌then◌else◌}
use Rattle.std.proofs.lemmas.Int.{ints}
use Rattle.cc_base.specs.declared.cells.CellTy.{CellTy}
use Rattle.cc_base.specs.declared.inputs.Input.{Input}
use Rattle.cc_base.specs.declared.outcomes.Outcome.{Outcome}
use Rattle.cc_base.specs.Forms.{Side, nothing, at, Atom, at_most_zero, is_zero, not_zero, same, differ}
use Rattle.cc_base.specs.Limits.{Limits, base_of}
use Rattle.cc_base.specs.Paths.{In}
use Rattle.cc_base.specs.Places.{Place, Placed, arg, field, stream}
use Rattle.cc_model.specs.declared.checked.Checked.{Checked}
use Rattle.cc_model.specs.Canonical.{Within}
use Rattle.cc_model.specs.CheckedProgram.{cell_of}
use Rattle.cc_model.specs.Conditions.{taken, alternatives, atoms_of, condition, events_of, places_of}
use Rattle.cc_model.specs.Core.{Cell, int_cell, ptr_cell, Program}
use Rattle.cc_model.specs.Graphs.{PointsToCells}
use Rattle.cc_model.specs.Meaning.{Entry}
use Rattle.cc_model.specs.Runs.{IsInput, params_of}
use Rattle.cc_model.specs.Traced as traced
use Rattle.cc_model.specs.Traced.{cell_ty}
use Rattle.cc_laws.specs.LinearForms.{linear}
use Rattle.sym_run.specs.declared.trace.Choice.{Choice}
use Rattle.sym_run.specs.declared.trace.Event.{Event}
use Rattle.sym_run.specs.Asks.{choices_of}
use Rattle.sym_run.specs.Placing.{NamesSide, OfOneType, NamesAtom, NameAtoms}
use Rattle.sym_run.specs.Stands.{IsEvent, AreEvents}
use Rattle.input_map.specs.Builds.{HasItsType}
use Rattle.flip_solve.specs.Choosing.{HasCellIn, taken_of, LieWithin, ComparesOneType, IsAsked, IsAskedOf}
use Rattle.run_laws.specs.Lawful.{StandsRight, Lawful}
use Rattle.flip_solve.proofs.Members.{some_same, in_either, take_front, taken_got}
use Rattle.flip_solve.proofs.Prefixes.{outcomes, chosen}
use Rattle.flip_solve.proofs.Ranges.{Stands, Good, good_at}

-- ---- events

pub event_there : (c : Checked) (l : List (Entry traced.Event)) (es : List Event) (k : ℕ) (e : Event) → AreEvents c l es → slice_get es k ≡ Some e → (a : Entry traced.Event) × (slice_get l k ≡ Some a) × IsEvent c a e
event_there c [] [] k e h g = absurd (cc g)
event_there c [] (x ∷ es) k e h g = absurd h
event_there c (a ∷ l) [] k e h g = absurd h
event_there c (a ∷ l) (x ∷ es) zero e h g = (a, refl, subst (IsEvent c a) (some_same x e g) h.0)
event_there c (a ∷ l) (x ∷ es) (suc k) e h g = event_there c l es k e h.1 g

-- the atoms taken at the first events are the condition there
pub taken_is : (c : Checked) (l : List (Entry traced.Event)) (es : List Event) (k : ℕ) → AreEvents c l es → taken_of (take k es) ≡ condition k l
unfolding taken_of condition
taken_is c [] [] zero h = refl
taken_is c [] [] (suc k) h = refl
taken_is c [] (x ∷ es) k h = absurd h
taken_is c (a ∷ l) [] k h = absurd h
taken_is c (a ∷ l) (x ∷ es) zero h = refl
taken_is c (a ∷ l) (x ∷ es) (suc k) h = ap₂ (λ (m n : List Atom). m ++ n) (h.0).atoms (taken_is c l es k h.1)

outcomes_same : (l : List Choice) → map (λ c. c.outcome) l ≡ outcomes (choices_of l)
outcomes_same [] = refl
outcomes_same (c ∷ l) = ap (λ (m : List Outcome). c.outcome ∷ m) (outcomes_same l)

-- an outcome that is offered is that of an alternative
pub offered_there : (c : Checked) (a : Entry traced.Event) (e : Event) (o : Outcome) → IsEvent c a e → In o (map (λ x. x.outcome) e.others) → In o (outcomes (alternatives a.event))
offered_there c a e o h i = subst (λ (l : List traced.Choice). In o (outcomes l)) h.others (subst (In o) (outcomes_same e.others) i)

-- ---- what stands at places

cell_same : (c : Cell) → cell_of (cell_ty c) ≡ c
unfolding cell_ty
cell_same int_cell = refl
cell_same (ptr_cell t) = refl

cell_back : (cs : List Cell) (i : ℕ) (ty : CellTy) → slice_get (map cell_ty cs) i ≡ Some ty → slice_get cs i ≡ Some (cell_of ty)
cell_back [] i ty e = absurd (cc e)
cell_back (c ∷ cs) zero ty e = ap Some (sym (cell_same c) ∙ ap cell_of (some_same (cell_ty c) ty e))
cell_back (c ∷ cs) (suc i) ty e = cell_back cs i ty e

names_in : (l : List Placed) (m : List Atom) → NameAtoms l m → (x : Atom) → In x m → NamesAtom l x
names_in l [] h x i = absurd i
names_in l (y ∷ m) h x (inl e) = subst (NamesAtom l) (sym e) h.0
names_in l (y ∷ m) h x (inr i) = names_in l m h.1 x i

-- an atom of the condition was taken at an event
taken_there : (l : List (Entry traced.Event)) (k : ℕ) (x : Atom) → In x (condition k l) → (j : ℕ) × (a : Entry traced.Event) × (slice_get l j ≡ Some a) × In x (taken a.event)
unfolding condition
taken_there l zero x i = absurd i
taken_there [] (suc k) x i = absurd i
taken_there (a ∷ l) (suc k) x i = elim (in_either x (taken a.event) (condition k l) i) [
  | inl j ↦ (zero, a, refl, j)
  | inr j ↦ let r = taken_there l k x j in (suc r.0, r.1, r.2, r.3)
]

same_least : (x : ℤ) → x ≤ℤ x
same_least x = omega (arith, ints)

not_less : (x y : ℤ) → int_lt x y ≡ false → y ≤ℤ x
not_less x y e = grind (arith, ints)

is_less : (x y : ℤ) → int_lt x y ≡ true → x ≤ℤ y
is_less x y e = grind (arith, ints)

base_by : (b : Limits) (s t : Bool) → b.lo ≤ℤ b.hi → (s ≡ false → b.lo ≤ℤ pos 0) → (s ≡ true → pos 0 ≤ℤ b.lo) → (t ≡ false → pos 0 ≤ℤ b.hi) → (t ≡ true → b.hi ≤ℤ pos 0) → Within b (if s then b.lo else (if t then b.hi else pos 0))
base_by b true t o l m h g = (same_least b.lo, o)
base_by b false true o l m h g = (o, same_least b.hi)
base_by b false false o l m h g = (l refl, h refl)

pub base_within : (b : Limits) → b.lo ≤ℤ b.hi → Within b (base_of b)
base_within b o = base_by b (int_lt (pos 0) b.lo) (int_lt b.hi (pos 0)) o (λ e. not_less (pos 0) b.lo e) (λ e. is_less (pos 0) b.lo e) (λ e. not_less b.hi (pos 0) e) (λ e. is_less b.hi (pos 0) e)

-- what compares pointers of one type among the first places does so among all
one_wide : (n : ℕ) (all : List Placed) (a c : Side) → NamesSide (take n all) a → NamesSide (take n all) c → OfOneType (take n all) a c → OfOneType all a c
one_wide n all nothing c h g k = tt
one_wide n all (at p) nothing h g k = tt
one_wide n all (at p) (at q) h g k = λ e f ep eq.
    ap (λ (x : Placed). x.holds) (some_same e _ (sym ep ∙ (taken_got n all p _ h.2).1))
    ∙ k _ _ h.2 g.2
    ∙ ap (λ (x : Placed). x.holds) (some_same _ f (sym (taken_got n all q _ g.2).1 ∙ eq))

compares_wide : (n : ℕ) (all : List Placed) (x : Atom) → NamesAtom (take n all) x → ComparesOneType all x
compares_wide n all (same a c) h = one_wide n all a c h.0 h.1 h.2
compares_wide n all (differ a c) h = one_wide n all a c h.0 h.1 h.2
compares_wide n all (at_most_zero g) h = tt
compares_wide n all (is_zero g) h = tt
compares_wide n all (not_zero g) h = tt

module _ (p : Program) (b : Limits) (u : Input) (order : b.lo ≤ℤ b.hi) (points : PointsToCells p.layouts (params_of p)) (is : IsInput p b u) (lawful : Lawful p b u) where
  abbrev log : List (Entry traced.Event)
  log = events_of linear p b u

  abbrev all : List Placed
  all = places_of linear p b u

  stands : (q : Place) (ty : CellTy) → StandsRight p b u q ty → Stands (params_of p) p.layouts all q ty
  stands (arg i) ty s = s
  stands (field q c) ty s = s
  stands (stream i) ty s = s

  has_type : (q : Place) (ty : CellTy) → StandsRight p b u q ty → HasItsType p.layouts (params_of p) all q ty
  has_type (arg i) ty s = cell_back (params_of p) i ty s
  has_type (field q c) ty s = (s.1, s.0, s.2, s.3, cell_back (p.layouts (s.1).0) c ty s.4)
  has_type (stream i) ty s = s

  -- the numbers of each input lie within the bounds, at the places of u's run
  pub within_at : (h : Input) → IsInput p b h → LieWithin b all h
  within_at h ih id e get holds z v = subst (λ (t : CellTy). Good p.layouts (params_of p) points b h ih t z) holds
      (good_at p.layouts (params_of p) points b h ih (base_within b order) all (λ i f g. stands f.place f.holds (lawful.right i f g)) id e z get v)

  module _ (k : ℕ) (a : Entry traced.Event) (at_k : slice_get log k ≡ Some a) (n : ℕ) (count : n ≡ length (a.event).places) (o : Outcome) (offered : In o (outcomes (alternatives a.event))) where
    abbrev c : List Atom
    c = condition k log

    abbrev d : List Atom
    d = atoms_of o (alternatives a.event)

    split : (rest : List Placed) × (all ≡ (a.event).places ++ rest)
    split = lawful.before k a at_k

    front_is : (a.event).places ≡ take n all
    front_is = sym (take_front (a.event).places split.0) ∙ ap₂ (λ (m : ℕ) (l : List Placed). take m l) (sym count) (sym split.1)

    enough : n ≤ length all
    enough = let e = ap length split.1 ∙ length-append (a.event).places split.0 in let f = count in omega (arith, e, f)

    abbrev Chosen : Type 0
    Chosen = (x : traced.Choice) × In x (alternatives a.event) × (x.outcome ≡ o) × (x.atoms ≡ d)

    choice : Chosen
    choice = let r = chosen o (alternatives a.event) offered in (r.0, r.1, r.2, r.3)

    named : (x : Atom) → In x (c ++ d) → NamesAtom (take n all) x
    named x i = subst (λ (l : List Placed). NamesAtom l x) front_is (elim (in_either x c d i) [
      | inl j ↦ names_in (a.event).places c (lawful.names k a at_k) x j
      | inr j ↦ names_in (a.event).places (choice.0).atoms (lawful.choices k a at_k choice.0 (inr choice.1)) x (subst (In x) (sym choice.3) j)
    ])

    one_type : (x : Atom) → In x (c ++ d) → ComparesOneType all x
    one_type x i = compares_wide n all x (named x i)

    has_cell : (q : ℕ) → HasCellIn (take n all) q → HasCellIn (a.event).places q
    has_cell q h = subst (λ (l : List Placed). HasCellIn l q) (sym front_is) h

    asked : IsAsked p.layouts (params_of p) all n c d
    asked = record {
      below = enough;
      parents = lawful.parents;
      right = λ id e g. has_type e.place e.holds (lawful.right id e g);
      different = λ i j e f g h s. lawful.different i j e f g h s;
      names = named;
      one_type = one_type;
      touched = λ q h. lawful.touched k a at_k q (has_cell q h);
      separate = λ q r w x hq hr ne ew ex eh. lawful.apart k a at_k q r w x (has_cell q hq) (has_cell r hr) ne ew ex eh;
    }

    pub asked_of : IsAskedOf p b all n c d u
    asked_of = record { asked = asked; valued = λ id h. lawful.valued id h; within = within_at u is; own = lawful.own k }
