-- The integers of which a run's atoms speak are within the bounds.
use Rattle.std.proofs.Common.{◌≡◌, ℕ, zero, suc, ℤ, pos, ◌≤ℤ◌, inl, inr, List, [], ◌∷◌, ◌++◌, map, Option, IsSome, Some, None, unwrap_or, refl, sym, ap, subst, slice_get}
use Rattle.cc_base.specs.declared.cells.CellTy.{CellTy}
use Rattle.cc_base.specs.declared.cells.CellTy.TheVariants as cell
use Rattle.cc_base.specs.declared.forms.Multiple.{Multiple}
use Rattle.cc_base.specs.declared.inputs.Input.{Input}
use Rattle.cc_base.specs.Forms.{Atom, at_most_zero, is_zero, not_zero, same, differ}
use Rattle.cc_base.specs.Groups.{form_of, named}
use Rattle.cc_base.specs.Holds.{AllValued, places_of_atom, or_zero, Holds, Meets}
use Rattle.cc_base.specs.Limits.{Limits, base_of}
use Rattle.cc_base.specs.Paths.{In}
use Rattle.cc_base.specs.Places.{Place, Placed, arg, field, stream}
use Rattle.cc_model.specs.Canonical.{Within}
use Rattle.cc_model.specs.Conditions.{events_of, places_of, values_at}
use Rattle.cc_model.specs.Core.{Program}
use Rattle.cc_model.specs.Graphs.{PointsToCells}
use Rattle.cc_model.specs.Meaning.{Entry}
use Rattle.cc_model.specs.Runs.{IsInput, params_of}
use Rattle.cc_model.specs.Traced.{Event}
use Rattle.cc_laws.specs.LinearForms.{linear}
use Rattle.sym_run.specs.Placing.{NamesAtom, NameAtoms, IsNumberAt}
use Rattle.run_laws.specs.Lawful.{Lawful, StandsRight}
use Rattle.search_dfs.proofs.LayerLaws.{EventInRange}
use Rattle.flip_solve.proofs.Ranges.{Stands, good_at}
use Rattle.flip_solve.proofs.Refuted.{put_in, places_asked}

-- ---- the places of an atom

named_in : (l : List Multiple) (y : ℕ) → In y (named l) → In y (map (λ t. t.place) l)
unfolding named
named_in [] y i = absurd i
named_in (t ∷ l) y i = elim (put_in t.place y (named l) i) [ inl e ↦ inl e | inr j ↦ inr (named_in l y j) ]

-- a place of which an atom speaks holds a number, and has a value where the atom holds
number_at : (l : List Placed) (a : Atom) (y : ℕ) → NamesAtom l a → In y (places_asked a) → IsNumberAt l y
unfolding form_of
number_at l (at_most_zero g) y n i = n y (named_in g.terms y i)
number_at l (is_zero g) y n i = n y (named_in g.terms y i)
number_at l (not_zero g) y n i = n y (named_in g.terms y i)
number_at l (same a b) y n i = absurd (named_in [] y i)
number_at l (differ a b) y n i = absurd (named_in [] y i)

all_valued : (v : ℕ → Option ℤ) (l : List ℕ) (y : ℕ) → AllValued v l → In y l → IsSome (v y)
all_valued v [] y h i = absurd i
all_valued v (x ∷ l) y h (inl e) = subst (λ z. IsSome (v z)) (sym e) h.0
all_valued v (x ∷ l) y h (inr i) = all_valued v l y h.1 i

valued_at : (v : ℕ → Option ℤ) (a : Atom) (y : ℕ) → AllValued v (places_of_atom a) → In y (places_asked a) → IsSome (v y)
unfolding form_of
valued_at v (at_most_zero g) y h i = all_valued v _ y h (named_in g.terms y i)
valued_at v (is_zero g) y h i = all_valued v _ y h (named_in g.terms y i)
valued_at v (not_zero g) y h i = all_valued v _ y h (named_in g.terms y i)
valued_at v (same a b) y h i = absurd (named_in [] y i)
valued_at v (differ a b) y h i = absurd (named_in [] y i)

-- ---- lists

named_atoms : (l : List Placed) (m : List Atom) (a : Atom) → NameAtoms l m → In a m → NamesAtom l a
named_atoms l [] a n i = absurd i
named_atoms l (b ∷ m) a n (inl e) = subst (NamesAtom l) (sym e) n.0
named_atoms l (b ∷ m) a n (inr i) = named_atoms l m a n.1 i

holds_in : (v : ℕ → Option ℤ) (m : List Atom) (a : Atom) → Meets v m → In a m → Holds v a
holds_in v [] a n i = absurd i
holds_in v (b ∷ m) a n (inl e) = subst (Holds v) (sym e) n.0
holds_in v (b ∷ m) a n (inr i) = holds_in v m a n.1 i

at_some : {A : Type 0} → (l : List A) (a : A) → In a l → (k : ℕ) × (slice_get l k ≡ Some a)
at_some [] a i = absurd i
at_some (x ∷ l) a (inl e) = (zero, ap Some (sym e))
at_some (x ∷ l) a (inr i) = let r = at_some l a i in (suc r.0, r.1)

get_left : {A : Type 0} → (l m : List A) (k : ℕ) (a : A) → slice_get l k ≡ Some a → slice_get (l ++ m) k ≡ Some a
get_left [] m k a e = absurd (cc e)
get_left (x ∷ l) m zero a e = e
get_left (x ∷ l) m (suc k) a e = get_left l m k a e

-- ---- within the bounds

module _ (p : Program) (b : Limits) (points : PointsToCells p.layouts (params_of p)) (base : Within b (base_of b)) (u h : Input) (wh : IsInput p b h) (w : Lawful p b u) where
  abbrev all : List Placed
  all = places_of linear p b u

  abbrev v : ℕ → Option ℤ
  v = values_at linear p b u h

  stands : (q : Place) (ty : CellTy) → StandsRight p b u q ty → Stands (params_of p) p.layouts all q ty
  stands (arg i) ty s = s
  stands (field q c) ty s = s
  stands (stream i) ty s = s

  number_within : (y : ℕ) → IsNumberAt all y → IsSome (v y) → (b.lo ≤ℤ or_zero v y) × (or_zero v y ≤ℤ b.hi)
  number_within y n some = by (v y) refl some
    where
      by : (o : Option ℤ) → v y ≡ o → IsSome o → Within b (unwrap_or o (pos 0))
      by None e s = absurd (cc s)
      by (Some z) e s = good_at p.layouts (params_of p) points b h wh base all (λ id x f. stands x.place x.holds (w.right id x f)) y (record { place = n.0; holds = cell.Int }) z n.1 e

  pub in_range : (a : Entry Event) → In a (events_of linear p b u) → EventInRange b.lo b.hi v a.event
  in_range a i c j meets x k y l =
      let at = at_some (events_of linear p b u) a i in
      let before = w.before at.0 a at.1 in
      let named = w.choices at.0 a at.1 c j in
      let n = number_at (a.event).places x y (named_atoms (a.event).places c.atoms x named k) l in
      number_within y (n.0, subst (λ m. slice_get m y ≡ Some (record { place = n.0; holds = cell.Int })) (sym before.1) (get_left (a.event).places before.0 y _ n.1))
      (valued_at v x y (holds_in v c.atoms x meets k).valued l)
