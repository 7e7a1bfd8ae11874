-- The events of a run one after another, each beside the atoms that were taken before it.
use Rattle.std.proofs.Common.{◌≡◌, ℕ, zero, suc, ℤ, List, [], ◌∷◌, ◌++◌, Some, slice_get, append-nil, append_assoc, refl, sym, ap, subst, ◌∙◌}
use Rattle.std.proofs.lemmas.Option.{same_Some}
use Rattle.cc_base.specs.declared.inputs.Input.{Input}
use Rattle.cc_base.specs.Forms.{Atom}
use Rattle.cc_base.specs.Paths.{In}
use Rattle.cc_base.specs.Places.{Placed}
use Rattle.cc_model.specs.Conditions.{taken, outcomes_of, condition}
use Rattle.cc_model.specs.Core.{Cell}
use Rattle.cc_model.specs.Meaning.{Entry}
use Rattle.cc_model.specs.Traced.{Choice, Event, Touched}
use Rattle.cc_laws.proofs.Grown.{GoesOn}
use Rattle.sym_run.specs.Placing.{NameAtoms}
use Rattle.run_laws.proofs.PastLaws.{Past}

pub more_places : (l m n : List Placed) → GoesOn l m → GoesOn m n → GoesOn l n
more_places l m n h g = (h.0 ++ g.0, g.1 ∙ ap (λ x. x ++ g.0) h.1 ∙ append_assoc l h.0 g.0)

-- the atoms taken at all of these events
abbrev pub atoms_in : List (Entry Event) → List Atom
atoms_in [] = []
atoms_in (a ∷ l) = taken a.event ++ atoms_in l

pub atoms_append : (l m : List (Entry Event)) → atoms_in (l ++ m) ≡ atoms_in l ++ atoms_in m
atoms_append [] m = refl
atoms_append (a ∷ l) m = ap (λ x. taken a.event ++ x) (atoms_append l m) ∙ sym (append_assoc (taken a.event) (atoms_in l) (atoms_in m))

-- those of the first k events stand first
pub condition_part : (k : ℕ) (l : List (Entry Event)) → (rest : List Atom) × (atoms_in l ≡ condition k l ++ rest)
unfolding condition
condition_part zero l = (atoms_in l, refl)
condition_part (suc k) [] = ([], refl)
condition_part (suc k) (a ∷ l) = let r = condition_part k l in (r.0, ap (λ x. taken a.event ++ x) r.1 ∙ sym (append_assoc (taken a.event) (condition k l) r.0))

module _ (params : List Cell) (layouts : ℕ → List Cell) (u : Input) (b : ℤ) (type : ℕ → ℕ) (named : ℕ → Type 0) where
  -- of an event and the atoms taken before it
  pub record Fact (c : List Atom) (e : Event) : Type 0 where
    pub blocks : List Touched
    pub count : ℕ
    pub past : Past params layouts u b type named e.places blocks count c
    pub choices : (x : Choice) → In x (outcomes_of e) → NameAtoms e.places x.atoms

  abbrev pub Facts : List Atom → List (Entry Event) → List Placed → Type 0
  Facts c [] all = Unit {0}
  Facts c (a ∷ l) all = Fact c a.event × GoesOn (a.event).places all × Facts (c ++ taken a.event) l all

  pub facts_later : (c : List Atom) (l : List (Entry Event)) (m n : List Placed) → GoesOn m n → Facts c l m → Facts c l n
  facts_later c [] m n g h = tt
  facts_later c (a ∷ l) m n g h = (h.0, more_places (a.event).places m n h.1 g, facts_later (c ++ taken a.event) l m n g h.2)

  pub facts_append : (c : List Atom) (l m : List (Entry Event)) (all : List Placed) → Facts c l all → Facts (c ++ atoms_in l) m all → Facts c (l ++ m) all
  facts_append c [] m all h g = subst (λ x. Facts x m all) (append-nil c) g
  facts_append c (a ∷ l) m all h g = (h.0, h.1, facts_append (c ++ taken a.event) l m all h.2 (subst (λ x. Facts x m all) (sym (append_assoc c (taken a.event) (atoms_in l))) g))

  pub fact_at : (c : List Atom) (l : List (Entry Event)) (all : List Placed) → Facts c l all → (k : ℕ) (a : Entry Event) → slice_get l k ≡ Some a → Fact (c ++ condition k l) a.event × GoesOn (a.event).places all
  unfolding condition
  fact_at c [] all h k a e = absurd (cc e)
  fact_at c (x ∷ l) all h zero a e = let q = same_Some x a e in (
    subst (λ z. Fact z a.event) (sym (append-nil c)) (subst (λ (z : Entry Event). Fact c z.event) q h.0),
    subst (λ (z : Entry Event). GoesOn (z.event).places all) q h.1,
  )
  fact_at c (x ∷ l) all h (suc k) a e = let r = fact_at (c ++ taken x.event) l all h.2 k a e in (
    subst (λ z. Fact z a.event) (append_assoc c (taken x.event) (condition k l)) r.0,
    r.1,
  )
