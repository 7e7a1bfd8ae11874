-- The trace of a checked program's run on an input.
use Rattle.std.specs.Prelude.{◌≡◌, ◌≤◌, List, [], ◌∷◌, length, map, take}
use Rattle.cc_base.specs.declared.inputs.Input.{Input}
use Rattle.cc_base.specs.declared.outcomes.Outcome.{Outcome}
use Rattle.cc_base.specs.Limits.{Limits}
use Rattle.cc_base.specs.Outcomes.{HasByte}
use Rattle.cc_base.specs.Paths.{In, Ascend}
use Rattle.cc_base.specs.Places.{Placed}
use Rattle.cc_model.specs.declared.checked.Checked.{Checked}
use Rattle.cc_model.specs.CheckedProgram.{core_of}
use Rattle.cc_model.specs.Conditions.{traced_run, events_of, places_of, clean}
use Rattle.cc_model.specs.Meaning.{Entry}
use Rattle.cc_model.specs.Runs.{end_of}
use Rattle.cc_laws.specs.LinearForms.{linear}
use Rattle.sym_expr.specs.AtomsSeen.{atoms_of}
use Rattle.sym_run.specs.declared.trace.Event.{Event}
use Rattle.sym_run.specs.declared.trace.Trace.{Trace}
use Rattle.sym_run.specs.Placing.{NameAtoms}
use Rattle.sym_run.specs.Remembers.{Every}
use Rattle.sym_run.specs.Stands.{IsSite, AreEvents, AreTerms, of_terms}

-- the trace tells of the traced run of the checked program on the input, within the bounds
pub record IsTrace (c : Checked) (b : Limits) (h : Input) (t : Trace) : Type 0 where
  -- of the input, and of each event, in order: its site, its outcome with the atoms taken, its alternatives, and how many
  -- places stood before it
  pub input : t.input ≡ h
  pub events : AreEvents c (events_of linear (core_of c) b h) t.events
  -- of all places, and of the end
  pub places : t.places ≡ places_of linear (core_of c) b h
  pub end : t.end ≡ end_of (traced_run linear (core_of c) b h).result
  -- of how many events come before the first one of a term, and of each event of a term, in order: its site and the term's kind
  pub clean_to : t.clean_to ≡ clean (events_of linear (core_of c) b h)
  pub terms : AreTerms c (of_terms (events_of linear (core_of c) b h)) t.terms

-- the outcome that came
abbrev pub outcome_at : Event → Outcome
outcome_at e = (e.taken).outcome

-- the events are those of a plain run, one for one: the site with its kind and token, and the outcome
abbrev pub ArePlain : Checked → List (Entry Outcome) → List Event → Type 0
ArePlain c [] [] = Unit {0}
ArePlain c (a ∷ l) (e ∷ es) = IsSite c e.site a.kind a.token × ((e.taken).outcome ≡ a.event) × ArePlain c l es
ArePlain c _ _ = ⊥

-- the other outcomes
abbrev pub others_at : Event → List Outcome
others_at e = map (λ c. c.outcome) e.others

-- the other outcomes are at most 28, ascend by their bytes, are not the one that came, and have bytes; with that one they are at
-- most 29
pub record OffersFew (e : Event) : Type 0 where
  pub few : length e.others ≤ 28
  pub ascend : Ascend (others_at e)
  pub not_own : In (outcome_at e) (others_at e) → ⊥
  pub bytes : (o : Outcome) → In o (others_at e) → HasByte o

-- the atoms taken and those of the other outcomes name places that stood before the event
pub record NamesPlaces (l : List Placed) (e : Event) : Type 0 where
  pub before : e.places ≤ length l
  pub taken : NameAtoms (take e.places l) (atoms_of (e.taken).atoms)
  pub others : Every (λ c. NameAtoms (take e.places l) (atoms_of c.atoms)) e.others
