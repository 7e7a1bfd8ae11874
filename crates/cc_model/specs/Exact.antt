-- What the condition of a run is worth: it tells which inputs run the same way. All of it is this project's own.
use Rattle.std.specs.Prelude.{ℕ, ◌≤◌, ◌≡◌, ◌↔◌, take, Some, option_map, slice_get}
use Rattle.cc_base.specs.declared.inputs.Input.{Input}
use Rattle.cc_base.specs.declared.outcomes.Outcome.{Outcome}
use Rattle.cc_base.specs.Limits.{Limits}
use Rattle.cc_base.specs.Paths.{In}
use Rattle.cc_base.specs.Holds.{Meets}
use Rattle.cc_model.specs.Core.{Program}
use Rattle.cc_model.specs.Meaning.{Entry}
use Rattle.cc_model.specs.Runs.{IsInput, path_at}
use Rattle.cc_model.specs.FormOperations.{Forms}
use Rattle.cc_model.specs.Traced.{Choice, Event}
use Rattle.cc_model.specs.Conditions.{condition, clean, outcomes_of, events_of, values_at, MeetsFirst}

module _ (f : Forms) (p : Program) (b : Limits) where
  -- the first k outcomes of h are those of u
  abbrev pub SameFirst : ℕ → Input → Input → Type 0
  SameFirst k h u = take k (path_at p b h) ≡ take k (path_at p b u)

  -- an input has u's first k outcomes exactly where it meets u's condition at its first k events
  pub record Exact (u : Input) (k : ℕ) : Type 0 where
    pub exactly : (h : Input) → IsInput p b h → SameFirst k h u ↔ MeetsFirst f p b u k h

  -- an input that has u's first k outcomes has an event there. Its outcome is u's own or one of the alternatives, and it is each
  -- of these exactly where the atoms of that one hold of the input.
  pub record Told (u h : Input) (k : ℕ) : Type 0 where
    pub here : Entry Event
    pub at_k : slice_get (events_of f p b u) k ≡ Some here
    pub outcome : Outcome
    pub of_h : slice_get (path_at p b h) k ≡ Some outcome
    pub exactly : (c : Choice) → In c (outcomes_of here.event) → (c.outcome ≡ outcome) ↔ Meets (values_at f p b u h) c.atoms
    pub no_other : (c : Choice) × In c (outcomes_of here.event) × (c.outcome ≡ outcome)

  pub record Exhausts (u : Input) (k : ℕ) : Type 0 where
    pub told : (h : Input) → IsInput p b h → SameFirst k h u → Told u h k

  -- what two runs have in common whose first k outcomes are the same: neither has had a term, they have one condition so far, and
  -- what they ask next is the same, the same outcomes with the same atoms, or the same term
  pub record Alike (u h : Input) (k : ℕ) : Type 0 where
    pub clean_too : k ≤ clean (events_of f p b h)
    pub conditions : condition k (events_of f p b u) ≡ condition k (events_of f p b h)
    pub next : option_map (λ a. (a.event).asked) (slice_get (events_of f p b u) k) ≡ option_map (λ a. (a.event).asked) (slice_get (events_of f p b h) k)
