-- What holds of each traced run beside its own input. All of it is this project's own.
use Rattle.std.specs.Prelude.{ℕ, ◌<◌, ◌≡◌, ◌≢◌, ◌⊎◌, List, ◌++◌, length, map, IsSome, Some, slice_get}
use Rattle.cc_base.specs.declared.cells.CellTy.{CellTy}
use Rattle.cc_base.specs.declared.cells.CellTy.TheVariants as cell
use Rattle.cc_base.specs.declared.cells.TyId.{TyId}
use Rattle.cc_base.specs.declared.inputs.Input.{Input}
use Rattle.cc_base.specs.Forms.{nothing, at, differ}
use Rattle.cc_base.specs.Limits.{Limits}
use Rattle.cc_base.specs.Paths.{In}
use Rattle.cc_base.specs.Places.{Place, Placed, arg, field, stream, ParentsFirst}
use Rattle.cc_model.specs.Conditions.{outcomes_of, condition, events_of, places_of, values_at, MeetsFirst}
use Rattle.cc_model.specs.Core.{Program}
use Rattle.cc_model.specs.Meaning.{Entry}
use Rattle.cc_model.specs.Runs.{params_of}
use Rattle.cc_model.specs.Traced.{Choice, Event, cell_ty}
use Rattle.cc_laws.specs.LinearForms.{linear}
use Rattle.sym_run.specs.Placing.{NameAtoms}

module _ (p : Program) (b : Limits) (u : Input) where
  abbrev pub log : List (Entry Event)
  log = events_of linear p b u

  abbrev pub all : List Placed
  all = places_of linear p b u

  -- what stands at a place is what its cell holds: a parameter's cell, a cell of the type to which its block's place points, or a
  -- number of the stream
  abbrev pub StandsRight : Place → CellTy → Type 0
  StandsRight (arg i) ty = slice_get (map cell_ty (params_of p)) i ≡ Some ty
  StandsRight (field q c) ty = (w : Placed) × (t : TyId) × (slice_get all q ≡ Some w) × (w.holds ≡ cell.Ptr t) × (slice_get (map cell_ty (p.layouts t.0)) c ≡ Some ty)
  StandsRight (stream i) ty = ty ≡ cell.Int

  -- the place is that of a block of which a cell is among these places
  abbrev pub HasCell : List Placed → ℕ → Type 0
  HasCell l q = (id : ℕ) × (c : ℕ) × (ty : CellTy) × (slice_get l id ≡ Some (record { place = field q c; holds = ty }))

  -- the places q and r are asked to differ
  abbrev pub AskedApart : ℕ → ℕ → ℕ → Type 0
  AskedApart k q r = In (differ (at q) (at r)) (condition k log) ⊎ In (differ (at r) (at q)) (condition k log)

  pub record Lawful : Type 0 where
    -- the input meets the condition that its run collects, also behind a term
    pub own : (k : ℕ) → MeetsFirst linear p b u k u
    -- its places: a block's place stands before those of its cells, each stands right, no two are one place, and each has a value
    pub parents : ParentsFirst all
    pub right : (id : ℕ) (e : Placed) → slice_get all id ≡ Some e → StandsRight e.place e.holds
    pub different : (i j : ℕ) (e f : Placed) → slice_get all i ≡ Some e → slice_get all j ≡ Some f → e.place ≡ f.place → i ≡ j
    pub valued : (id : ℕ) → id < length all → IsSome (values_at linear p b u u id)
    -- the places that stood before an event are the first of all; what was taken before it, and its outcomes, name these alone
    pub before : (k : ℕ) (a : Entry Event) → slice_get log k ≡ Some a → (rest : List Placed) × (all ≡ (a.event).places ++ rest)
    pub names : (k : ℕ) (a : Entry Event) → slice_get log k ≡ Some a → NameAtoms (a.event).places (condition k log)
    pub choices : (k : ℕ) (a : Entry Event) → slice_get log k ≡ Some a → (c : Choice) → In c (outcomes_of a.event) → NameAtoms (a.event).places c.atoms
    -- where a cell of a block is a place, it was asked that the block's place isn't NULL, and that two such places of one type differ
    pub touched : (k : ℕ) (a : Entry Event) → slice_get log k ≡ Some a → (q : ℕ) → HasCell (a.event).places q → In (differ (at q) nothing) (condition k log)
    pub apart : (k : ℕ) (a : Entry Event) → slice_get log k ≡ Some a → (q r : ℕ) (w x : Placed) → HasCell (a.event).places q → HasCell (a.event).places r → q ≢ r
        → slice_get all q ≡ Some w → slice_get all r ≡ Some x → w.holds ≡ x.holds → AskedApart k q r
