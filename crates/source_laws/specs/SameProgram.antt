-- When two programs are one for all that is promised of them. The definitions are this project's own.
use Rattle.std.specs.Prelude.{ℕ, ◌≡◌, ◌↔◌, map}
use Rattle.cc_base.specs.declared.inputs.Input.{Input}
use Rattle.cc_base.specs.Limits.{Limits}
use Rattle.cc_base.specs.Paths.{Path}
use Rattle.cc_model.specs.Core.{Program}
use Rattle.cc_model.specs.FormOperations.{Forms}
use Rattle.cc_model.specs.Conditions.{condition, last_atoms, layer, events_of, places_of}
use Rattle.cc_model.specs.Tested.{Answer, Layer, Tested}
use Rattle.cc_model.specs.Runs.{IsInput, run_of, path_at, end_at}
use Rattle.source_laws.specs.Renumbering.{renumber_entry, renumber_placed}

-- the same inputs, and the same path and end of each
pub record SameTested (y z : Tested) : Type 0 where
  pub base : y.base ≡ z.base
  pub within : (h : Input) → y.IsWithin h ↔ z.IsWithin h
  pub path : (h : Input) → y.path h ≡ z.path h
  pub end : (h : Input) → y.end h ≡ z.end h

-- the same runs, with all that a listing asks of their traces
pub record SameLayer (y z : Layer) : Type 0 where
  pub runs : SameTested y.runs z.runs
  pub others : (u : Input) (k : ℕ) → y.others u k ≡ z.others u k
  pub meets : (u : Input) (q : Path) (h : Input) → y.Meets u q h ↔ z.Meets u q h
  pub answers : (u : Input) (q : Path) (a : Answer) → y.Answers u q a ↔ z.Answers u q a
  pub clean : (u : Input) → y.clean u ≡ z.clean u
  pub terms : (u : Input) → y.terms u ≡ z.terms u

-- Within all bounds the programs have the same inputs, with the same run on each; and the traced runs on each, whatever
-- forms are kept, have the same events at the same sites, with the same outcomes, atoms, alternatives and terms, and the
-- same places. Only the numbers of types that stand at the places are others: `numbers` tells them.
pub record SameProgram (p q : Program) : Type 0 where
  pub inputs : (b : Limits) (h : Input) → IsInput p b h ↔ IsInput q b h
  pub runs : (b : Limits) (h : Input) → run_of p b h ≡ run_of q b h
  pub paths : (b : Limits) (h : Input) → path_at p b h ≡ path_at q b h
  pub ends : (b : Limits) (h : Input) → end_at p b h ≡ end_at q b h
  pub numbers : ℕ → ℕ
  pub events : (f : Forms) (b : Limits) (h : Input) → events_of f q b h ≡ map (renumber_entry numbers) (events_of f p b h)
  pub places : (f : Forms) (b : Limits) (h : Input) → places_of f q b h ≡ map (renumber_placed numbers) (places_of f p b h)
  -- so the conditions are the same, and all else that a listing speaks of
  pub conditions : (f : Forms) (b : Limits) (h : Input) (k : ℕ) → condition k (events_of f p b h) ≡ condition k (events_of f q b h)
  pub last : (f : Forms) (b : Limits) (h : Input) (w : Path) → last_atoms w (events_of f p b h) ≡ last_atoms w (events_of f q b h)
  pub layers : (f : Forms) (b : Limits) (column : ℕ → ℕ) (budget : ℕ) → SameLayer (layer f p b column budget) (layer f q b column budget)
