-- Where a walk by passes stands.
use Rattle.std.specs.Prelude.{ℕ, ◌+◌, ◌*◌, ◌-◌, ◌≤◌, ◌≡◌, ◌⊎◌, Bool, List, [], Option, Some, None, length, slice_get, unwrap_or}
use Rattle.cc_base.specs.declared.inputs.Input.{Input}
use Rattle.cc_base.specs.declared.outcomes.Outcome.{Outcome}
use Rattle.cc_base.specs.Paths.{In}
use Rattle.cc_model.specs.Listing.{Item}
use Rattle.rand_pcg.specs.Lcg.{Lcg}
use Rattle.search_walks.specs.declared.log.Log.{Log}
use Rattle.search_walks.specs.declared.passing.Standing.{Standing}
use Rattle.search_walks.specs.declared.runs.Made.{Made}
use Rattle.search_walks.specs.Draws.{draw, after_draw}
use Rattle.search_walks.specs.Logged.{Along}
use Rattle.search_walks.specs.Made.{RunOf}
use Rattle.search_base.specs.Setting.{Setting, layer_of, base_of, path_of}
use Rattle.search_walks.specs.Walks.{AreOutcomes, Passes}

-- the run that a pass goes through
abbrev pub current_of : Standing → Made → Made
current_of p base = unwrap_or p.run base

-- a pass stands at an event of a run, or behind its last one
pub record StandsAt (s : Setting) (r : Made) (event : ℕ) : Type 0 where
  pub run : RunOf s r.trace r.path
  pub within : event ≤ length r.path

-- what is drawn at an event: nothing or its own outcome, or an alternative
pub data DrawnAt (s : Setting) (u : Input) (k : ℕ) (g h : Lcg) : Option Outcome → Type 0 where
  no_draw : (layer_of s).others u k ≡ [] → h ≡ g → DrawnAt s u k g h None
  own_drawn : (own : Outcome) (os : List Outcome) → ((layer_of s).others u k ≡ [] → ⊥) → AreOutcomes s u k own os → slice_get os (draw (length os) g) ≡ Some own → h ≡ after_draw g → DrawnAt s u k g h None
  other_drawn : (own o : Outcome) (os : List Outcome) → AreOutcomes s u k own os → slice_get os (draw (length os) g) ≡ Some o → (o ≡ own → ⊥) → In o ((layer_of s).others u k) → h ≡ after_draw g → DrawnAt s u k g h (Some o)

-- the walk from its start, and from an event of a run on, with the passes that are left behind this one
abbrev pub FromStart : Setting → ℕ → Lcg → Bool → List Item → Type 0
FromStart s limit g = λ cuts l. Passes s limit cuts (base_of s) 0 (limit - 1) g 1 l

abbrev pub FromEvent : Setting → ℕ → ℕ → Input → ℕ → Lcg → ℕ → Bool → List Item → Type 0
FromEvent s limit passes u k g made = λ cuts l. Passes s limit cuts u k passes g made l

-- the walk has come to an event of a run
abbrev pub PassesTo : Setting → ℕ → Lcg → Option (List ℕ) → ℕ → Input → ℕ → Lcg → Log → Option (List ℕ) → Type 0
PassesTo s limit start before passes u k g log now = Along s (FromStart s limit start) (FromEvent s limit passes u k g log.made) before now log

-- the walk has come to the end of a pass: the run is over, or as many runs were made as may be
pub record Passed (s : Setting) (limit : ℕ) (start : Lcg) (before : Option (List ℕ)) (passes : ℕ) (g : Lcg) (log : Log) (now : Option (List ℕ)) : Type 0 where
  pub input : Input
  pub event : ℕ
  pub came : PassesTo s limit start before passes input event g log now
  pub over : (limit ≤ log.made) ⊎ (event ≡ length (path_of s input))

-- what falls with each event
abbrev pub left_to_pass : ℕ → ℕ → ℕ → ℕ → ℕ
left_to_pass limit made events event = 1025 * (limit - made) + (events - event)
