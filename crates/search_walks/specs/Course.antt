-- The current run of a directed walk, with what is left to try.
use Rattle.std.specs.Prelude.{◌≡◌, ◌≤◌, ◌↔◌, ◌+◌, ◌-◌, ◌*◌, ℕ, Bool, true, false, List, [], ◌∷◌, map, length, Option, Some, slice_get}
use Rattle.cc_base.specs.declared.inputs.Input.{Input}
use Rattle.cc_base.specs.Paths.{In}
use Rattle.cc_model.specs.Listing.{Item}
use Rattle.sym_run.specs.declared.trace.Event.{Event}
use Rattle.sym_run.specs.Traces.{others_at}
use Rattle.tac_lower.specs.declared.tac.Tac.{Tac}
use Rattle.search_walks.specs.declared.candidates.Candidate.{Candidate as Offer}
use Rattle.search_walks.specs.declared.directed.Course.{Course}
use Rattle.search_walks.specs.declared.log.Log.{Log}
use Rattle.search_walks.specs.declared.runs.Made.{Made}
use Rattle.search_walks.specs.Distance.{entry, AreDistances}
use Rattle.search_walks.specs.Logged.{Along, Walked}
use Rattle.search_walks.specs.Made.{RunOf}
use Rattle.search_walks.specs.Offers.{offers_from}
use Rattle.search_base.specs.Setting.{Setting, base_of}
use Rattle.search_walks.specs.Deciding.{Takes}
use Rattle.search_walks.specs.Walks.{Candidate, candidates, Directed}

-- an offer as an alternative
abbrev pub plain : Offer → Candidate
plain x = (x.event, x.outcome)

-- it is an alternative of one of the events
pub record IsOffered (es : List Event) (x : Offer) : Type 0 where
  pub event : Event
  pub is : slice_get es x.event ≡ Some event
  pub same_site : x.site ≡ event.site
  pub other : In x.outcome (others_at event)

-- the list holds for each outcome of each decision site whether one of the inputs' runs took it
pub record Covers (s : Setting) (inputs : List Input) (covered : List Bool) : Type 0 where
  pub each : (n : ℕ) (side b : Bool) → slice_get covered (entry n side) ≡ Some b → (b ≡ true) ↔ ((u : Input) × In u inputs × Takes s u n side)
  pub all : length covered ≡ 2 * length s.checked.sites

-- the course begins at a run, with all its alternatives and the distances of now
pub record Fresh (s : Setting) (t : Tac) (log : Log) (made : Made) (course : Course) : Type 0 where
  pub run_is : course.run ≡ made
  pub open_is : (course.open).items ≡ offers_from 0 ((made.trace).events)
  pub distances : AreDistances s.checked t (log.covered).items (course.far).items

-- what is left are alternatives of a run
pub record Ready (s : Setting) (log : Log) (course : Course) : Type 0 where
  pub run : RunOf s (course.run).trace (course.run).path
  pub offered : (x : Offer) → In x (course.open).items → IsOffered ((course.run).trace).events x
  pub few : length (course.open).items ≤ 28672
  pub size : length (log.covered).items ≡ 2 * length s.checked.sites
  pub far : length (course.far).items ≡ 2 * length s.checked.sites

-- a bound of the steps that are left
abbrev pub left : ℕ → Log → Course → ℕ
left limit log course = (limit - log.made) * 28673 + length (course.open).items

module _ (s : Setting) (limit : ℕ) (t : Tac) where
  -- a directed walk from the base run on
  abbrev pub FromBase : Bool → List Item → Type 0
  FromBase cuts l = Directed s limit cuts t (base_of s) (candidates s (base_of s)) (base_of s ∷ []) 1 l

  -- one from the course on
  abbrev pub FromCourse : Course → List Input → ℕ → Bool → List Item → Type 0
  FromCourse course ran made cuts l = Directed s limit cuts t ((course.run).trace).input (map plain (course.open).items) ran made l

  -- the walk led from the base run to the course; the distances are those of what the runs took
  pub record Led (start now : Option (List ℕ)) (log : Log) (course : Course) : Type 0 where
    pub within : log.made ≤ limit
    pub ran : List Input
    pub along : Along s FromBase (FromCourse course ran log.made) start now log
    pub covers : Covers s ran (log.covered).items
    pub seen : List Bool
    pub seen_covers : Covers s ran seen
    pub distances : AreDistances s.checked t seen (course.far).items

  -- the walk goes on, or ended
  abbrev pub Went : Option (List ℕ) → Option (List ℕ) → Log → Course → Bool → Type 0
  Went start now log course true = Led start now log course
  Went start now log course false = (cuts : Bool) → Walked s (FromBase cuts) start now log
