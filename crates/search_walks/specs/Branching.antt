-- Where a walk by random branches stands.
use Rattle.std.specs.Prelude.{ℕ, ◌+◌, ◌*◌, ◌-◌, ◌<◌, ◌≤◌, Bool, List, Option, length, map}
use Rattle.cc_base.specs.declared.inputs.Input.{Input}
use Rattle.cc_base.specs.Paths.{In}
use Rattle.cc_model.specs.Listing.{Item}
use Rattle.rand_pcg.specs.Lcg.{Lcg}
use Rattle.search_walks.specs.declared.candidates.Candidate.{Candidate}
use Rattle.search_walks.specs.declared.log.Log.{Log}
use Rattle.search_walks.specs.declared.runs.Made.{Made}
use Rattle.search_walks.specs.Logged.{Along}
use Rattle.search_walks.specs.Made.{RunOf}
use Rattle.search_base.specs.Setting.{Setting, layer_of, base_of}
use Rattle.search_walks.specs.Walks.{Candidate as Plain, candidates, Branches}

abbrev pub plain_of : Candidate → Plain
plain_of c = (c.event, c.outcome)

-- an alternative of an event of the run
pub record IsOffered (s : Setting) (r : Made) (c : Candidate) : Type 0 where
  pub there : c.event < length r.path
  pub offered : In c.outcome ((layer_of s).others (r.trace).input c.event)

-- a run, and alternatives of it
pub record Offering (s : Setting) (r : Made) (untried : List Candidate) : Type 0 where
  pub run : RunOf s r.trace r.path
  pub each : (c : Candidate) → In c untried → IsOffered s r c
  pub few : length untried ≤ 28672

-- the walk from its start, and from a run on
abbrev pub FromBase : Setting → ℕ → Lcg → Bool → List Item → Type 0
FromBase s limit g = λ cuts l. Branches s limit cuts (base_of s) (candidates s (base_of s)) g 1 l

abbrev pub FromRun : Setting → ℕ → Input → List Candidate → Lcg → ℕ → Bool → List Item → Type 0
FromRun s limit u untried g made = λ cuts l. Branches s limit cuts u (map plain_of untried) g made l

-- the walk has come to a run, with the alternatives that are left
abbrev pub CameTo : Setting → ℕ → Lcg → Option (List ℕ) → Made → List Candidate → Lcg → Log → Option (List ℕ) → Type 0
CameTo s limit start before r untried g log now = Along s (FromBase s limit start) (FromRun s limit (r.trace).input untried g log.made) before now log

-- what falls with each draw
abbrev pub left_to_draw : ℕ → ℕ → ℕ → ℕ
left_to_draw limit made untried = 28673 * (limit - made) + untried
