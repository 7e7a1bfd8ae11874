-- Which decision an event of a run is.
use Rattle.std.specs.Prelude.{◌≡◌, ℕ, Bool, true, false, Some, slice_get}
use Rattle.cc_base.specs.declared.inputs.Input.{Input}
use Rattle.cc_base.specs.declared.outcomes.Outcome.{Outcome}
use Rattle.cc_base.specs.declared.outcomes.Outcome.TheVariants as of
use Rattle.cc_model.specs.declared.checked.Site.{Site}
use Rattle.cc_model.specs.declared.checked.SiteKind.TheVariants.{Decision}
use Rattle.cc_model.specs.CheckedProgram.{core_of}
use Rattle.cc_model.specs.Meaning.{Entry}
use Rattle.cc_model.specs.Runs.{run_of}
use Rattle.search_base.specs.Setting.{Setting}

-- the outcome of a decision, false or true
abbrev pub side_of : Bool → Outcome
side_of false = of.False
side_of true = of.True

-- event k of an input's run is a decision at the site with this number
pub record Decides (s : Setting) (u : Input) (k n : ℕ) : Type 0 where
  pub entry : Entry Outcome
  pub is_entry : slice_get (run_of (core_of s.checked) s.limits u).log k ≡ Some entry
  pub site : Site
  pub is_site : slice_get s.checked.sites n ≡ Some site
  pub same : site.token ≡ entry.token
  pub kind : entry.kind ≡ Decision
  pub site_kind : site.kind ≡ Decision

-- an input's run takes the outcome of the decision site with this number
abbrev pub Takes : Setting → Input → ℕ → Bool → Type 0
Takes s u n side = (k : ℕ) × (e : Entry Outcome) × Decides s u k n × (slice_get (run_of (core_of s.checked) s.limits u).log k ≡ Some e) × (e.event ≡ side_of side)
