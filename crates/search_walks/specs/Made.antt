-- A run that a walk made.
use Rattle.std.specs.Prelude.{ℕ, ◌≡◌, ◌<◌, ◌≤◌, ◌^◌, length, map, Some, slice_get, All}
use Rattle.cc_base.specs.Outcomes.{HasByte}
use Rattle.cc_base.specs.Paths.{Path}
use Rattle.cc_model.specs.CheckedProgram.{core_of}
use Rattle.cc_model.specs.Runs.{run_of}
use Rattle.report_words.specs.Words.{HasLine}
use Rattle.sym_run.specs.declared.trace.Event.{Event}
use Rattle.sym_run.specs.declared.trace.Trace.{Trace}
use Rattle.sym_run.specs.Traces.{IsTrace, ArePlain, OffersFew, outcome_at, others_at}
use Rattle.search_base.specs.Setting.{Setting, layer_of, within_of}
use Rattle.search_base.specs.Terms.{found_at}

-- the trace of a run within the bounds, with its path; its test can be read again from its line
pub record RunOf (s : Setting) (t : Trace) (p : Path) : Type 0 where
  pub within : within_of s t.input
  pub is_trace : IsTrace s.checked s.limits t.input t
  pub plain : ArePlain s.checked (run_of (core_of s.checked) s.limits t.input).log t.events
  pub path : p ≡ ((layer_of s).runs).path t.input
  pub outcomes : p ≡ map outcome_at t.events
  pub end : t.end ≡ ((layer_of s).runs).end t.input
  pub others : (k : ℕ) (e : Event) → slice_get t.events k ≡ Some e → others_at e ≡ (layer_of s).others t.input k
  pub few : (k : ℕ) (e : Event) → slice_get t.events k ≡ Some e → OffersFew e
  pub terms : map (found_at s.checked) t.terms ≡ (layer_of s).terms t.input
  pub short : length t.events ≤ 1024
  pub bytes : All HasByte p
  pub cells : length (t.input).cells < 10 ^ 18
  pub line : HasLine t.end
