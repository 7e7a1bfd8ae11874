-- What the search takes from a traced run.
use Rattle.std.specs.Prelude.{ℕ, ◌≡◌, ◌≤◌, map, Some, slice_get, All}
use Rattle.cc_base.specs.declared.inputs.Input.{Input}
use Rattle.cc_base.specs.Limits.{Limits}
use Rattle.cc_base.specs.Outcomes.{HasByte}
use Rattle.cc_model.specs.declared.checked.Checked.{Checked}
use Rattle.cc_model.specs.CheckedProgram.{core_of}
use Rattle.cc_model.specs.Conditions.{alternatives_at, events_of, terms}
use Rattle.cc_model.specs.Runs.{path_at, end_at}
use Rattle.cc_laws.specs.LinearForms.{linear}
use Rattle.sym_run.specs.declared.trace.Event.{Event}
use Rattle.sym_run.specs.declared.trace.Trace.{Trace}
use Rattle.sym_run.specs.Traces.{OffersFew, outcome_at, others_at}
use Rattle.search_base.specs.Terms.{found_at}
use Rattle.search_base.specs.Setting.{column_in}

-- the trace tells of the traced run of the checked program on the input, within the bounds; what the first n events offer may be
-- missing
pub record Tells (n : ℕ) (c : Checked) (b : Limits) (h : Input) (t : Trace) : Type 0 where
  pub input : t.input ≡ h
  pub path : map outcome_at t.events ≡ path_at (core_of c) b h
  pub others : (k : ℕ) (e : Event) → n ≤ k → slice_get t.events k ≡ Some e → others_at e ≡ map (λ x. x.outcome) (alternatives_at k (events_of linear (core_of c) b h))
  pub end : t.end ≡ end_at (core_of c) b h
  pub terms : map (found_at c) t.terms ≡ terms (core_of c).line (column_in c.sites) (events_of linear (core_of c) b h)
  pub few : (k : ℕ) (e : Event) → n ≤ k → slice_get t.events k ≡ Some e → OffersFew e
  pub bytes : All HasByte (map outcome_at t.events)
