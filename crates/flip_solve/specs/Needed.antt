-- What turning an event needs of a run's trace: not the alternatives of the events before it.
use Rattle.std.specs.Prelude.{◌≡◌, ℕ, zero, suc, List, [], ◌∷◌}
use Rattle.cc_base.specs.declared.inputs.Input.{Input}
use Rattle.cc_base.specs.Limits.{Limits}
use Rattle.cc_model.specs.declared.checked.Checked.{Checked}
use Rattle.sym_run.specs.declared.trace.Event.{Event}
use Rattle.sym_run.specs.declared.trace.Trace.{Trace}
use Rattle.sym_run.specs.Traces.{IsTrace}

-- the events, the first n of them without their alternatives
abbrev pub bare_first : ℕ → List Event → List Event
bare_first zero l = l
bare_first (suc n) [] = []
bare_first (suc n) (e ∷ l) = record e { others = [] } ∷ bare_first n l

-- the trace of the checked program's run on the input, within the bounds, of which alternatives of the first n events may be
-- missing (this project's own)
pub record IsTraceFrom (n : ℕ) (c : Checked) (b : Limits) (h : Input) (t : Trace) : Type 0 where
  pub whole : Trace
  pub of_run : IsTrace c b h whole
  pub rest : t ≡ record whole { events = t.events }
  pub events : bare_first n t.events ≡ bare_first n whole.events
