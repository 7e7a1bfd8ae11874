-- What a listing speaks of: the inputs of a tested function with their runs, and what the search sees of them.
use Rattle.std.specs.Prelude.{ℕ, ◌≡◌, List, length}
use Rattle.cc_base.specs.declared.outcomes.Outcome.{Outcome}
use Rattle.cc_base.specs.declared.ends.End.{End}
use Rattle.cc_base.specs.declared.inputs.Input.{Input}
use Rattle.cc_base.specs.declared.inputs.Test.{Test}
use Rattle.cc_base.specs.Limits.{Limits}
use Rattle.cc_base.specs.Paths.{Path, In, next, BeginsWith}
use Rattle.cc_model.specs.declared.terms.TermKind.{TermKind}
use Rattle.cc_model.specs.Core.{Program}
use Rattle.cc_model.specs.Canonical.{base_input_of}
use Rattle.cc_model.specs.Runs.{IsInput, params_of, path_at, end_at}

-- a tested function within bounds: its inputs, and the path and the end of the run of each
pub record Tested : Type 1 where
  pub base : Input
  pub IsWithin : Input → Type 0
  pub path : Input → Path
  pub end : Input → End

-- the tested function of a program, by its plain meaning
abbrev pub tested : Program → Limits → Tested
tested p b = record { base = base_input_of b (params_of p); IsWithin = IsInput p b; path = path_at p b; end = end_at p b }

-- a test is real: its input is within the bounds, and the run takes the test's path to the test's end
pub record Real (y : Tested) (t : Test) : Type 0 where
  pub within : y.IsWithin t.input
  pub path : t.path ≡ y.path t.input
  pub end : t.end ≡ y.end t.input

-- a site at which a run concretised, and why
pub record Term : Type 0 where
  pub line : ℕ
  pub col : ℕ
  pub kind : TermKind

-- how a solve ends
pub data Answer : Type 0 where
  never : Answer
  spent : Answer
  turned : Answer

-- the tested function with what its traced runs tell
pub record Layer : Type 1 where
  pub runs : Tested
  -- the alternatives of the event with this number, from 0
  pub others : Input → ℕ → List Outcome
  -- an input meets the condition of the first input at this prefix
  pub Meets : Input → Path → Input → Type 0
  -- what comes of solving the condition of the input at this prefix, under the budget
  pub Answers : Input → Path → Answer → Type 0
  -- how many events come before the first at which the run concretised
  pub clean : Input → ℕ
  -- the terms that occur
  pub terms : Input → List Term

-- u's path begins with q and goes on, and the alternatives of the event there hold o
abbrev pub Offers : Layer → Input → Path → Outcome → Type 0
Offers y u q o = ((own : Outcome) × BeginsWith ((y.runs).path u) (next q own)) × In o (y.others u (length q))
