-- The text of a trace, and what it tells. The lines are this project's own. Each line ends with a newline.
use Rattle.std.specs.Prelude.{ℕ, suc, ◌^◌, ◌<◌, ◌≤◌, List, [], ◌∷◌, ◌++◌, length, All, codes}
use Rattle.std.specs.Fmt.{decimal}
use Rattle.cc_base.specs.declared.inputs.Input.{Input}
use Rattle.cc_base.specs.declared.inputs.Test.{Test}
use Rattle.cc_base.specs.declared.outcomes.Outcome.{Outcome}
use Rattle.cc_base.specs.Limits.{Limits}
use Rattle.cc_base.specs.Outcomes.{byte_of, HasByte}
use Rattle.cc_model.specs.declared.checked.SiteKind.{SiteKind}
use Rattle.cc_model.specs.Core.{Program}
use Rattle.cc_model.specs.Listing.{test_item}
use Rattle.cc_model.specs.Meaning.{Entry}
use Rattle.cc_model.specs.Report.{bounds_line, item_line, newline}
use Rattle.cc_model.specs.Runs.{run_of, path_at, end_at}
use Rattle.replay.specs.Forms.{site_text}
use Rattle.report_words.specs.Words.{HasLine}

-- event I OUTCOME LINE KIND
abbrev pub event_text : ℕ → Outcome → ℕ → SiteKind → List ℕ
event_text i o line kind = codes "event " ++ decimal i ++ codes " " ++ (byte_of o ∷ []) ++ codes " " ++ decimal line ++ codes " " ++ site_text kind ++ newline

-- a line for each event, the first of which has this number
abbrev pub event_lines : (ℕ → ℕ) → ℕ → List (Entry Outcome) → List ℕ
event_lines line i [] = []
event_lines line i (a ∷ l) = event_text i a.event (line a.token) a.kind ++ event_lines line (suc i) l

-- the test of a run
abbrev pub test_at : Program → Limits → Input → Test
test_at p b h = record { path = path_at p b h; end = end_at p b h; input = h }

-- the trace of a program on an input: the bounds, the events of the run, numbered from 1, and its test
abbrev pub trace_text : Program → Limits → Input → List ℕ
trace_text p b h = bounds_line b ++ (event_lines p.line 1 (run_of p b h).log ++ item_line (test_item (test_at p b h)))

-- the run's lines can be read again: its outcomes have bytes, the line of its end has 32 bits, those of its events
-- 64, and there are no more events than the bound allows
pub record CanBeTold (p : Program) (b : Limits) (h : Input) : Type 0 where
  pub bytes : All HasByte (path_at p b h)
  pub end : HasLine (end_at p b h)
  pub lines : (t : ℕ) → p.line t < 2 ^ 64
  pub few : length (run_of p b h).log ≤ b.depth

-- ---- what it tells

-- an event: which outcome it had, in which line, and what happened there
pub record ToldEvent : Type 0 where
  pub outcome : Outcome
  pub line : ℕ
  pub kind : SiteKind

-- a run: its bounds, its events in order, and its test, which is its path, its end and its input
pub record ToldRun : Type 0 where
  pub bounds : Limits
  pub events : List ToldEvent
  pub test : Test

abbrev pub told_events : (ℕ → ℕ) → List (Entry Outcome) → List ToldEvent
told_events line [] = []
told_events line (a ∷ l) = record { outcome = a.event; line = line a.token; kind = a.kind } ∷ told_events line l

-- what the trace of a program on an input tells
abbrev pub told : Program → Limits → Input → ToldRun
told p b h = record { bounds = b; events = told_events p.line (run_of p b h).log; test = test_at p b h }
