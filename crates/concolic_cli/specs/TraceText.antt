-- The text of a trace. The lines are this project's own. Each line ends with a newline.
use Rattle.std.specs.Prelude.{ℕ, suc, ◌^◌, ◌<◌, ◌≤◌, List, [], ◌∷◌, ◌++◌, length, All, codes, unwrap_or, slice_get}
use Rattle.std.specs.Fmt.{decimal}
use Rattle.cc_base.specs.declared.inputs.Input.{Input}
use Rattle.cc_base.specs.declared.outcomes.Outcome.{Outcome}
use Rattle.cc_base.specs.Limits.{Limits}
use Rattle.cc_base.specs.Outcomes.{byte_of, HasByte}
use Rattle.cc_model.specs.declared.checked.Checked.{Checked}
use Rattle.cc_model.specs.declared.checked.Site.{Site}
use Rattle.cc_model.specs.declared.checked.SiteKind.{SiteKind}
use Rattle.cc_model.specs.declared.checked.SiteKind.TheVariants.{Decision, Fit, Divisor, Index, Access}
use Rattle.cc_model.specs.CheckedProgram.{core_of}
use Rattle.cc_model.specs.Core.{Program}
use Rattle.cc_model.specs.Listing.{test_item}
use Rattle.cc_model.specs.Meaning.{Entry}
use Rattle.cc_model.specs.Report.{bounds_line, item_line, newline}
use Rattle.cc_model.specs.Runs.{run_of, path_at, end_at}
use Rattle.report_words.specs.Words.{HasLine}
use Rattle.concolic_cli.specs.Listings.{test_at}
use Rattle.sym_run.specs.declared.trace.Event.{Event}
use Rattle.sym_run.specs.Traces.{outcome_at}

abbrev pub site_text : SiteKind → List ℕ
site_text Decision = codes "decision"
site_text Fit = codes "fit"
site_text Divisor = codes "divisor"
site_text Index = codes "index"
site_text Access = codes "access"

-- event I OUTCOME LINE KIND
abbrev pub event_text : ℕ → Outcome → ℕ → SiteKind → List ℕ
event_text i o line kind = codes "event " ++ decimal i ++ codes " " ++ (byte_of o ∷ []) ++ codes " " ++ decimal line ++ codes " " ++ site_text kind ++ newline

-- a line for each event, the first of which has this number
abbrev pub event_lines : (ℕ → ℕ) → ℕ → List (Entry Outcome) → List ℕ
event_lines line i [] = []
event_lines line i (a ∷ l) = event_text i a.event (line a.token) a.kind ++ event_lines line (suc i) l

-- the trace of a program on an input: the bounds, the events of the run, numbered from 1, and its test
abbrev pub trace_text : Program → Limits → Input → List ℕ
trace_text p b h = bounds_line b ++ (event_lines p.line 1 (run_of p b h).log ++ item_line (test_item (test_at p b h)))

-- the run's lines can be read again: its outcomes have bytes, the line of its end has 32 bits, those of its events 64, and there are
-- no more events than the bound allows
pub record CanBeTold (p : Program) (b : Limits) (h : Input) : Type 0 where
  pub bytes : All HasByte (path_at p b h)
  pub end : HasLine (end_at p b h)
  pub lines : (t : ℕ) → p.line t < 2 ^ 64
  pub few : length (run_of p b h).log ≤ b.depth

-- ---- the lines of recorded events

abbrev pub no_site : Site
no_site = record { token = 0; line = 0; col = 0; kind = Decision }

-- the site with this number
abbrev pub site_at : Checked → ℕ → Site
site_at c i = unwrap_or (slice_get c.sites i) no_site

abbrev pub recorded_line : Checked → ℕ → Event → List ℕ
recorded_line c i e = event_text i (outcome_at e) ((core_of c).line (site_at c (e.site).0).token) (site_at c (e.site).0).kind

abbrev pub recorded_lines : Checked → ℕ → List Event → List ℕ
recorded_lines c i [] = []
recorded_lines c i (e ∷ l) = recorded_line c i e ++ recorded_lines c (suc i) l
