-- What is made of a source before anything is written.
use Rattle.std.specs.Prelude.{ℕ, ◌≡◌, ◌^◌, ◌<◌, ◌≤◌, List, length, map, All}
use Rattle.cc_base.specs.Limits.{Limits}
use Rattle.cc_base.specs.Outcomes.{HasByte}
use Rattle.cc_model.specs.declared.checked.Checked.{Checked}
use Rattle.cc_model.specs.declared.tokens.Token.{Token}
use Rattle.cc_model.specs.CheckedProgram.{core_of}
use Rattle.cc_model.specs.Runs.{IsInput, run_of, end_at}
use Rattle.input_map.specs.declared.faults.MapFault.{MapFault}
use Rattle.input_map.specs.CellFaults.{Refused}
use Rattle.input_map.specs.Maps.{IsMap}
use Rattle.report_words.specs.Words.{HasLine}
use Rattle.sym_run.specs.declared.trace.Trace.{Trace}
use Rattle.sym_run.specs.Traces.{IsTrace, ArePlain, outcome_at}
use Rattle.concolic_cli.specs.declared.prepared.Traced.{Traced}
use Rattle.concolic_cli.specs.Programs.{ReadsAs}

-- the checked program is that of some source
pub record IsRead (c : Checked) : Type 0 where
  pub bytes : List ℕ
  pub entry : List ℕ
  pub tokens : List Token
  pub reads : ReadsAs bytes entry tokens c

-- the trace tells of the run on its input, which is one within the bounds
pub record IsRun (c : Checked) (b : Limits) (t : Trace) : Type 0 where
  pub within : IsInput (core_of c) b t.input
  pub trace : IsTrace c b t.input t
  pub short : length t.events ≤ b.depth
  pub plain : ArePlain c (run_of (core_of c) b t.input).log t.events
  pub end : t.end ≡ end_at (core_of c) b t.input
  pub bytes : All HasByte (map outcome_at t.events)
  pub line : HasLine t.end
  pub lines : (k : ℕ) → (core_of c).line k < 2 ^ 64

-- the program that the bytes are, and its run on the input of the map text
pub record IsTraced (bytes entry map : List ℕ) (b : Limits) (t : Traced) : Type 0 where
  pub tokens : List Token
  pub reads : ReadsAs bytes entry tokens t.checked
  pub named : IsMap map (t.trace).input
  pub unrefused : (f : MapFault) → Refused (core_of t.checked) b map f → ⊥
  pub run : IsRun t.checked b t.trace
