-- What is written of a run on one input, from what was made of it.
use Rattle.std.proofs.Common.{◌≡◌, ℕ, suc, ◌^◌, ◌<◌, ◌≤◌, List, [], ◌∷◌, ap, arith, All, length, map, ◌⊎◌, inl, inr, Option, Ok, Err, if◌then◌else◌, refl, sym, subst}
use Rattle.cc_base.specs.declared.inputs.Input.{Input}
use Rattle.cc_base.specs.declared.outcomes.Outcome.{Outcome}
use Rattle.cc_base.specs.Limits.{Limits}
use Rattle.cc_base.specs.Outcomes.{HasByte}
use Rattle.cc_model.specs.declared.tokens.Token.{Token}
use Rattle.cc_model.specs.declared.checked.Checked.{Checked}
use Rattle.cc_model.specs.CheckedProgram.{core_of}
use Rattle.cc_model.specs.Meaning.{Entry}
use Rattle.cc_model.specs.Report.{is_fault}
use Rattle.cc_model.specs.Runs.{IsInput, run_of, path_at, end_at}
use Rattle.cc_outside.specs.Held.{Held}
use Rattle.cc_outside.specs.Told.{appended, WritesPart}
use Rattle.input_map.specs.declared.faults.MapFault.{MapFault}
use Rattle.input_map.specs.CellFaults.{Refused}
use Rattle.input_map.specs.Maps.{IsMap}
use Rattle.report_words.specs.Words.{HasLine}
use Rattle.sym_run.specs.declared.trace.Event.{Event}
use Rattle.sym_run.specs.declared.trace.Trace.{Trace}
use Rattle.sym_run.specs.Traces.{IsTrace, ArePlain, outcome_at}
use Rattle.concolic_cli.specs.declared.prepared.Traced.{Traced}
use Rattle.concolic_cli.specs.declared.refusal.Refusal.TheVariants as refusal
use Rattle.concolic_cli.specs.Prepared.{IsRun, IsTraced}
use Rattle.concolic_cli.specs.Programs.{ReadsAs}
use Rattle.concolic_cli.specs.Loaded.{ReadAs}
use Rattle.concolic_cli.specs.Session.{Wrote, WroteFirst}
use Rattle.concolic_cli.specs.Tasks.{TracesAs, trace}
use Rattle.concolic_cli.specs.TraceText.{trace_text, CanBeTold}
use Rattle.concolic_cli.proofs.Causes.{program_of, read_as}
use Rattle.concolic_cli.proofs.TraceLines.{path_same}

pub run_is : (c : Checked) (b : Limits) (h : Input) (t : Trace) → IsInput (core_of c) b h → IsTrace c b h t → length t.events ≤ b.depth → ArePlain c (run_of (core_of c) b h).log t.events →
    t.end ≡ end_at (core_of c) b h → All HasByte (map outcome_at t.events) → HasLine t.end → ((k : ℕ) → (core_of c).line k < 2 ^ 64) → IsRun c b t
run_is c b h t within told short plain end bytes line lines = record {
  within = subst (λ i. IsInput (core_of c) b i) (sym told.input) within;
  trace = subst (λ i. IsTrace c b i t) (sym told.input) told;
  short = short;
  plain = subst (λ i. ArePlain c (run_of (core_of c) b i).log t.events) (sym told.input) plain;
  end = subst (λ i. t.end ≡ end_at (core_of c) b i) (sym told.input) end;
  bytes = bytes;
  line = line;
  lines = lines;
}

pub traced_is : (bytes entry text map : List ℕ) (tokens : List Token) (c : Checked) (b : Limits) (h : Input) (t : Trace) → ReadsAs bytes entry tokens c → text ≡ map → IsMap text h →
    ((f : MapFault) → Refused (core_of c) b text f → (read_as (Ok h) ≡ Err (refusal.Map f)) ⊎ (read_as (Ok h) ≡ Err refusal.NoMemory)) → IsRun c b t → t.input ≡ h →
    IsTraced bytes entry map b (record { checked = c; trace = t })
traced_is bytes entry text map tokens c b h t reads same named refused run is = record {
  tokens = tokens;
  reads = reads;
  named = subst (λ u. IsMap u t.input) same (subst (λ i. IsMap text i) (sym is) named);
  unrefused = λ f r. neither f (refused f (subst (λ u. Refused (core_of c) b u f) (sym same) r));
  run = run;
}
  where
    neither : (f : MapFault) → (read_as (Ok h) ≡ Err (refusal.Map f)) ⊎ (read_as (Ok h) ≡ Err refusal.NoMemory) → ⊥
    neither f (inl e) = cc e
    neither f (inr e) = cc e

-- ---- what was written

as_long : (c : Checked) (l : List (Entry Outcome)) (es : List Event) → ArePlain c l es → length l ≡ length es
as_long c [] [] h = refl
as_long c [] (e ∷ es) h = absurd h
as_long c (a ∷ l) [] h = absurd h
as_long c (a ∷ l) (e ∷ es) h = ap suc (as_long c l es h.2)

-- the lines of the run can be read again
told_again : (c : Checked) (b : Limits) (t : Trace) → IsRun c b t → CanBeTold (core_of c) b t.input
unfolding path_at
told_again c b t r = record {
  bytes = subst (All HasByte) (path_same c (run_of (core_of c) b t.input).log t.events r.plain) r.bytes;
  end = subst HasLine r.end r.line;
  lines = r.lines;
  few = let e = as_long c (run_of (core_of c) b t.input).log t.events r.plain in let s = r.short in omega (arith, e, s);
}

module _ (held : Option Held) (old new : Option (List ℕ)) (file entry bytes bytes' : List ℕ) (b : Limits) (same : bytes' ≡ bytes) (read : ReadAs held file bytes) where
  traces_as : (map : List ℕ) (t : Traced) (n : ℕ) → IsTraced bytes' entry map b t → n ≡ (if is_fault (end_at (core_of t.checked) b (t.trace).input) then 1 else 0) →
      TracesAs bytes entry b map (trace_text (core_of t.checked) b (t.trace).input) n
  traces_as map t n is verdict = subst (λ u. TracesAs u entry b map (trace_text (core_of t.checked) b (t.trace).input) n) same (record {
    program = core_of t.checked;
    input = (t.trace).input;
    source = program_of bytes' entry is.tokens t.checked is.reads;
    named = is.named;
    within = (is.run).within;
    unrefused = is.unrefused;
    told = told_again t.checked b t.trace is.run;
    text_is = refl;
    verdict = verdict;
  })

  pub trace_written : (map : List ℕ) (t : Traced) (n : ℕ) → IsTraced bytes' entry map b t → n ≡ (if is_fault (end_at (core_of t.checked) b (t.trace).input) then 1 else 0) →
      new ≡ appended old (trace_text (core_of t.checked) b (t.trace).input) → Wrote held old new (record { file = file; entry = entry; work = trace b map }) n
  trace_written map t n is verdict w = record { bytes = bytes; text = trace_text (core_of t.checked) b (t.trace).input; read = read; report = traces_as map t n is verdict; written = w }

  pub trace_begun : (map : List ℕ) (t : Traced) → IsTraced bytes' entry map b t → WritesPart old new (trace_text (core_of t.checked) b (t.trace).input) →
      WroteFirst held old new (record { file = file; entry = entry; work = trace b map })
  trace_begun map t is w = record {
    bytes = bytes;
    text = trace_text (core_of t.checked) b (t.trace).input;
    read = read;
    may = (if is_fault (end_at (core_of t.checked) b (t.trace).input) then 1 else 0, traces_as map t _ is refl);
    written = w;
  }
