-- A run that was made tells of its input's run.
use Rattle.std.proofs.Common.{◌≡◌, ℕ, ◌<◌, ◌≤◌, ◌^◌, length, map, All, Some, slice_get, sym, subst, arith}
use Rattle.cc_base.specs.declared.inputs.Input.{Input}
use Rattle.cc_base.specs.Limits.{InRange}
use Rattle.cc_base.specs.Outcomes.{HasByte}
use Rattle.cc_base.specs.Paths.{Path}
use Rattle.cc_model.specs.CheckedProgram.{core_of}
use Rattle.cc_model.specs.Conditions.{events_of}
use Rattle.cc_model.specs.Runs.{IsInput, run_of, path_at, end_at}
use Rattle.cc_laws.specs.LinearForms.{linear}
use Rattle.report_words.specs.Words.{HasLine}
use Rattle.sym_run.specs.declared.trace.Event.{Event}
use Rattle.sym_run.specs.declared.trace.Trace.{Trace}
use Rattle.sym_run.specs.Traces.{IsTrace, ArePlain, OffersFew, outcome_at}
use Rattle.search_base.specs.Setting.{Setting, layer_of, within_of}
use Rattle.search_walks.specs.Made.{RunOf}
use Rattle.search_walks.proofs.TraceLaws.{others_along, terms_along}

module _ (s : Setting) where
  pub within_input : (i : Input) → within_of s i → IsInput (core_of s.checked) s.limits i
  unfolding layer_of
  within_input i w = w

  pub input_within : (i : Input) → IsInput (core_of s.checked) s.limits i → within_of s i
  unfolding layer_of
  input_within i w = w

  pub made_run : (i : Input) (t : Trace) (p : Path) → IsTrace s.checked s.limits i t → ArePlain s.checked (run_of (core_of s.checked) s.limits i).log t.events → p ≡ path_at (core_of s.checked) s.limits i → p ≡ map outcome_at t.events →
      t.end ≡ end_at (core_of s.checked) s.limits i → ((k : ℕ) (x : Event) → slice_get t.events k ≡ Some x → OffersFew x) → All HasByte (map outcome_at t.events) → within_of s i → length t.events ≤ s.limits.depth → InRange s.limits → length i.cells < 10 ^ 18 → HasLine t.end → RunOf s t p
  unfolding layer_of
  made_run i t p it plain path e end few bytes w short range cells line = record {
    within = subst (within_of s) (sym it.input) w;
    is_trace = subst (λ h. IsTrace s.checked s.limits h t) (sym it.input) it;
    plain = subst (λ h. ArePlain s.checked (run_of (core_of s.checked) s.limits h).log t.events) (sym it.input) plain;
    path = subst (λ h. p ≡ path_at (core_of s.checked) s.limits h) (sym it.input) path;
    outcomes = e;
    end = subst (λ h. t.end ≡ end_at (core_of s.checked) s.limits h) (sym it.input) end;
    others = λ k x at. others_along s.checked (events_of linear (core_of s.checked) s.limits t.input) t.events k x (subst (λ h. IsTrace s.checked s.limits h t) (sym it.input) it).events at;
    few = few;
    terms = terms_along s.checked (events_of linear (core_of s.checked) s.limits t.input) t.terms (subst (λ h. IsTrace s.checked s.limits h t) (sym it.input) it).terms;
    short = let d = range.depth_high in omega (arith, short, d);
    bytes = subst (All HasByte) (sym e) bytes;
    cells = subst (λ (h : Input). length h.cells < 10 ^ 18) (sym it.input) cells;
    line = line;
  }
