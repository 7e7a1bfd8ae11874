-- Traces of which alternatives of the first events may be missing.
use Rattle.std.proofs.Common.{◌≡◌, ℕ, zero, suc, ◌≤◌, List, [], ◌∷◌, ◌++◌, map, take, refl, sym, ap, ◌∙◌, subst, arith, slice_get}
use Rattle.cc_base.specs.declared.inputs.Input.{Input}
use Rattle.cc_base.specs.declared.outcomes.Outcome.{Outcome}
use Rattle.cc_base.specs.Forms.{Atom}
use Rattle.cc_base.specs.Limits.{Limits}
use Rattle.cc_model.specs.declared.checked.Checked.{Checked}
use Rattle.sym_expr.specs.AtomsSeen.{atoms_of}
use Rattle.sym_run.specs.declared.trace.Event.{Event}
use Rattle.sym_run.specs.declared.trace.Trace.{Trace}
use Rattle.sym_run.specs.Traces.{IsTrace, outcome_at}
use Rattle.flip_solve.specs.Choosing.{taken_of}
use Rattle.flip_solve.specs.Needed.{bare_first, IsTraceFrom}

-- the atoms taken are those of the events as they were
pub bare_taken : (n k : ℕ) (l : List Event) → taken_of (take k (bare_first n l)) ≡ taken_of (take k l)
unfolding taken_of
bare_taken zero k l = refl
bare_taken (suc n) k [] = refl
bare_taken (suc n) zero (e ∷ l) = refl
bare_taken (suc n) (suc k) (e ∷ l) = ap (λ (m : List Atom). atoms_of (e.taken).atoms ++ m) (bare_taken n k l)

-- a later event is as it was
pub bare_later : (n k : ℕ) (l : List Event) → n ≤ k → slice_get (bare_first n l) k ≡ slice_get l k
bare_later zero k l h = refl
bare_later (suc n) zero l h = absurd (omega (arith, h))
bare_later (suc n) (suc k) [] h = refl
bare_later (suc n) (suc k) (e ∷ l) h = bare_later n k l (omega (arith, h))

pub bare_outcomes : (n : ℕ) (l : List Event) → map outcome_at (bare_first n l) ≡ map outcome_at l
bare_outcomes zero l = refl
bare_outcomes (suc n) [] = refl
bare_outcomes (suc n) (e ∷ l) = ap (λ (m : List Outcome). outcome_at e ∷ m) (bare_outcomes n l)

pub bare_twice : (n k : ℕ) (l : List Event) → n ≤ k → bare_first k (bare_first n l) ≡ bare_first k l
bare_twice zero k l h = refl
bare_twice (suc n) zero l h = absurd (omega (arith, h))
bare_twice (suc n) (suc k) [] h = refl
bare_twice (suc n) (suc k) (e ∷ l) h = ap (λ (m : List Event). record e { others = [] } ∷ m) (bare_twice n k l (omega (arith, h)))

module _ (c : Checked) (b : Limits) (h : Input) (t : Trace) where
  -- nothing is missing
  pub whole_trace : (n : ℕ) → IsTrace c b h t → IsTraceFrom n c b h t
  whole_trace n it = record { whole = t; of_run = it; rest = refl; events = refl }

  -- the first ones are without
  pub bare_trace : (n : ℕ) (u : Trace) → IsTrace c b h t → u ≡ record t { events = bare_first n t.events } → IsTraceFrom n c b h u
  bare_trace n u it e = subst (IsTraceFrom n c b h) (sym e) (record { whole = t; of_run = it; rest = refl; events = bare_twice n n t.events (omega arith) })

  -- more may be missing
  pub fewer_needed : (n k : ℕ) → n ≤ k → IsTraceFrom n c b h t → IsTraceFrom k c b h t
  fewer_needed n k le it = record {
    whole = it.whole;
    of_run = it.of_run;
    rest = it.rest;
    events = sym (bare_twice n k t.events le) ∙ ap (bare_first k) it.events ∙ bare_twice n k (it.whole).events le;
  }

  module _ (n : ℕ) (it : IsTraceFrom n c b h t) where
    pub taken_whole : (k : ℕ) → taken_of (take k t.events) ≡ taken_of (take k (it.whole).events)
    taken_whole k = sym (bare_taken n k t.events) ∙ ap (λ (l : List Event). taken_of (take k l)) it.events ∙ bare_taken n k (it.whole).events

    pub later_whole : (k : ℕ) → n ≤ k → slice_get t.events k ≡ slice_get (it.whole).events k
    later_whole k le = sym (bare_later n k t.events le) ∙ ap (λ (l : List Event). slice_get l k) it.events ∙ bare_later n k (it.whole).events le
