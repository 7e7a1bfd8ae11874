-- A run that is kept lacks what the events before its first open one offer.
use Rattle.std.proofs.Common.{◌≡◌, ℕ, zero, suc, ◌<◌, ◌≤◌, List, [], ◌∷◌, ◌++◌, length, reverse, All, refl, sym, ap, ◌∙◌, subst, arith, append_assoc}
use Rattle.std.proofs.lemmas.List.{reverse-append}
use Rattle.cc_base.specs.Outcomes.{HasByte}
use Rattle.cc_base.specs.Paths.{Path}
use Rattle.sym_run.specs.declared.trace.Event.{Event}
use Rattle.sym_run.specs.declared.trace.Trace.{Trace}
use Rattle.flip_solve.specs.Needed.{bare_first, IsTraceFrom}
use Rattle.flip_solve.proofs.Bared.{bare_later, bare_outcomes, bare_twice}
use Rattle.search_dfs.specs.Below.{Tells}
use Rattle.search_base.specs.Setting.{Setting}
use Rattle.search_dfs.specs.Setting.{TraceOf}

-- ---- one event more

early : (n : ℕ) (l : List Event) (e : Event) → length l < n → bare_first n (l ++ e ∷ []) ≡ bare_first n l ++ record e { others = [] } ∷ []
early zero l e h = absurd (omega (arith, h))
early (suc zero) [] e h = refl
early (suc (suc n)) [] e h = refl
early (suc n) (x ∷ l) e h = ap (λ (m : List Event). record x { others = [] } ∷ m) (early n l e (omega (arith, h)))

late : (n : ℕ) (l : List Event) (e : Event) → n ≤ length l → bare_first n (l ++ e ∷ []) ≡ bare_first n l ++ e ∷ []
late zero l e h = refl
late (suc n) [] e h = absurd (omega (arith, h))
late (suc n) (x ∷ l) e h = ap (λ (m : List Event). record x { others = [] } ∷ m) (late n l e (omega (arith, h)))

put_first : (n : ℕ) (all l kept new : List Event) (e x : Event) → bare_first n (l ++ e ∷ []) ≡ bare_first n l ++ x ∷ [] → bare_first n all ≡ bare_first n (l ++ e ∷ []) ++ reverse kept → new ≡ kept ++ x ∷ []
    → bare_first n all ≡ bare_first n l ++ reverse new
put_first n all l kept new e x one h g =
    h ∙ ap (λ (m : List Event). m ++ reverse kept) one ∙ append_assoc (bare_first n l) (x ∷ []) (reverse kept)
    ∙ ap (λ (m : List Event). bare_first n l ++ m) (sym (ap reverse g ∙ reverse-append kept (x ∷ [])))

pub put_early : (n : ℕ) (all was l kept new : List Event) (e x : Event) → was ≡ l ++ e ∷ [] → length l < n → x ≡ record e { others = [] } → bare_first n all ≡ bare_first n was ++ reverse kept → new ≡ kept ++ x ∷ []
    → bare_first n all ≡ bare_first n l ++ reverse new
put_early n all was l kept new e x w h f g k = put_first n all l kept new e x (early n l e h ∙ ap (λ (y : Event). bare_first n l ++ y ∷ []) (sym f)) (g ∙ ap (λ (m : List Event). bare_first n m ++ reverse kept) w) k

pub put_late : (n : ℕ) (all was l kept new : List Event) (e : Event) → was ≡ l ++ e ∷ [] → n ≤ length l → bare_first n all ≡ bare_first n was ++ reverse kept → new ≡ kept ++ e ∷ []
    → bare_first n all ≡ bare_first n l ++ reverse new
put_late n all was l kept new e w h g k = put_first n all l kept new e e (late n l e h) (g ∙ ap (λ (m : List Event). bare_first n m ++ reverse kept) w) k

bare_none : (n : ℕ) → bare_first n [] ≡ []
bare_none zero = refl
bare_none (suc n) = refl

append_none : (l : List Event) → l ++ [] ≡ l
append_none [] = refl
append_none (x ∷ l) = ap (λ (m : List Event). x ∷ m) (append_none l)

pub bare_start : (n : ℕ) (all : List Event) → bare_first n all ≡ bare_first n all ++ reverse []
bare_start n all = sym (append_none (bare_first n all))

pub bare_done : (n : ℕ) (all was kept : List Event) → was ≡ [] → bare_first n all ≡ bare_first n was ++ reverse kept → reverse kept ≡ bare_first n all
bare_done n all was kept e h = sym (h ∙ ap (λ (m : List Event). bare_first n m ++ reverse kept) e ∙ ap (λ (m : List Event). m ++ reverse kept) (bare_none n))

-- ---- of a run

module _ (s : Setting) (n : ℕ) (t : Trace) (p : Path) (tr : TraceOf s 0 t p) where
  tells_after : Tells n s.checked s.limits t.input (record t { events = bare_first n t.events })
  tells_after = let told = tr.trace in record {
    input = refl;
    path = bare_outcomes n t.events ∙ told.path;
    others = λ k e le at. told.others k e (omega arith) (sym (bare_later n k t.events le) ∙ at);
    end = told.end;
    terms = told.terms;
    few = λ k e le at. told.few k e (omega arith) (sym (bare_later n k t.events le) ∙ at);
    bytes = subst (All HasByte) (sym (bare_outcomes n t.events)) told.bytes;
  }

  from_after : IsTraceFrom n s.checked s.limits t.input (record t { events = bare_first n t.events })
  from_after = let it = tr.is_trace in record {
    whole = it.whole;
    of_run = it.of_run;
    rest = ap (λ (x : Trace). record x { events = bare_first n t.events }) it.rest;
    events = bare_twice n n t.events (omega arith) ∙ ap (bare_first n) it.events;
  }

  pub bared_run : (u : Trace) → u ≡ record t { events = bare_first n t.events } → TraceOf s n u p
  bared_run u e = subst (λ x. TraceOf s n x p) (sym e) (record {
    within = tr.within;
    is_trace = from_after;
    trace = tells_after;
    path = tr.path;
    end = tr.end;
    short = tr.short;
    few = tr.few;
    bytes = tr.bytes;
    few_cells = tr.few_cells;
  })
