-- The outcomes of an event, and what a new run tells.
use Rattle.std.proofs.Common.{◌≡◌, ◌≢◌, ℕ, zero, suc, ◌-◌, ◌^◌, ◌<◌, ◌≤◌, ◌⊎◌, ◌↔◌, List, [], ◌∷◌, ◌++◌, length, map, take, Option, Some, None, MatchOption, All, slice_get, slice_index_or, refl, sym, ap, ◌∙◌, subst, arith, get_or}
use Rattle.std.proofs.lemmas.List.{length-map}
use Rattle.cc_base.specs.declared.inputs.Input.{Input}
use Rattle.cc_base.specs.declared.outcomes.Outcome.{Outcome}
use Rattle.cc_base.specs.declared.outcomes.Outcome.TheVariants.{Zero}
use Rattle.cc_base.specs.Limits.{InRange}
use Rattle.cc_base.specs.Outcomes.{HasByte}
use Rattle.cc_base.specs.Paths.{In, Path, Ascend, next}
use Rattle.cc_model.specs.Canonical.{base_input_of}
use Rattle.cc_model.specs.CheckedProgram.{core_of}
use Rattle.cc_model.specs.Runs.{IsInput, params_of, path_at, end_at}
use Rattle.sym_run.specs.declared.trace.Event.{Event}
use Rattle.sym_run.specs.declared.trace.Trace.{Trace}
use Rattle.search_dfs.specs.declared.open.Pending.{Pending}
use Rattle.sym_run.specs.Traces.{IsTrace, OffersFew, outcome_at, others_at}
use Rattle.search_dfs.specs.Below.{Tells}
use Rattle.search_base.specs.Setting.{Setting, layer_of, within_of, others_of, path_of, base_of}
use Rattle.search_dfs.specs.Setting.{TraceOf, ChoicesOf, own_at}
use Rattle.search_dfs.specs.Stack.{last_first, left_at}
use Rattle.std.proofs.lemmas.List.Elements.{All-nil, All-cons, All-append, All-take}
use Rattle.flip_solve.proofs.Bared.{whole_trace}
use Rattle.search_dfs.proofs.Telling.{tells}
use Rattle.search_dfs.proofs.Down.{last_is, snoc_first, left_same, left_more}
use Rattle.search_base.proofs.TermLaws.{there_is}

-- ---- an event of a run

pub own_index : (l : Path) (k : ℕ) → slice_index_or l k Zero ≡ own_at k l
own_index [] k = refl
own_index (x ∷ l) zero = refl
own_index (x ∷ l) (suc k) = own_index l k

own_there : (l : List Event) (k : ℕ) (e : Event) → slice_get l k ≡ Some e → outcome_at e ≡ own_at k (map outcome_at l)
own_there [] k e f = absurd (cc f)
own_there (a ∷ l) zero e f = let g : e ≡ a = cc f in ap outcome_at g
own_there (a ∷ l) (suc k) e f = own_there l k e f

module _ (s : Setting) where
  pub within_input : (i : Input) → within_of s i → IsInput (core_of s.checked) s.limits i
  unfolding layer_of
  within_input i w = w

  module _ (n : ℕ) (t : Trace) (p : Path) (tr : TraceOf s n t p) where
    pub events_path : map outcome_at t.events ≡ p
    unfolding layer_of
    events_path = (tr.trace).path ∙ sym tr.path

    pub events_long : length t.events ≡ length p
    events_long = sym (length-map t.events outcome_at) ∙ ap length events_path

    pub event_few : (k : ℕ) (e : Event) → n ≤ k → k < length p → e ≡ get_or t.events k e → OffersFew e
    event_few k e le h f = let m = events_long in (tr.trace).few k e le (there_is t.events k e (omega (arith, h, m)) f)

    pub event_choices : (k : ℕ) (e : Event) (os : List Outcome) → n ≤ k → k < length p → e ≡ get_or t.events k e → Ascend os → ((o : Outcome) → In o os ↔ ((o ≡ outcome_at e) ⊎ In o (others_at e))) → length os ≤ 29 → ChoicesOf s t.input k os
    unfolding layer_of
    event_choices k e os le h f up all few =
        let m = events_long in
        let at = there_is t.events k e (omega (arith, h, m)) f in
        let own : outcome_at e ≡ own_at k (path_of s t.input) = own_there t.events k e at ∙ ap (own_at k) (tr.trace).path in
        let same : others_at e ≡ others_of s t.input k = (tr.trace).others k e le at in
        record {
          ascend = up;
          all = λ o. subst (λ x. In o os ↔ ((o ≡ x) ⊎ In o (others_of s t.input k))) own (subst (λ l. In o os ↔ ((o ≡ outcome_at e) ⊎ In o l)) same (all o));
          few = few;
        }

  module _ (i : Input) (t : Trace) (p : Path) (it : IsTrace s.checked s.limits i t) (path : p ≡ path_at (core_of s.checked) s.limits i) (e : p ≡ map outcome_at t.events) (end : t.end ≡ end_at (core_of s.checked) s.limits i)
      (few : (k : ℕ) (x : Event) → slice_get t.events k ≡ Some x → OffersFew x) (bytes : All HasByte (map outcome_at t.events)) where
    pub made_trace : within_of s i → length i.cells < 10 ^ 18 → length t.events ≤ s.limits.depth → InRange s.limits → TraceOf s 0 t p
    unfolding layer_of
    made_trace w cells short range =
        let told : Tells 0 s.checked s.limits t.input t = subst (λ h. Tells 0 s.checked s.limits h t) (sym it.input) (tells s.checked s.limits i t it (sym e ∙ path) end few bytes) in
        record {
          within = subst (within_of s) (sym it.input) w;
          is_trace = whole_trace s.checked s.limits t.input t 0 (subst (λ h. IsTrace s.checked s.limits h t) (sym it.input) it);
          trace = told;
          path = e ∙ told.path;
          end = told.end;
          short = let n = length-map t.events outcome_at in let m : length p ≡ length (map outcome_at t.events) = ap length e in omega (arith, n, m, short);
          few = range.depth_high;
          bytes = subst (All HasByte) (sym e) told.bytes;
          few_cells = subst (λ (h : Input). length h.cells < 10 ^ 18) (sym it.input) cells;
        }

-- ---- the last run

module _ (l : List Pending) (y r : Pending) (rs : List Pending) (d : ℕ) (at : y ≡ get_or l (length l - 1) y) (e : last_first l ≡ r ∷ rs) where
  last_at : y ≡ r
  last_at = at ∙ last_is l r y rs e

  pub left_last : y.from ≢ d → last_first l ≡ left_at d (r ∷ rs)
  left_last n = e ∙ sym (left_more d r rs (λ f. n (ap (λ (z : Pending). z.from) last_at ∙ f)))

  tails : (a b : Pending) (k m : List Pending) → a ∷ k ≡ b ∷ m → k ≡ m
  tails a b k m f = cc f

  pub popped_last : (k : List Pending) (x : Option Pending) → 0 < length l → MatchOption x ((l ≡ []) × (k ≡ [])) (λ z. l ≡ k ++ z ∷ []) → y.from ≡ d → last_first k ≡ left_at d (r ∷ rs)
  popped_last k None some m f = let n : length l ≡ 0 = ap length m.0 in absurd (omega (arith, n, some))
  popped_last k (Some z) some m f =
      tails z r (last_first k) rs (sym (snoc_first k z) ∙ ap last_first (sym m) ∙ e)
      ∙ sym (left_same d r rs (sym (ap (λ (z : Pending). z.from) last_at) ∙ f))

-- ---- an alternative that an event offers

some_at : (l : List Event) (k : ℕ) → k < length l → (e : Event) × (slice_get l k ≡ Some e)
some_at [] k h = absurd (omega (arith, h))
some_at (x ∷ l) zero h = (x, refl)
some_at (x ∷ l) (suc k) h = some_at l k (omega (arith, h))

module _ (s : Setting) where
  pub path_there : (i : Input) → path_of s i ≡ path_at (core_of s.checked) s.limits i
  unfolding layer_of
  path_there i = refl

  module _ (n : ℕ) (t : Trace) (p : Path) (tr : TraceOf s n t p) (k : ℕ) (o : Outcome) (le : n ≤ k) (h : k < length p) (i : In o (others_of s t.input k)) where
    pub event_offered : (e : Event) × (slice_get t.events k ≡ Some e) × In o (others_at e)
    unfolding layer_of
    event_offered = let m = events_long s n t p tr in let e = some_at t.events k (omega (arith, h, m)) in
        (e.0, e.1, subst (In o) (sym ((tr.trace).others k e.0 le e.1)) i)

    -- the prefix of an alternative has bytes
    pub prefix_bytes : All HasByte (next (take k p) o)
    prefix_bytes = let e = event_offered in
        All-append HasByte (take k p) (o ∷ []) (All-take HasByte k p tr.bytes) (All-cons HasByte o [] (((tr.trace).few k e.0 le e.1).bytes o e.2) (All-nil HasByte))

module _ (s : Setting) (i : Input) where
  pub input_within : IsInput (core_of s.checked) s.limits i → within_of s i
  unfolding layer_of
  input_within w = w

  pub base_there : i ≡ base_input_of s.limits (params_of (core_of s.checked)) → i ≡ base_of s
  unfolding layer_of
  base_there e = e
