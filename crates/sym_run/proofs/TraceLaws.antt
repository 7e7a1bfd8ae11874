-- What a trace's events tell of a run.
use Rattle.std.proofs.Common.{◌≡◌, ◌<◌, ◌≤◌, ℕ, zero, suc, arith, List, [], ◌∷◌, length, length-append, map, take, ◌++◌, Option, Some, None, option_map, unwrap_or, slice_get, All, refl, sym, ap, ap₂, subst, ◌∙◌}
use Rattle.std.proofs.lemmas.List.Elements.{All-nil, All-cons}
use Rattle.std.proofs.lemmas.Option.{same_Some}
use Rattle.cc_base.specs.declared.ends.End.{End}
use Rattle.cc_base.specs.declared.inputs.Input.{Input}
use Rattle.cc_base.specs.declared.outcomes.Outcome.{Outcome}
use Rattle.cc_base.specs.Limits.{Limits, InRange}
use Rattle.cc_base.specs.Outcomes.{HasByte}
use Rattle.cc_base.specs.Paths.{In, Ascend}
use Rattle.cc_base.specs.Places.{Placed}
use Rattle.cc_model.specs.declared.checked.Checked.{Checked}
use Rattle.cc_model.specs.declared.checked.SiteKind.{SiteKind}
use Rattle.cc_model.specs.CheckedProgram.{cells_at, core_of}
use Rattle.cc_model.specs.Compiles.{Compiles, is_traced_zero}
use Rattle.cc_model.specs.Conditions.{traced_begin, traced_run, events_of, clean, alternatives, alternatives_at, bare, start_shadow, taken, last_state, places_of}
use Rattle.cc_model.specs.Core.{Cell}
use Rattle.cc_model.specs.Meaning.{Entry}
use Rattle.cc_model.specs.Plain as plain
use Rattle.cc_model.specs.Runs.{begin_of, fixed_of, params_of, path_of, path_at, run_of, end_at}
use Rattle.cc_model.specs.Traced as traced
use Rattle.cc_model.specs.Traced.{Asked, asks_nothing, one_of, term}
use Rattle.cc_laws.specs.LinearForms.{linear}
use Rattle.cc_laws.proofs.Erased.{erased_at}
use Rattle.cc_laws.proofs.LinearLaws.{linear_laws}
use Rattle.tac_lower.specs.Finished.{first_in}
use Rattle.sym_run.specs.declared.trace.Choice.{Choice}
use Rattle.sym_run.specs.declared.trace.Event.{Event}
use Rattle.sym_run.specs.declared.trace.Trace.{Trace}
use Rattle.sym_expr.specs.AtomsSeen.{atoms_of}
use Rattle.sym_run.specs.Asks.{choices_of}
use Rattle.sym_run.specs.declared.machine.Machine.{Machine}
use Rattle.sym_run.specs.Stands.{Setting, domain, AreEvents, first_term}
use Rattle.sym_run.specs.Running.{program, code_of, first_state, Ended}
use Rattle.sym_run.proofs.EventCounts.{few_events}
use Rattle.sym_run.specs.Traces.{IsTrace, outcome_at, ArePlain, others_at, OffersFew, NamesPlaces}
use Rattle.sym_run.specs.Placing.{ArePlaces, NameAtoms}
use Rattle.sym_run.specs.Remembers.{Every}
use Rattle.sym_run.proofs.PlacedLaws.{NameChoices, NameAsked, IsPlaced, NamesBefore, begin_placed, start_good, placed_run, taken_named, others_named}
use Rattle.sym_run.proofs.KeptLaws.{Each, kept_events}
use Rattle.sym_run.proofs.FewLaws.{outs, Offered, FewTouched, few}

abbrev Log : Type 0
Log = List (Entry traced.Event)

abbrev entry : SiteKind → ℕ → Outcome → Asked → List Placed → Entry traced.Event
entry k t o q ps = record { kind = k; token = t; event = record { outcome = o; asked = q; places = ps } }

-- ---- how many events come before the first one of a term

more_or : (f : Option ℕ) (m n : ℕ) → n ≡ unwrap_or f m → suc n ≡ unwrap_or (option_map suc f) (suc m)
more_or None m n e = ap suc e
more_or (Some k) m n e = ap suc e

clean_by : (k : SiteKind) (t : ℕ) (o : Outcome) (q : Asked) (ps : List Placed) (l : Log) → clean l ≡ unwrap_or (first_term l) (length l) → clean (entry k t o q ps ∷ l) ≡ unwrap_or (first_term (entry k t o q ps ∷ l)) (suc (length l))
unfolding clean
clean_by k t o asks_nothing ps l e = more_or (first_term l) (length l) (clean l) e
clean_by k t o (one_of cs) ps l e = more_or (first_term l) (length l) (clean l) e
clean_by k t o (term x) ps l e = refl

pub clean_is : (l : Log) → clean l ≡ unwrap_or (first_term l) (length l)
unfolding clean
clean_is [] = refl
clean_is (a ∷ l) = clean_by a.kind a.token (a.event).outcome (a.event).asked (a.event).places l (clean_is l)

-- ---- that event has no alternatives

none_by : (k : SiteKind) (t : ℕ) (o : Outcome) (q : Asked) (ps : List Placed) (l : Log) → alternatives_at (clean l) l ≡ [] → alternatives_at (clean (entry k t o q ps ∷ l)) (entry k t o q ps ∷ l) ≡ []
unfolding clean alternatives_at alternatives
none_by k t o asks_nothing ps l e = e
none_by k t o (one_of cs) ps l e = e
none_by k t o (term x) ps l e = refl

none_at : (l : Log) → alternatives_at (clean l) l ≡ []
unfolding clean alternatives_at
none_at [] = refl
none_at (a ∷ l) = none_by a.kind a.token (a.event).outcome (a.event).asked (a.event).places l (none_at l)

no_choices : (cs : List Choice) → choices_of cs ≡ [] → cs ≡ []
no_choices [] e = refl
no_choices (c ∷ cs) e = absurd (cc e)

none_there : (c : Checked) (l : Log) (es : List Event) (n : ℕ) (e : Event) → AreEvents c l es → alternatives_at n l ≡ [] → slice_get es n ≡ Some e → e.others ≡ []
unfolding alternatives_at
none_there c [] [] n e h none at = absurd (cc at)
none_there c [] (f ∷ es) n e h none at = absurd h
none_there c (a ∷ l) [] n e h none at = absurd h
none_there c (a ∷ l) (f ∷ es) zero e h none at = no_choices e.others (subst (λ (x : Event). choices_of x.others ≡ alternatives a.event) (same_Some f e at) (h.0).others ∙ none)
none_there c (a ∷ l) (f ∷ es) (suc n) e h none at = none_there c l es n e h.1 none at

-- ---- the path

path_along : (c : Checked) (layouts : ℕ → List Cell) (l : Log) (es : List Event) → AreEvents c l es → map outcome_at es ≡ path_of (traced.traced linear layouts) l
path_along c layouts [] [] h = refl
path_along c layouts [] (e ∷ es) h = absurd h
path_along c layouts (a ∷ l) [] h = absurd h
path_along c layouts (a ∷ l) (e ∷ es) h = ap₂ (λ (o : Outcome) (p : List Outcome). o ∷ p) (h.0).outcome (path_along c layouts l es h.1)

module _ (c : Checked) (b : Limits) (h : Input) (t : Trace) (it : IsTrace c b h t) where
  pub no_offer : (e : Event) → slice_get t.events t.clean_to ≡ Some e → e.others ≡ []
  no_offer e at = none_there c (events_of linear (core_of c) b h) t.events t.clean_to e it.events
      (ap (λ (n : ℕ). alternatives_at n (events_of linear (core_of c) b h)) it.clean_to ∙ none_at (events_of linear (core_of c) b h)) at

  pub path_is : map outcome_at t.events ≡ path_at (core_of c) b h
  path_is = path_along c (core_of c).layouts (events_of linear (core_of c) b h) t.events it.events ∙ (erased_at linear (core_of c) b h).1

-- ---- a run that is over

as_many : (c : Checked) (l : Log) (es : List Event) → AreEvents c l es → length es ≡ length l
as_many c [] [] h = refl
as_many c [] (e ∷ es) h = absurd h
as_many c (a ∷ l) [] h = absurd h
as_many c (a ∷ l) (e ∷ es) h = ap suc (as_many c l es h.1)

module _ (w : Setting) (m : Machine) (e : End) (over : Ended w m e) where
  pub recorded_short : Compiles (program w) (code_of w) (λ f. first_in w.code f) → length (m.journal).events ≤ (w.limits).depth
  unfolding events_of
  recorded_short compiles =
      let few : length (traced_run linear (program w) w.limits w.input).log ≤ (w.limits).depth = few_events (domain w) (fixed_of (program w) w.limits) is_traced_zero (λ f. first_in w.code f) (code_of w) (first_state w) (traced_run linear (program w) w.limits w.input) (compiles.as_traced linear w.limits w.input) in
      let same : length (m.journal).events ≡ length (traced_run linear (program w) w.limits w.input).log = as_many w.checked (events_of linear (program w) w.limits w.input) (m.journal).events (over.journal).events in
      omega (arith, few, same)

  pub recorded_few : Compiles (program w) (code_of w) (λ f. first_in w.code f) → InRange w.limits → length (m.journal).events < 4294967296
  recorded_few compiles range = let a = recorded_short compiles in let b = range.depth_high in omega (arith, a, b)

  pub trace_is : (h : Input) (t : Trace) → t ≡ record { input = h; events = (m.journal).events; places = (m.objects).places; end = e; clean_to = unwrap_or (m.journal).clean (length (m.journal).events); terms = (m.journal).terms } → h ≡ w.input → IsTrace w.checked w.limits w.input t
  trace_is h t made same = subst (λ (x : Trace). IsTrace w.checked w.limits w.input x) (sym made) (record {
    input = same;
    events = (over.journal).events;
    places = sym over.places;
    end = sym over.end;
    clean_to = ap₂ (λ (o : Option ℕ) (n : ℕ). unwrap_or o n) (over.journal).clean (as_many w.checked (events_of linear (program w) w.limits w.input) (m.journal).events (over.journal).events) ∙ sym (clean_is (events_of linear (program w) w.limits w.input));
    terms = (over.journal).terms;
  })

  pub trace_short : (h : Input) (t : Trace) → t ≡ record { input = h; events = (m.journal).events; places = (m.objects).places; end = e; clean_to = unwrap_or (m.journal).clean (length (m.journal).events); terms = (m.journal).terms } → Compiles (program w) (code_of w) (λ f. first_in w.code f) → length t.events ≤ (w.limits).depth
  trace_short h t made compiles = subst (λ (x : Trace). length x.events ≤ (w.limits).depth) (sym made) (recorded_short compiles)

-- ---- the plain run

plain_along : (c : Checked) (l : Log) (es : List Event) → AreEvents c l es → ArePlain c (map bare l) es
plain_along c [] [] h = tt
plain_along c [] (e ∷ es) h = absurd h
plain_along c (a ∷ l) [] h = absurd h
plain_along c (a ∷ l) (e ∷ es) h = ((h.0).site, (h.0).outcome, plain_along c l es h.1)

-- ---- what the events offer

outs_same : (cs : List Choice) → outs (choices_of cs) ≡ map (λ c. c.outcome) cs
outs_same [] = refl
outs_same (c ∷ cs) = ap (λ (l : List Outcome). c.outcome ∷ l) (outs_same cs)

many_same : (cs : List Choice) → length (choices_of cs) ≡ length cs
many_same [] = refl
many_same (c ∷ cs) = ap suc (many_same cs)

offers_few : (a : traced.Event) (e : Event) → outcome_at e ≡ a.outcome → choices_of e.others ≡ alternatives a → Offered a → OffersFew e
offers_few a e same others h =
    let is : others_at e ≡ outs (alternatives a) = sym (outs_same e.others) ∙ ap outs others in
    let count = ap length others in let n = many_same e.others in let k = (h.few).0 in record {
      few = omega (arith, count, n, k);
      ascend = subst (λ (l : List Outcome). Ascend l) (sym is) (h.few).1;
      not_own = subst (λ (l : List Outcome). In (outcome_at e) l → ⊥) (sym is) (subst (λ (o : Outcome). In o (outs (alternatives a)) → ⊥) (sym same) (h.few).2);
      bytes = λ o i. (h.few).3 o (subst (λ (l : List Outcome). In o l) is i);
    }

few_along : (c : Checked) (l : Log) (es : List Event) (n : ℕ) (e : Event) → AreEvents c l es → Each (λ a. Offered a.event) l → slice_get es n ≡ Some e → OffersFew e
few_along c [] [] n e h g at = absurd (cc at)
few_along c [] (f ∷ es) n e h g at = absurd h
few_along c (a ∷ l) [] n e h g at = absurd h
few_along c (a ∷ l) (f ∷ es) zero e h g at = subst (λ (x : Event). OffersFew x) (same_Some f e at) (offers_few a.event f (h.0).outcome (h.0).others g.0)
few_along c (a ∷ l) (f ∷ es) (suc n) e h g at = few_along c l es n e h.1 g.1 at

bytes_along : (c : Checked) (l : Log) (es : List Event) → AreEvents c l es → Each (λ a. Offered a.event) l → All HasByte (map outcome_at es)
bytes_along c [] [] h g = All-nil HasByte
bytes_along c [] (f ∷ es) h g = absurd h
bytes_along c (a ∷ l) [] h g = absurd h
bytes_along c (a ∷ l) (f ∷ es) h g = All-cons HasByte (outcome_at f) (map outcome_at es) (subst (λ (o : Outcome). HasByte o) (sym (h.0).outcome) (g.0).byte) (bytes_along c l es h.1 g.1)

module _ (w : Setting) (compiles : Compiles (program w) (code_of w) (λ f. first_in w.code f)) (range : InRange w.limits) where
  few_begin : FewTouched linear (cells_at w.checked) (w.limits).objects (first_state w).data_now
  unfolding traced_begin begin_of plain.data_of
  few_begin = record { shadows = omega arith; plain = omega arith }

  offered : Each (λ a. Offered a.event) (events_of linear (program w) w.limits w.input)
  unfolding events_of
  offered = (kept_events (domain w) (w.limits).objects (few linear (cells_at w.checked) (w.limits).objects range.objects_high) (fixed_of (program w) w.limits) refl is_traced_zero (λ f. first_in w.code f) (code_of w) (first_state w)
      (traced_run linear (program w) w.limits w.input) (compiles.as_traced linear w.limits w.input) few_begin (λ n. tt)).0

  pub few_is : (t : Trace) → IsTrace w.checked w.limits w.input t → (n : ℕ) (e : Event) → slice_get t.events n ≡ Some e → OffersFew e
  few_is t it n e at = few_along w.checked (events_of linear (program w) w.limits w.input) t.events n e it.events offered at

  pub bytes_are : (t : Trace) → IsTrace w.checked w.limits w.input t → All HasByte (map outcome_at t.events)
  bytes_are t it = bytes_along w.checked (events_of linear (program w) w.limits w.input) t.events it.events offered

module _ (c : Checked) (b : Limits) (h : Input) (t : Trace) (it : IsTrace c b h t) where
  pub plain_is : ArePlain c (run_of (core_of c) b h).log t.events
  plain_is = subst (λ (l : List (Entry Outcome)). ArePlain c l t.events) (erased_at linear (core_of c) b h).0 (plain_along c (events_of linear (core_of c) b h) t.events it.events)

  pub end_is : t.end ≡ end_at (core_of c) b h
  end_is = it.end ∙ (erased_at linear (core_of c) b h).2

-- ---- the places that events name

take_front : (l m : List Placed) → take (length l) (l ++ m) ≡ l
take_front [] m = refl
take_front (x ∷ l) m = ap (λ (k : List Placed). x ∷ k) (take_front l m)

others_name : (l : List Placed) (cs : List Choice) → NameChoices l (choices_of cs) → Every (λ c. NameAtoms l (atoms_of c.atoms)) cs
others_name l [] h = tt
others_name l (c ∷ cs) h = (h.0, others_name l cs h.1)

one_names : (a : traced.Event) (e : Event) (l more : List Placed) → l ≡ a.places ++ more → e.places ≡ length a.places → atoms_of (e.taken).atoms ≡ taken a → choices_of e.others ≡ alternatives a → NameAsked a.places a.asked → NamesPlaces l e
one_names a e l more is many own others h =
    let front : take e.places l ≡ a.places = ap₂ (λ (n : ℕ) (k : List Placed). take n k) many is ∙ take_front a.places more in
    let n = ap length is in let m = length-append a.places more in record {
      before = omega (arith, many, n, m);
      taken = subst (λ (k : List Placed). NameAtoms k (atoms_of (e.taken).atoms)) (sym front) (subst (NameAtoms a.places) (sym own) (taken_named a.places a.outcome a.asked a.places h));
      others = subst (λ (k : List Placed). Every (λ c. NameAtoms k (atoms_of c.atoms)) e.others) (sym front)
          (others_name a.places e.others (subst (NameChoices a.places) (sym others) (others_named a.places a.outcome a.asked a.places h)));
    }

names_along : (c : Checked) (params : List Cell) (layouts : ℕ → List Cell) (s : traced.Shadows) (l : Log) (es : List Event) (n : ℕ) (e : Event) → AreEvents c l es
    → Each (λ a. NamesBefore params layouts linear linear_laws s a.event) l → slice_get es n ≡ Some e → NamesPlaces s.places e
names_along c params layouts s [] [] n e h g at = absurd (cc at)
names_along c params layouts s [] (f ∷ es) n e h g at = absurd h
names_along c params layouts s (a ∷ l) [] n e h g at = absurd h
names_along c params layouts s (a ∷ l) (f ∷ es) zero e h g at = subst (λ (x : Event). NamesPlaces s.places x) (same_Some f e at) (one_names a.event f s.places (g.0).more (g.0).is (h.0).places (h.0).atoms (h.0).others (g.0).named)
names_along c params layouts s (a ∷ l) (f ∷ es) (suc n) e h g at = names_along c params layouts s l es n e h.1 g.1 at

module _ (w : Setting) (compiles : Compiles (program w) (code_of w) (λ f. first_in w.code f)) where
  abbrev last_shadows : traced.Shadows
  last_shadows = ((last_state (traced_run linear (program w) w.limits w.input).result).data_now).shadows

  first_placed : IsPlaced (params_of (program w)) (program w).layouts linear linear_laws ((first_state w).data_now).shadows
  unfolding traced_begin
  first_placed = begin_placed (params_of (program w)) (program w).layouts linear linear_laws (map (start_shadow linear) (program w).globals) (start_good (params_of (program w)) (program w).layouts linear linear_laws _ (program w).globals)

  all_placed : Each (λ a. NamesBefore (params_of (program w)) (program w).layouts linear linear_laws last_shadows a.event) (events_of linear (program w) w.limits w.input) × IsPlaced (params_of (program w)) (program w).layouts linear linear_laws last_shadows
  unfolding events_of traced_begin
  all_placed = kept_events (domain w) (w.limits).objects (placed_run (params_of (program w)) (program w).layouts linear linear_laws (w.limits).objects) (fixed_of (program w) w.limits) refl is_traced_zero (λ f. first_in w.code f) (code_of w) (first_state w)
      (traced_run linear (program w) w.limits w.input) (compiles.as_traced linear w.limits w.input) first_placed (λ n. tt)

  last_places : places_of linear (program w) w.limits w.input ≡ last_shadows.places
  unfolding places_of
  last_places = refl

  pub places_are : (t : Trace) → IsTrace w.checked w.limits w.input t → ArePlaces (params_of (program w)) (program w).layouts t.places
  places_are t it = subst (λ (l : List Placed). ArePlaces (params_of (program w)) (program w).layouts l) (sym (it.places ∙ last_places)) (all_placed.1).places

  pub names_are : (t : Trace) → IsTrace w.checked w.limits w.input t → (n : ℕ) (e : Event) → slice_get t.events n ≡ Some e → NamesPlaces t.places e
  names_are t it n e at = subst (λ (l : List Placed). NamesPlaces l e) (sym (it.places ∙ last_places))
      (names_along w.checked (params_of (program w)) (program w).layouts last_shadows (events_of linear (program w) w.limits w.input) t.events n e it.events all_placed.0 at)
