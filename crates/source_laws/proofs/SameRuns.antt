-- A renumbered program has the runs of the program, and its traced runs, but for what stands at the places.
use Rattle.std.proofs.Common.{◌≡◌, ℕ, suc, pos, inl, inr, List, [], ◌∷◌, ◌++◌, map, length, refl, sym, ap, ap₂, subst, ◌∙◌, nat_eq}
use Rattle.std.proofs.lemmas.Bool.Decides.{eqb_tells}
use Rattle.cc_base.specs.declared.inputs.Input.{Input}
use Rattle.cc_base.specs.Limits.{Limits, base_of}
use Rattle.cc_model.specs.Core.{Cell, int_cell, ptr_cell, Layout, Start, start_number, start_null, Program}
use Rattle.std.proofs.lemmas.List.{length-map}
use Rattle.cc_model.specs.Canonical.{AreCells, base_cell, base_input_of}
use Rattle.cc_model.specs.Meaning.{Entry, State, Result, ok, over, main}
use Rattle.cc_model.specs.Plain as base
use Rattle.cc_model.specs.Plain.{plain, Value, locals_at}
use Rattle.cc_model.specs.FormOperations.{Forms}
use Rattle.cc_model.specs.Traced as on
use Rattle.cc_model.specs.Traced.{Shadow, form, none, Traced, Data, Event, traced}
use Rattle.cc_model.specs.Runs.{Begin, run, fixed_of, params_of, value_of_start, begin_of, run_of, path_of, path_at, end_of, end_at, IsInput}
use Rattle.cc_model.specs.Conditions.{last_state, start_shadow, traced_begin, traced_run, events_of, places_of}
use Rattle.cc_laws.proofs.Related.{SameEntry, SameLogs, PartLogs, SameResult, SameRan, Void}
use Rattle.cc_laws.proofs.Related as related
use Rattle.source_laws.specs.Renumbering.{renumber_cell, renumber_placed, renumber_event, renumber_entry, Renumbers}
use Rattle.source_laws.proofs.SameTrees.{same_main}
use Rattle.source_laws.proofs.SameInputs.{cells, cells_to, cells_from, data_same, base_same, params_same}
use Rattle.source_laws.proofs.SameTraces.{renumber_shadow, renumber_data, args_same, cells_same, renumbering}

module _ (r : ℕ → ℕ) where
  -- ---- objects are made by the kinds of their cells

  kinds_same : (cs : List Cell) → map base.zero_cell (cells r cs) ≡ map base.zero_cell cs
  unfolding base.zero_cell
  kinds_same [] = refl
  kinds_same (int_cell ∷ cs) = ap (λ l. base.num (pos 0) ∷ l) (kinds_same cs)
  kinds_same (ptr_cell t ∷ cs) = ap (λ l. base.null ∷ l) (kinds_same cs)

  made_by : (t u : Layout) → u.cells ≡ cells r t.cells → map base.zero_cell t.cells ≡ map base.zero_cell u.cells
  made_by t u e = sym (ap (map base.zero_cell) e ∙ kinds_same t.cells)

  blind_plain : (t u : Layout) (x : base.Data) → u.cells ≡ cells r t.cells → base.make t x ≡ base.make u x
  unfolding base.make
  blind_plain t u x e = ap (λ l. record { value = base.at (base.made (length x.made)) 0; after = record x { made = x.made ++ l ∷ [] } }) (made_by t u e)

  module _ (f : Forms) where
    shadows_same : (cs : List Cell) → map (on.zero_shadow f) (cells r cs) ≡ map (on.zero_shadow f) cs
    unfolding on.zero_shadow
    shadows_same [] = refl
    shadows_same (int_cell ∷ cs) = ap (λ l. form (f.number (pos 0)) ∷ l) (shadows_same cs)
    shadows_same (ptr_cell t ∷ cs) = ap (λ l. none ∷ l) (shadows_same cs)

    blind_traced : (t u : Layout) (x : Data) → u.cells ≡ cells r t.cells → on.make f t x ≡ on.make f u x
    unfolding on.make
    blind_traced t u x e = ap₂ (λ m l. record {
      value = record { plain = m.value; shadow = none };
      after = record { plain = m.after; shadows = record x.shadows { made = (x.shadows).made ++ l ∷ [] } };
    })
        (blind_plain t u x.plain e) (sym (ap (map (on.zero_shadow f)) e ∙ shadows_same t.cells))

  module _ (p q : Program) (h : Renumbers r p q) where
    pub one : (m n : ℕ) → nat_eq (r m) (r n) ≡ nat_eq m n
    one m n = elim (eqb_tells (r m) (r n)) [
      | inl e ↦ elim (eqb_tells m n) [ inl i ↦ e.0 ∙ sym i.0 | inr i ↦ absurd (i.1 (h.one_to_one m n e.1)) ]
      | inr e ↦ elim (eqb_tells m n) [ inl i ↦ absurd (e.1 (ap r i.1)) | inr i ↦ e.0 ∙ sym i.0 ]
    ]

    -- ---- inputs

    pub input_to : (b : Limits) (i : Input) → IsInput p b i → IsInput q b i
    input_to b i k = let e = params_same r p q h in (
      subst (λ cs. AreCells q.layouts b cs [] (suc (length cs)) i.cells) (sym e)
          (subst (λ n. AreCells q.layouts b (cells r (params_of p)) [] (suc n) i.cells) (sym (length-map (params_of p) (renumber_cell r)))
          (cells_to r h.one_to_one p.layouts q.layouts h.layouts b i.cells (params_of p) [] (suc (length (params_of p))) k.0)),
      k.1,
    )

    pub input_from : (b : Limits) (i : Input) → IsInput q b i → IsInput p b i
    input_from b i k = let e = params_same r p q h in (
      cells_from r h.one_to_one p.layouts q.layouts h.layouts b i.cells (params_of p) [] (suc (length (params_of p)))
          (subst (λ n. AreCells q.layouts b (cells r (params_of p)) [] (suc n) i.cells) (length-map (params_of p) (renumber_cell r))
          (subst (λ cs. AreCells q.layouts b cs [] (suc (length cs)) i.cells) e k.0)),
      k.1,
    )

    pub base_input_same : (b : Limits) → base_input_of b (params_of p) ≡ base_input_of b (params_of q)
    base_input_same b = ap (λ l. record { cells = l; stream = [] }) (sym (ap (map (base_cell b)) (params_same r p q h) ∙ base_same r b (params_of p)))

    -- ---- runs

    pub begin_same : (b : Limits) (i : Input) → begin_of q b i ≡ begin_of p b i
    unfolding begin_of
    begin_same b i = ap₂ (λ l g. record { locals = locals_at; data_now = base.data_of q.layouts l (map value_of_start g) i.cells i.stream (base_of b) }) (params_same r p q h) h.globals
        ∙ ap (λ d. record { locals = locals_at; data_now = d }) (data_same r h.one_to_one p.layouts q.layouts h.layouts (params_of p) (map value_of_start p.globals) i.cells i.stream (base_of b))

    abbrev start : {V D : Type 0} → Limits → Begin V D → State V D
    start b k = record { steps = b.steps; events = b.depth; locals = k.locals; data_now = k.data_now }

    pub run_same : (b : Limits) (i : Input) → run_of p b i ≡ run_of q b i
    unfolding run_of run
    run_same b i = same_main plain r blind_plain b.objects (suc b.steps) p q h.line h.funcs h.entry (start b (begin_of p b i))
        ∙ ap (λ k. main plain (fixed_of q b) (start b k)) (sym (begin_same b i))

    pub path_same : (b : Limits) (i : Input) → path_at p b i ≡ path_at q b i
    unfolding path_at
    path_same b i = ap (λ k. path_of plain k.log) (run_same b i)

    pub end_same : (b : Limits) (i : Input) → end_at p b i ≡ end_at q b i
    unfolding end_at
    end_same b i = ap (λ k. end_of k.result) (run_same b i)

    -- ---- traced runs

    module _ (f : Forms) (b : Limits) (i : Input) where
      starts_same : (l : List Start) → map (renumber_shadow r) (map (start_shadow f) l) ≡ map (start_shadow f) l
      unfolding start_shadow
      starts_same [] = refl
      starts_same (start_number z ∷ l) = ap (λ m. form (f.number z) ∷ m) (starts_same l)
      starts_same (start_null ∷ l) = ap (λ m. none ∷ m) (starts_same l)

      alone_same : (l : List Shadow) → map (map (renumber_shadow r)) (map (λ s. s ∷ []) l) ≡ map (λ s. s ∷ []) (map (renumber_shadow r) l)
      alone_same [] = refl
      alone_same (s ∷ l) = ap (λ m. (renumber_shadow r s ∷ []) ∷ m) (alone_same l)

      made_same : map (map (renumber_shadow r)) (map (λ s. s ∷ []) (on.cell_shadows f 0 (params_of p))) ≡ map (λ s. s ∷ []) (on.cell_shadows f 0 (params_of q))
      made_same = alone_same (on.cell_shadows f 0 (params_of p)) ∙ ap (map (λ s. s ∷ [])) (sym (ap (on.cell_shadows f 0) (params_same r p q h) ∙ cells_same r f 0 (params_of p)))

      places_begin : map (renumber_placed r) (on.arg_places 0 (params_of p)) ≡ on.arg_places 0 (params_of q)
      places_begin = sym (ap (on.arg_places 0) (params_same r p q h) ∙ args_same r f 0 (params_of p))

      shadows_begin : renumber_data r (traced_begin f p b i).data_now ≡ (traced_begin f q b i).data_now
      unfolding traced_begin
      shadows_begin = ap₂ (λ k m. record { plain = k.data_now; shadows = record { made = m; touched = []; places = map (renumber_placed r) (on.arg_places 0 (params_of p)) } })
          (sym (begin_same b i)) (ap₂ (λ g l. g ∷ l) (starts_same p.globals ∙ ap (map (start_shadow f)) (sym h.globals)) made_same)
          ∙ ap (λ l. record { plain = (begin_of q b i).data_now; shadows = record { made = map (start_shadow f) q.globals ∷ map (λ s. s ∷ []) (on.cell_shadows f 0 (params_of q)); touched = []; places = l } }) places_begin

      locals_begin : (n : ℕ) → record { plain = ((traced_begin f p b i).locals n).plain; shadow = renumber_shadow r ((traced_begin f p b i).locals n).shadow } ≡ (traced_begin f q b i).locals n
      unfolding traced_begin
      locals_begin n = refl

      abbrev Rel : related.Related (traced f p.layouts) (traced f q.layouts)
      Rel = renumbering r f one p.layouts q.layouts h.layouts

      both : SameRan (traced f p.layouts) (traced f q.layouts) Rel tt (Void (traced f p.layouts) (traced f q.layouts) Rel) (main (traced f p.layouts) (fixed_of p b) (start b (traced_begin f p b i))) (main (traced f q.layouts) (fixed_of p b) (start b (traced_begin f q b i)))
      both = related.same_main (traced f p.layouts) (traced f q.layouts) Rel (fixed_of p b) tt tt tt (start b (traced_begin f p b i)) (start b (traced_begin f q b i))
          (record { steps = refl; events = refl; locals = locals_begin; data_now = shadows_begin })

      other_tree : main (traced f q.layouts) (fixed_of p b) (start b (traced_begin f q b i)) ≡ main (traced f q.layouts) (fixed_of q b) (start b (traced_begin f q b i))
      other_tree = same_main (traced f q.layouts) r (blind_traced f) b.objects (suc b.steps) p q h.line h.funcs h.entry (start b (traced_begin f q b i))

      same_runs : SameRan (traced f p.layouts) (traced f q.layouts) Rel tt (Void (traced f p.layouts) (traced f q.layouts) Rel) (traced_run f p b i) (traced_run f q b i)
      unfolding traced_run run
      same_runs = subst (SameRan (traced f p.layouts) (traced f q.layouts) Rel tt (Void (traced f p.layouts) (traced f q.layouts) Rel) (main (traced f p.layouts) (fixed_of p b) (start b (traced_begin f p b i)))) other_tree both

      entry_same : (a c : Entry Event) → SameEntry (traced f p.layouts) (traced f q.layouts) Rel tt a c → c ≡ renumber_entry r a
      entry_same a c e = sym (ap₂ (λ k t. record { kind = k; token = t; event = renumber_event r a.event }) e.kind e.token ∙ ap (λ v. record { kind = c.kind; token = c.token; event = v }) e.known)

      logs_same : (l m : List (Entry Event)) → SameLogs (traced f p.layouts) (traced f q.layouts) Rel tt l m → m ≡ map (renumber_entry r) l
      logs_same [] [] k = refl
      logs_same (a ∷ l) (c ∷ m) k = ap₂ (λ s t. s ∷ t) (entry_same a c k.0) (logs_same l m k.1)
      logs_same [] (c ∷ m) k = absurd k
      logs_same (a ∷ l) [] k = absurd k

      no_part : (l m : List (Entry Event)) → PartLogs (traced f p.layouts) (traced f q.layouts) Rel tt l m → ⊥
      no_part (a ∷ l) (c ∷ m) (inl k) = no_part l m k.1
      no_part (a ∷ l) (c ∷ m) (inr k) = k.2
      no_part [] [] k = k
      no_part [] (c ∷ m) k = k
      no_part (a ∷ l) [] k = k

      last_same : (x y : Result (State Traced Data) (Unit {0})) → SameResult (traced f p.layouts) (traced f q.layouts) Rel tt (Void (traced f p.layouts) (traced f q.layouts) Rel) x y → (last_state y).data_now.shadows.places ≡ map (renumber_placed r) (last_state x).data_now.shadows.places
      last_same (ok a s) (ok c t) k = sym (ap (λ d. d.shadows.places) (k.1).data_now)
      last_same (over e s) (over g t) k = sym (ap (λ d. d.shadows.places) (k.1).data_now)
      last_same (ok a s) (over g t) k = absurd k
      last_same (over e s) (ok c t) k = absurd k

      pub events_same : events_of f q b i ≡ map (renumber_entry r) (events_of f p b i)
      unfolding events_of
      events_same = elim same_runs [ inl k ↦ logs_same (traced_run f p b i).log (traced_run f q b i).log k.2 | inr k ↦ absurd (no_part (traced_run f p b i).log (traced_run f q b i).log k.2) ]

      pub places_same : places_of f q b i ≡ map (renumber_placed r) (places_of f p b i)
      unfolding places_of
      places_same = elim same_runs [ inl k ↦ last_same (traced_run f p b i).result (traced_run f q b i).result k.3 | inr k ↦ absurd (no_part (traced_run f p b i).log (traced_run f q b i).log k.2) ]
