-- What the instructions on memory come to.
use Rattle.std.proofs.Common.{◌≡◌, refl, sym, ap, subst, ◌∙◌, ℕ, suc, ◌+◌, ◌<◌, ℤ, pos, negsuc, ◌≤ℤ◌, List, [], ◌∷◌, ◌++◌, length, map, unwrap_or, Some, None, nat_eq, if◌then◌else◌}
use Rattle.std.specs.List.{slice_get, slice_set}
use Rattle.std.proofs.lemmas.List.{append-nil, length-map}
use Rattle.cc_base.specs.declared.cells.CellTy.{CellTy}
use Rattle.cc_base.specs.declared.outcomes.Outcome.{Outcome}
use Rattle.cc_base.specs.declared.ends.End.{End}
use Rattle.cc_base.specs.declared.ends.End.TheVariants as end
use Rattle.cc_base.specs.declared.ends.FaultKind.TheVariants.{Null as NullFault}
use Rattle.cc_base.specs.Limits.{base_of}
use Rattle.cc_base.specs.Places.{Placed}
use Rattle.checked_memory.specs.declared.values.Cell.{Cell as Held}
use Rattle.checked_memory.specs.declared.values.Value.TheVariants.{Null}
use Rattle.cc_model.specs.declared.checked.SiteId.{SiteId}
use Rattle.cc_model.specs.declared.checked.SiteKind.TheVariants as site
use Rattle.cc_model.specs.Canonical.{Named}
use Rattle.cc_model.specs.CheckedProgram.{cell_of, cells_at, layout_at, core_of}
use Rattle.cc_model.specs.Core as core
use Rattle.cc_model.specs.Domain.{act_access, Acted}
use Rattle.cc_model.specs.Instructions as instr
use Rattle.cc_model.specs.Instructions.{i_load, i_store, i_take, i_local, i_malloc, i_access, act}
use Rattle.cc_model.specs.Meaning as of
use Rattle.cc_model.specs.Plain as plain
use Rattle.cc_model.specs.Runs.{fixed_of, params_of, value_of_start}
use Rattle.cc_model.specs.Traced as traced
use Rattle.cc_model.specs.Traced.{Traced, Data}
use Rattle.cc_laws.specs.LinearForms.{linear}
use Rattle.sym_run.specs.declared.acted.Acted.{Acted as Given}
use Rattle.sym_run.specs.declared.journal.Journal.{Journal}
use Rattle.sym_run.specs.declared.machine.Machine.{Machine}
use Rattle.sym_run.specs.declared.objects.Objects.{Objects}
use Rattle.sym_run.specs.declared.symbols.Symbol.{Symbol}
use Rattle.sym_run.specs.Acting.{access_end}
use Rattle.sym_run.specs.Beside.{IsCell, traced_of}
use Rattle.sym_run.specs.Blocks.{named_in}
use Rattle.sym_run.specs.Follows.{HasBlocks, accessed, Follows}
use Rattle.sym_run.specs.Numbers.{Grows}
use Rattle.sym_run.specs.Remembers.{Remembers, IsKnown, names_in}
use Rattle.sym_run.specs.Stands.{Setting, domain, Conf, St, Log, Done, acts, IsSite, IsBegun, Stands, Goes, Ends, Did, IsJournal}
use Rattle.sym_run.proofs.ActingLaws.{Recorded}
use Rattle.sym_run.proofs.Appended.{Grows-refl}
use Rattle.sym_run.proofs.EnterLaws.{has_blocks}
use Rattle.sym_run.proofs.InstructionLaws.{value_done}
use Rattle.sym_run.proofs.MonadLaws.{entry, met, make_goes, bind_goes, steps_end, accessed_ends, accessed_goes, accessed_over}
use Rattle.sym_run.proofs.StandsLaws.{same_names, stands_all, stands_bound, goes_on, ends_there}

-- objects with one more, to whose first cell the cell points
abbrev pub MadeBy : Objects → List CellTy → Objects → Held → Type 0
MadeBy before cells o cell = (start : plain.Data) (named : List Named) (symbols : List Symbol) (d : Data) (type : core.Layout) → Remembers start named symbols before d → type.cells ≡ map cell_of cells
    → (traced_of symbols cell ≡ (traced.make linear type d).value) × Remembers start named symbols o (traced.make linear type d).after × IsKnown named (names_in o) symbols cell

module _ (w : Setting) (m new : Machine) where
  -- ---- loads and stores

  pub load_did : (dst a : ℕ) (at cell : Held) → slice_get m.temps a ≡ Some at
      → ((start : plain.Data) (named : List Named) (symbols : List Symbol) (d : Data) → Remembers start named symbols m.objects d → IsCell symbols at → (traced_of symbols cell ≡ traced.load (traced_of symbols at) d) × IsKnown named (names_in m.objects) symbols cell)
      → new ≡ record m { pc = suc m.pc; temps = slice_set m.temps dst cell } → Did w m new (i_load dst a) None
  unfolding act of.load of.◌>>=◌ of.go_on of.prepend
  load_did dst a at cell e h f = value_done w m new (i_load dst a) dst cell (λ c s. traced.load (c.temps a) s.data_now) f (λ c s k. refl) (λ c s log st.
      let g = h st.start st.named m.symbols s.data_now st.data_now ((st.temps a at e).known).cell in
      record {
        value = ap (λ (v : Traced). traced.load v s.data_now) (st.temps a at e).value ∙ sym g.0;
        known = g.1;
      })

  -- data that an instruction leaves, at the next one
  data_done : (c : Conf w) (s : St w) (log : Log w) (o : Objects) (symbols : List Symbol) (d : Data) → (st : Stands w m c s log) → names_in o ≡ names_in m.objects → Grows m.symbols symbols → Remembers st.start st.named symbols o d
      → new ≡ record m { pc = suc m.pc; objects = o; symbols = symbols } → Stands w new (instr.next (domain w) c) (record s { data_now = d }) log
  data_done c s log o symbols d st e g r f = subst (λ (x : Machine). Stands w x (instr.next (domain w) c) (record s { data_now = d }) log) (sym f)
      (stands_all w m c s log log o symbols d m.journal s.steps m.steps s.events m.events_left None traced.nil (record { value = Null; shadow = 0 }) st (same_names (names_in m.objects) (names_in o) m.symbols symbols e g) r st.journal st.steps st.events (λ i x. absurd (cc x)))

  pub store_did : (a b : ℕ) (at cell : Held) (o : Objects) → slice_get m.temps a ≡ Some at → slice_get m.temps b ≡ Some cell
      → ((start : plain.Data) (named : List Named) (symbols : List Symbol) (d : Data) → Remembers start named symbols m.objects d → IsCell symbols at → IsKnown named (names_in m.objects) symbols cell → Remembers start named symbols o (traced.store (traced_of symbols at) (traced_of symbols cell) d))
      → names_in o ≡ names_in m.objects → new ≡ record m { pc = suc m.pc; objects = o } → Did w m new (i_store a b) None
  unfolding act of.store of.◌>>◌ of.◌>>=◌ of.go_on of.prepend
  store_did a b at cell o e f h n g c s log st =
      let x = st.temps a at e in
      let y = st.temps b cell f in
      let r = h st.start st.named m.symbols s.data_now st.data_now (x.known).cell y.known in
      let r' = subst (λ (v : Traced). Remembers st.start st.named m.symbols o (traced.store v (c.temps b) s.data_now)) (sym x.value) (subst (λ (v : Traced). Remembers st.start st.named m.symbols o (traced.store (traced_of m.symbols at) v s.data_now)) (sym y.value) r) in
      goes_on w new s (record s { data_now = traced.store (c.temps a) (c.temps b) s.data_now }) log (λ k. acts w (i_store a b) k c) (instr.next (domain w) c)
      (data_done c s log o m.symbols (traced.store (c.temps a) (c.temps b) s.data_now) st n (Grows-refl m.symbols) r' g) (λ k. refl)

  stream_is : (start : plain.Data) (named : List Named) → IsBegun w start named → start.stream ≡ (w.input).stream
  unfolding plain.data_of
  stream_is start named b = ap (λ (x : plain.Data). x.stream) b.start_is

  base_is : (start : plain.Data) (named : List Named) → IsBegun w start named → start.base ≡ base_of w.limits
  unfolding plain.data_of
  base_is start named b = ap (λ (x : plain.Data). x.base) b.start_is

  pub take_did : (a : ℕ) (at : Held) (o : Objects) (symbols : List Symbol) (base : ℤ) → slice_get m.temps a ≡ Some at → base ≡ base_of w.limits
      → ((start : plain.Data) (named : List Named) (d : Data) → Remembers start named m.symbols m.objects d → IsCell m.symbols at → start.stream ≡ (w.input).stream → start.base ≡ base → Remembers start named symbols o (traced.take linear (traced_of m.symbols at) d))
      → Grows m.symbols symbols → names_in o ≡ names_in m.objects → new ≡ record m { pc = suc m.pc; objects = o; symbols = symbols } → Did w m new (i_take a) None
  unfolding act of.take of.◌>>◌ of.◌>>=◌ of.go_on of.prepend
  take_did a at o symbols base e b h g n f c s log st =
      let x = st.temps a at e in
      let r = h st.start st.named s.data_now st.data_now (x.known).cell (stream_is st.start st.named st.begun) (base_is st.start st.named st.begun ∙ sym b) in
      let r' = subst (λ (v : Traced). Remembers st.start st.named symbols o (traced.take linear v s.data_now)) (sym x.value) r in
      goes_on w new s (record s { data_now = traced.take linear (c.temps a) s.data_now }) log (λ k. acts w (i_take a) k c) (instr.next (domain w) c)
      (data_done c s log o symbols (traced.take linear (c.temps a) s.data_now) st n g r' f) (λ k. refl)

  -- ---- new objects

  steps_over : (i : instr.Instruction) (count : ℕ) (rest : (Conf w → Done w) → Conf w → Done w) → m.steps < count → (let x : Machine = record m { steps = new.steps } in new ≡ x)
      → ((c : Conf w) (k : Conf w → Done w) → acts w i k c ≡ of.◌>>◌ (domain w) (of.steps (domain w) count) (rest k c)) → Did w m new i (Some end.Steps)
  steps_over i count rest h f e c s log st = record {
    state = record s { steps = 0 };
    more = [];
    journal = subst (λ (l : Log w). IsJournal w.checked l new.journal) (sym (append-nil log)) (subst (λ (x : Machine). IsJournal w.checked log x.journal) (sym f) st.journal);
    places = (st.data_now).places ∙ sym (ap (λ (x : Machine). (x.objects).places) f);
    does = λ k. ap (λ (z : Done w). z s) (e c k) ∙ steps_end (domain w) count m.steps (rest k c) s st.steps h;
  }

  module _ (id : ℕ) (cells : List CellTy) (same : cells ≡ unwrap_or (slice_get (w.checked).layouts id) []) where
    abbrev the_layout : core.Layout
    the_layout = layout_at w.checked id

    cells_are : the_layout.cells ≡ map cell_of cells
    cells_are = sym (ap (map cell_of) same)

    counts : (n : ℕ) → n ≡ length cells → length the_layout.cells ≡ n
    counts n e = ap (λ (l : List core.Cell). length l) cells_are ∙ length-map cells cell_of ∙ sym e

    pub local_over : (slot n : ℕ) → n ≡ length cells → m.steps < n → (let x : Machine = record m { steps = new.steps } in new ≡ x) → Did w m new (i_local slot the_layout) (Some end.Steps)
    unfolding act
    local_over slot n q h f = steps_over (i_local slot the_layout) (length the_layout.cells)
        (λ k c. of.◌>>=◌ (domain w) (of.make (domain w) the_layout) (λ v. of.◌>>◌ (domain w) (of.bind (domain w) slot v) (k (instr.next (domain w) c))))
        (subst (λ (x : ℕ). m.steps < x) (sym (counts n q)) h) f (λ c k. refl)

    pub malloc_over : (dst n : ℕ) → n ≡ length cells → m.steps < n → (let x : Machine = record m { steps = new.steps } in new ≡ x) → Did w m new (i_malloc dst the_layout) (Some end.Steps)
    unfolding act
    malloc_over dst n q h f = steps_over (i_malloc dst the_layout) (length the_layout.cells)
        (λ k c. of.◌>>=◌ (domain w) (of.make (domain w) the_layout) (λ v. k (instr.gives (domain w) c dst v)))
        (subst (λ (x : ℕ). m.steps < x) (sym (counts n q)) h) f (λ c k. refl)

    pub local_did : (slot n j : ℕ) (o : Objects) (cell : Held) → n ≡ length cells → m.steps ≡ n + j → MadeBy m.objects cells o cell → names_in o ≡ names_in m.objects
        → new ≡ record m { pc = suc m.pc; objects = o; steps = j; slots = slice_set m.slots slot (Some cell) } → Did w m new (i_local slot the_layout) None
    unfolding act
    local_did slot n j o cell q h made names f c s log st =
        let r = made st.start st.named m.symbols s.data_now the_layout st.data_now cells_are in
        let it = traced.make linear the_layout s.data_now in
        let e : s.steps ≡ length the_layout.cells + j = st.steps ∙ h ∙ ap (λ (x : ℕ). x + j) (sym (counts n q)) in
        goes_on w new s (record s { steps = j; data_now = it.after; locals = λ i. if nat_eq i slot then it.value else s.locals i }) log (λ k. acts w (i_local slot the_layout) k c) (instr.next (domain w) c)
        (subst (λ (x : Machine). Stands w x (instr.next (domain w) c) (record s { steps = j; data_now = it.after; locals = λ i. if nat_eq i slot then it.value else s.locals i }) log) (sym f)
        (stands_bound w m c s log o it.after j j (suc c.pc) (suc m.pc) slot it.value cell st names r.1 refl (ap (λ (p : ℕ). suc p) st.pc) (record { value = sym r.0; known = r.2 })))
        (λ k. make_goes (domain w) the_layout (λ v. of.◌>>◌ (domain w) (of.bind (domain w) slot v) (k (instr.next (domain w) c))) s j e
        ∙ bind_goes (domain w) slot it.value (k (instr.next (domain w) c)) (record s { steps = j; data_now = it.after }))

    pub malloc_did : (dst n j : ℕ) (o : Objects) (cell : Held) → n ≡ length cells → m.steps ≡ n + j → MadeBy m.objects cells o cell → names_in o ≡ names_in m.objects
        → new ≡ record m { pc = suc m.pc; objects = o; steps = j; temps = slice_set m.temps dst cell } → Did w m new (i_malloc dst the_layout) None
    unfolding act
    malloc_did dst n j o cell q h made names f c s log st =
        let r = made st.start st.named m.symbols s.data_now the_layout st.data_now cells_are in
        let it = traced.make linear the_layout s.data_now in
        let e : s.steps ≡ length the_layout.cells + j = st.steps ∙ h ∙ ap (λ (x : ℕ). x + j) (sym (counts n q)) in
        goes_on w new s (record s { steps = j; data_now = it.after }) log (λ k. acts w (i_malloc dst the_layout) k c) (instr.gives (domain w) c dst it.value)
        (subst (λ (x : Machine). Stands w x (instr.gives (domain w) c dst it.value) (record s { steps = j; data_now = it.after }) log) (sym f)
        (stands_all w m c s log log o m.symbols it.after m.journal j j s.events m.events_left (Some dst) it.value cell st (same_names (names_in m.objects) (names_in o) m.symbols m.symbols names (Grows-refl m.symbols)) r.1 st.journal refl st.events
        (λ i x. record { value = sym r.0; known = r.2 })))
        (λ k. make_goes (domain w) the_layout (λ v. k (instr.gives (domain w) c dst v)) s j e)

  -- ---- accesses

  module _ (dst a t : ℕ) (at : Held) (there : slice_get m.temps a ≡ Some at) where
    body : Conf w → (Conf w → Done w) → Traced → Done w
    body c k v = of.◌>>=◌ (domain w) (of.accessed (domain w) (fixed_of (core_of w.checked) w.limits) t v) (λ u. k (instr.gives (domain w) c dst u))

    pub access_cut : m.events_left ≡ 0 → Did w m m (i_access t dst a) (Some end.Cut)
    unfolding act
    access_cut e c s log st = ends_there w m m c s s log (λ k. acts w (i_access t dst a) k c) end.Cut st refl refl
        (λ k. accessed_ends (domain w) (fixed_of (core_of w.checked) w.limits) t s (c.temps a) (λ u. k (instr.gives (domain w) c dst u)) (st.events ∙ e))

    module _ (n places : ℕ) (j : Journal) (x : SiteId) (o : Objects) (symbols : List Symbol) (r : Given)
        (left : m.events_left ≡ suc n) (count : places ≡ length (m.objects).places) (known_site : IsSite w.checked x site.Access t) (recorded : Recorded x r.outcome r.asked places m.journal j)
        (low : negsuc 2147483647 ≤ℤ (w.limits).lo) (high : (w.limits).hi ≤ℤ pos 2147483647) (tys : List (List CellTy)) (all : tys ≡ (w.checked).layouts)
        (follows : (start : plain.Data) (named : List Named) (d : Data) (layout_of : ℕ → List core.Cell) → HasBlocks tys w.input layout_of named start → Remembers start named m.symbols m.objects d → IsKnown named (names_in m.objects) m.symbols at
        → Follows start named symbols o r (accessed layout_of m.symbols at d)) where
      blocks : (start : plain.Data) (named : List Named) → IsBegun w start named → HasBlocks tys w.input (cells_at w.checked) named start
      blocks start named b =
          subst (λ (l : List (List CellTy)). HasBlocks l w.input (cells_at w.checked) named start) (sym all)
          (subst (λ (l : List Named). HasBlocks (w.checked).layouts w.input (cells_at w.checked) l start) (sym b.named_are)
          (subst (λ (d : plain.Data). HasBlocks (w.checked).layouts w.input (cells_at w.checked) (named_in (cells_at w.checked) (params_of (core_of w.checked)) w.input) d) (sym b.start_is)
          (has_blocks (w.checked).layouts (cells_at w.checked) w.limits (params_of (core_of w.checked)) (map value_of_start (core_of w.checked).globals) (base_of w.limits) w.input (λ t. refl) low high b.laid)))

      follow : (c : Conf w) (s : St w) (log : Log w) → (st : Stands w m c s log) → Follows st.start st.named symbols o r (accessed (cells_at w.checked) m.symbols at s.data_now)
      follow c s log st = follows st.start st.named s.data_now (cells_at w.checked) (blocks st.start st.named st.begun) st.data_now (st.temps a at there).known

      abbrev taken_in : St w → Acted Traced Data traced.Event
      taken_in s = accessed (cells_at w.checked) m.symbols at s.data_now

      placed : (s : St w) → ((taken_in s).event).places ≡ (s.data_now).shadows.places
      unfolding traced.act
      placed s = refl

      journal_is : (c : Conf w) (s : St w) (log : Log w) → Stands w m c s log → IsJournal w.checked (log ++ entry (domain w) site.Access t (act_access (traced_of m.symbols at)) s ∷ []) j
      journal_is c s log st =
          let f = follow c s log st in
          recorded w.checked log (entry (domain w) site.Access t (act_access (traced_of m.symbols at)) s) known_site (sym f.outcome) (sym f.asked) (ap (λ (l : List Placed). length l) (placed s ∙ (st.data_now).places) ∙ sym count) st.journal

      same_value : (c : Conf w) (s : St w) (log : Log w) → Stands w m c s log → (P : Traced → Type 0) → P (traced_of m.symbols at) → P (c.temps a)
      same_value c s log st P p = subst P (sym (st.temps a at there).value) p

      pub access_over : (z : End) → Some z ≡ access_end r.outcome (w.limits).objects (end.Fault NullFault ((core_of w.checked).line t)) → new.journal ≡ j → (new.objects).places ≡ o.places → Did w m new (i_access t dst a) (Some z)
      unfolding act body
      access_over z e q p c s log st =
          let f = follow c s log st in
          same_value c s log st (λ v. Ends w new s log (λ k. body c k v) z) (record {
            state = met (domain w) (act_access (traced_of m.symbols at)) s n;
            more = entry (domain w) site.Access t (act_access (traced_of m.symbols at)) s ∷ [];
            journal = subst (λ (y : Journal). IsJournal w.checked (log ++ entry (domain w) site.Access t (act_access (traced_of m.symbols at)) s ∷ []) y) (sym q) (journal_is c s log st);
            places = ((f.reaches).after).places ∙ sym p;
            does = λ k. accessed_over (domain w) (fixed_of (core_of w.checked) w.limits) t s (traced_of m.symbols at) (λ u. k (instr.gives (domain w) c dst u)) n z (st.events ∙ left)
                (ap (λ (y : Outcome). access_end y (w.limits).objects (end.Fault NullFault ((core_of w.checked).line t))) (sym f.outcome) ∙ sym e);
          })

      pub access_did : None ≡ access_end r.outcome (w.limits).objects (end.Fault NullFault ((core_of w.checked).line t)) → Grows m.symbols symbols → (more : List ℕ) → names_in o ≡ names_in m.objects ++ more
          → new ≡ record m { pc = suc m.pc; objects = o; symbols = symbols; events_left = n; journal = j; temps = slice_set m.temps dst r.cell } → Did w m new (i_access t dst a) None
      unfolding act body
      access_did e g more names q c s log st =
          let f = follow c s log st in
          let v = (taken_in s).value in
          same_value c s log st (λ v. Goes w new s log (λ k. body c k v)) (record {
            config = instr.gives (domain w) c dst v;
            state = met (domain w) (act_access (traced_of m.symbols at)) s n;
            more = entry (domain w) site.Access t (act_access (traced_of m.symbols at)) s ∷ [];
            stands = subst (λ (y : Machine). Stands w y (instr.gives (domain w) c dst v) (met (domain w) (act_access (traced_of m.symbols at)) s n) (log ++ entry (domain w) site.Access t (act_access (traced_of m.symbols at)) s ∷ [])) (sym q)
                (stands_all w m c s log (log ++ entry (domain w) site.Access t (act_access (traced_of m.symbols at)) s ∷ []) o symbols (taken_in s).after j s.steps m.steps n n (Some dst) v r.cell st
                (record { more = more; names = names; grows = g }) (f.reaches).after (journal_is c s log st) st.steps refl (λ i x. record { value = sym (f.reaches).value; known = (f.reaches).known }));
            does = λ k. accessed_goes (domain w) (fixed_of (core_of w.checked) w.limits) t s (traced_of m.symbols at) (λ u. k (instr.gives (domain w) c dst u)) n (st.events ∙ left)
                (ap (λ (y : Outcome). access_end y (w.limits).objects (end.Fault NullFault ((core_of w.checked).line t))) (sym f.outcome) ∙ sym e);
          })
