-- What a machine is after an event.
use Rattle.std.proofs.Common.{◌≡◌, refl, sym, ap, subst, ◌∙◌, arith, ℕ, suc, ℤ, pos, Bool, true, false, List, [], ◌∷◌, ◌++◌, length, Option, Some, None}
use Rattle.std.specs.List.{slice_set}
use Rattle.cc_base.specs.declared.outcomes.Outcome.{Outcome}
use Rattle.cc_base.specs.declared.outcomes.Outcome.TheVariants.{Plain}
use Rattle.cc_base.specs.declared.ends.End.TheVariants as end
use Rattle.cc_base.specs.declared.ends.FaultKind.{FaultKind}
use Rattle.checked_memory.specs.declared.values.Cell.{Cell as Held}
use Rattle.checked_memory.specs.declared.values.Value.TheVariants.{Int}
use Rattle.cc_model.specs.declared.checked.Checked.{Checked}
use Rattle.cc_model.specs.declared.checked.SiteId.{SiteId}
use Rattle.cc_model.specs.declared.checked.SiteKind.{SiteKind}
use Rattle.cc_model.specs.declared.checked.SiteKind.TheVariants as site
use Rattle.cc_model.specs.CheckedProgram.{cells_at, core_of}
use Rattle.cc_model.specs.Domain.{Act}
use Rattle.cc_model.specs.Instructions as instr
use Rattle.cc_model.specs.Meaning as of
use Rattle.cc_model.specs.Meaning.{Entry, over, is_true}
use Rattle.cc_model.specs.Runs.{fixed_of}
use Rattle.cc_model.specs.Traced as traced
use Rattle.cc_model.specs.Traced.{Traced, Data}
use Rattle.cc_laws.specs.LinearForms.{linear}
use Rattle.sym_run.specs.declared.asked.Asked.{Asked}
use Rattle.sym_run.specs.declared.machine.Machine.{Machine}
use Rattle.sym_run.specs.declared.journal.Journal.{Journal}
use Rattle.sym_run.specs.Asks.{asked_of}
use Rattle.sym_run.specs.Remembers.{Remembers, names_in}
use Rattle.sym_run.specs.Stands.{Setting, Holds, domain, Conf, St, Log, IsSite, Stands, Ends, IsJournal}
use Rattle.sym_run.specs.Acting.{IsMet, gives_if, given_if, bit, checks, decides, Settled, DecidedAt}
use Rattle.sym_run.proofs.MonadLaws.{entry, met, checked_ends, checked_goes, checked_faults, decided_ends, decided_goes}
use Rattle.sym_run.proofs.StandsLaws.{facts_put, number_holds, ends_there}

-- a journal with the next event
abbrev pub Recorded : SiteId → Outcome → Asked → ℕ → Journal → Journal → Type 0
Recorded site o asked places old new =
    (c : Checked) (l : List (Entry traced.Event)) (a : Entry traced.Event)
    → IsSite c site a.kind a.token → (a.event).outcome ≡ o → (a.event).asked ≡ asked_of asked → length (a.event).places ≡ places
    → IsJournal c l old → IsJournal c (l ++ a ∷ []) new

module _ (w : Setting) where
  -- a result after an event
  event_given : (m new : Machine) (c : Conf w) (s : St w) (log more : Log w) (k : ℕ) (d : Data) (j : Journal) (dst : Option ℕ) (v : Traced) (cell : Held) → (st : Stands w m c s log) → d ≡ s.data_now
      → IsJournal w.checked (log ++ more) j → ((n : ℕ) → dst ≡ Some n → Holds st.named (names_in m.objects) m.symbols v cell)
      → (let x : Machine = record m { events_left = k; journal = j } in new ≡ given_if x dst cell)
      → Stands w new (gives_if w c dst v) (record s { events = k; data_now = d }) (log ++ more)
  event_given m new c s log more k d j None v cell st e i h f = subst (λ (x : Machine). Stands w x (gives_if w c None v) (record s { events = k; data_now = d }) (log ++ more)) (sym f) (record {
    start = st.start;
    named = st.named;
    begun = st.begun;
    pc = ap (λ (p : ℕ). suc p) st.pc;
    temps = st.temps;
    slots = st.slots;
    stack = st.stack;
    steps = st.steps;
    events = refl;
    data_now = subst (λ (x : Data). Remembers st.start st.named m.symbols m.objects x) (sym e) st.data_now;
    journal = i;
  })
  event_given m new c s log more k d j (Some n) v cell st e i h f = subst (λ (x : Machine). Stands w x (gives_if w c (Some n) v) (record s { events = k; data_now = d }) (log ++ more)) (sym f) (record {
    start = st.start;
    named = st.named;
    begun = st.begun;
    pc = ap (λ (p : ℕ). suc p) st.pc;
    temps = facts_put (Holds st.named (names_in m.objects) m.symbols) (λ b. b) c.temps m.temps n v cell (λ b f. subst (λ (y : Held). Holds st.named (names_in m.objects) m.symbols v y) f (h n refl)) st.temps;
    slots = st.slots;
    stack = st.stack;
    steps = st.steps;
    events = refl;
    data_now = subst (λ (x : Data). Remembers st.start st.named m.symbols m.objects x) (sym e) st.data_now;
    journal = i;
  })

  -- the events that are recorded
  event_recorded : (m : Machine) (c : Conf w) (s : St w) (log : Log w) (a : Act Traced) (k : SiteKind) (t places : ℕ) (o : Outcome) (asked : Asked) (x : SiteId) (j : Journal) → Stands w m c s log
      → IsMet (cells_at w.checked) a s.data_now o asked → IsSite w.checked x k t → places ≡ length (m.objects).places → Recorded x o asked places m.journal j → IsJournal w.checked (log ++ entry (domain w) k t a s ∷ []) j
  event_recorded m c s log a k t places o asked x j st h y q r = r w.checked log (entry (domain w) k t a s) y h.outcome h.asks (ap (λ l. length l) (h.places ∙ (st.data_now).places) ∙ sym q) st.journal

  module _ (m new : Machine) (k : SiteKind) (f : FaultKind) (t : ℕ) (dst : Option ℕ) (o : Outcome) (asked : Asked) (cell : Held) where
    pub settled_cut : m.events_left ≡ 0 → Settled w m m k f t dst o asked cell (Some end.Cut)
    settled_cut e c s log a st h = ends_there w m m c s s log (λ r. checks w k f t a (λ v. r (gives_if w c dst v))) end.Cut st refl refl
        (λ r. checked_ends (domain w) (fixed_of (core_of w.checked) w.limits) t s k f a (λ v. r (gives_if w c dst v)) (st.events ∙ e))

    pub settled_goes : (n places : ℕ) (j : Journal) (x : SiteId) → m.events_left ≡ suc n → places ≡ length (m.objects).places → IsSite w.checked x k t → Recorded x o asked places m.journal j
        → o ≡ Plain → (let y : Machine = record m { events_left = n; journal = j } in new ≡ given_if y dst cell) → Settled w m new k f t dst o asked cell None
    settled_goes n places j x e q y r p i c s log a st h = record {
      config = gives_if w c dst (traced.act linear (cells_at w.checked) a s.data_now).value;
      state = met (domain w) a s n;
      more = entry (domain w) k t a s ∷ [];
      stands = event_given m new c s log (entry (domain w) k t a s ∷ []) n (traced.act linear (cells_at w.checked) a s.data_now).after j dst (traced.act linear (cells_at w.checked) a s.data_now).value cell st (h.met).after
          (event_recorded m c s log a k t places o asked x j st h.met y q r) (λ b z. h.value b z p) i;
      does = λ z. checked_goes (domain w) (fixed_of (core_of w.checked) w.limits) t s k f a (λ v. z (gives_if w c dst v)) n (st.events ∙ e) ((h.met).outcome ∙ p);
    }

    pub settled_fault : (n places line : ℕ) (j : Journal) (x : SiteId) → m.events_left ≡ suc n → places ≡ length (m.objects).places → IsSite w.checked x k t → Recorded x o asked places m.journal j
        → (o ≡ Plain → ⊥) → line ≡ (core_of w.checked).line t → new.journal ≡ j → (new.objects).places ≡ (m.objects).places → Settled w m new k f t dst o asked cell (Some (end.Fault f line))
    settled_fault n places line j x e q y r p l i u c s log a st h = subst (λ (z : ℕ). Ends w new s log (λ r. checks w k f t a (λ v. r (gives_if w c dst v))) (end.Fault f z)) (sym l) (record {
      state = met (domain w) a s n;
      more = entry (domain w) k t a s ∷ [];
      journal = subst (λ (z : Journal). IsJournal w.checked (log ++ entry (domain w) k t a s ∷ []) z) (sym i) (event_recorded m c s log a k t places o asked x j st h.met y q r);
      places = ap (λ (z : Data). (z.shadows).places) (h.met).after ∙ (st.data_now).places ∙ sym u;
      does = λ z. checked_faults (domain w) (fixed_of (core_of w.checked) w.limits) t s k f a (λ v. z (gives_if w c dst v)) n (st.events ∙ e) (λ b. p (sym (h.met).outcome ∙ b));
    })

  bit_holds : (m : Machine) (c : Conf w) (s : St w) (log : Log w) (st : Stands w m c s log) (b : Bool) → Holds st.named (names_in m.objects) m.symbols (of.truth_value (domain w) (fixed_of (core_of w.checked) w.limits) b) (record { value = Int (bit b); shadow = 0 })
  unfolding of.truth_value
  bit_holds m c s log st true = number_holds st.named (names_in m.objects) m.symbols (pos 1) (omega arith, omega arith)
  bit_holds m c s log st false = number_holds st.named (names_in m.objects) m.symbols (pos 0) (omega arith, omega arith)

  module _ (m new : Machine) (t dst : ℕ) (o : Outcome) (asked : Asked) where
    pub decided_cut : m.events_left ≡ 0 → DecidedAt w m m t dst o asked (Some end.Cut)
    decided_cut e c s log a st h = ends_there w m m c s s log (λ k. decides w t a (λ b. k (instr.gives (domain w) c dst (of.truth_value (domain w) (fixed_of (core_of w.checked) w.limits) b)))) end.Cut st refl refl
        (λ k. decided_ends (domain w) (fixed_of (core_of w.checked) w.limits) t s a (λ b. k (instr.gives (domain w) c dst (of.truth_value (domain w) (fixed_of (core_of w.checked) w.limits) b))) (st.events ∙ e))

    pub decided_done : (n places : ℕ) (j : Journal) (x : SiteId) (z : ℤ) → m.events_left ≡ suc n → places ≡ length (m.objects).places → IsSite w.checked x site.Decision t → Recorded x o asked places m.journal j
        → z ≡ bit (is_true o) → new ≡ record m { pc = suc m.pc; temps = slice_set m.temps dst (record { value = Int z; shadow = 0 }); events_left = n; journal = j } → DecidedAt w m new t dst o asked None
    decided_done n places j x z e q y r b i c s log a st h =
        let d = (traced.act linear (cells_at w.checked) a s.data_now) in
        let tell : Outcome → Traced = λ p. of.truth_value (domain w) (fixed_of (core_of w.checked) w.limits) (is_true p) in
        record {
          config = instr.gives (domain w) c dst (tell (d.event).outcome);
          state = met (domain w) a s n;
          more = entry (domain w) site.Decision t a s ∷ [];
          stands = event_given m new c s log (entry (domain w) site.Decision t a s ∷ []) n d.after j (Some dst) (tell (d.event).outcome) (record { value = Int z; shadow = 0 }) st h.after
              (event_recorded m c s log a site.Decision t places o asked x j st h y q r)
              (λ u v. subst (λ (p : Outcome). Holds st.named (names_in m.objects) m.symbols (tell p) (record { value = Int z; shadow = 0 })) (sym h.outcome)
              (subst (λ (y : ℤ). Holds st.named (names_in m.objects) m.symbols (tell o) (record { value = Int y; shadow = 0 })) (sym b) (bit_holds m c s log st (is_true o)))) i;
          does = λ k. decided_goes (domain w) (fixed_of (core_of w.checked) w.limits) t s a (λ b. k (instr.gives (domain w) c dst (of.truth_value (domain w) (fixed_of (core_of w.checked) w.limits) b))) n (st.events ∙ e);
        }
