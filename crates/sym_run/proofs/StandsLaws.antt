-- What keeps a machine standing for the machine of the meaning.
use Rattle.std.proofs.Common.{◌≡◌, refl, sym, ap, subst, ◌∙◌, inl, inr, arith, ℕ, zero, suc, ℤ, Bool, List, [], ◌∷◌, ◌++◌, reverse, Option, Some, None, nat_eq, if◌then◌else◌}
use Rattle.std.specs.List.{slice_get, slice_set}
use Rattle.std.proofs.lemmas.Bool.Decides.{eqb_tells}
use Rattle.std.proofs.lemmas.List.{append-nil}
use Rattle.cc_base.specs.declared.ends.End.{End}
use Rattle.checked_memory.specs.declared.values.Cell.{Cell as Held}
use Rattle.checked_memory.specs.declared.values.Value.TheVariants.{Int, Null}
use Rattle.cc_model.specs.Canonical.{Named}
use Rattle.cc_model.specs.Instructions as instr
use Rattle.cc_model.specs.Meaning as of
use Rattle.cc_model.specs.Meaning.{over}
use Rattle.cc_model.specs.Traced as traced
use Rattle.cc_model.specs.Traced.{Traced, Data}
use Rattle.cc_laws.specs.LinearForms.{linear}
use Rattle.sym_run.specs.declared.machine.Frame.{Frame}
use Rattle.sym_run.specs.declared.machine.Machine.{Machine}
use Rattle.sym_run.specs.declared.journal.Journal.{Journal}
use Rattle.sym_run.specs.declared.objects.Objects.{Objects}
use Rattle.sym_run.specs.declared.symbols.Symbol.{Symbol}
use Rattle.sym_run.specs.Numbers.{Grows, IsWord}
use Rattle.sym_run.specs.Remembers.{Remembers, IsKnown, names_in}
use Rattle.sym_run.specs.Stands.{Setting, Holds, HoldTemps, HoldSlots, domain, Conf, Caller, St, Log, Done, Waits, AllWait, Stands, Goes, Ends, IsJournal}
use Rattle.sym_run.specs.Acting.{gives_if, given_if}
use Rattle.sym_run.proofs.Appended.{traced-grown, Grows-refl}
use Rattle.sym_run.proofs.MemoryLaws.{known_append, known_touched, remembers_append}

-- ---- lists

pub same_some : {A : Type 0} (x y : A) → (let o : Option A = Some x in o) ≡ Some y → x ≡ y
same_some x y e = cc

set_here : {A : Type 0} (l : List A) (n : ℕ) (x y : A) → slice_get (slice_set l n x) n ≡ Some y → x ≡ y
set_here [] n x y e = absurd (cc e)
set_here (a ∷ l) zero x y e = same_some x y e
set_here (a ∷ l) (suc n) x y e = set_here l n x y e

set_other : {A : Type 0} (l : List A) (i n : ℕ) (x y : A) → (n ≡ i → ⊥) → slice_get (slice_set l i x) n ≡ Some y → slice_get l n ≡ Some y
set_other [] i n x y h e = e
set_other (a ∷ l) zero zero x y h e = absurd (h refl)
set_other (a ∷ l) zero (suc n) x y h e = e
set_other (a ∷ l) (suc i) zero x y h e = e
set_other (a ∷ l) (suc i) (suc n) x y h e = set_other l i n x y (λ f. h (ap (λ (j : ℕ). suc j) f)) e

-- a fact of each element, with another one at an index
pub facts_put : {A B C : Type 0} (P : A → B → Type 0) (some : B → C) (t : ℕ → A) (l : List C) (i : ℕ) (v : A) (x : C)
    → ((b : B) → x ≡ some b → P v b) → ((n : ℕ) (b : B) → slice_get l n ≡ Some (some b) → P (t n) b)
    → (n : ℕ) (b : B) → slice_get (slice_set l i x) n ≡ Some (some b) → P (if nat_eq n i then v else t n) b
facts_put P some t l i v x p h n b e = elim (eqb_tells n i) [
  | inl q ↦ subst (λ (c : Bool). P (if c then v else t n) b) (sym q.0) (p b (set_here l i x (some b) (subst (λ (m : ℕ). slice_get (slice_set l i x) m ≡ Some (some b)) q.1 e)))
  | inr q ↦ subst (λ (c : Bool). P (if c then v else t n) b) (sym q.0) (h n b (set_other l i n x (some b) q.1 e))
]

-- ---- later: symbols are added, and blocks touched

pub record Later (touched : List ℕ) (symbols : List Symbol) (touched' : List ℕ) (symbols' : List Symbol) : Type 0 where
  pub more : List ℕ
  pub names : touched' ≡ touched ++ more
  pub grows : Grows symbols symbols'

pub same_names : (touched touched' : List ℕ) (symbols symbols' : List Symbol) → touched' ≡ touched → Grows symbols symbols' → Later touched symbols touched' symbols'
same_names touched touched' symbols symbols' e g = record { more = []; names = e ∙ sym (append-nil touched); grows = g }

module _ (named : List Named) (touched : List ℕ) (symbols : List Symbol) (touched' : List ℕ) (symbols' : List Symbol) (l : Later touched symbols touched' symbols') where
  pub known_later : (c : Held) → IsKnown named touched symbols c → IsKnown named touched' symbols' c
  known_later c k =
      subst (λ (t : List ℕ). IsKnown named t symbols' c) (sym l.names) (known_touched named touched l.more symbols' c
      (subst (λ (m : List Symbol). IsKnown named touched m c) (sym (l.grows).1) (known_append named touched symbols (l.grows).0 c k)))

  pub holds_later : (v : Traced) (c : Held) → Holds named touched symbols v c → Holds named touched' symbols' v c
  holds_later v c h = record { value = h.value ∙ sym (traced-grown symbols symbols' c l.grows (h.known).cell); known = known_later c h.known }

  pub temps_later : (t : ℕ → Traced) (cs : List Held) → HoldTemps named touched symbols t cs → HoldTemps named touched' symbols' t cs
  temps_later t cs h n c e = holds_later (t n) c (h n c e)

  pub slots_later : (t : ℕ → Traced) (cs : List (Option Held)) → HoldSlots named touched symbols t cs → HoldSlots named touched' symbols' t cs
  slots_later t cs h n c e = holds_later (t n) c (h n c e)

  module _ (w : Setting) where
    pub waits_later : (f : Frame) (g : Caller w) → Waits w named touched symbols f g → Waits w named touched' symbols' f g
    waits_later f g h = record { dst = h.dst; back = h.back; temps = temps_later g.temps f.temps h.temps; slots = slots_later g.slots f.slots h.slots }

    pub all_later : (fs : List Frame) (gs : List (Caller w)) → AllWait w named touched symbols fs gs → AllWait w named touched' symbols' fs gs
    all_later [] [] h = tt
    all_later [] (g ∷ gs) h = absurd h
    all_later (f ∷ fs) [] h = absurd h
    all_later (f ∷ fs) (g ∷ gs) h = (waits_later f g h.0, all_later fs gs h.1)

-- ---- cells

module _ (named : List Named) (touched : List ℕ) (symbols : List Symbol) where
  pub number_holds : (z : ℤ) → IsWord z → Holds named touched symbols (traced.number linear z) (record { value = Int z; shadow = 0 })
  unfolding traced.number
  number_holds z h = record { value = refl; known = record { cell = record { known = omega arith; value = h }; kind = tt; pointer = tt } }

  pub nil_holds : Holds named touched symbols traced.nil (record { value = Null; shadow = 0 })
  unfolding traced.nil
  nil_holds = record { value = refl; known = record { cell = record { known = omega arith; value = tt }; kind = λ h. h; pointer = tt } }

module _ (w : Setting) where
  -- other data, and what is known of cells stays
  pub stands_later : (m : Machine) (c : Conf w) (s : St w) (log : Log w) (o : Objects) (symbols : List Symbol) (d : Data) → (st : Stands w m c s log)
      → Later (names_in m.objects) m.symbols (names_in o) symbols → Remembers st.start st.named symbols o d
      → Stands w (record m { objects = o; symbols = symbols }) c (record s { data_now = d }) log
  stands_later m c s log o symbols d st l r = record {
    start = st.start;
    named = st.named;
    begun = st.begun;
    pc = st.pc;
    temps = temps_later st.named (names_in m.objects) m.symbols (names_in o) symbols l c.temps m.temps st.temps;
    slots = slots_later st.named (names_in m.objects) m.symbols (names_in o) symbols l s.locals m.slots st.slots;
    stack = all_later st.named (names_in m.objects) m.symbols (names_in o) symbols l w (reverse m.stack) c.stack st.stack;
    steps = st.steps;
    events = st.events;
    data_now = r;
    journal = st.journal;
  }

  pub stands_grown : (m : Machine) (c : Conf w) (s : St w) (log : Log w) (symbols : List Symbol) → Stands w m c s log → Grows m.symbols symbols → Stands w (record m { symbols = symbols }) c s log
  stands_grown m c s log symbols st g =
      stands_later m c s log m.objects symbols s.data_now st (same_names (names_in m.objects) (names_in m.objects) m.symbols symbols refl g)
      (subst (λ (l : List Symbol). Remembers st.start st.named l m.objects s.data_now) (sym g.1) (remembers_append st.start st.named m.symbols g.0 m.objects s.data_now st.data_now))

  -- a result
  pub stands_given : (m new : Machine) (c : Conf w) (s : St w) (log : Log w) (n : ℕ) (v : Traced) (cell : Held) → (st : Stands w m c s log)
      → Holds st.named (names_in m.objects) m.symbols v cell
      → new ≡ record m { pc = suc m.pc; temps = slice_set m.temps n cell } → Stands w new (instr.gives (domain w) c n v) s log
  stands_given m new c s log n v cell st h e = subst (λ (x : Machine). Stands w x (instr.gives (domain w) c n v) s log) (sym e) (record {
    start = st.start;
    named = st.named;
    begun = st.begun;
    pc = ap (λ (p : ℕ). suc p) st.pc;
    temps = facts_put (Holds st.named (names_in m.objects) m.symbols) (λ b. b) c.temps m.temps n v cell (λ b f. subst (λ (y : Held). Holds st.named (names_in m.objects) m.symbols v y) f h) st.temps;
    slots = st.slots;
    stack = st.stack;
    steps = st.steps;
    events = st.events;
    data_now = st.data_now;
    journal = st.journal;
  })

  -- another place in the code, and other steps
  pub stands_at : (m : Machine) (c : Conf w) (s : St w) (log : Log w) (p q n k : ℕ) → Stands w m c s log → p ≡ q → n ≡ k
      → Stands w (record m { pc = q; steps = k }) (record { pc = p; temps = c.temps; stack = c.stack }) (record s { steps = n }) log
  stands_at m c s log p q n k st e f = record {
    start = st.start;
    named = st.named;
    begun = st.begun;
    pc = e;
    temps = st.temps;
    slots = st.slots;
    stack = st.stack;
    steps = f;
    events = st.events;
    data_now = st.data_now;
    journal = st.journal;
  }

  -- ---- what an instruction without events comes to

  pub goes_on : (m : Machine) (s s' : St w) (log : Log w) (body : (Conf w → Done w) → Done w) (c' : Conf w) → Stands w m c' s' log → ((k : Conf w → Done w) → body k s ≡ k c' s') → Goes w m s log body
  unfolding of.prepend
  goes_on m s s' log body c' st e = record { config = c'; state = s'; more = []; stands = subst (λ (l : Log w). Stands w m c' s' l) (sym (append-nil log)) st; does = e }

  pub ends_there : (m new : Machine) (c : Conf w) (s s' : St w) (log : Log w) (body : (Conf w → Done w) → Done w) (e : End) → Stands w m c s' log → new.journal ≡ m.journal → (new.objects).places ≡ (m.objects).places
      → ((k : Conf w → Done w) → body k s ≡ record { log = []; result = over e s' }) → Ends w new s log body e
  ends_there m new c s s' log body e st j p h = record {
    state = s';
    more = [];
    journal = subst (λ (l : Log w). IsJournal w.checked l new.journal) (sym (append-nil log)) (subst (λ (x : Journal). IsJournal w.checked log x) (sym j) st.journal);
    places = (st.data_now).places ∙ sym p;
    does = h;
  }

  -- ---- all at once: other data, other steps and events, a journal, and a result

  pub stands_all : (m : Machine) (c : Conf w) (s : St w) (log log' : Log w) (o : Objects) (symbols : List Symbol) (d : Data) (j : Journal) (k k' n n' : ℕ) (dst : Option ℕ) (v : Traced) (cell : Held) → (st : Stands w m c s log)
      → Later (names_in m.objects) m.symbols (names_in o) symbols → Remembers st.start st.named symbols o d → IsJournal w.checked log' j → k ≡ k' → n ≡ n'
      → ((i : ℕ) → dst ≡ Some i → Holds st.named (names_in o) symbols v cell)
      → (let x : Machine = record m { objects = o; symbols = symbols; journal = j; steps = k'; events_left = n' } in Stands w (given_if x dst cell) (gives_if w c dst v) (record s { steps = k; events = n; data_now = d }) log')
  stands_all m c s log log' o symbols d j k k' n n' None v cell st l r i e f h = record {
    start = st.start;
    named = st.named;
    begun = st.begun;
    pc = ap (λ (p : ℕ). suc p) st.pc;
    temps = temps_later st.named (names_in m.objects) m.symbols (names_in o) symbols l c.temps m.temps st.temps;
    slots = slots_later st.named (names_in m.objects) m.symbols (names_in o) symbols l s.locals m.slots st.slots;
    stack = all_later st.named (names_in m.objects) m.symbols (names_in o) symbols l w (reverse m.stack) c.stack st.stack;
    steps = e;
    events = f;
    data_now = r;
    journal = i;
  }
  stands_all m c s log log' o symbols d j k k' n n' (Some a) v cell st l r i e f h = record {
    start = st.start;
    named = st.named;
    begun = st.begun;
    pc = ap (λ (p : ℕ). suc p) st.pc;
    temps = facts_put (Holds st.named (names_in o) symbols) (λ b. b) c.temps m.temps a v cell (λ b f. subst (λ (y : Held). Holds st.named (names_in o) symbols v y) f (h a refl)) (temps_later st.named (names_in m.objects) m.symbols (names_in o) symbols l c.temps m.temps st.temps);
    slots = slots_later st.named (names_in m.objects) m.symbols (names_in o) symbols l s.locals m.slots st.slots;
    stack = all_later st.named (names_in m.objects) m.symbols (names_in o) symbols l w (reverse m.stack) c.stack st.stack;
    steps = e;
    events = f;
    data_now = r;
    journal = i;
  }

  -- other data and steps, and a slot that is set
  abbrev pub stands_bound : (m : Machine) (c : Conf w) (s : St w) (log : Log w) (o : Objects) (d : Data) (k k' p p' a : ℕ) (v : Traced) (cell : Held) → (st : Stands w m c s log)
      → names_in o ≡ names_in m.objects → Remembers st.start st.named m.symbols o d → k ≡ k' → p ≡ p' → Holds st.named (names_in o) m.symbols v cell
      → Stands w (record m { pc = p'; objects = o; steps = k'; slots = slice_set m.slots a (Some cell) }) (record { pc = p; temps = c.temps; stack = c.stack }) (record s { steps = k; data_now = d; locals = λ i. if nat_eq i a then v else s.locals i }) log
  stands_bound m c s log o d k k' p p' a v cell st names r e f h =
      let l = same_names (names_in m.objects) (names_in o) m.symbols m.symbols names (Grows-refl m.symbols) in
      record {
        start = st.start;
        named = st.named;
        begun = st.begun;
        pc = f;
        temps = temps_later st.named (names_in m.objects) m.symbols (names_in o) m.symbols l c.temps m.temps st.temps;
        slots = facts_put (Holds st.named (names_in o) m.symbols) (λ (b : Held). (let x : Option Held = Some b in x)) s.locals m.slots a v (Some cell) (λ b f. subst (λ (y : Held). Holds st.named (names_in o) m.symbols v y) (same_some cell b f) h) (slots_later st.named (names_in m.objects) m.symbols (names_in o) m.symbols l s.locals m.slots st.slots);
        stack = all_later st.named (names_in m.objects) m.symbols (names_in o) m.symbols l w (reverse m.stack) c.stack st.stack;
        steps = e;
        events = st.events;
        data_now = r;
        journal = st.journal;
      }
