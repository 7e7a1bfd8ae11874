-- What the arguments of a call come to.
use Rattle.std.proofs.Common.{◌≡◌, refl, sym, ap, ap₂, subst, ◌∙◌, arith, ℕ, zero, suc, ◌+◌, ◌≤◌, Bool, true, false, List, [], ◌∷◌, ◌++◌, length, drop, map, unwrap_or, Option, Some, None, nat_eq, if◌then◌else◌}
use Rattle.std.specs.List.{slice_get, slice_set}
use Rattle.std.specs.Option.{option_map}
use Rattle.std.proofs.lemmas.List.{reverse-append}
use Rattle.std.proofs.lemmas.Option.{same_Some}
use Rattle.cc_base.specs.declared.cells.CellTy.{CellTy}
use Rattle.cc_base.specs.declared.ends.End.TheVariants as end
use Rattle.checked_memory.specs.declared.values.Cell.{Cell as Held}
use Rattle.cc_model.specs.Canonical.{Named}
use Rattle.cc_model.specs.CheckedProgram.{cell_of, core_of}
use Rattle.cc_model.specs.Compiles.{is_traced_zero}
use Rattle.cc_model.specs.Core.{Cell, Func, Layout}
use Rattle.cc_model.specs.Domain.{Domain}
use Rattle.cc_model.specs.Instructions as instr
use Rattle.cc_model.specs.Instructions.{i_call, act, enter}
use Rattle.cc_model.specs.Meaning as of
use Rattle.cc_model.specs.Meaning.{Fixed, State}
use Rattle.cc_model.specs.Plain as plain
use Rattle.cc_model.specs.Runs.{fixed_of}
use Rattle.cc_model.specs.Traced as traced
use Rattle.cc_model.specs.Traced.{Traced, Data}
use Rattle.cc_laws.specs.LinearForms.{linear}
use Rattle.tac_lower.specs.declared.tac.TacFunc.{TacFunc}
use Rattle.tac_lower.specs.Finished.{first_in}
use Rattle.sym_run.specs.declared.machine.Frame.{Frame}
use Rattle.sym_run.specs.declared.machine.Machine.{Machine}
use Rattle.sym_run.specs.declared.objects.Objects.{Objects}
use Rattle.sym_run.specs.declared.symbols.Symbol.{Symbol}
use Rattle.sym_run.specs.Beside.{IsCell, traced_of}
use Rattle.sym_run.specs.Passing.{HoldAll, PassedOne, PassedAll, Keeps, Entered, passes, passing, entered}
use Rattle.sym_run.specs.Remembers.{Remembers, IsKnown, names_in}
use Rattle.sym_run.specs.Starting.{null_cell}
use Rattle.sym_run.specs.Stands.{Setting, Holds, domain, Conf, St, Log, Done, acts, AllWait, Stands, Did}
use Rattle.sym_run.proofs.DataActs.{MadeBy}
use Rattle.sym_run.proofs.MonadLaws.{step_goes, step_ends}
use Rattle.sym_run.proofs.PointerLaws.{drop_past}
use Rattle.sym_run.proofs.StandsLaws.{goes_on, ends_there, nil_holds, stands_bound}

abbrev one_cell : Cell → Layout
one_cell c = record { type = 0; cells = c ∷ [] }

module _ (d : Domain) (x : Fixed) where
  abbrev with_param : ℕ → d.V → Cell → State d.V d.D → ℕ → State d.V d.D
  with_param n v c s j = (let r = d.make (one_cell c) s.data_now in record s { steps = j; data_now = d.store r.value v r.after; locals = λ i. if nat_eq i n then r.value else s.locals i })

  pub pass_goes : (n : ℕ) (v : d.V) (vs : List d.V) (c : Cell) (cs : List Cell) (s : State d.V d.D) (j : ℕ) → s.steps ≡ suc j
      → of.take_args d x n (v ∷ vs) (c ∷ cs) s ≡ of.take_args d x (suc n) vs cs (with_param n v c s j)
  unfolding of.take_args of.make of.store of.bind of.◌>>◌ of.◌>>=◌ of.go_on of.prepend
  pass_goes n v vs c cs s j e = step_goes d (of.◌>>=◌ d (of.make d (one_cell c)) (λ p. of.◌>>◌ d (of.store d p v) (of.◌>>◌ d (of.bind d n p) (of.take_args d x (suc n) vs cs)))) s j e

module _ (w : Setting) (m new : Machine) where
  pub passed_one : (slot j : ℕ) (cell at : Held) (ty : CellTy) (made stored : Objects) → m.steps ≡ suc j → MadeBy m.objects (ty ∷ []) made at → names_in made ≡ names_in m.objects
      → ((start : plain.Data) (named : List Named) (symbols : List Symbol) (d : Data) → Remembers start named symbols made d → IsCell symbols at → IsKnown named (names_in made) symbols cell → Remembers start named symbols stored (traced.store (traced_of symbols at) (traced_of symbols cell) d))
      → names_in stored ≡ names_in made → new ≡ record m { objects = stored; steps = j; slots = slice_set m.slots slot (Some at) } → PassedOne w m new slot cell ty true
  passed_one slot j cell at ty made stored e makes n stores k f c s log st v h =
      let type : Layout = record { type = 0; cells = cell_of ty ∷ [] } in
      let r = makes st.start st.named m.symbols s.data_now type st.data_now refl in
      let it = traced.make linear type s.data_now in
      let known : IsKnown st.named (names_in made) m.symbols cell = subst (λ (l : List ℕ). IsKnown st.named l m.symbols cell) (sym n) h.known in
      let q = stores st.start st.named m.symbols it.after r.1 (r.2).cell known in
      let q' : Remembers st.start st.named m.symbols stored (traced.store it.value v it.after) =
      subst (λ (y : Traced). Remembers st.start st.named m.symbols stored (traced.store y v it.after)) r.0 (subst (λ (y : Traced). Remembers st.start st.named m.symbols stored (traced.store (traced_of m.symbols at) y it.after)) (sym h.value) q) in
      let state : St w = record s { steps = j; data_now = traced.store it.value v it.after; locals = λ i. if nat_eq i slot then it.value else s.locals i } in
      let st' : Stands w (record m { objects = stored; steps = j; slots = slice_set m.slots slot (Some at) }) c state log =
      stands_bound w m c s log stored (traced.store it.value v it.after) j j c.pc m.pc slot it.value at st (k ∙ n) q' refl st.pc
      (record { value = sym r.0; known = subst (λ (l : List ℕ). IsKnown st.named l m.symbols at) (sym k) r.2 }) in (
        state,
        subst (λ (y : Machine). Keeps w m y c s log st c state) (sym f) (record { stands = st'; named = refl; names = k ∙ n; symbols = refl }),
        λ vs cs. pass_goes (domain w) (fixed_of (core_of w.checked) w.limits) slot v vs (cell_of ty) cs s j (st.steps ∙ e),
      )

-- ---- arguments, one after another

item_in : {A : Type 0} (l : List A) (i : ℕ) (x : A) → slice_get l i ≡ Some x → drop i l ≡ x ∷ drop (i + 1) l
item_in [] i x h = absurd (cc h)
item_in {A = A} (y ∷ l) zero x h = ap (λ (a : A). a ∷ l) (same_Some y x h)
item_in (y ∷ l) (suc i) x h = item_in l i x h ∙ ap (λ (n : ℕ). x ∷ drop n (y ∷ l)) (let e : suc (i + 1) ≡ suc i + 1 = omega arith in e)

pub none_past : {A : Type 0} (l : List A) (i : ℕ) → slice_get l i ≡ None → length l ≤ i
none_past [] i h = omega arith
none_past (y ∷ l) zero h = absurd (cc h)
none_past (y ∷ l) (suc i) h = let rest = none_past l i h in omega (arith, rest)

module _ (w : Setting) (named : List Named) (touched : List ℕ) (symbols : List Symbol) where
  pub hold_arguments : (t : ℕ → Traced) (n m : ℕ) (cs : List Held) → length cs ≡ m → ((i : ℕ) (c : Held) → slice_get cs i ≡ Some c → Holds named touched symbols (t (n + i)) c)
      → HoldAll named touched symbols (instr.arguments (domain w) t n m) cs
  hold_arguments t n zero [] e h = tt
  hold_arguments t n zero (c ∷ cs) e h = absurd (omega (arith, e))
  hold_arguments t n (suc m) [] e h = absurd (omega (arith, e))
  hold_arguments t n (suc m) (c ∷ cs) e h =
      let here : n + 0 ≡ n = omega arith in (
        subst (λ (k : ℕ). Holds named touched symbols (t k) c) here (h 0 c refl),
        hold_arguments t (suc n) m cs (omega (arith, e)) (λ i d f. (let next : n + suc i ≡ suc n + i = omega arith in subst (λ (k : ℕ). Holds named touched symbols (t k) d) next (h (suc i) d f))),
      )

  pub held_at : (vs : List Traced) (cs : List Held) (i : ℕ) (c : Held) → HoldAll named touched symbols vs cs → slice_get cs i ≡ Some c → (v : Traced) × (slice_get vs i ≡ Some v) × Holds named touched symbols v c
  held_at [] [] i c h e = absurd (cc e)
  held_at [] (d ∷ cs) i c h e = absurd h
  held_at (v ∷ vs) [] i c h e = absurd h
  held_at (v ∷ vs) (d ∷ cs) zero c h e = (v, refl, subst (λ (x : Held). Holds named touched symbols v x) (same_Some d c e) h.0)
  held_at (v ∷ vs) (d ∷ cs) (suc i) c h e = held_at vs cs i c h.1 e

  pub held_count : (vs : List Traced) (cs : List Held) → HoldAll named touched symbols vs cs → length vs ≡ length cs
  held_count [] [] h = refl
  held_count [] (c ∷ cs) h = absurd h
  held_count (v ∷ vs) [] h = absurd h
  held_count (v ∷ vs) (c ∷ cs) h = ap suc (held_count vs cs h.1)

module _ (w : Setting) where
  abbrev passed : St w → of.Ran traced.Event (St w) (Unit {0})
  passed s = record { log = []; result = of.ok tt s }

  no_values : (n : ℕ) (cs : List Cell) (s : St w) → passes w n [] cs s ≡ passed s
  unfolding of.take_args of.pure
  no_values n [] s = refl
  no_values n (c ∷ cs) s = refl

  no_cells : (n : ℕ) (vs : List Traced) (s : St w) → passes w n vs [] s ≡ passed s
  unfolding of.take_args of.pure
  no_cells n [] s = refl
  no_cells n (v ∷ vs) s = refl

  keeps_all : (m : Machine) (c : Conf w) (s : St w) (log : Log w) (st : Stands w m c s log) → Keeps w m m c s log st c s
  keeps_all m c s log st = record { stands = st; named = refl; names = refl; symbols = refl }

  module _ (old : Machine) (cells : List Held) (types : List CellTy) where
    -- the first i arguments were passed
    abbrev pub PassedTo : Machine → ℕ → Type 0
    PassedTo m i = (c : Conf w) (s : St w) (log : Log w) (st : Stands w old c s log) (vs : List Traced) → HoldAll st.named (names_in old.objects) old.symbols vs cells
        → (state : St w) × (Keeps w old m c s log st c state) × (passes w 0 vs (map cell_of types) s ≡ passes w i (drop i vs) (map cell_of (drop i types)) state)

    pub passed_none : PassedTo old 0
    passed_none c s log st vs h = (s, keeps_all old c s log st, refl)

    holds_at : (m : Machine) (c : Conf w) (s : St w) (log : Log w) (st : Stands w old c s log) (state : St w) → (k : Keeps w old m c s log st c state) → (v : Traced) (x : Held)
        → Holds st.named (names_in old.objects) old.symbols v x → Holds (k.stands).named (names_in m.objects) m.symbols v x
    holds_at m c s log st state k v x h =
        subst (λ (l : List Named). Holds l (names_in m.objects) m.symbols v x) (sym k.named)
        (subst (λ (l : List ℕ). Holds st.named l m.symbols v x) (sym k.names)
        (subst (λ (l : List Symbol). Holds st.named (names_in old.objects) l v x) (sym k.symbols) h))

    pub passed_step : (m new : Machine) (i : ℕ) (cell : Held) (ty : CellTy) → slice_get cells i ≡ Some cell → slice_get types i ≡ Some ty → PassedTo m i → (b : Bool) → PassedOne w m new i cell ty b → b ≡ true → PassedTo new (i + 1)
    passed_step m new i cell ty e f p b one is c s log st vs h =
        let q : PassedOne w m new i cell ty true = subst (λ (x : Bool). PassedOne w m new i cell ty x) is one in
        let r = p c s log st vs h in
        let k = r.1 in
        let v = held_at w st.named (names_in old.objects) old.symbols vs cells i cell h e in
        let t = q c r.0 log k.stands v.0 (holds_at m c s log st r.0 k v.0 cell v.2) in
        let next : suc i ≡ i + 1 = omega arith in (
          t.0,
          record { stands = (t.1).stands; named = (t.1).named ∙ k.named; names = (t.1).names ∙ k.names; symbols = (t.1).symbols ∙ k.symbols },
          r.2
              ∙ ap₂ (λ (l : List Traced) (x : List CellTy). passes w i l (map cell_of x) r.0) (item_in vs i v.0 v.1) (item_in types i ty f)
              ∙ t.2 (drop (i + 1) vs) (map cell_of (drop (i + 1) types))
              ∙ ap (λ (n : ℕ). passes w n (drop (i + 1) vs) (map cell_of (drop (i + 1) types)) t.0) next,
        )

    pub passed_end : (m : Machine) (i : ℕ) → PassedTo m i → length cells ≤ i → PassedAll w old m cells types true
    passed_end m i p n c s log st vs h =
        let r = p c s log st vs h in
        let count = held_count w st.named (names_in old.objects) old.symbols vs cells h in
        (r.0, (r.1).stands, r.2 ∙ ap (λ (l : List Traced). passes w i l (map cell_of (drop i types)) r.0) (drop_past vs i (omega (arith, n, count))) ∙ no_values i (map cell_of (drop i types)) r.0)

    pub passed_types : (m : Machine) (i : ℕ) → PassedTo m i → length types ≤ i → PassedAll w old m cells types true
    passed_types m i p n c s log st vs h =
        let r = p c s log st vs h in
        (r.0, (r.1).stands, r.2 ∙ ap (λ (l : List CellTy). passes w i (drop i vs) (map cell_of l) r.0) (drop_past types i n) ∙ no_cells i (drop i vs) r.0)

    stopped : (n : ℕ) (v : Traced) (vs : List Traced) (c : Cell) (cs : List Cell) (s : St w) → s.steps ≡ 0 → passes w n (v ∷ vs) (c ∷ cs) s ≡ record { log = []; result = of.over end.Steps s }
    unfolding of.take_args
    stopped n v vs c cs s e = step_ends (domain w) (of.◌>>=◌ (domain w) (of.make (domain w) (one_cell c)) (λ p. of.◌>>◌ (domain w) (of.store (domain w) p v) (of.◌>>◌ (domain w) (of.bind (domain w) n p) (passes w (suc n) vs cs)))) s e

    pub passed_over : (m new : Machine) (i : ℕ) (cell : Held) (ty : CellTy) → slice_get cells i ≡ Some cell → slice_get types i ≡ Some ty → PassedTo m i → (b : Bool) → PassedOne w m new i cell ty b → b ≡ false → PassedAll w old new cells types false
    passed_over m new i cell ty e f p b one is c s log st vs h =
        let q : PassedOne w m new i cell ty false = subst (λ (x : Bool). PassedOne w m new i cell ty x) is one in
        let r = p c s log st vs h in
        let k = r.1 in
        let v = held_at w st.named (names_in old.objects) old.symbols vs cells i cell h e in (
          r.0,
          subst (λ (x : Machine). Stands w x c r.0 log) (sym q.0) k.stands,
          r.2
              ∙ ap₂ (λ (l : List Traced) (x : List CellTy). passes w i l (map cell_of x) r.0) (item_in vs i v.0 v.1) (item_in types i ty f)
              ∙ stopped i v.0 (drop (i + 1) vs) (cell_of ty) (map cell_of (drop (i + 1) types)) r.0 ((k.stands).steps ∙ q.1),
        )

  -- ---- into a function

  pub entered_by : (m new : Machine) (dst f : ℕ) (code : TacFunc) (temps : List Held) (slots : List (Option Held)) (caller : Frame) → slice_get (w.code).funcs f ≡ Some code
      → ((n : ℕ) (c : Held) → slice_get temps n ≡ Some c → c ≡ null_cell) → ((n : ℕ) (c : Held) → slice_get slots n ≡ Some (Some c) → ⊥)
      → caller ≡ record { dst = dst; back = suc m.pc; temps = m.temps; slots = m.slots }
      → new ≡ record m { pc = code.first; temps = temps; slots = slots; stack = m.stack ++ caller ∷ [] } → Entered w m new dst f
  entered_by m new dst f code temps slots caller e nulls none g q c s log st =
      let waiting : Frame = record { dst = dst; back = suc m.pc; temps = m.temps; slots = m.slots } in
      let it : Machine = record m { pc = code.first; temps = temps; slots = slots; stack = m.stack ++ waiting ∷ [] } in
      let is : new ≡ it = q ∙ ap (λ (x : Frame). (let y : Machine = record m { pc = code.first; temps = temps; slots = slots; stack = m.stack ++ x ∷ [] } in y)) g in
      let st' : Stands w it (entered w c s dst f) s log = record {
        start = st.start;
        named = st.named;
        begun = st.begun;
        pc = ap (λ (o : Option TacFunc). unwrap_or (option_map (λ x. x.first) o) (length (w.code).code)) e;
        temps = λ n d h. subst (λ (x : Held). Holds st.named (names_in m.objects) m.symbols traced.nil x) (sym (nulls n d h)) (nil_holds st.named (names_in m.objects) m.symbols);
        slots = λ n d h. absurd (none n d h);
        stack = subst (λ (l : List Frame). AllWait w st.named (names_in m.objects) m.symbols l (entered w c s dst f).stack) (sym (reverse-append m.stack (waiting ∷ [])))
            (record { dst = refl; back = ap suc st.pc; temps = st.temps; slots = st.slots }, st.stack);
        steps = st.steps;
        events = st.events;
        data_now = st.data_now;
        journal = st.journal;
      } in
      subst (λ (x : Machine). Keeps w m x c s log st (entered w c s dst f) s) (sym is) (record { stands = st'; named = refl; names = refl; symbols = refl })

  -- ---- calls

  module _ (m mid new : Machine) (dst f first count : ℕ) (cells : List Held) (types : List CellTy) (g : Func)
      (found : slice_get (core_of w.checked).funcs f ≡ Some g) (params : map cell_of types ≡ g.params) (counted : length cells ≡ count)
      (there : (n : ℕ) (c : Held) → slice_get cells n ≡ Some c → slice_get m.temps (first + n) ≡ Some c) (into : Entered w m mid dst f) where
    -- a function that is there, whose arguments are passed
    into_function : (k : Conf w → Done w) (c : Conf w) (s state : St w) (vs : List Traced) (done : Bool) → vs ≡ instr.arguments (domain w) c.temps first count
        → passes w 0 vs (map cell_of types) s ≡ record { log = []; result = passing w done state }
        → acts w (i_call dst f first count) k c s ≡ of.go_on (domain w) [] (passing w done state) (λ _. k (entered w c s dst f))
    unfolding act enter of.get_locals of.◌>>◌ of.◌>>=◌ of.go_on of.prepend
    into_function k c s state vs done e h =
        ap (λ (o : Option Func). enter (domain w) (fixed_of (core_of w.checked) w.limits) is_traced_zero (first_in w.code) k c dst (instr.arguments (domain w) c.temps first count) f o s) found
        ∙ ap (λ (r : of.Ran traced.Event (St w) (Unit {0})). of.go_on (domain w) r.log r.result (λ _. k (entered w c s dst f)))
        (ap (λ (ps : List Cell). passes w 0 (instr.arguments (domain w) c.temps first count) ps s) (sym params) ∙ ap (λ (l : List Traced). passes w 0 l (map cell_of types) s) (sym e) ∙ h)

    -- the parameters' cells stand for the arguments
    hold : (c : Conf w) (s : St w) (log : Log w) (st : Stands w m c s log) → (let k = into c s log st in HoldAll (k.stands).named (names_in mid.objects) mid.symbols (instr.arguments (domain w) c.temps first count) cells)
    hold c s log st =
        let k = into c s log st in
        let vs : List Traced = instr.arguments (domain w) c.temps first count in
        subst (λ (l : List Named). HoldAll l (names_in mid.objects) mid.symbols vs cells) (sym k.named)
        (subst (λ (l : List ℕ). HoldAll st.named l mid.symbols vs cells) (sym k.names)
        (subst (λ (l : List Symbol). HoldAll st.named (names_in m.objects) l vs cells) (sym k.symbols)
        (hold_arguments w st.named (names_in m.objects) m.symbols c.temps first count cells counted (λ i d e. st.temps (first + i) d (there i d e)))))

    pub call_did : (b : Bool) → PassedAll w mid new cells types b → b ≡ true → Did w m new (i_call dst f first count) None
    unfolding of.go_on of.prepend
    call_did b all is c s log st =
        let p : PassedAll w mid new cells types true = subst (λ (x : Bool). PassedAll w mid new cells types x) is all in
        let r = p (entered w c s dst f) s log (into c s log st).stands (instr.arguments (domain w) c.temps first count) (hold c s log st) in
        goes_on w new s r.0 log (λ k. acts w (i_call dst f first count) k c) (entered w c s dst f) r.1
        (λ k. into_function k c s r.0 (instr.arguments (domain w) c.temps first count) true refl r.2)

    pub call_over : (b : Bool) → PassedAll w mid new cells types b → b ≡ false → Did w m new (i_call dst f first count) (Some end.Steps)
    unfolding of.go_on
    call_over b all is c s log st =
        let p : PassedAll w mid new cells types false = subst (λ (x : Bool). PassedAll w mid new cells types x) is all in
        let r = p (entered w c s dst f) s log (into c s log st).stands (instr.arguments (domain w) c.temps first count) (hold c s log st) in
        ends_there w new new (entered w c s dst f) s r.0 log (λ k. acts w (i_call dst f first count) k c) end.Steps r.1 refl refl
        (λ k. into_function k c s r.0 (instr.arguments (domain w) c.temps first count) false refl r.2)
