-- A traced run without what it adds is the plain run.
use Rattle.std.proofs.Common.{◌≡◌, ℕ, ℤ, List, [], ◌∷◌, map, inl, inr, refl, sym, ap, ap₂, ◌∙◌}
use Rattle.cc_base.specs.declared.inputs.Input.{Input}
use Rattle.cc_base.specs.declared.outcomes.Outcome.{Outcome}
use Rattle.cc_base.specs.Limits.{Limits}
use Rattle.cc_model.specs.Core.{Cell, Layout, Program}
use Rattle.cc_model.specs.Domain.{Act, act_arith, act_divisor, act_negate, act_compare, act_test, act_access, act_index}
use Rattle.cc_model.specs.Plain as base
use Rattle.cc_model.specs.Plain.{Value, plain}
use Rattle.cc_model.specs.FormOperations.{Forms}
use Rattle.cc_model.specs.Traced as on
use Rattle.cc_model.specs.Traced.{Traced, Data, Event, traced}
use Rattle.cc_model.specs.Meaning.{Entry, State, Result, ok, over, Fixed}
use Rattle.cc_model.specs.Runs.{Begin, end_of, path_of, path_at, end_at, run, run_of, begin_of, fixed_of}
use Rattle.cc_model.specs.Conditions.{bare, steps_left, traced_begin, traced_run, events_of}
use Rattle.cc_laws.proofs.Related.{SameAct, Gives, Related, SameLogs, PartLogs, SameResult, SameRan, Void, same_main}

module _ (f : Forms) (layout : ℕ → List Cell) where
  abbrev pub Is : Traced → Value → Type 0
  Is v u = v.plain ≡ u

  -- an operation on equal values is the plain operation
  pub plain_act : (a : Act Traced) (b : Act Value) → SameAct Is Is a b → on.plain_of f layout a ≡ b
  unfolding on.plain_of
  plain_act (act_arith o a b) (act_arith p c e) h = ap₂ (λ q m. act_arith q m b.plain) h.0 h.1 ∙ ap (act_arith p c) h.2
  plain_act (act_divisor a b) (act_divisor c e) h = ap₂ act_divisor h.0 h.1
  plain_act (act_negate a) (act_negate c) h = ap act_negate h
  plain_act (act_compare o a b) (act_compare p c e) h = ap₂ (λ q m. act_compare q m b.plain) h.0 h.1 ∙ ap (act_compare p c) h.2
  plain_act (act_test a) (act_test c) h = ap act_test h
  plain_act (act_access a) (act_access c) h = ap act_access h
  plain_act (act_index p i n c) (act_index q j m e) h = ap₂ (λ s t. act_index s t n c) h.0 h.1 ∙ ap₂ (act_index q j) h.2 h.3
  plain_act _ _ h = absurd h

  pub given : (a : Act Traced) (o : Outcome) (v : Traced) (u : Value) → v.plain ≡ u → Gives Is Is a o v u
  given (act_arith o a b) t v u e = e
  given (act_negate a) t v u e = e
  given (act_access a) t v u e = λ z. e
  given (act_index p i n k) t v u e = e
  given (act_divisor a b) t v u e = tt
  given (act_compare o a b) t v u e = tt
  given (act_test a) t v u e = tt

  pub put : (a : Act Traced) (b c : Act Value) (x : Data) (y : base.Data) → on.plain_of f layout a ≡ b → x.plain ≡ y
      → (((on.act f layout a x).event).outcome ≡ (base.act b y).event) × (((on.act f layout a x).value).plain ≡ (base.act b y).value) × (((on.act f layout a x).after).plain ≡ (base.act b y).after)
  unfolding on.act
  put a b c x y e i = (ap₂ (λ s t. (base.act s t).event) e i, ap₂ (λ s t. (base.act s t).value) e i, ap₂ (λ s t. (base.act s t).after) e i)

  pub load_is : (p : Traced) (x : Data) → (on.load p x).plain ≡ base.load p.plain x.plain
  unfolding on.load
  load_is p x = refl

  pub store_is : (p v : Traced) (x : Data) → (on.store p v x).plain ≡ base.store p.plain v.plain x.plain
  unfolding on.store
  store_is p v x = refl

  pub take_is : (p : Traced) (x : Data) → (on.take f p x).plain ≡ base.take p.plain x.plain
  unfolding on.take
  take_is p x = refl

  pub make_is : (t : Layout) (x : Data) (y : base.Data) → x.plain ≡ y → (((on.make f t x).value).plain ≡ (base.make t y).value) × (((on.make f t x).after).plain ≡ (base.make t y).after)
  unfolding on.make
  make_is t x y e = (ap (λ d. (base.make t d).value) e, ap (λ d. (base.make t d).after) e)

  pub number_is : (z : ℤ) → (on.number f z).plain ≡ base.num z
  unfolding on.number
  number_is z = refl

  pub nil_is : on.nil.plain ≡ base.null
  unfolding on.nil
  nil_is = refl

  pub offset_is : (v : Traced) (n : ℕ) → (on.offset v n).plain ≡ base.offset v.plain n
  unfolding on.offset
  offset_is v n = refl

  abbrev pub erased : Related (traced f layout) plain
  erased = record {
    W = Unit {0};
    Le = λ w w'. Unit {0};
    le_refl = λ w. tt;
    le_trans = λ w w' w'' h k. tt;
    RV = λ w v u. Is v u;
    RL = λ w v u. Is v u;
    later_value = λ w w' v u h k. k;
    later_location = λ w w' v u h k. k;
    RD = λ w x y. x.plain ≡ y;
    Ev = λ w a b. Unit {0};
    Part = λ w a b. ⊥;
    later_event = λ w w' a b le k. tt;
    number = λ w z. number_is z;
    nil = λ w. nil_is;
    address = λ w v u h. h;
    offset = λ w v u n h. offset_is v n ∙ ap (λ t. base.offset t n) h;
    global = λ w n. refl;
    load = λ w p q x y h k. load_is p x ∙ ap₂ base.load h k;
    store = λ w p v q u x y h i k. store_is p v x ∙ ap₂ (λ s t. base.store s v.plain t) h k ∙ ap (λ s. base.store q s y) i;
    make = λ w t x y k. make_is t x y k;
    take = λ w p q x y h k. (tt, tt, take_is p x ∙ ap₂ base.take h k);
    act = λ w a b x y h k. let r = put a b b x y (plain_act a b h) k in inl (tt, tt, r.0, tt, given a _ _ _ r.1, r.2);
  }

  -- ---- whole runs

  same_entry : (a : Entry Event) (b : Entry Outcome) → a.kind ≡ b.kind → a.token ≡ b.token → (a.event).outcome ≡ b.event → bare a ≡ b
  same_entry a b h k o = ap₂ (λ i j. record { kind = i; token = j; event = (a.event).outcome }) h k ∙ ap (λ e. record { kind = b.kind; token = b.token; event = e }) o

  bare_logs : (l : List (Entry Event)) (m : List (Entry Outcome)) → SameLogs (traced f layout) plain erased tt l m → map bare l ≡ m
  bare_logs [] [] h = refl
  bare_logs (a ∷ l) (b ∷ m) h = ap₂ (λ i j. i ∷ j) (same_entry a b (h.0).kind (h.0).token (h.0).outcome) (bare_logs l m h.1)
  bare_logs [] (b ∷ m) h = absurd h
  bare_logs (a ∷ l) [] h = absurd h

  no_part : (l : List (Entry Event)) (m : List (Entry Outcome)) → PartLogs (traced f layout) plain erased tt l m → ⊥
  no_part (a ∷ l) (b ∷ m) (inl h) = no_part l m h.1
  no_part (a ∷ l) (b ∷ m) (inr h) = h.2
  no_part [] [] h = h
  no_part [] (b ∷ m) h = h
  no_part (a ∷ l) [] h = h

  ends_same : (p : Result (State Traced Data) (Unit {0})) (q : Result (State Value base.Data) (Unit {0})) → SameResult (traced f layout) plain erased tt (Void (traced f layout) plain erased) p q → (end_of p ≡ end_of q) × (steps_left p ≡ steps_left q)
  ends_same (ok a s) (ok b t) h = (refl, (h.1).steps)
  ends_same (over e s) (over g t) h = (h.0, (h.1).steps)
  ends_same (ok a s) (over g t) h = absurd h
  ends_same (over e s) (ok b t) h = absurd h

  bare_path : (l : List (Entry Event)) → path_of plain (map bare l) ≡ path_of (traced f layout) l
  bare_path [] = refl
  bare_path (a ∷ l) = ap (λ m. (a.event).outcome ∷ m) (bare_path l)

  module _ (x : Fixed) (steps events : ℕ) (b : Begin Traced Data) (c : Begin Value base.Data) (l : (n : ℕ) → (b.locals n).plain ≡ c.locals n) (k : (b.data_now).plain ≡ c.data_now) where
    both_traced : SameRan (traced f layout) plain erased tt (Void (traced f layout) plain erased) (run (traced f layout) x steps events b) (run plain x steps events c)
    unfolding run
    both_traced = same_main (traced f layout) plain erased x tt tt tt (record { steps = steps; events = events; locals = b.locals; data_now = b.data_now }) (record { steps = steps; events = events; locals = c.locals; data_now = c.data_now }) (record { steps = refl; events = refl; locals = l; data_now = k })

    pub erased_run : (map bare (run (traced f layout) x steps events b).log ≡ (run plain x steps events c).log)
        × (end_of (run (traced f layout) x steps events b).result ≡ end_of (run plain x steps events c).result)
        × (steps_left (run (traced f layout) x steps events b).result ≡ steps_left (run plain x steps events c).result)
    erased_run = elim both_traced [
      | inl h ↦ let r = ends_same (run (traced f layout) x steps events b).result (run plain x steps events c).result h.3 in (bare_logs _ _ h.2, r.0, r.1)
      | inr h ↦ absurd (no_part _ _ h.2)
    ]

-- the events without what they ask, the path, the end and the steps of a traced run are those of the plain run
pub erased_at : (f : Forms) (p : Program) (b : Limits) (h : Input) → (map bare (events_of f p b h) ≡ (run_of p b h).log)
    × (path_of (traced f p.layouts) (events_of f p b h) ≡ path_at p b h)
    × (end_of (traced_run f p b h).result ≡ end_at p b h)
    × (steps_left (traced_run f p b h).result ≡ steps_left (run_of p b h).result)
unfolding events_of traced_run traced_begin path_at end_at run_of begin_of
erased_at f p b h =
    let r = erased_run f p.layouts (fixed_of p b) b.steps b.depth (traced_begin f p b h) (begin_of p b h) (λ n. refl) refl in
    (r.0, sym (bare_path f p.layouts _) ∙ ap (path_of plain) r.0, r.1, r.2)
