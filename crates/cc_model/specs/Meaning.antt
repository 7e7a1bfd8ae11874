-- The meaning of a program over any domain: what it computes, its events and its steps, in order.
-- It is that of C (ISO/IEC 9899:2011, 6.5 to 6.9) for the profile; the events and steps, the order of evaluation where C
-- leaves it open, and zero for what C leaves uninitialised are this project's own.
use Rattle.std.specs.Prelude.{ℕ, zero, suc, pos, Bool, true, false, not, List, [], ◌∷◌, ◌++◌, length, Option, Some, None, slice_get, nat_lt, nat_eq, if◌then◌else◌}
use Rattle.cc_base.specs.declared.outcomes.Outcome.{Outcome}
use Rattle.cc_base.specs.declared.outcomes.Outcome.TheVariants.{Zero, Plain, True, Object}
use Rattle.cc_base.specs.declared.ends.FaultKind.{FaultKind}
use Rattle.cc_base.specs.declared.ends.FaultKind.TheVariants.{Overflow, Null, Divide, Index, Assert, Abort}
use Rattle.cc_base.specs.declared.ends.End.{End}
use Rattle.cc_base.specs.declared.ends.End.TheVariants.{Return, Assume, Cut, Objects, Steps, Fault}
use Rattle.cc_model.specs.declared.checked.SiteKind.{SiteKind}
use Rattle.cc_model.specs.declared.checked.SiteKind.TheVariants as site
use Rattle.cc_model.specs.Core as tree
use Rattle.cc_model.specs.Core.{Cell, int_cell, ptr_cell, Layout, Op, Cmp, Val, Cond, Loc, Vals, Simple, Declarator, Stmt, Parts, Func, Program}
use Rattle.cc_model.specs.Domain.{Act, act_arith, act_divisor, act_negate, act_compare, act_test, act_access, act_index, Domain}

-- what the bounds and the program fix
pub record Fixed : Type 0 where
  pub objects : ℕ
  pub fuel : ℕ
  pub program : Program

-- an event with its site
pub record Entry (E : Type 0) : Type 0 where
  pub kind : SiteKind
  pub token : ℕ
  pub event : E

-- the state: the steps and the events that are left, the objects of the locals, and the data
pub record State (V D : Type 0) : Type 0 where
  pub steps : ℕ
  pub events : ℕ
  pub locals : ℕ → V
  pub data_now : D

-- the outcome and the value of an event
pub record Seen (V : Type 0) : Type 0 where
  pub outcome : Outcome
  pub value : V

pub data Result (S A : Type 0) : Type 0 where
  ok : (a : A) → (s : S) → Result S A
  over : (e : End) → (s : S) → Result S A

-- what a piece of a run does: the events that it adds, and what it gives
pub record Ran (E S A : Type 0) : Type 0 where
  pub log : List (Entry E)
  pub result : Result S A

-- how a statement is left
pub data Flow (V : Type 0) : Type 0 where
  on : Flow V
  broken : Flow V
  continued : Flow V
  returned : (v : Option V) → Flow V

unfoldable pub is_true : Outcome → Bool
is_true True = true
is_true _ = false

module _ (d : Domain) where
  infixr 20 ◌>>=◌
  infixr 20 ◌>>◌
  abbrev pub St : Type 0
  St = State d.V d.D

  abbrev pub Log : Type 0
  Log = List (Entry d.E)

  abbrev pub M : Type 0 → Type 0
  M A = St → Ran d.E St A

  -- ---- a piece after another

  unfoldable pub prepend : {A : Type 0} → Log → Ran d.E St A → Ran d.E St A
  prepend l r = record { log = l ++ r.log; result = r.result }

  unfoldable pub go_on : {A B : Type 0} → Log → Result St A → (A → M B) → Ran d.E St B
  go_on l (ok a s) f = prepend l (f a s)
  go_on l (over e s) f = record { log = l; result = over e s }

  unfoldable pub ◌>>=◌ : {A B : Type 0} → M A → (A → M B) → M B
  ◌>>=◌ m f = λ s. let r = m s in go_on r.log r.result f

  unfoldable pub ◌>>◌ : {A B : Type 0} → M A → M B → M B
  ◌>>◌ m k = m >>= (λ _. k)

  unfoldable pub pure : {A : Type 0} → A → M A
  pure a = λ s. record { log = []; result = ok a s }

  unfoldable pub stop : {A : Type 0} → End → M A
  stop e = λ s. record { log = []; result = over e s }

  abbrev pub Done : Type 0
  Done = M (Unit {0})

  unfoldable pub choose : {A : Type 0} → Bool → M A → M A → M A
  choose true a b = a
  choose false a b = b

  -- ---- steps, locals and data

  unfoldable pub step_at : ℕ → Done
  step_at zero = stop Steps
  step_at (suc n) = λ s. record { log = []; result = ok tt (record s { steps = n }) }

  unfoldable pub step : Done
  step = λ s. step_at s.steps s

  unfoldable pub steps : ℕ → Done
  steps zero = pure tt
  steps (suc n) = step >> steps n

  unfoldable pub local : ℕ → M d.V
  local n = λ s. record { log = []; result = ok (s.locals n) s }

  unfoldable pub get_locals : M (ℕ → d.V)
  get_locals = λ s. record { log = []; result = ok s.locals s }

  unfoldable pub set_locals : (ℕ → d.V) → Done
  set_locals f = λ s. record { log = []; result = ok tt (record s { locals = f }) }

  unfoldable pub bind : ℕ → d.V → Done
  bind n v = λ s. record { log = []; result = ok tt (record s { locals = λ m. if nat_eq m n then v else s.locals m }) }

  unfoldable pub load : d.V → M d.V
  load p = λ s. record { log = []; result = ok (d.load p s.data_now) s }

  unfoldable pub store : d.V → d.V → Done
  store p v = λ s. record { log = []; result = ok tt (record s { data_now = d.store p v s.data_now }) }

  unfoldable pub take : d.V → Done
  take p = λ s. record { log = []; result = ok tt (record s { data_now = d.take p s.data_now }) }

  unfoldable pub make : Layout → M d.V
  make t = λ s. let r = d.make t s.data_now in record { log = []; result = ok r.value (record s { data_now = r.after }) }

  -- ---- events

  unfoldable pub event_at : ℕ → SiteKind → ℕ → Act d.V → M (Seen d.V)
  event_at zero k t a = stop Cut
  event_at (suc n) k t a = λ s. let r = d.act a s.data_now in
      record {
        log = record { kind = k; token = t; event = r.event } ∷ [];
        result = ok (record { outcome = d.outcome r.event; value = r.value }) (record s { events = n; data_now = r.after });
      }

  unfoldable pub event : SiteKind → ℕ → Act d.V → M (Seen d.V)
  event k t a = λ s. event_at s.events k t a s

  -- goes on where the outcome is plain
  unfoldable pub if_plain : {A : Type 0} → Outcome → End → M A → M A
  if_plain Plain e m = m
  if_plain _ e m = stop e

  unfoldable pub if_made : {A : Type 0} → ℕ → Outcome → End → M A → M A
  if_made k Zero e m = stop e
  if_made k (Object n) e m = choose (nat_lt n k) m (stop Objects)
  if_made k _ e m = m

  module _ (x : Fixed) where
    -- ---- the operations that are events, and where they lead

    unfoldable pub checked : SiteKind → FaultKind → ℕ → Act d.V → M d.V
    checked k f t a = event k t a >>= λ r. if_plain r.outcome (Fault f (x.program.line t)) (pure r.value)

    unfoldable pub decided : ℕ → Act d.V → M Bool
    decided t a = event site.Decision t a >>= λ r. pure (is_true r.outcome)

    unfoldable pub accessed : ℕ → d.V → M d.V
    accessed t v = event site.Access t (act_access v) >>= λ r. if_made x.objects r.outcome (Fault Null (x.program.line t)) (pure r.value)

    unfoldable pub fits : ℕ → Op → d.V → d.V → M d.V
    fits t o a b = checked site.Fit Overflow t (act_arith o a b)

    unfoldable pub binary : ℕ → Op → d.V → d.V → M d.V
    binary t tree.quot a b = checked site.Divisor Divide t (act_divisor a b) >> fits t tree.quot a b
    binary t tree.rem a b = checked site.Divisor Divide t (act_divisor a b) >> fits t tree.rem a b
    binary t o a b = fits t o a b

    unfoldable pub truth_value : Bool → d.V
    truth_value true = d.number (pos 1)
    truth_value false = d.number (pos 0)

    -- ---- expressions, where calls are as `h` says

    module _ (h : ℕ → List d.V → M d.V) where
      unfoldable mutual
        pub value : Val → M d.V
        value (tree.number z) = pure (d.number z)
        value tree.nil = pure d.nil
        value (tree.read l) = do
          p ← locate l
          load p
        value (tree.arith t o a b) = do
          step
          v ← value a
          w ← value b
          binary t o v w
        value (tree.negate t a) = do
          step
          v ← value a
          checked site.Fit Overflow t (act_negate v)
        value (tree.truth c) = do
          b ← truth c
          pure (truth_value b)
        value (tree.address l) = step >> locate l
        value (tree.call f args) = do
          step
          vs ← values args
          h f vs
        value (tree.malloc type) = do
          step
          steps (length type.cells)
          make type

        pub truth : Cond → M Bool
        truth (tree.compare t o a b) = do
          step
          v ← value a
          w ← value b
          decided t (act_compare o v w)
        truth (tree.opposite c) = do
          step
          b ← truth c
          pure (not b)
        truth (tree.both a b) = do
          step
          c ← truth a
          choose c (truth b) (pure false)
        truth (tree.either a b) = do
          step
          c ← truth a
          choose c (pure true) (truth b)
        truth (tree.test t a) = do
          v ← value a
          decided t (act_test v)

        pub locate : Loc → M d.V
        locate (tree.local n) = local n
        locate (tree.global n) = pure (d.global n)
        locate (tree.deref t a) = do
          step
          v ← value a
          accessed t v
        locate (tree.arrow t a n) = do
          step
          v ← value a
          p ← accessed t v
          pure (d.offset p n)
        locate (tree.dot l n) = do
          step
          p ← locate l
          pure (d.offset p n)
        locate (tree.index t l i n w) = do
          step
          p ← locate l
          v ← value i
          checked site.Index Index t (act_index p v n w)

        pub values : Vals → M (List d.V)
        values tree.done = pure []
        values (tree.more a rest) = do
          v ← value a
          vs ← values rest
          pure (v ∷ vs)

      -- ---- statements

      unfoldable pub simply : Simple → Done
      simply (tree.assign l a) = do
        v ← value a
        p ← locate l
        store p v
      simply (tree.update t o l a) = do
        v ← value a
        p ← locate l
        step
        w ← load p
        r ← binary t o w v
        store p r
      simply (tree.bump t o l) = do
        p ← locate l
        step
        w ← load p
        r ← binary t o w (d.number (pos 1))
        store p r
      simply (tree.perform f args) = do
        step
        vs ← values args
        r ← h f vs
        pure tt
      simply (tree.assert t c) = do
        step
        b ← truth c
        choose b (pure tt) (stop (Fault Assert (x.program.line t)))
      simply (tree.assume c) = do
        step
        b ← truth c
        choose b (pure tt) (stop Assume)
      simply (tree.abort t) = do
        step
        stop (Fault Abort (x.program.line t))
      simply (tree.take l) = do
        step
        p ← locate l
        take p

      unfoldable pub start : d.V → Option Val → Done
      start p None = pure tt
      start p (Some a) = do
        v ← value a
        store p v

      unfoldable pub declare : Declarator → Done
      declare t = do
        step
        steps (length (t.type).cells)
        p ← make t.type
        bind t.slot p
        start p t.start

      unfoldable pub declare_all : List Declarator → Done
      declare_all [] = pure tt
      declare_all (t ∷ ts) = declare t >> declare_all ts

      unfoldable pub simply_if : Option Simple → Done
      simply_if None = pure tt
      simply_if (Some s) = step >> simply s

      unfoldable pub truth_if : Option Cond → M Bool
      truth_if None = pure true
      truth_if (Some c) = truth c

      -- after one turn of a loop
      unfoldable pub after_turn : M (Flow d.V) → Flow d.V → M (Flow d.V)
      after_turn again on = again
      after_turn again broken = pure on
      after_turn again continued = again
      after_turn again (returned v) = pure (returned v)

      unfoldable pub turns : ℕ → M Bool → M (Flow d.V) → Done → M (Flow d.V)
      turns zero test body next = stop Steps
      turns (suc n) test body next = do
        b ← test
        choose b (body >>= after_turn (next >> turns n test body next)) (pure on)

      unfoldable pub after_part : M (Flow d.V) → Flow d.V → M (Flow d.V)
      after_part rest on = rest
      after_part rest f = pure f

      unfoldable pub returns : Option Val → M (Flow d.V)
      returns None = pure (returned None)
      returns (Some a) = do
        v ← value a
        pure (returned (Some v))

      unfoldable mutual
        pub exec : Stmt → M (Flow d.V)
        exec tree.empty = step >> pure on
        exec (tree.block parts) = step >> exec_parts parts
        exec (tree.choice c a) = do
          step
          b ← truth c
          choose b (exec a) (pure on)
        exec (tree.choice_else c a b) = do
          step
          v ← truth c
          choose v (exec a) (exec b)
        exec (tree.loop c body) = step >> turns x.fuel (truth c) (exec body) (pure tt)
        exec (tree.repeat body c) = do
          step
          f ← exec body
          after_turn (turns x.fuel (truth c) (exec body) (pure tt)) f
        exec (tree.loop_for first decls c next body) = do
          step
          simply_if first
          declare_all decls
          turns x.fuel (truth_if c) (exec body) (simply_if next)
        exec (tree.return a) = step >> returns a
        exec tree.break = step >> pure broken
        exec tree.continue = step >> pure continued
        exec (tree.simple s) = do
          step
          simply s
          pure on

        pub exec_parts : Parts → M (Flow d.V)
        exec_parts tree.finish = pure on
        exec_parts (tree.declare t rest) = declare t >> exec_parts rest
        exec_parts (tree.then s rest) = exec s >>= after_part (exec_parts rest)

    -- ---- calls

    unfoldable pub zero_of : Cell → d.V
    zero_of int_cell = d.number (pos 0)
    zero_of (ptr_cell t) = d.nil

    unfoldable pub answer : Cell → Flow d.V → d.V
    answer c (returned (Some v)) = v
    answer c _ = zero_of c

    -- the parameters' cells, from slot n on
    unfoldable pub take_args : ℕ → List d.V → List Cell → Done
    take_args n (v ∷ vs) (c ∷ cs) = do
      step
      p ← make (record { type = 0; cells = c ∷ [] })
      store p v
      bind n p
      take_args (suc n) vs cs
    take_args n _ _ = pure tt

    unfoldable pub call_in : (ℕ → List d.V → M d.V) → List d.V → Option Func → M d.V
    call_in h vs None = stop Steps
    call_in h vs (Some f) = do
      saved ← get_locals
      take_args 0 vs f.params
      step
      flow ← exec_parts h f.body
      set_locals saved
      pure (answer f.result flow)

    unfoldable pub calls : ℕ → ℕ → List d.V → M d.V
    calls zero f vs = stop Steps
    calls (suc n) f vs = call_in (calls n) vs (slice_get (x.program).funcs f)

    unfoldable pub main_in : (ℕ → List d.V → M d.V) → Option Func → Done
    main_in h None = stop Steps
    main_in h (Some f) = do
      step
      flow ← exec_parts h f.body
      stop Return

    -- the entry's run
    unfoldable pub main : Done
    main = main_in (calls x.fuel) (slice_get (x.program).funcs (x.program).entry)
