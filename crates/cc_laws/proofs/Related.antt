-- Runs over two domains whose operations are related are related, up to the event at which they part.
use Rattle.std.proofs.Common.{◌≡◌, ◌≢◌, ℕ, zero, suc, ℤ, pos, Bool, true, false, not, ◌⊎◌, inl, inr, List, [], ◌∷◌, ◌++◌, length, Option, Some, None, slice_get, nat_eq, nat_lt, if◌then◌else◌, refl, ap, subst, arith}
use Rattle.cc_base.specs.declared.outcomes.Outcome.{Outcome}
use Rattle.cc_base.specs.declared.outcomes.Outcome.TheVariants.{Zero, High, Low, Plain, False, True, Object}
use Rattle.cc_base.specs.declared.ends.FaultKind.TheVariants.{Overflow, Divide, Index}
use Rattle.cc_base.specs.declared.ends.End.{End}
use Rattle.cc_base.specs.declared.ends.End.TheVariants.{Return, Cut, Objects, Steps}
use Rattle.cc_model.specs.Core as tree
use Rattle.cc_model.specs.Core.{Cell, int_cell, ptr_cell, Layout, Op, Cmp, Val, Cond, Loc, Vals, Simple, Declarator, Stmt, Parts, Func, Program}
use Rattle.cc_model.specs.Domain.{Act, act_arith, act_divisor, act_negate, act_compare, act_test, act_access, act_index, Domain}
use Rattle.cc_model.specs.Meaning as of
use Rattle.cc_model.specs.declared.checked.SiteKind.{SiteKind}
use Rattle.cc_model.specs.declared.checked.SiteKind.TheVariants as site
use Rattle.cc_model.specs.Meaning.{Fixed, Entry, State, Result, ok, over, Ran, Seen, Flow, on, broken, continued, returned, M, Done, ◌>>=◌, ◌>>◌, go_on, prepend, pure, stop, choose, step_at, step, steps}

-- two operations of one kind, on related values and locations
abbrev pub SameAct : {V W : Type 0} → (V → W → Type 0) → (V → W → Type 0) → Act V → Act W → Type 0
SameAct R L (act_arith o a b) (act_arith p c d) = (o ≡ p) × R a c × R b d
SameAct R L (act_divisor a b) (act_divisor c d) = R a c × R b d
SameAct R L (act_negate a) (act_negate c) = R a c
SameAct R L (act_compare o a b) (act_compare p c d) = (o ≡ p) × R a c × R b d
SameAct R L (act_test a) (act_test c) = R a c
SameAct R L (act_access a) (act_access c) = R a c
SameAct R L (act_index a b n w) (act_index c d m v) = L a c × R b d × (n ≡ m) × (w ≡ v)
SameAct R L _ _ = ⊥

-- what relates the values that it gives at an outcome: an access of NULL gives no location
abbrev pub Gives : {V W : Type 0} → (V → W → Type 0) → (V → W → Type 0) → Act V → Outcome → V → W → Type 0
Gives R L (act_arith o a b) t v w = R v w
Gives R L (act_negate a) t v w = R v w
Gives R L (act_access a) t v w = t ≢ Zero → L v w
Gives R L (act_index p i n k) t v w = L v w
Gives R L _ t v w = Unit {0}

-- what relates two domains: worlds that grow, values, locations, data, events that go on together, and events at which runs part.
-- What is known of values, locations and events in a world is known in each later one.
pub record Related (d e : Domain) : Type 1 where
  pub W : Type 0
  pub Le : W → W → Type 0
  pub le_refl : (w : W) → Le w w
  pub le_trans : (w w' w'' : W) → Le w w' → Le w' w'' → Le w w''
  pub RV : W → d.V → e.V → Type 0
  pub RL : W → d.V → e.V → Type 0
  pub later_value : (w w' : W) (v : d.V) (v' : e.V) → Le w w' → RV w v v' → RV w' v v'
  pub later_location : (w w' : W) (v : d.V) (v' : e.V) → Le w w' → RL w v v' → RL w' v v'
  pub RD : W → d.D → e.D → Type 0
  pub Ev : W → d.E → e.E → Type 0
  pub Part : W → d.E → e.E → Type 0
  pub later_event : (w w' : W) (a : d.E) (b : e.E) → Le w w' → Ev w a b → Ev w' a b
  pub number : (w : W) (z : ℤ) → RV w (d.number z) (e.number z)
  pub nil : (w : W) → RV w d.nil e.nil
  pub address : (w : W) (v : d.V) (v' : e.V) → RL w v v' → RV w v v'
  pub offset : (w : W) (v : d.V) (v' : e.V) (n : ℕ) → RL w v v' → RL w (d.offset v n) (e.offset v' n)
  pub global : (w : W) (n : ℕ) → RL w (d.global n) (e.global n)
  pub load : (w : W) (p : d.V) (q : e.V) (x : d.D) (y : e.D) → RL w p q → RD w x y → RV w (d.load p x) (e.load q y)
  pub store : (w : W) (p v : d.V) (q v' : e.V) (x : d.D) (y : e.D) → RL w p q → RV w v v' → RD w x y → RD w (d.store p v x) (e.store q v' y)
  pub make : (w : W) (t : Layout) (x : d.D) (y : e.D) → RD w x y → RL w (d.make t x).value (e.make t y).value × RD w (d.make t x).after (e.make t y).after
  pub take : (w : W) (p : d.V) (q : e.V) (x : d.D) (y : e.D) → RL w p q → RD w x y → (w' : W) × Le w w' × RD w' (d.take p x) (e.take q y)
  pub act : (w : W) (a : Act d.V) (b : Act e.V) (x : d.D) (y : e.D) → SameAct (RV w) (RL w) a b → RD w x y →
      ((w' : W) × Le w w' × (d.outcome (d.act a x).event ≡ e.outcome (e.act b y).event) × Ev w' (d.act a x).event (e.act b y).event
      × Gives (RV w') (RL w') a (d.outcome (d.act a x).event) (d.act a x).value (e.act b y).value × RD w' (d.act a x).after (e.act b y).after)
      ⊎ Part w (d.act a x).event (e.act b y).event

module _ (d e : Domain) (r : Related d e) where
  pub record SameEntry (w : r.W) (a : Entry d.E) (b : Entry e.E) : Type 0 where
    pub kind : a.kind ≡ b.kind
    pub token : a.token ≡ b.token
    pub outcome : d.outcome a.event ≡ e.outcome b.event
    pub known : r.Ev w a.event b.event

  abbrev pub SameLogs : r.W → List (Entry d.E) → List (Entry e.E) → Type 0
  SameLogs w [] [] = Unit {0}
  SameLogs w (a ∷ l) (b ∷ m) = SameEntry w a b × SameLogs w l m
  SameLogs w _ _ = ⊥

  -- the logs agree up to an event at which they part
  abbrev pub PartLogs : r.W → List (Entry d.E) → List (Entry e.E) → Type 0
  PartLogs w (a ∷ l) (b ∷ m) = SameEntry w a b × PartLogs w l m ⊎ (a.kind ≡ b.kind) × (a.token ≡ b.token) × r.Part w a.event b.event
  PartLogs w _ _ = ⊥

  pub record SameState (w : r.W) (s : State d.V d.D) (t : State e.V e.D) : Type 0 where
    pub steps : s.steps ≡ t.steps
    pub events : s.events ≡ t.events
    pub locals : (n : ℕ) → r.RL w (s.locals n) (t.locals n)
    pub data_now : r.RD w s.data_now t.data_now

  abbrev pub SameResult : {A B : Type 0} → r.W → (r.W → A → B → Type 0) → Result (State d.V d.D) A → Result (State e.V e.D) B → Type 0
  SameResult w R (ok a s) (ok b t) = R w a b × SameState w s t
  SameResult w R (over f s) (over g t) = (f ≡ g) × SameState w s t
  SameResult w R _ _ = ⊥

  -- in a later world the logs and the results agree, or the logs part
  abbrev pub SameRan : {A B : Type 0} → r.W → (r.W → A → B → Type 0) → Ran d.E (State d.V d.D) A → Ran e.E (State e.V e.D) B → Type 0
  SameRan w R p q = ((v : r.W) × r.Le w v × SameLogs v p.log q.log × SameResult v R p.result q.result) ⊎ ((v : r.W) × r.Le w v × PartLogs v p.log q.log)

  -- from the world w and each later one
  abbrev pub Same : {A B : Type 0} → r.W → (r.W → A → B → Type 0) → M d A → M e B → Type 0
  Same w R m n = (w' : r.W) → r.Le w w' → (s : State d.V d.D) (t : State e.V e.D) → SameState w' s t → SameRan w' R (m s) (n t)

  -- ---- one piece after another

  later_entry : (w w' : r.W) (a : Entry d.E) (b : Entry e.E) → r.Le w w' → SameEntry w a b → SameEntry w' a b
  later_entry w w' a b le h = record { kind = h.kind; token = h.token; outcome = h.outcome; known = r.later_event w w' a.event b.event le h.known }

  pub later_logs : (w w' : r.W) (l : List (Entry d.E)) (m : List (Entry e.E)) → r.Le w w' → SameLogs w l m → SameLogs w' l m
  later_logs w w' [] [] le h = tt
  later_logs w w' (a ∷ l) (b ∷ m) le h = (later_entry w w' a b le h.0, later_logs w w' l m le h.1)
  later_logs w w' [] (b ∷ m) le h = absurd h
  later_logs w w' (a ∷ l) [] le h = absurd h

  same_append : (w : r.W) (l l' : List (Entry d.E)) (m m' : List (Entry e.E)) → SameLogs w l m → SameLogs w l' m' → SameLogs w (l ++ l') (m ++ m')
  same_append w [] l' [] m' p q = q
  same_append w (a ∷ l) l' (b ∷ m) m' p q = (p.0, same_append w l l' m m' p.1 q)
  same_append w [] l' (b ∷ m) m' p q = absurd p
  same_append w (a ∷ l) l' [] m' p q = absurd p

  same_part : (w : r.W) (l l' : List (Entry d.E)) (m m' : List (Entry e.E)) → SameLogs w l m → PartLogs w l' m' → PartLogs w (l ++ l') (m ++ m')
  same_part w [] l' [] m' p q = q
  same_part w (a ∷ l) l' (b ∷ m) m' p q = inl (p.0, same_part w l l' m m' p.1 q)
  same_part w [] l' (b ∷ m) m' p q = absurd p
  same_part w (a ∷ l) l' [] m' p q = absurd p

  part_append : (w : r.W) (l l' : List (Entry d.E)) (m m' : List (Entry e.E)) → PartLogs w l m → PartLogs w (l ++ l') (m ++ m')
  part_append w (a ∷ l) l' (b ∷ m) m' (inl p) = inl (p.0, part_append w l l' m m' p.1)
  part_append w (a ∷ l) l' (b ∷ m) m' (inr p) = inr p
  part_append w [] l' [] m' p = absurd p
  part_append w [] l' (b ∷ m) m' p = absurd p
  part_append w (a ∷ l) l' [] m' p = absurd p

  part_left : (w : r.W) (l l' : List (Entry d.E)) (m : List (Entry e.E)) → PartLogs w l m → PartLogs w (l ++ l') m
  part_left w (a ∷ l) l' (b ∷ m) (inl p) = inl (p.0, part_left w l l' m p.1)
  part_left w (a ∷ l) l' (b ∷ m) (inr p) = inr p
  part_left w [] l' [] p = absurd p
  part_left w [] l' (b ∷ m) p = absurd p
  part_left w (a ∷ l) l' [] p = absurd p

  part_right : (w : r.W) (l : List (Entry d.E)) (m m' : List (Entry e.E)) → PartLogs w l m → PartLogs w l (m ++ m')
  part_right w (a ∷ l) (b ∷ m) m' (inl p) = inl (p.0, part_right w l m m' p.1)
  part_right w (a ∷ l) (b ∷ m) m' (inr p) = inr p
  part_right w [] [] m' p = absurd p
  part_right w [] (b ∷ m) m' p = absurd p
  part_right w (a ∷ l) [] m' p = absurd p

  -- the rest of the runs keeps the parting
  part_on : {A A' B B' : Type 0} → (w : r.W) (l : List (Entry d.E)) (m : List (Entry e.E)) (p : Result (State d.V d.D) A) (q : Result (State e.V e.D) B) (f : A → M d A') (g : B → M e B') → PartLogs w l m → PartLogs w (go_on d l p f).log (go_on e m q g).log
  unfolding go_on prepend
  part_on w l m (ok a s) (ok b t) f g h = part_append w l _ m _ h
  part_on w l m (ok a s) (over j t) f g h = part_left w l _ m h
  part_on w l m (over i s) (ok b t) f g h = part_right w l m _ h
  part_on w l m (over i s) (over j t) f g h = h

  same_prepend : {A B : Type 0} → (Q : r.W → A → B → Type 0) (w w' : r.W) (l : List (Entry d.E)) (m : List (Entry e.E)) (p : Ran d.E (State d.V d.D) A) (q : Ran e.E (State e.V e.D) B) → r.Le w w' → SameLogs w' l m → SameRan w' Q p q → SameRan w Q (prepend d l p) (prepend e m q)
  unfolding prepend
  same_prepend Q w w' l m p q le h (inl k) = inl (k.0, r.le_trans w w' k.0 le k.1, same_append k.0 l p.log m q.log (later_logs w' k.0 l m k.1 h) k.2, k.3)
  same_prepend Q w w' l m p q le h (inr k) = inr (k.0, r.le_trans w w' k.0 le k.1, same_part k.0 l p.log m q.log (later_logs w' k.0 l m k.1 h) k.2)

  -- what follows in a later world
  abbrev pub Next : {A A' B B' : Type 0} → r.W → (r.W → A → B → Type 0) → (r.W → A' → B' → Type 0) → (A → M d A') → (B → M e B') → Type 0
  Next {A = A} {B = B} w R Q f g = (w' : r.W) → r.Le w w' → (a : A) (b : B) → R w' a b → Same w' Q (f a) (g b)

  same_go_on : {A A' B B' : Type 0} → (R : r.W → A → B → Type 0) (Q : r.W → A' → B' → Type 0) (w v u : r.W) (l : List (Entry d.E)) (m : List (Entry e.E)) (p : Result (State d.V d.D) A) (q : Result (State e.V e.D) B) (f : A → M d A') (g : B → M e B') → r.Le w v → r.Le v u → SameLogs u l m → SameResult u R p q → Next w R Q f g → SameRan v Q (go_on d l p f) (go_on e m q g)
  unfolding go_on
  same_go_on R Q w v u l m (ok a s) (ok b t) f g le le' h k c = same_prepend Q v u l m (f a s) (g b t) le' h (c u (r.le_trans w v u le le') a b k.0 u (r.le_refl u) s t k.1)
  same_go_on R Q w v u l m (over i s) (over j t) f g le le' h k c = inl (u, le', h, k)
  same_go_on R Q w v u l m (ok a s) (over j t) f g le le' h k c = absurd k
  same_go_on R Q w v u l m (over i s) (ok b t) f g le le' h k c = absurd k

  bind_ran : {A A' B B' : Type 0} → (R : r.W → A → B → Type 0) (Q : r.W → A' → B' → Type 0) (w v : r.W) (p : Ran d.E (State d.V d.D) A) (q : Ran e.E (State e.V e.D) B) (f : A → M d A') (g : B → M e B') → r.Le w v → SameRan v R p q → Next w R Q f g → SameRan v Q (go_on d p.log p.result f) (go_on e q.log q.result g)
  bind_ran R Q w v p q f g le (inl h) c = same_go_on R Q w v h.0 p.log q.log p.result q.result f g le h.1 h.2 h.3 c
  bind_ran R Q w v p q f g le (inr h) c = inr (h.0, h.1, part_on h.0 p.log q.log p.result q.result f g h.2)

  pub same_bind : {A A' B B' : Type 0} → (R : r.W → A → B → Type 0) (Q : r.W → A' → B' → Type 0) (w : r.W) (m : M d A) (n : M e B) (f : A → M d A') (g : B → M e B') → Same w R m n → Next w R Q f g → Same w Q (◌>>=◌ d m f) (◌>>=◌ e n g)
  unfolding ◌>>=◌
  same_bind R Q w m n f g h c = λ v le s t k. bind_ran R Q w v (m s) (n t) f g le (h v le s t k) c

  pub later_same : {A B : Type 0} → (Q : r.W → A → B → Type 0) (w w' : r.W) (m : M d A) (n : M e B) → r.Le w w' → Same w Q m n → Same w' Q m n
  later_same Q w w' m n le h = λ v le' s t k. h v (r.le_trans w w' v le le') s t k

  pub same_then : {A A' B B' : Type 0} → (R : r.W → A → B → Type 0) (Q : r.W → A' → B' → Type 0) (w : r.W) (m : M d A) (n : M e B) (f : M d A') (g : M e B') → Same w R m n → Same w Q f g → Same w Q (◌>>◌ d m f) (◌>>◌ e n g)
  unfolding ◌>>◌
  same_then R Q w m n f g h c = same_bind R Q w m n (λ _. f) (λ _. g) h (λ w' le a b k. later_same Q w w' f g le c)

  pub same_pure : {A B : Type 0} → (R : r.W → A → B → Type 0) (w : r.W) (a : A) (b : B) → ((w' : r.W) → r.Le w w' → R w' a b) → Same w R (pure d a) (pure e b)
  unfolding pure
  same_pure R w a b h = λ v le s t k. inl (v, r.le_refl v, tt, (h v le, k))

  widen_result : {A B : Type 0} → (R Q : r.W → A → B → Type 0) (w : r.W) (p : Result (State d.V d.D) A) (q : Result (State e.V e.D) B) → ((a : A) (b : B) → R w a b → Q w a b) → SameResult w R p q → SameResult w Q p q
  widen_result R Q w (ok a s) (ok b t) i h = (i a b h.0, h.1)
  widen_result R Q w (over f s) (over g t) i h = h
  widen_result R Q w (ok a s) (over g t) i h = absurd h
  widen_result R Q w (over f s) (ok b t) i h = absurd h

  widen_ran : {A B : Type 0} → (R Q : r.W → A → B → Type 0) (w : r.W) (p : Ran d.E (State d.V d.D) A) (q : Ran e.E (State e.V e.D) B) → ((w' : r.W) (a : A) (b : B) → R w' a b → Q w' a b) → SameRan w R p q → SameRan w Q p q
  widen_ran R Q w p q i (inl h) = inl (h.0, h.1, h.2, widen_result R Q h.0 p.result q.result (i h.0) h.3)
  widen_ran R Q w p q i (inr h) = inr h

  -- results that one relation relates, another does
  pub same_widen : {A B : Type 0} → (R Q : r.W → A → B → Type 0) (w : r.W) (m : M d A) (n : M e B) → Same w R m n → ((w' : r.W) (a : A) (b : B) → R w' a b → Q w' a b) → Same w Q m n
  same_widen R Q w m n h i = λ v le s t k. widen_ran R Q v (m s) (n t) i (h v le s t k)

  pub same_stop : {A B : Type 0} → (R : r.W → A → B → Type 0) (w : r.W) (f : End) → Same w R (stop d {A = A} f) (stop e {A = B} f)
  unfolding stop
  same_stop R w f = λ v le s t k. inl (v, r.le_refl v, tt, (refl, k))

  pub same_choose : {A B : Type 0} → (R : r.W → A → B → Type 0) (w : r.W) (b c : Bool) (m m' : M d A) (n n' : M e B) → b ≡ c → Same w R m n → Same w R m' n' → Same w R (choose d b m m') (choose e c n n')
  unfolding choose
  same_choose R w true true m m' n n' p h k = h
  same_choose R w false false m m' n n' p h k = k
  same_choose R w true false m m' n n' p h k = absurd (cc p)
  same_choose R w false true m m' n n' p h k = absurd (cc p)

  -- ---- steps

  abbrev pub Eq : {A : Type 0} → r.W → A → A → Type 0
  Eq w a b = a ≡ b

  abbrev pub Void : r.W → Unit {0} → Unit {0} → Type 0
  Void w a b = Unit {0}

  same_done : (w : r.W) → Same w Void (pure d tt) (pure e tt)
  same_done w = same_pure Void w tt tt (λ w' le. tt)

  same_step_at : (w : r.W) (n m : ℕ) → n ≡ m → Same w Void (step_at d n) (step_at e m)
  unfolding step_at
  same_step_at w zero zero p = same_stop Void w Steps
  same_step_at w (suc n) (suc m) p = λ v le s t k. inl (v, r.le_refl v, tt, (tt, record { steps = omega (arith, p); events = k.events; locals = k.locals; data_now = k.data_now }))
  same_step_at w zero (suc m) p = absurd (omega (arith, p))
  same_step_at w (suc n) zero p = absurd (omega (arith, p))

  pub same_step : (w : r.W) → Same w Void (step d) (step e)
  unfolding step
  same_step w = λ v le s t k. same_step_at v s.steps t.steps k.steps v (r.le_refl v) s t k

  -- a step and then the rest
  after_step : {A B : Type 0} → (Q : r.W → A → B → Type 0) (w : r.W) (f : M d A) (g : M e B) → Same w Q f g → Same w Q (◌>>◌ d (step d) f) (◌>>◌ e (step e) g)
  after_step Q w f g h = same_then Void Q w (step d) (step e) f g (same_step w) h

  pub same_steps : (n : ℕ) (w : r.W) → Same w Void (steps d n) (steps e n)
  unfolding steps
  same_steps zero w = same_done w
  same_steps (suc n) w = after_step Void w (steps d n) (steps e n) (same_steps n w)

  -- ---- locals and data

  pub same_local : (w : r.W) (n : ℕ) → Same w r.RL (of.local d n) (of.local e n)
  unfolding of.local
  same_local w n = λ v le s t k. inl (v, r.le_refl v, tt, (k.locals n, k))

  abbrev pub SameLocals : r.W → (ℕ → d.V) → (ℕ → e.V) → Type 0
  SameLocals w f g = (n : ℕ) → r.RL w (f n) (g n)

  pub same_get_locals : (w : r.W) → Same w SameLocals (of.get_locals d) (of.get_locals e)
  unfolding of.get_locals
  same_get_locals w = λ v le s t k. inl (v, r.le_refl v, tt, (k.locals, k))

  pub same_set_locals : (w : r.W) (f : ℕ → d.V) (g : ℕ → e.V) → SameLocals w f g → Same w Void (of.set_locals d f) (of.set_locals e g)
  unfolding of.set_locals
  same_set_locals w f g h = λ v le s t k. inl (v, r.le_refl v, tt, (tt, record { steps = k.steps; events = k.events; locals = λ n. r.later_location w v (f n) (g n) le (h n); data_now = k.data_now }))

  same_if : (w : r.W) (b : Bool) (v v' : d.V) (u u' : e.V) → r.RL w v u → r.RL w v' u' → r.RL w (if b then v else v') (if b then u else u')
  same_if w true v v' u u' h k = h
  same_if w false v v' u u' h k = k

  pub same_bound : (w : r.W) (n : ℕ) (v : d.V) (u : e.V) → r.RL w v u → Same w Void (of.bind d n v) (of.bind e n u)
  unfolding of.bind
  same_bound w n v u h = λ w' le s t k. inl (w', r.le_refl w', tt, (tt, record { steps = k.steps; events = k.events; locals = λ m. same_if w' (nat_eq m n) v (s.locals m) u (t.locals m) (r.later_location w w' v u le h) (k.locals m); data_now = k.data_now }))

  pub same_load : (w : r.W) (p : d.V) (q : e.V) → r.RL w p q → Same w r.RV (of.load d p) (of.load e q)
  unfolding of.load
  same_load w p q h = λ v le s t k. inl (v, r.le_refl v, tt, (r.load v p q s.data_now t.data_now (r.later_location w v p q le h) k.data_now, k))

  pub same_store : (w : r.W) (p v : d.V) (q u : e.V) → r.RL w p q → r.RV w v u → Same w Void (of.store d p v) (of.store e q u)
  unfolding of.store
  same_store w p v q u h j = λ w' le s t k. inl (w', r.le_refl w', tt, (tt, record { steps = k.steps; events = k.events; locals = k.locals; data_now = r.store w' p v q u s.data_now t.data_now (r.later_location w w' p q le h) (r.later_value w w' v u le j) k.data_now }))

  pub same_take : (w : r.W) (p : d.V) (q : e.V) → r.RL w p q → Same w Void (of.take d p) (of.take e q)
  unfolding of.take
  same_take w p q h = λ v le s t k.
      let i = r.take v p q s.data_now t.data_now (r.later_location w v p q le h) k.data_now in
      inl (i.0, i.1, tt, (tt, record { steps = k.steps; events = k.events; locals = λ n. r.later_location v i.0 (s.locals n) (t.locals n) i.1 (k.locals n); data_now = i.2 }))

  pub same_make : (w : r.W) (c : Layout) → Same w r.RL (of.make d c) (of.make e c)
  unfolding of.make
  same_make w c = λ v le s t k.
      let h = r.make v c s.data_now t.data_now k.data_now in
      inl (v, r.le_refl v, tt, (h.0, record { steps = k.steps; events = k.events; locals = k.locals; data_now = h.1 }))

  -- ---- events

  later_list : (a : Act d.V) (b : Act e.V) (w w' : r.W) → r.Le w w' → SameAct (r.RV w) (r.RL w) a b → SameAct (r.RV w') (r.RL w') a b
  later_list (act_arith o a b) (act_arith p c f) w w' le h = (h.0, r.later_value w w' a c le h.1, r.later_value w w' b f le h.2)
  later_list (act_divisor a b) (act_divisor c f) w w' le h = (r.later_value w w' a c le h.0, r.later_value w w' b f le h.1)
  later_list (act_negate a) (act_negate c) w w' le h = r.later_value w w' a c le h
  later_list (act_compare o a b) (act_compare p c f) w w' le h = (h.0, r.later_value w w' a c le h.1, r.later_value w w' b f le h.2)
  later_list (act_test a) (act_test c) w w' le h = r.later_value w w' a c le h
  later_list (act_access a) (act_access c) w w' le h = r.later_value w w' a c le h
  later_list (act_index a b n k) (act_index c f m j) w w' le h = (r.later_location w w' a c le h.0, r.later_value w w' b f le h.1, h.2, h.3)
  later_list _ _ w w' le h = absurd h

  pub record SameSeen (a : Act d.V) (w : r.W) (v : Seen d.V) (u : Seen e.V) : Type 0 where
    pub outcome : v.outcome ≡ u.outcome
    pub value : Gives (r.RV w) (r.RL w) a v.outcome v.value u.value

  same_event_at : (w : r.W) (n m : ℕ) → n ≡ m → (k : SiteKind) (t : ℕ) (a : Act d.V) (b : Act e.V) → SameAct (r.RV w) (r.RL w) a b → Same w (SameSeen a) (of.event_at d n k t a) (of.event_at e m k t b)
  unfolding of.event_at
  same_event_at w zero zero p k t a b h = same_stop (SameSeen a) w Cut
  same_event_at w zero (suc m) p k t a b h = absurd (omega (arith, p))
  same_event_at w (suc n) zero p k t a b h = absurd (omega (arith, p))
  same_event_at w (suc n) (suc m) p k t a b h = λ v le s u j. elim (r.act v a b s.data_now u.data_now (later_list a b w v le h) j.data_now) [
    | inl x ↦ inl (x.0, x.1, (record { kind = refl; token = refl; outcome = x.2; known = x.3 }, tt), (record { outcome = x.2; value = x.4 }, record { steps = j.steps; events = omega (arith, p); locals = λ i. r.later_location v x.0 (s.locals i) (u.locals i) x.1 (j.locals i); data_now = x.5 }))
    | inr x ↦ inr (v, r.le_refl v, inr (refl, refl, x))
  ]

  pub same_event : (w : r.W) (k : SiteKind) (t : ℕ) (a : Act d.V) (b : Act e.V) → SameAct (r.RV w) (r.RL w) a b → Same w (SameSeen a) (of.event d k t a) (of.event e k t b)
  unfolding of.event
  same_event w k t a b h = λ v le s u j. same_event_at v s.events u.events j.events k t a b (later_list a b w v le h) v (r.le_refl v) s u j

  if_plain_at : {A B : Type 0} → (R : r.W → A → B → Type 0) (w : r.W) (o : Outcome) (f : End) (m : M d A) (n : M e B) → Same w R m n → Same w R (of.if_plain d o f m) (of.if_plain e o f n)
  unfolding of.if_plain
  if_plain_at R w Plain f m n h = h
  if_plain_at R w _ f m n h = same_stop R w f

  pub same_if_plain : {A B : Type 0} → (R : r.W → A → B → Type 0) (w : r.W) (o o' : Outcome) (f : End) (m : M d A) (n : M e B) → o ≡ o' → Same w R m n → Same w R (of.if_plain d o f m) (of.if_plain e o' f n)
  same_if_plain R w o o' f m n p h = subst (λ q. Same w R (of.if_plain d o f m) (of.if_plain e q f n)) p (if_plain_at R w o f m n h)

  if_made_at : {A B : Type 0} → (R : r.W → A → B → Type 0) (w : r.W) (k : ℕ) (o : Outcome) (f : End) (m : M d A) (n : M e B) → (o ≢ Zero → Same w R m n) → Same w R (of.if_made d k o f m) (of.if_made e k o f n)
  unfolding of.if_made
  if_made_at R w k Zero f m n h = same_stop R w f
  if_made_at R w k (Object a) f m n h = same_choose R w (nat_lt a k) (nat_lt a k) m (stop d Objects) n (stop e Objects) refl (h (λ z. cc z)) (same_stop R w Objects)
  if_made_at R w k High f m n h = h (λ z. cc z)
  if_made_at R w k Low f m n h = h (λ z. cc z)
  if_made_at R w k Plain f m n h = h (λ z. cc z)
  if_made_at R w k False f m n h = h (λ z. cc z)
  if_made_at R w k True f m n h = h (λ z. cc z)

  pub same_if_made : {A B : Type 0} → (R : r.W → A → B → Type 0) (w : r.W) (k : ℕ) (o o' : Outcome) (f : End) (m : M d A) (n : M e B) → o ≡ o' → (o ≢ Zero → Same w R m n) → Same w R (of.if_made d k o f m) (of.if_made e k o' f n)
  same_if_made R w k o o' f m n p h = subst (λ q. Same w R (of.if_made d k o f m) (of.if_made e k q f n)) p (if_made_at R w k o f m n h)

  value_later : (w : r.W) (v : d.V) (u : e.V) → r.RV w v u → (w' : r.W) → r.Le w w' → r.RV w' v u
  value_later w v u h w' le = r.later_value w w' v u le h

  location_later : (w : r.W) (v : d.V) (u : e.V) → r.RL w v u → (w' : r.W) → r.Le w w' → r.RL w' v u
  location_later w v u h w' le = r.later_location w w' v u le h

  module _ (x : Fixed) where
    same_index : (w : r.W) (t : ℕ) (p i : d.V) (q j : e.V) (n k : ℕ) → r.RL w p q → r.RV w i j → Same w r.RL (of.checked d x site.Index Index t (act_index p i n k)) (of.checked e x site.Index Index t (act_index q j n k))
    unfolding of.checked
    same_index w t p i q j n k g h = same_bind (SameSeen (act_index p i n k)) r.RL w _ _ _ _ (same_event w site.Index t (act_index p i n k) (act_index q j n k) (g, h, refl, refl)) (λ w' le v u o. same_if_plain r.RL w' v.outcome u.outcome _ _ _ o.outcome (same_pure r.RL w' v.value u.value (location_later w' v.value u.value o.value)))

    same_negate : (w : r.W) (t : ℕ) (a : d.V) (b : e.V) → r.RV w a b → Same w r.RV (of.checked d x site.Fit Overflow t (act_negate a)) (of.checked e x site.Fit Overflow t (act_negate b))
    unfolding of.checked
    same_negate w t a b h = same_bind (SameSeen (act_negate a)) r.RV w _ _ _ _ (same_event w site.Fit t (act_negate a) (act_negate b) h) (λ w' le v u o. same_if_plain r.RV w' v.outcome u.outcome _ _ _ o.outcome (same_pure r.RV w' v.value u.value (value_later w' v.value u.value o.value)))

    same_fits : (w : r.W) (t : ℕ) (o : Op) (a b : d.V) (a' b' : e.V) → r.RV w a a' → r.RV w b b' → Same w r.RV (of.fits d x t o a b) (of.fits e x t o a' b')
    unfolding of.checked of.fits
    same_fits w t o a b a' b' h k = same_bind (SameSeen (act_arith o a b)) r.RV w _ _ _ _ (same_event w site.Fit t (act_arith o a b) (act_arith o a' b') (refl, h, k)) (λ w' le v u i. same_if_plain r.RV w' v.outcome u.outcome _ _ _ i.outcome (same_pure r.RV w' v.value u.value (value_later w' v.value u.value i.value)))

    Any : r.W → d.V → e.V → Type 0
    Any w v u = Unit {0}

    same_divisor : (w : r.W) (t : ℕ) (a b : d.V) (a' b' : e.V) → r.RV w a a' → r.RV w b b' → Same w Any (of.checked d x site.Divisor Divide t (act_divisor a b)) (of.checked e x site.Divisor Divide t (act_divisor a' b'))
    unfolding of.checked Any
    same_divisor w t a b a' b' h k = same_bind (SameSeen (act_divisor a b)) Any w _ _ _ _ (same_event w site.Divisor t (act_divisor a b) (act_divisor a' b') (h, k)) (λ w' le v u i. same_if_plain Any w' v.outcome u.outcome _ _ _ i.outcome (same_pure Any w' v.value u.value (λ v le. tt)))

    pub same_decided : (w : r.W) (t : ℕ) (a : Act d.V) (b : Act e.V) → SameAct (r.RV w) (r.RL w) a b → Same w (Eq {A = Bool}) (of.decided d x t a) (of.decided e x t b)
    unfolding of.decided
    same_decided w t a b h = same_bind (SameSeen a) Eq w _ _ _ _ (same_event w site.Decision t a b h) (λ w' le v u j. same_pure Eq w' _ _ (λ v' le'. ap of.is_true j.outcome))

    pub same_accessed : (w : r.W) (t : ℕ) (v : d.V) (u : e.V) → r.RV w v u → Same w r.RL (of.accessed d x t v) (of.accessed e x t u)
    unfolding of.accessed
    same_accessed w t v u h = same_bind (SameSeen (act_access v)) r.RL w _ _ _ _ (same_event w site.Access t (act_access v) (act_access u) h) (λ w' le a b j. same_if_made r.RL w' x.objects a.outcome b.outcome _ _ _ j.outcome (λ z. same_pure r.RL w' a.value b.value (location_later w' a.value b.value (j.value z))))

    same_division : (w : r.W) (t : ℕ) (o : Op) (a b : d.V) (a' b' : e.V) → r.RV w a a' → r.RV w b b' → Same w r.RV (◌>>◌ d (of.checked d x site.Divisor Divide t (act_divisor a b)) (of.fits d x t o a b)) (◌>>◌ e (of.checked e x site.Divisor Divide t (act_divisor a' b')) (of.fits e x t o a' b'))
    same_division w t o a b a' b' h k = same_then Any r.RV w _ _ _ _ (same_divisor w t a b a' b' h k) (same_fits w t o a b a' b' h k)

    pub same_binary : (w : r.W) (t : ℕ) (o : Op) (a b : d.V) (a' b' : e.V) → r.RV w a a' → r.RV w b b' → Same w r.RV (of.binary d x t o a b) (of.binary e x t o a' b')
    unfolding of.binary
    same_binary w t tree.quot a b a' b' h k = same_division w t tree.quot a b a' b' h k
    same_binary w t tree.rem a b a' b' h k = same_division w t tree.rem a b a' b' h k
    same_binary w t tree.add a b a' b' h k = same_fits w t tree.add a b a' b' h k
    same_binary w t tree.sub a b a' b' h k = same_fits w t tree.sub a b a' b' h k
    same_binary w t tree.mul a b a' b' h k = same_fits w t tree.mul a b a' b' h k

    same_truth_value : (w : r.W) (b c : Bool) → b ≡ c → r.RV w (of.truth_value d x b) (of.truth_value e x c)
    unfolding of.truth_value
    same_truth_value w true true p = r.number w (pos 1)
    same_truth_value w false false p = r.number w (pos 0)
    same_truth_value w true false p = absurd (cc p)
    same_truth_value w false true p = absurd (cc p)

    abbrev pub SameVals : r.W → List d.V → List e.V → Type 0
    SameVals w [] [] = Unit {0}
    SameVals w (v ∷ vs) (u ∷ us) = r.RV w v u × SameVals w vs us
    SameVals w _ _ = ⊥

    later_vals : (w w' : r.W) (vs : List d.V) (us : List e.V) → r.Le w w' → SameVals w vs us → SameVals w' vs us
    later_vals w w' [] [] le h = tt
    later_vals w w' (v ∷ vs) (u ∷ us) le h = (r.later_value w w' v u le h.0, later_vals w w' vs us le h.1)
    later_vals w w' [] (u ∷ us) le h = absurd h
    later_vals w w' (v ∷ vs) [] le h = absurd h

    abbrev pub SameReturn : r.W → Option d.V → Option e.V → Type 0
    SameReturn w None None = Unit {0}
    SameReturn w (Some v) (Some u) = r.RV w v u
    SameReturn w _ _ = ⊥

    abbrev pub SameFlow : r.W → Flow d.V → Flow e.V → Type 0
    SameFlow w on on = Unit {0}
    SameFlow w broken broken = Unit {0}
    SameFlow w continued continued = Unit {0}
    SameFlow w (returned v) (returned u) = SameReturn w v u
    SameFlow w _ _ = ⊥

    abbrev pub Handlers : (ℕ → List d.V → M d d.V) → (ℕ → List e.V → M e e.V) → Type 0
    Handlers h g = (w : r.W) (f : ℕ) (vs : List d.V) (us : List e.V) → SameVals w vs us → Same w r.RV (h f vs) (g f us)

    -- ---- expressions

    module _ (h : ℕ → List d.V → M d d.V) (g : ℕ → List e.V → M e e.V) (k : Handlers h g) where
      mutual
        unfolding of.value

        pub same_value : (a : Val) (w : r.W) → Same w r.RV (of.value d x h a) (of.value e x g a)
        same_value (tree.number z) w = same_pure r.RV w _ _ (λ w' le. r.number w' z)
        same_value tree.nil w = same_pure r.RV w _ _ (λ w' le. r.nil w')
        same_value (tree.read l) w = same_bind r.RL r.RV w _ _ _ _ (same_locate l w) (λ w' le p q i. same_load w' p q i)
        same_value (tree.arith t o a b) w = after_step r.RV w _ _ (same_bind r.RV r.RV w _ _ _ _ (same_value a w) (λ w' le v u i. same_bind r.RV r.RV w' _ _ _ _ (same_value b w') (λ w'' le' v' u' j. same_binary w'' t o v v' u u' (value_later w' v u i w'' le') j)))
        same_value (tree.negate t a) w = after_step r.RV w _ _ (same_bind r.RV r.RV w _ _ _ _ (same_value a w) (λ w' le v u i. same_negate w' t v u i))
        same_value (tree.truth c) w = same_bind Eq r.RV w _ _ _ _ (same_truth c w) (λ w' le b b' i. same_pure r.RV w' _ _ (λ w'' le'. same_truth_value w'' b b' i))
        same_value (tree.address l) w = after_step r.RV w _ _ (same_widen r.RL r.RV w (of.locate d x h l) (of.locate e x g l) (same_locate l w) r.address)
        same_value (tree.call f args) w = after_step r.RV w _ _ (same_bind SameVals r.RV w _ _ _ _ (same_values args w) (λ w' le vs us i. k w' f vs us i))
        same_value (tree.malloc c) w = after_step r.RV w _ _ (same_then Void r.RV w _ _ _ _ (same_steps (length c.cells) w) (same_widen r.RL r.RV w (of.make d c) (of.make e c) (same_make w c) r.address))

        pub same_truth : (c : Cond) (w : r.W) → Same w (Eq {A = Bool}) (of.truth d x h c) (of.truth e x g c)
        same_truth (tree.compare t o a b) w = after_step Eq w _ _ (same_bind r.RV Eq w _ _ _ _ (same_value a w) (λ w' le v u i. same_bind r.RV Eq w' _ _ _ _ (same_value b w') (λ w'' le' v' u' j. same_decided w'' t (act_compare o v v') (act_compare o u u') (refl, value_later w' v u i w'' le', j))))
        same_truth (tree.opposite c) w = after_step Eq w _ _ (same_bind Eq Eq w _ _ _ _ (same_truth c w) (λ w' le b b' i. same_pure Eq w' _ _ (λ w'' le'. ap not i)))
        same_truth (tree.both a b) w = after_step Eq w _ _ (same_bind Eq Eq w _ _ _ _ (same_truth a w) (λ w' le c c' i. same_choose Eq w' c c' _ _ _ _ i (same_truth b w') (same_pure Eq w' _ _ (λ w'' le'. refl))))
        same_truth (tree.either a b) w = after_step Eq w _ _ (same_bind Eq Eq w _ _ _ _ (same_truth a w) (λ w' le c c' i. same_choose Eq w' c c' _ _ _ _ i (same_pure Eq w' _ _ (λ w'' le'. refl)) (same_truth b w')))
        same_truth (tree.test t a) w = same_bind r.RV Eq w _ _ _ _ (same_value a w) (λ w' le v u i. same_decided w' t (act_test v) (act_test u) i)

        pub same_locate : (l : Loc) (w : r.W) → Same w r.RL (of.locate d x h l) (of.locate e x g l)
        same_locate (tree.local n) w = same_local w n
        same_locate (tree.global n) w = same_pure r.RL w _ _ (λ w' le. r.global w' n)
        same_locate (tree.deref t a) w = after_step r.RL w _ _ (same_bind r.RV r.RL w _ _ _ _ (same_value a w) (λ w' le v u i. same_accessed w' t v u i))
        same_locate (tree.arrow t a n) w = after_step r.RL w _ _ (same_bind r.RV r.RL w _ _ _ _ (same_value a w) (λ w' le v u i. same_bind r.RL r.RL w' _ _ _ _ (same_accessed w' t v u i) (λ w'' le' p q j. same_pure r.RL w'' _ _ (location_later w'' _ _ (r.offset w'' p q n j)))))
        same_locate (tree.dot l n) w = after_step r.RL w _ _ (same_bind r.RL r.RL w _ _ _ _ (same_locate l w) (λ w' le p q j. same_pure r.RL w' _ _ (location_later w' _ _ (r.offset w' p q n j))))
        same_locate (tree.index t l i n c) w = after_step r.RL w _ _ (same_bind r.RL r.RL w _ _ _ _ (same_locate l w) (λ w' le p q j. same_bind r.RV r.RL w' _ _ _ _ (same_value i w') (λ w'' le' v v' u. same_index w'' t p v q v' n c (location_later w' p q j w'' le') u)))

        pub same_values : (a : Vals) (w : r.W) → Same w SameVals (of.values d x h a) (of.values e x g a)
        same_values tree.done w = same_pure SameVals w _ _ (λ w' le. tt)
        same_values (tree.more a rest) w = same_bind r.RV SameVals w _ _ _ _ (same_value a w) (λ w' le v u i. same_bind SameVals SameVals w' _ _ _ _ (same_values rest w') (λ w'' le' vs us j. same_pure SameVals w'' _ _ (λ w3 le3. (value_later w' v u i w3 (r.le_trans w' w'' w3 le' le3), later_vals w'' w3 vs us le3 j))))

      -- ---- statements

      same_update : (w : r.W) (t : ℕ) (o : Op) (v p : d.V) (u q : e.V) → r.RV w v u → r.RL w p q → Same w Void
          (◌>>◌ d (step d) (◌>>=◌ d (of.load d p) (λ c. ◌>>=◌ d (of.binary d x t o c v) (λ a. of.store d p a))))
          (◌>>◌ e (step e) (◌>>=◌ e (of.load e q) (λ c. ◌>>=◌ e (of.binary e x t o c u) (λ a. of.store e q a))))
      same_update w t o v p u q h j = after_step Void w _ _ (same_bind r.RV Void w _ _ _ _ (same_load w p q j) (λ w' le c c' l. same_bind r.RV Void w' _ _ _ _ (same_binary w' t o c v c' u l (value_later w v u h w' le)) (λ w'' le' a b i. same_store w'' p a q b (location_later w p q j w'' (r.le_trans w w' w'' le le')) i)))

      pub same_simply : (a : Simple) (w : r.W) → Same w Void (of.simply d x h a) (of.simply e x g a)
      unfolding of.simply
      same_simply (tree.assign l a) w = same_bind r.RV Void w _ _ _ _ (same_value a w) (λ w' le v u i. same_bind r.RL Void w' _ _ _ _ (same_locate l w') (λ w'' le' p q j. same_store w'' p v q u j (value_later w' v u i w'' le')))
      same_simply (tree.update t o l a) w = same_bind r.RV Void w _ _ _ _ (same_value a w) (λ w' le v u i. same_bind r.RL Void w' _ _ _ _ (same_locate l w') (λ w'' le' p q j. same_update w'' t o v p u q (value_later w' v u i w'' le') j))
      same_simply (tree.bump t o l) w = same_bind r.RL Void w _ _ _ _ (same_locate l w) (λ w' le p q j. same_update w' t o _ p _ q (r.number w' (pos 1)) j)
      same_simply (tree.perform f args) w = after_step Void w _ _ (same_bind SameVals Void w _ _ _ _ (same_values args w) (λ w' le vs us i. same_bind r.RV Void w' _ _ _ _ (k w' f vs us i) (λ w'' le' v u j. same_done w'')))
      same_simply (tree.assert t c) w = after_step Void w _ _ (same_bind Eq Void w _ _ _ _ (same_truth c w) (λ w' le b b' i. same_choose Void w' b b' _ _ _ _ i (same_done w') (same_stop Void w' _)))
      same_simply (tree.assume c) w = after_step Void w _ _ (same_bind Eq Void w _ _ _ _ (same_truth c w) (λ w' le b b' i. same_choose Void w' b b' _ _ _ _ i (same_done w') (same_stop Void w' _)))
      same_simply (tree.abort t) w = after_step Void w _ _ (same_stop Void w _)
      same_simply (tree.take l) w = after_step Void w _ _ (same_bind r.RL Void w _ _ _ _ (same_locate l w) (λ w' le p q j. same_take w' p q j))

      same_start : (w : r.W) (p : d.V) (q : e.V) (a : Option Val) → r.RL w p q → Same w Void (of.start d x h p a) (of.start e x g q a)
      unfolding of.start
      same_start w p q None i = same_done w
      same_start w p q (Some a) i = same_bind r.RV Void w _ _ _ _ (same_value a w) (λ w' le v u j. same_store w' p v q u (location_later w p q i w' le) j)

      same_declare : (t : Declarator) (w : r.W) → Same w Void (of.declare d x h t) (of.declare e x g t)
      unfolding of.declare
      same_declare t w = after_step Void w _ _ (same_then Void Void w _ _ _ _ (same_steps (length (t.type).cells) w) (same_bind r.RL Void w _ _ _ _ (same_make w t.type) (λ w' le p q i. same_then Void Void w' _ _ _ _ (same_bound w' t.slot p q i) (same_start w' p q t.start i))))

      same_declare_all : (ts : List Declarator) (w : r.W) → Same w Void (of.declare_all d x h ts) (of.declare_all e x g ts)
      unfolding of.declare_all
      same_declare_all [] w = same_done w
      same_declare_all (t ∷ ts) w = same_then Void Void w _ _ _ _ (same_declare t w) (same_declare_all ts w)

      same_simply_if : (a : Option Simple) (w : r.W) → Same w Void (of.simply_if d x h a) (of.simply_if e x g a)
      unfolding of.simply_if
      same_simply_if None w = same_done w
      same_simply_if (Some a) w = after_step Void w _ _ (same_simply a w)

      same_truth_if : (a : Option Cond) (w : r.W) → Same w (Eq {A = Bool}) (of.truth_if d x h a) (of.truth_if e x g a)
      unfolding of.truth_if
      same_truth_if None w = same_pure Eq w true true (λ w' le. refl)
      same_truth_if (Some a) w = same_truth a w

      later_return : (w w' : r.W) (v : Option d.V) (u : Option e.V) → r.Le w w' → SameReturn w v u → SameReturn w' v u
      later_return w w' None None le i = tt
      later_return w w' (Some v) (Some u) le i = r.later_value w w' v u le i
      later_return w w' None (Some u) le i = absurd i
      later_return w w' (Some v) None le i = absurd i

      same_returned : (w : r.W) (v : Option d.V) (u : Option e.V) → SameReturn w v u → Same w SameFlow (pure d (returned v)) (pure e (returned u))
      same_returned w v u i = same_pure SameFlow w (returned v) (returned u) (λ w' le. later_return w w' v u le i)

      same_on : (w : r.W) → Same w SameFlow (pure d on) (pure e on)
      same_on w = same_pure SameFlow w on on (λ w' le. tt)

      same_broken : (w : r.W) → Same w SameFlow (pure d broken) (pure e broken)
      same_broken w = same_pure SameFlow w broken broken (λ w' le. tt)

      same_continued : (w : r.W) → Same w SameFlow (pure d continued) (pure e continued)
      same_continued w = same_pure SameFlow w continued continued (λ w' le. tt)

      same_after_turn : (w : r.W) (m : M d (Flow d.V)) (n : M e (Flow e.V)) (f : Flow d.V) (f' : Flow e.V) → SameFlow w f f' → Same w SameFlow m n → Same w SameFlow (of.after_turn d x h m f) (of.after_turn e x g n f')
      unfolding of.after_turn
      same_after_turn w m n on on i j = j
      same_after_turn w m n broken broken i j = same_on w
      same_after_turn w m n continued continued i j = j
      same_after_turn w m n (returned v) (returned u) i j = same_returned w v u i
      same_after_turn w m n _ _ i j = absurd i

      -- a piece that may be run at any world
      abbrev Ever : {A B : Type 0} → (r.W → A → B → Type 0) → M d A → M e B → Type 0
      Ever R m n = (w : r.W) → Same w R m n

      same_turns : (n : ℕ) (a : M d Bool) (a' : M e Bool) (b : M d (Flow d.V)) (b' : M e (Flow e.V)) (c : Done d) (c' : Done e) → Ever (Eq {A = Bool}) a a' → Ever SameFlow b b' → Ever Void c c' → Ever SameFlow (of.turns d x h n a b c) (of.turns e x g n a' b' c')
      unfolding of.turns
      same_turns zero a a' b b' c c' i j l w = same_stop SameFlow w Steps
      same_turns (suc n) a a' b b' c c' i j l w = same_bind Eq SameFlow w _ _ _ _ (i w) (λ w1 le1 v v' u. same_choose SameFlow w1 v v' _ _ _ _ u (same_bind SameFlow SameFlow w1 _ _ _ _ (j w1) (λ w2 le2 f f' o. same_after_turn w2 _ _ f f' o (same_then Void SameFlow w2 _ _ _ _ (l w2) (same_turns n a a' b b' c c' i j l w2)))) (same_on w1))

      same_after_part : (w : r.W) (m : M d (Flow d.V)) (n : M e (Flow e.V)) (f : Flow d.V) (f' : Flow e.V) → SameFlow w f f' → Same w SameFlow m n → Same w SameFlow (of.after_part d x h m f) (of.after_part e x g n f')
      unfolding of.after_part
      same_after_part w m n on on i j = j
      same_after_part w m n broken broken i j = same_broken w
      same_after_part w m n continued continued i j = same_continued w
      same_after_part w m n (returned v) (returned u) i j = same_returned w v u i
      same_after_part w m n _ _ i j = absurd i

      same_returns : (a : Option Val) (w : r.W) → Same w SameFlow (of.returns d x h a) (of.returns e x g a)
      unfolding of.returns
      same_returns None w = same_returned w None None tt
      same_returns (Some a) w = same_bind r.RV SameFlow w _ _ _ _ (same_value a w) (λ w' le v u i. same_returned w' (Some v) (Some u) i)

      mutual
        unfolding of.exec

        pub same_exec : (a : Stmt) (w : r.W) → Same w SameFlow (of.exec d x h a) (of.exec e x g a)
        same_exec tree.empty w = after_step SameFlow w _ _ (same_on w)
        same_exec (tree.block parts) w = after_step SameFlow w _ _ (same_parts parts w)
        same_exec (tree.choice c a) w = after_step SameFlow w _ _ (same_bind Eq SameFlow w _ _ _ _ (same_truth c w) (λ w' le v u i. same_choose SameFlow w' v u _ _ _ _ i (same_exec a w') (same_on w')))
        same_exec (tree.choice_else c a b) w = after_step SameFlow w _ _ (same_bind Eq SameFlow w _ _ _ _ (same_truth c w) (λ w' le v u i. same_choose SameFlow w' v u _ _ _ _ i (same_exec a w') (same_exec b w')))
        same_exec (tree.loop c body) w = after_step SameFlow w _ _ (same_turns x.fuel _ _ _ _ _ _ (same_truth c) (λ w'. same_exec body w') same_done w)
        same_exec (tree.repeat body c) w = after_step SameFlow w _ _ (same_bind SameFlow SameFlow w _ _ _ _ (same_exec body w) (λ w' le f f' i. same_after_turn w' _ _ f f' i (same_turns x.fuel _ _ _ _ _ _ (same_truth c) (λ w''. same_exec body w'') same_done w')))
        same_exec (tree.loop_for first decls c next body) w = after_step SameFlow w _ _ (same_then Void SameFlow w _ _ _ _ (same_simply_if first w) (same_then Void SameFlow w _ _ _ _ (same_declare_all decls w) (same_turns x.fuel _ _ _ _ _ _ (same_truth_if c) (λ w'. same_exec body w') (same_simply_if next) w)))
        same_exec (tree.return a) w = after_step SameFlow w _ _ (same_returns a w)
        same_exec tree.break w = after_step SameFlow w _ _ (same_broken w)
        same_exec tree.continue w = after_step SameFlow w _ _ (same_continued w)
        same_exec (tree.simple a) w = after_step SameFlow w _ _ (same_then Void SameFlow w _ _ _ _ (same_simply a w) (same_on w))

        pub same_parts : (a : Parts) (w : r.W) → Same w SameFlow (of.exec_parts d x h a) (of.exec_parts e x g a)
        same_parts tree.finish w = same_on w
        same_parts (tree.declare t rest) w = same_then Void SameFlow w _ _ _ _ (same_declare t w) (same_parts rest w)
        same_parts (tree.then a rest) w = same_bind SameFlow SameFlow w _ _ _ _ (same_exec a w) (λ w' le f f' i. same_after_part w' _ _ f f' i (same_parts rest w'))

    -- ---- calls

    same_zero_of : (w : r.W) (c : Cell) → r.RV w (of.zero_of d x c) (of.zero_of e x c)
    unfolding of.zero_of
    same_zero_of w int_cell = r.number w (pos 0)
    same_zero_of w (ptr_cell t) = r.nil w

    same_take_args : (n : ℕ) (vs : List d.V) (us : List e.V) (cs : List Cell) (w : r.W) → SameVals w vs us → Same w Void (of.take_args d x n vs cs) (of.take_args e x n us cs)
    unfolding of.take_args
    same_take_args n [] [] [] w i = same_done w
    same_take_args n [] [] (c ∷ cs) w i = same_done w
    same_take_args n (v ∷ vs) (u ∷ us) [] w i = same_done w
    same_take_args n (v ∷ vs) (u ∷ us) (c ∷ cs) w i = after_step Void w _ _ (same_bind r.RL Void w _ _ _ _ (same_make w _) (λ w' le p q j. same_then Void Void w' _ _ _ _ (same_store w' p v q u j (value_later w v u i.0 w' le)) (same_then Void Void w' _ _ _ _ (same_bound w' n p q j) (same_take_args (suc n) vs us cs w' (later_vals w w' vs us le i.1)))))
    same_take_args n [] (u ∷ us) cs w i = absurd i
    same_take_args n (v ∷ vs) [] cs w i = absurd i

    same_answer : (w : r.W) (c : Cell) (f : Flow d.V) (f' : Flow e.V) → SameFlow w f f' → r.RV w (of.answer d x c f) (of.answer e x c f')
    unfolding of.answer
    same_answer w c on on i = same_zero_of w c
    same_answer w c broken broken i = same_zero_of w c
    same_answer w c continued continued i = same_zero_of w c
    same_answer w c (returned (Some v)) (returned (Some u)) i = i
    same_answer w c (returned None) (returned None) i = same_zero_of w c
    same_answer w c (returned None) (returned (Some u)) i = absurd i
    same_answer w c (returned (Some v)) (returned None) i = absurd i
    same_answer w c _ _ i = absurd i

    later_locals : (w w' : r.W) (f : ℕ → d.V) (g : ℕ → e.V) → r.Le w w' → SameLocals w f g → SameLocals w' f g
    later_locals w w' f g le i = λ n. r.later_location w w' (f n) (g n) le (i n)

    same_call_in : (h : ℕ → List d.V → M d d.V) (g : ℕ → List e.V → M e e.V) (f : Option Func) → Handlers h g → (w : r.W) (vs : List d.V) (us : List e.V) → SameVals w vs us → Same w r.RV (of.call_in d x h vs f) (of.call_in e x g us f)
    unfolding of.call_in
    same_call_in h g None k w vs us i = same_stop r.RV w Steps
    same_call_in h g (Some f) k w vs us i = same_bind SameLocals r.RV w _ _ _ _ (same_get_locals w) (λ w1 le1 l l' j. same_then Void r.RV w1 _ _ _ _ (same_take_args 0 vs us f.params w1 (later_vals w w1 vs us le1 i)) (after_step r.RV w1 _ _ (same_bind SameFlow r.RV w1 _ _ _ _ (same_parts h g k f.body w1) (λ w2 le2 a a' o. same_then Void r.RV w2 _ _ _ _ (same_set_locals w2 l l' (later_locals w1 w2 l l' le2 j)) (same_pure r.RV w2 _ _ (value_later w2 _ _ (same_answer w2 f.result a a' o)))))))

    pub same_calls : (n : ℕ) → Handlers (of.calls d x n) (of.calls e x n)
    unfolding of.calls
    same_calls zero w f vs us i = same_stop r.RV w Steps
    same_calls (suc n) w f vs us i = same_call_in (of.calls d x n) (of.calls e x n) (slice_get (x.program).funcs f) (same_calls n) w vs us i

    same_main_in : (h : ℕ → List d.V → M d d.V) (g : ℕ → List e.V → M e e.V) (f : Option Func) → Handlers h g → (w : r.W) → Same w Void (of.main_in d x h f) (of.main_in e x g f)
    unfolding of.main_in
    same_main_in h g None k w = same_stop Void w Steps
    same_main_in h g (Some f) k w = after_step Void w _ _ (same_bind SameFlow Void w _ _ _ _ (same_parts h g k f.body w) (λ w' le a a' o. same_stop Void w' Return))

    -- the entry's runs are related
    pub same_main : (w : r.W) → Same w Void (of.main d x) (of.main e x)
    unfolding of.main
    same_main w = same_main_in (of.calls d x x.fuel) (of.calls e x x.fuel) (slice_get (x.program).funcs (x.program).entry) (same_calls x.fuel) w
