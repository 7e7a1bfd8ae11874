-- What each operation of a domain leads to, in the order of its events, a run of a program leads to.
use Rattle.std.proofs.Common.{◌≢◌, ℕ, zero, suc, ℤ, pos, Bool, true, false, not, List, [], ◌∷◌, ◌++◌, length, Option, Some, None, slice_get, nat_eq, nat_lt, if◌then◌else◌}
use Rattle.cc_base.specs.declared.outcomes.Outcome.{Outcome}
use Rattle.cc_base.specs.declared.outcomes.Outcome.TheVariants.{Zero, High, Low, Plain, False, True, Object}
use Rattle.cc_base.specs.declared.ends.FaultKind.TheVariants.{Overflow, Divide, Index}
use Rattle.cc_base.specs.declared.ends.End.{End}
use Rattle.cc_base.specs.declared.ends.End.TheVariants.{Return, Cut, Objects, Steps}
use Rattle.cc_model.specs.Core as tree
use Rattle.cc_model.specs.Core.{Cell, int_cell, ptr_cell, Layout, Op, Val, Cond, Loc, Vals, Simple, Declarator, Stmt, Parts, Func}
use Rattle.cc_model.specs.Domain.{Act, act_arith, act_divisor, act_negate, act_compare, act_test, act_access, act_index, Domain}
use Rattle.cc_model.specs.Meaning as of
use Rattle.cc_model.specs.declared.checked.SiteKind.{SiteKind}
use Rattle.cc_model.specs.declared.checked.SiteKind.TheVariants as site
use Rattle.cc_model.specs.Meaning.{Fixed, Entry, State, Result, ok, over, Ran, Seen, Flow, on, broken, continued, returned, M, Done, ◌>>=◌, ◌>>◌, go_on, prepend, pure, stop, choose, step_at, step, steps}

-- what holds of the values of an operation; an index is taken of a location
abbrev pub OfAct : {V : Type 0} → (V → Type 0) → (V → Type 0) → Act V → Type 0
OfAct P L (act_arith o a b) = P a × P b
OfAct P L (act_divisor a b) = P a × P b
OfAct P L (act_negate a) = P a
OfAct P L (act_compare o a b) = P a × P b
OfAct P L (act_test a) = P a
OfAct P L (act_access a) = P a
OfAct P L (act_index a b n w) = L a × P b

-- what holds of the value that it gives at an outcome: an access of NULL gives no location
abbrev pub GivesIt : {V : Type 0} → (V → Type 0) → (V → Type 0) → Act V → Outcome → V → Type 0
GivesIt P L (act_arith o a b) t v = P v
GivesIt P L (act_negate a) t v = P v
GivesIt P L (act_access a) t v = t ≢ Zero → L v
GivesIt P L (act_index p i n k) t v = L v
GivesIt P L _ t v = Unit {0}

-- worlds, and what leads from one to another by these events, one after the other; what holds of values, locations and data in
-- a world. What holds of a value holds in each world to which that leads.
pub record Going (d : Domain) : Type 1 where
  pub W : Type 0
  pub Goes : W → List (Entry d.E) → W → Type 0
  pub goes_none : (w : W) → Goes w [] w
  pub goes_on : (w v u : W) (l m : List (Entry d.E)) → Goes w l v → Goes v m u → Goes w (l ++ m) u
  pub Value : W → d.V → Type 0
  pub Location : W → d.V → Type 0
  pub later_value : (w v : W) (l : List (Entry d.E)) (a : d.V) → Goes w l v → Value w a → Value v a
  pub later_location : (w v : W) (l : List (Entry d.E)) (a : d.V) → Goes w l v → Location w a → Location v a
  pub Has : W → d.D → Type 0
  pub number : (w : W) (z : ℤ) → Value w (d.number z)
  pub nil : (w : W) → Value w d.nil
  pub address : (w : W) (a : d.V) → Location w a → Value w a
  pub offset : (w : W) (a : d.V) (n : ℕ) → Location w a → Location w (d.offset a n)
  pub global : (w : W) (n : ℕ) → Location w (d.global n)
  pub load : (w : W) (p : d.V) (x : d.D) → Location w p → Has w x → Value w (d.load p x)
  pub store : (w : W) (p a : d.V) (x : d.D) → Location w p → Value w a → Has w x → (v : W) × Goes w [] v × Has v (d.store p a x)
  pub make : (w : W) (t : Layout) (x : d.D) → Has w x → (v : W) × Goes w [] v × Location v (d.make t x).value × Has v (d.make t x).after
  pub take : (w : W) (p : d.V) (x : d.D) → Location w p → Has w x → (v : W) × Goes w [] v × Has v (d.take p x)
  pub act : (w : W) (k : SiteKind) (t : ℕ) (a : Act d.V) (x : d.D) → OfAct (Value w) (Location w) a → Has w x
      → (v : W) × Goes w (record { kind = k; token = t; event = (d.act a x).event } ∷ []) v
      × GivesIt (Value v) (Location v) a (d.outcome (d.act a x).event) (d.act a x).value × Has v (d.act a x).after

module _ (d : Domain) (r : Going d) where
  -- a world comes later
  abbrev pub Le : r.W → r.W → Type 0
  Le w v = (l : List (Entry d.E)) × r.Goes w l v

  le_refl : (w : r.W) → Le w w
  le_refl w = ([], r.goes_none w)

  le_trans : (w v u : r.W) → Le w v → Le v u → Le w u
  le_trans w v u i j = (i.0 ++ j.0, r.goes_on w v u i.0 j.0 i.1 j.1)

  value_later : (w v : r.W) (a : d.V) → Le w v → r.Value w a → r.Value v a
  value_later w v a le h = r.later_value w v le.0 a le.1 h

  location_later : (w v : r.W) (a : d.V) → Le w v → r.Location w a → r.Location v a
  location_later w v a le h = r.later_location w v le.0 a le.1 h

  -- ---- states and pieces of a run

  pub record Stands (w : r.W) (s : State d.V d.D) : Type 0 where
    pub locals : (n : ℕ) → r.Location w (s.locals n)
    pub data_now : r.Has w s.data_now

  abbrev pub Ends : {A : Type 0} → r.W → (r.W → A → Type 0) → Result (State d.V d.D) A → Type 0
  Ends w Q (ok a s) = Q w a × Stands w s
  Ends w Q (over e s) = Stands w s

  abbrev pub Runs : {A : Type 0} → r.W → (r.W → A → Type 0) → Ran d.E (State d.V d.D) A → Type 0
  Runs w Q p = (v : r.W) × r.Goes w p.log v × Ends v Q p.result

  -- from the world w and each later one
  abbrev pub Leads : {A : Type 0} → r.W → (r.W → A → Type 0) → M d A → Type 0
  Leads w Q m = (v : r.W) → Le w v → (s : State d.V d.D) → Stands v s → Runs v Q (m s)

  abbrev pub Next : {A B : Type 0} → r.W → (r.W → A → Type 0) → (r.W → B → Type 0) → (A → M d B) → Type 0
  Next {A = A} w Q R f = (v : r.W) → Le w v → (a : A) → Q v a → Leads v R (f a)

  on_from : {A B : Type 0} (Q : r.W → A → Type 0) (R : r.W → B → Type 0) (w v u : r.W) (l : List (Entry d.E)) (p : Result (State d.V d.D) A) (f : A → M d B)
      → Le w v → r.Goes v l u → Ends u Q p → Next w Q R f → Runs v R (go_on d l p f)
  unfolding go_on prepend
  on_from Q R w v u l (ok a s) f le g h c =
      let n = c u (le_trans w v u le (l, g)) a h.0 u (le_refl u) s h.1 in
      (n.0, r.goes_on v u n.0 l (f a s).log g n.1, n.2)
  on_from Q R w v u l (over e s) f le g h c = (u, g, h)

  bind_runs : {A B : Type 0} (Q : r.W → A → Type 0) (R : r.W → B → Type 0) (w : r.W) (m : M d A) (f : A → M d B) → Leads w Q m → Next w Q R f → Leads w R (◌>>=◌ d m f)
  unfolding ◌>>=◌
  bind_runs Q R w m f h c = λ v le s k. (let n = h v le s k in on_from Q R w v n.0 (m s).log (m s).result f le n.1 n.2 c)

  leads_later : {A : Type 0} (Q : r.W → A → Type 0) (w v : r.W) (m : M d A) → Le w v → Leads w Q m → Leads v Q m
  leads_later Q w v m le h = λ u le' s k. h u (le_trans w v u le le') s k

  then_runs : {A B : Type 0} (Q : r.W → A → Type 0) (R : r.W → B → Type 0) (w : r.W) (m : M d A) (f : M d B) → Leads w Q m → Leads w R f → Leads w R (◌>>◌ d m f)
  unfolding ◌>>◌
  then_runs Q R w m f h c = bind_runs Q R w m (λ _. f) h (λ v le a k. leads_later R w v f le c)

  pure_runs : {A : Type 0} (Q : r.W → A → Type 0) (w : r.W) (a : A) → ((v : r.W) → Le w v → Q v a) → Leads w Q (pure d a)
  unfolding pure
  pure_runs Q w a h = λ v le s k. (v, r.goes_none v, (h v le, k))

  widen_ends : {A : Type 0} (Q R : r.W → A → Type 0) (w : r.W) (p : Result (State d.V d.D) A) → ((a : A) → Q w a → R w a) → Ends w Q p → Ends w R p
  widen_ends Q R w (ok a s) i h = (i a h.0, h.1)
  widen_ends Q R w (over e s) i h = h

  widen_runs : {A : Type 0} (Q R : r.W → A → Type 0) (w : r.W) (m : M d A) → Leads w Q m → ((v : r.W) (a : A) → Q v a → R v a) → Leads w R m
  widen_runs Q R w m h i = λ v le s k. (let n = h v le s k in (n.0, n.1, widen_ends Q R n.0 (m s).result (i n.0) n.2))

  stop_runs : {A : Type 0} (Q : r.W → A → Type 0) (w : r.W) (e : End) → Leads w Q (stop d {A = A} e)
  unfolding stop
  stop_runs Q w e = λ v le s k. (v, r.goes_none v, k)

  choose_runs : {A : Type 0} (Q : r.W → A → Type 0) (w : r.W) (b : Bool) (m n : M d A) → Leads w Q m → Leads w Q n → Leads w Q (choose d b m n)
  unfolding choose
  choose_runs Q w true m n h k = h
  choose_runs Q w false m n h k = k

  -- ---- steps

  abbrev pub Any : {A : Type 0} → r.W → A → Type 0
  Any w a = Unit {0}

  done_runs : (w : r.W) → Leads w Any (pure d {A = Unit {0}} tt)
  done_runs w = pure_runs {A = Unit {0}} Any w tt (λ v le. tt)

  step_at_runs : (w : r.W) (n : ℕ) → Leads w Any (step_at d n)
  unfolding step_at
  step_at_runs w zero = stop_runs Any w Steps
  step_at_runs w (suc n) = λ v le s k. (v, r.goes_none v, (tt, record { locals = k.locals; data_now = k.data_now }))

  step_runs : (w : r.W) → Leads w Any (step d)
  unfolding step
  step_runs w = λ v le s k. step_at_runs v s.steps v (le_refl v) s k

  after_step : {A : Type 0} (Q : r.W → A → Type 0) (w : r.W) (m : M d A) → Leads w Q m → Leads w Q (◌>>◌ d (step d) m)
  after_step Q w m h = then_runs Any Q w (step d) m (step_runs w) h

  steps_run : (n : ℕ) (w : r.W) → Leads w Any (steps d n)
  unfolding steps
  steps_run zero w = done_runs w
  steps_run (suc n) w = after_step Any w (steps d n) (steps_run n w)

  -- ---- locals and data

  local_runs : (w : r.W) (n : ℕ) → Leads w r.Location (of.local d n)
  unfolding of.local
  local_runs w n = λ v le s k. (v, r.goes_none v, (k.locals n, k))

  abbrev Slots : r.W → (ℕ → d.V) → Type 0
  Slots w f = (n : ℕ) → r.Location w (f n)

  slots_later : (w v : r.W) (f : ℕ → d.V) → Le w v → Slots w f → Slots v f
  slots_later w v f le h n = location_later w v (f n) le (h n)

  get_runs : (w : r.W) → Leads w Slots (of.get_locals d)
  unfolding of.get_locals
  get_runs w = λ v le s k. (v, r.goes_none v, (k.locals, k))

  set_runs : (w : r.W) (f : ℕ → d.V) → Slots w f → Leads w Any (of.set_locals d f)
  unfolding of.set_locals
  set_runs w f h = λ v le s k. (v, r.goes_none v, (tt, record { locals = slots_later w v f le h; data_now = k.data_now }))

  either_location : (w : r.W) (b : Bool) (p q : d.V) → r.Location w p → r.Location w q → r.Location w (if b then p else q)
  either_location w true p q h k = h
  either_location w false p q h k = k

  bound_runs : (w : r.W) (n : ℕ) (p : d.V) → r.Location w p → Leads w Any (of.bind d n p)
  unfolding of.bind
  bound_runs w n p h = λ v le s k. (v, r.goes_none v, (tt, record { locals = λ m. either_location v (nat_eq m n) p (s.locals m) (location_later w v p le h) (k.locals m); data_now = k.data_now }))

  load_runs : (w : r.W) (p : d.V) → r.Location w p → Leads w r.Value (of.load d p)
  unfolding of.load
  load_runs w p h = λ v le s k. (v, r.goes_none v, (r.load v p s.data_now (location_later w v p le h) k.data_now, k))

  store_runs : (w : r.W) (p a : d.V) → r.Location w p → r.Value w a → Leads w Any (of.store d p a)
  unfolding of.store
  store_runs w p a h j = λ v le s k.
      (let n = r.store v p a s.data_now (location_later w v p le h) (value_later w v a le j) k.data_now in
      (n.0, n.1, (tt, record { locals = slots_later v n.0 s.locals ([], n.1) k.locals; data_now = n.2 })))

  take_runs : (w : r.W) (p : d.V) → r.Location w p → Leads w Any (of.take d p)
  unfolding of.take
  take_runs w p h = λ v le s k.
      (let n = r.take v p s.data_now (location_later w v p le h) k.data_now in
      (n.0, n.1, (tt, record { locals = slots_later v n.0 s.locals ([], n.1) k.locals; data_now = n.2 })))

  make_runs : (w : r.W) (t : Layout) → Leads w r.Location (of.make d t)
  unfolding of.make
  make_runs w t = λ v le s k.
      (let n = r.make v t s.data_now k.data_now in
      (n.0, n.1, (n.2, record { locals = slots_later v n.0 s.locals ([], n.1) k.locals; data_now = n.3 })))

  -- ---- events

  act_later : (a : Act d.V) (w v : r.W) → Le w v → OfAct (r.Value w) (r.Location w) a → OfAct (r.Value v) (r.Location v) a
  act_later (act_arith o a b) w v le h = (value_later w v a le h.0, value_later w v b le h.1)
  act_later (act_divisor a b) w v le h = (value_later w v a le h.0, value_later w v b le h.1)
  act_later (act_negate a) w v le h = value_later w v a le h
  act_later (act_compare o a b) w v le h = (value_later w v a le h.0, value_later w v b le h.1)
  act_later (act_test a) w v le h = value_later w v a le h
  act_later (act_access a) w v le h = value_later w v a le h
  act_later (act_index a b n k) w v le h = (location_later w v a le h.0, value_later w v b le h.1)

  abbrev SeenAt : Act d.V → r.W → Seen d.V → Type 0
  SeenAt a w v = GivesIt (r.Value w) (r.Location w) a v.outcome v.value

  event_at_runs : (w : r.W) (n : ℕ) (k : SiteKind) (t : ℕ) (a : Act d.V) → OfAct (r.Value w) (r.Location w) a → Leads w (SeenAt a) (of.event_at d n k t a)
  unfolding of.event_at
  event_at_runs w zero k t a h = stop_runs (SeenAt a) w Cut
  event_at_runs w (suc n) k t a h = λ v le s j.
      (let m = r.act v k t a s.data_now (act_later a w v le h) j.data_now in
      (m.0, m.1, (m.2, record { locals = slots_later v m.0 s.locals (_, m.1) j.locals; data_now = m.3 })))

  event_runs : (w : r.W) (k : SiteKind) (t : ℕ) (a : Act d.V) → OfAct (r.Value w) (r.Location w) a → Leads w (SeenAt a) (of.event d k t a)
  unfolding of.event
  event_runs w k t a h = λ v le s j. event_at_runs v s.events k t a (act_later a w v le h) v (le_refl v) s j

  if_plain_runs : {A : Type 0} (Q : r.W → A → Type 0) (w : r.W) (o : Outcome) (e : End) (m : M d A) → Leads w Q m → Leads w Q (of.if_plain d o e m)
  unfolding of.if_plain
  if_plain_runs Q w Plain e m h = h
  if_plain_runs Q w _ e m h = stop_runs Q w e

  if_made_runs : {A : Type 0} (Q : r.W → A → Type 0) (w : r.W) (k : ℕ) (o : Outcome) (e : End) (m : M d A) → (o ≢ Zero → Leads w Q m) → Leads w Q (of.if_made d k o e m)
  unfolding of.if_made
  if_made_runs Q w k Zero e m h = stop_runs Q w e
  if_made_runs Q w k (Object a) e m h = choose_runs Q w (nat_lt a k) m (stop d Objects) (h (λ z. cc z)) (stop_runs Q w Objects)
  if_made_runs Q w k High e m h = h (λ z. cc z)
  if_made_runs Q w k Low e m h = h (λ z. cc z)
  if_made_runs Q w k Plain e m h = h (λ z. cc z)
  if_made_runs Q w k False e m h = h (λ z. cc z)
  if_made_runs Q w k True e m h = h (λ z. cc z)

  given_value : (w : r.W) (a : d.V) → r.Value w a → Leads w r.Value (pure d a)
  given_value w a h = pure_runs r.Value w a (λ v le. value_later w v a le h)

  given_location : (w : r.W) (a : d.V) → r.Location w a → Leads w r.Location (pure d a)
  given_location w a h = pure_runs r.Location w a (λ v le. location_later w v a le h)

  module _ (x : Fixed) where
    index_runs : (w : r.W) (t : ℕ) (p i : d.V) (n k : ℕ) → r.Location w p → r.Value w i → Leads w r.Location (of.checked d x site.Index Index t (act_index p i n k))
    unfolding of.checked
    index_runs w t p i n k g h = bind_runs (SeenAt (act_index p i n k)) r.Location w _ _ (event_runs w site.Index t (act_index p i n k) (g, h)) (λ v le a o. if_plain_runs r.Location v a.outcome _ _ (given_location v a.value o))

    negate_runs : (w : r.W) (t : ℕ) (a : d.V) → r.Value w a → Leads w r.Value (of.checked d x site.Fit Overflow t (act_negate a))
    unfolding of.checked
    negate_runs w t a h = bind_runs (SeenAt (act_negate a)) r.Value w _ _ (event_runs w site.Fit t (act_negate a) h) (λ v le b o. if_plain_runs r.Value v b.outcome _ _ (given_value v b.value o))

    fits_runs : (w : r.W) (t : ℕ) (o : Op) (a b : d.V) → r.Value w a → r.Value w b → Leads w r.Value (of.fits d x t o a b)
    unfolding of.checked of.fits
    fits_runs w t o a b h k = bind_runs (SeenAt (act_arith o a b)) r.Value w _ _ (event_runs w site.Fit t (act_arith o a b) (h, k)) (λ v le c i. if_plain_runs r.Value v c.outcome _ _ (given_value v c.value i))

    divisor_runs : (w : r.W) (t : ℕ) (a b : d.V) → r.Value w a → r.Value w b → Leads w Any (of.checked d x site.Divisor Divide t (act_divisor a b))
    unfolding of.checked
    divisor_runs w t a b h k = bind_runs (SeenAt (act_divisor a b)) Any w _ _ (event_runs w site.Divisor t (act_divisor a b) (h, k)) (λ v le c i. if_plain_runs Any v c.outcome _ _ (pure_runs Any v c.value (λ u le'. tt)))

    decided_runs : (w : r.W) (t : ℕ) (a : Act d.V) → OfAct (r.Value w) (r.Location w) a → Leads w Any (of.decided d x t a)
    unfolding of.decided
    decided_runs w t a h = bind_runs (SeenAt a) Any w _ _ (event_runs w site.Decision t a h) (λ v le b i. pure_runs Any v (of.is_true b.outcome) (λ u le'. tt))

    accessed_runs : (w : r.W) (t : ℕ) (a : d.V) → r.Value w a → Leads w r.Location (of.accessed d x t a)
    unfolding of.accessed
    accessed_runs w t a h = bind_runs (SeenAt (act_access a)) r.Location w _ _ (event_runs w site.Access t (act_access a) h) (λ v le b i. if_made_runs r.Location v x.objects b.outcome _ _ (λ z. given_location v b.value (i z)))

    division_runs : (w : r.W) (t : ℕ) (o : Op) (a b : d.V) → r.Value w a → r.Value w b → Leads w r.Value (◌>>◌ d (of.checked d x site.Divisor Divide t (act_divisor a b)) (of.fits d x t o a b))
    division_runs w t o a b h k = then_runs Any r.Value w _ _ (divisor_runs w t a b h k) (fits_runs w t o a b h k)

    binary_runs : (w : r.W) (t : ℕ) (o : Op) (a b : d.V) → r.Value w a → r.Value w b → Leads w r.Value (of.binary d x t o a b)
    unfolding of.binary
    binary_runs w t tree.quot a b h k = division_runs w t tree.quot a b h k
    binary_runs w t tree.rem a b h k = division_runs w t tree.rem a b h k
    binary_runs w t tree.add a b h k = fits_runs w t tree.add a b h k
    binary_runs w t tree.sub a b h k = fits_runs w t tree.sub a b h k
    binary_runs w t tree.mul a b h k = fits_runs w t tree.mul a b h k

    truth_is : (w : r.W) (b : Bool) → r.Value w (of.truth_value d x b)
    unfolding of.truth_value
    truth_is w true = r.number w (pos 1)
    truth_is w false = r.number w (pos 0)

    abbrev Vals_at : r.W → List d.V → Type 0
    Vals_at w [] = Unit {0}
    Vals_at w (a ∷ l) = r.Value w a × Vals_at w l

    vals_later : (w v : r.W) (l : List d.V) → Le w v → Vals_at w l → Vals_at v l
    vals_later w v [] le h = tt
    vals_later w v (a ∷ l) le h = (value_later w v a le h.0, vals_later w v l le h.1)

    abbrev Return_at : r.W → Option d.V → Type 0
    Return_at w None = Unit {0}
    Return_at w (Some a) = r.Value w a

    abbrev Flow_at : r.W → Flow d.V → Type 0
    Flow_at w (returned a) = Return_at w a
    Flow_at w _ = Unit {0}

    abbrev Handler : (ℕ → List d.V → M d d.V) → Type 0
    Handler h = (w : r.W) (f : ℕ) (l : List d.V) → Vals_at w l → Leads w r.Value (h f l)

    -- ---- expressions

    module _ (h : ℕ → List d.V → M d d.V) (k : Handler h) where
      mutual
        unfolding of.value

        value_runs : (a : Val) (w : r.W) → Leads w r.Value (of.value d x h a)
        value_runs (tree.number z) w = pure_runs r.Value w _ (λ v le. r.number v z)
        value_runs tree.nil w = pure_runs r.Value w _ (λ v le. r.nil v)
        value_runs (tree.read l) w = bind_runs r.Location r.Value w _ _ (locate_runs l w) (λ v le p i. load_runs v p i)
        value_runs (tree.arith t o a b) w = after_step r.Value w _ (bind_runs r.Value r.Value w _ _ (value_runs a w) (λ v le m i. bind_runs r.Value r.Value v _ _ (value_runs b v) (λ u le' n j. binary_runs u t o m n (value_later v u m le' i) j)))
        value_runs (tree.negate t a) w = after_step r.Value w _ (bind_runs r.Value r.Value w _ _ (value_runs a w) (λ v le m i. negate_runs v t m i))
        value_runs (tree.truth c) w = bind_runs Any r.Value w _ _ (truth_runs c w) (λ v le b i. pure_runs r.Value v _ (λ u le'. truth_is u b))
        value_runs (tree.address l) w = after_step r.Value w _ (widen_runs r.Location r.Value w (of.locate d x h l) (locate_runs l w) r.address)
        value_runs (tree.call f args) w = after_step r.Value w _ (bind_runs Vals_at r.Value w _ _ (values_run args w) (λ v le l i. k v f l i))
        value_runs (tree.malloc c) w = after_step r.Value w _ (then_runs Any r.Value w _ _ (steps_run (length c.cells) w) (widen_runs r.Location r.Value w (of.make d c) (make_runs w c) r.address))

        truth_runs : (c : Cond) (w : r.W) → Leads w Any (of.truth d x h c)
        truth_runs (tree.compare t o a b) w = after_step Any w _ (bind_runs r.Value Any w _ _ (value_runs a w) (λ v le m i. bind_runs r.Value Any v _ _ (value_runs b v) (λ u le' n j. decided_runs u t (act_compare o m n) (value_later v u m le' i, j))))
        truth_runs (tree.opposite c) w = after_step Any w _ (bind_runs Any Any w _ _ (truth_runs c w) (λ v le b i. pure_runs Any v (not b) (λ u le'. tt)))
        truth_runs (tree.both a b) w = after_step Any w _ (bind_runs Any Any w _ _ (truth_runs a w) (λ v le c i. choose_runs Any v c _ _ (truth_runs b v) (pure_runs Any v false (λ u le'. tt))))
        truth_runs (tree.either a b) w = after_step Any w _ (bind_runs Any Any w _ _ (truth_runs a w) (λ v le c i. choose_runs Any v c _ _ (pure_runs Any v true (λ u le'. tt)) (truth_runs b v)))
        truth_runs (tree.test t a) w = bind_runs r.Value Any w _ _ (value_runs a w) (λ v le m i. decided_runs v t (act_test m) i)

        locate_runs : (l : Loc) (w : r.W) → Leads w r.Location (of.locate d x h l)
        locate_runs (tree.local n) w = local_runs w n
        locate_runs (tree.global n) w = pure_runs r.Location w _ (λ v le. r.global v n)
        locate_runs (tree.deref t a) w = after_step r.Location w _ (bind_runs r.Value r.Location w _ _ (value_runs a w) (λ v le m i. accessed_runs v t m i))
        locate_runs (tree.arrow t a n) w = after_step r.Location w _ (bind_runs r.Value r.Location w _ _ (value_runs a w) (λ v le m i. bind_runs r.Location r.Location v _ _ (accessed_runs v t m i) (λ u le' p j. given_location u (d.offset p n) (r.offset u p n j))))
        locate_runs (tree.dot l n) w = after_step r.Location w _ (bind_runs r.Location r.Location w _ _ (locate_runs l w) (λ v le p j. given_location v (d.offset p n) (r.offset v p n j)))
        locate_runs (tree.index t l i n c) w = after_step r.Location w _ (bind_runs r.Location r.Location w _ _ (locate_runs l w) (λ v le p j. bind_runs r.Value r.Location v _ _ (value_runs i v) (λ u le' m o. index_runs u t p m n c (location_later v u p le' j) o)))

        values_run : (a : Vals) (w : r.W) → Leads w Vals_at (of.values d x h a)
        values_run tree.done w = pure_runs Vals_at w [] (λ v le. tt)
        values_run (tree.more a rest) w = bind_runs r.Value Vals_at w _ _ (value_runs a w) (λ v le m i. bind_runs Vals_at Vals_at v _ _ (values_run rest v) (λ u le' l j. pure_runs Vals_at u (m ∷ l) (λ z le3. (value_later v z m (le_trans v u z le' le3) i, vals_later u z l le3 j))))

      -- ---- statements

      update_runs : (w : r.W) (t : ℕ) (o : Op) (a p : d.V) → r.Value w a → r.Location w p → Leads w Any (◌>>◌ d (step d) (◌>>=◌ d (of.load d p) (λ c. ◌>>=◌ d (of.binary d x t o c a) (λ b. of.store d p b))))
      update_runs w t o a p i j = after_step Any w _ (bind_runs r.Value Any w _ _ (load_runs w p j) (λ v le c l. bind_runs r.Value Any v _ _ (binary_runs v t o c a l (value_later w v a le i)) (λ u le' b m. store_runs u p b (location_later w u p (le_trans w v u le le') j) m)))

      simply_runs : (a : Simple) (w : r.W) → Leads w Any (of.simply d x h a)
      unfolding of.simply
      simply_runs (tree.assign l a) w = bind_runs r.Value Any w _ _ (value_runs a w) (λ v le m i. bind_runs r.Location Any v _ _ (locate_runs l v) (λ u le' p j. store_runs u p m j (value_later v u m le' i)))
      simply_runs (tree.update t o l a) w = bind_runs r.Value Any w _ _ (value_runs a w) (λ v le m i. bind_runs r.Location Any v _ _ (locate_runs l v) (λ u le' p j. update_runs u t o m p (value_later v u m le' i) j))
      simply_runs (tree.bump t o l) w = bind_runs r.Location Any w _ _ (locate_runs l w) (λ v le p j. update_runs v t o _ p (r.number v (pos 1)) j)
      simply_runs (tree.perform f args) w = after_step Any w _ (bind_runs Vals_at Any w _ _ (values_run args w) (λ v le l i. bind_runs r.Value Any v _ _ (k v f l i) (λ u le' m j. done_runs u)))
      simply_runs (tree.assert t c) w = after_step Any w _ (bind_runs Any Any w _ _ (truth_runs c w) (λ v le b i. choose_runs Any v b _ _ (done_runs v) (stop_runs Any v _)))
      simply_runs (tree.assume c) w = after_step Any w _ (bind_runs Any Any w _ _ (truth_runs c w) (λ v le b i. choose_runs Any v b _ _ (done_runs v) (stop_runs Any v _)))
      simply_runs (tree.abort t) w = after_step Any w _ (stop_runs Any w _)
      simply_runs (tree.take l) w = after_step Any w _ (bind_runs r.Location Any w _ _ (locate_runs l w) (λ v le p j. take_runs v p j))

      start_runs : (w : r.W) (p : d.V) (a : Option Val) → r.Location w p → Leads w Any (of.start d x h p a)
      unfolding of.start
      start_runs w p None i = done_runs w
      start_runs w p (Some a) i = bind_runs r.Value Any w _ _ (value_runs a w) (λ v le m j. store_runs v p m (location_later w v p le i) j)

      declare_runs : (t : Declarator) (w : r.W) → Leads w Any (of.declare d x h t)
      unfolding of.declare
      declare_runs t w = after_step Any w _ (then_runs Any Any w _ _ (steps_run (length (t.type).cells) w) (bind_runs r.Location Any w _ _ (make_runs w t.type) (λ v le p i. then_runs Any Any v _ _ (bound_runs v t.slot p i) (start_runs v p t.start i))))

      declare_all_runs : (ts : List Declarator) (w : r.W) → Leads w Any (of.declare_all d x h ts)
      unfolding of.declare_all
      declare_all_runs [] w = done_runs w
      declare_all_runs (t ∷ ts) w = then_runs Any Any w _ _ (declare_runs t w) (declare_all_runs ts w)

      simply_if_runs : (a : Option Simple) (w : r.W) → Leads w Any (of.simply_if d x h a)
      unfolding of.simply_if
      simply_if_runs None w = done_runs w
      simply_if_runs (Some a) w = after_step Any w _ (simply_runs a w)

      truth_if_runs : (a : Option Cond) (w : r.W) → Leads w Any (of.truth_if d x h a)
      unfolding of.truth_if
      truth_if_runs None w = pure_runs Any w true (λ v le. tt)
      truth_if_runs (Some a) w = truth_runs a w

      return_later : (w v : r.W) (a : Option d.V) → Le w v → Return_at w a → Return_at v a
      return_later w v None le i = tt
      return_later w v (Some a) le i = value_later w v a le i

      returned_runs : (w : r.W) (a : Option d.V) → Return_at w a → Leads w Flow_at (pure d (returned a))
      returned_runs w a i = pure_runs Flow_at w (returned a) (λ v le. return_later w v a le i)

      on_runs : (w : r.W) → Leads w Flow_at (pure d on)
      on_runs w = pure_runs Flow_at w on (λ v le. tt)

      after_turn_runs : (w : r.W) (m : M d (Flow d.V)) (f : Flow d.V) → Flow_at w f → Leads w Flow_at m → Leads w Flow_at (of.after_turn d x h m f)
      unfolding of.after_turn
      after_turn_runs w m on i j = j
      after_turn_runs w m broken i j = on_runs w
      after_turn_runs w m continued i j = j
      after_turn_runs w m (returned a) i j = returned_runs w a i

      -- a piece that may be run at any world
      abbrev Ever : {A : Type 0} → (r.W → A → Type 0) → M d A → Type 0
      Ever Q m = (w : r.W) → Leads w Q m

      turns_run : (n : ℕ) (a : M d Bool) (b : M d (Flow d.V)) (c : Done d) → Ever Any a → Ever Flow_at b → Ever Any c → Ever Flow_at (of.turns d x h n a b c)
      unfolding of.turns
      turns_run zero a b c i j l w = stop_runs Flow_at w Steps
      turns_run (suc n) a b c i j l w = bind_runs Any Flow_at w _ _ (i w) (λ v le m u. choose_runs Flow_at v m _ _ (bind_runs Flow_at Flow_at v _ _ (j v) (λ y le2 f o. after_turn_runs y _ f o (then_runs Any Flow_at y _ _ (l y) (turns_run n a b c i j l y)))) (on_runs v))

      after_part_runs : (w : r.W) (m : M d (Flow d.V)) (f : Flow d.V) → Flow_at w f → Leads w Flow_at m → Leads w Flow_at (of.after_part d x h m f)
      unfolding of.after_part
      after_part_runs w m on i j = j
      after_part_runs w m broken i j = pure_runs Flow_at w broken (λ v le. tt)
      after_part_runs w m continued i j = pure_runs Flow_at w continued (λ v le. tt)
      after_part_runs w m (returned a) i j = returned_runs w a i

      returns_run : (a : Option Val) (w : r.W) → Leads w Flow_at (of.returns d x h a)
      unfolding of.returns
      returns_run None w = returned_runs w None tt
      returns_run (Some a) w = bind_runs r.Value Flow_at w _ _ (value_runs a w) (λ v le m i. returned_runs v (Some m) i)

      mutual
        unfolding of.exec

        exec_runs : (a : Stmt) (w : r.W) → Leads w Flow_at (of.exec d x h a)
        exec_runs tree.empty w = after_step Flow_at w _ (on_runs w)
        exec_runs (tree.block parts) w = after_step Flow_at w _ (parts_run parts w)
        exec_runs (tree.choice c a) w = after_step Flow_at w _ (bind_runs Any Flow_at w _ _ (truth_runs c w) (λ v le b i. choose_runs Flow_at v b _ _ (exec_runs a v) (on_runs v)))
        exec_runs (tree.choice_else c a b) w = after_step Flow_at w _ (bind_runs Any Flow_at w _ _ (truth_runs c w) (λ v le m i. choose_runs Flow_at v m _ _ (exec_runs a v) (exec_runs b v)))
        exec_runs (tree.loop c body) w = after_step Flow_at w _ (turns_run x.fuel _ _ _ (truth_runs c) (λ v. exec_runs body v) done_runs w)
        exec_runs (tree.repeat body c) w = after_step Flow_at w _ (bind_runs Flow_at Flow_at w _ _ (exec_runs body w) (λ v le f i. after_turn_runs v _ f i (turns_run x.fuel _ _ _ (truth_runs c) (λ u. exec_runs body u) done_runs v)))
        exec_runs (tree.loop_for first decls c next body) w = after_step Flow_at w _ (then_runs Any Flow_at w _ _ (simply_if_runs first w) (then_runs Any Flow_at w _ _ (declare_all_runs decls w) (turns_run x.fuel _ _ _ (truth_if_runs c) (λ v. exec_runs body v) (simply_if_runs next) w)))
        exec_runs (tree.return a) w = after_step Flow_at w _ (returns_run a w)
        exec_runs tree.break w = after_step Flow_at w _ (pure_runs Flow_at w broken (λ v le. tt))
        exec_runs tree.continue w = after_step Flow_at w _ (pure_runs Flow_at w continued (λ v le. tt))
        exec_runs (tree.simple a) w = after_step Flow_at w _ (then_runs Any Flow_at w _ _ (simply_runs a w) (on_runs w))

        parts_run : (a : Parts) (w : r.W) → Leads w Flow_at (of.exec_parts d x h a)
        parts_run tree.finish w = on_runs w
        parts_run (tree.declare t rest) w = then_runs Any Flow_at w _ _ (declare_runs t w) (parts_run rest w)
        parts_run (tree.then a rest) w = bind_runs Flow_at Flow_at w _ _ (exec_runs a w) (λ v le f i. after_part_runs v _ f i (parts_run rest v))

    -- ---- calls

    zero_is : (w : r.W) (c : Cell) → r.Value w (of.zero_of d x c)
    unfolding of.zero_of
    zero_is w int_cell = r.number w (pos 0)
    zero_is w (ptr_cell t) = r.nil w

    take_args_run : (n : ℕ) (l : List d.V) (cs : List Cell) (w : r.W) → Vals_at w l → Leads w Any (of.take_args d x n l cs)
    unfolding of.take_args
    take_args_run n [] [] w i = done_runs w
    take_args_run n [] (c ∷ cs) w i = done_runs w
    take_args_run n (a ∷ l) [] w i = done_runs w
    take_args_run n (a ∷ l) (c ∷ cs) w i = after_step Any w _ (bind_runs r.Location Any w _ _ (make_runs w _) (λ v le p j. then_runs Any Any v _ _ (store_runs v p a j (value_later w v a le i.0)) (then_runs Any Any v _ _ (bound_runs v n p j) (take_args_run (suc n) l cs v (vals_later w v l le i.1)))))

    answer_is : (w : r.W) (c : Cell) (f : Flow d.V) → Flow_at w f → r.Value w (of.answer d x c f)
    unfolding of.answer
    answer_is w c on i = zero_is w c
    answer_is w c broken i = zero_is w c
    answer_is w c continued i = zero_is w c
    answer_is w c (returned (Some a)) i = i
    answer_is w c (returned None) i = zero_is w c

    call_in_runs : (h : ℕ → List d.V → M d d.V) (f : Option Func) → Handler h → (w : r.W) (l : List d.V) → Vals_at w l → Leads w r.Value (of.call_in d x h l f)
    unfolding of.call_in
    call_in_runs h None k w l i = stop_runs r.Value w Steps
    call_in_runs h (Some f) k w l i = bind_runs Slots r.Value w _ _ (get_runs w) (λ v le s j. then_runs Any r.Value v _ _ (take_args_run 0 l f.params v (vals_later w v l le i)) (after_step r.Value v _ (bind_runs Flow_at r.Value v _ _ (parts_run h k f.body v) (λ u le2 a o. then_runs Any r.Value u _ _ (set_runs u s (slots_later v u s le2 j)) (given_value u _ (answer_is u f.result a o))))))

    calls_run : (n : ℕ) → Handler (of.calls d x n)
    unfolding of.calls
    calls_run zero w f l i = stop_runs r.Value w Steps
    calls_run (suc n) w f l i = call_in_runs (of.calls d x n) (slice_get (x.program).funcs f) (calls_run n) w l i

    main_in_runs : (h : ℕ → List d.V → M d d.V) (f : Option Func) → Handler h → (w : r.W) → Leads w Any (of.main_in d x h f)
    unfolding of.main_in
    main_in_runs h None k w = stop_runs Any w Steps
    main_in_runs h (Some f) k w = after_step Any w _ (bind_runs Flow_at Any w _ _ (parts_run h k f.body w) (λ v le a o. stop_runs Any v Return))

    -- the entry's run
    pub main_runs : (w : r.W) → Leads w Any (of.main d x)
    unfolding of.main
    main_runs w = main_in_runs (of.calls d x x.fuel) (slice_get (x.program).funcs (x.program).entry) (calls_run x.fuel) w
