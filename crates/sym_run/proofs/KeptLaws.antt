-- What each operation of a domain keeps, a run of code keeps.
use Rattle.std.proofs.Common.{◌≡◌, ℕ, zero, suc, ℤ, Bool, true, false, List, [], ◌∷◌, ◌++◌, length, Option, Some, None, slice_get, nat_eq, nat_lt, refl, sym, subst, if◌then◌else◌}
use Rattle.cc_base.specs.declared.ends.End.{End}
use Rattle.cc_base.specs.declared.ends.End.TheVariants.{Return, Cut, Objects, Fault}
use Rattle.cc_base.specs.declared.ends.FaultKind.{FaultKind}
use Rattle.cc_base.specs.declared.ends.FaultKind.TheVariants.{Null}
use Rattle.cc_base.specs.declared.outcomes.Outcome.{Outcome}
use Rattle.cc_base.specs.declared.outcomes.Outcome.TheVariants.{Zero, High, Low, Plain, False, True, Object}
use Rattle.cc_model.specs.declared.checked.SiteKind.{SiteKind}
use Rattle.cc_model.specs.declared.checked.SiteKind.TheVariants as site
use Rattle.cc_model.specs.Conditions.{last_state}
use Rattle.cc_model.specs.Core.{Cell, Layout, Op, Func}
use Rattle.cc_model.specs.Domain.{Act, act_arith, act_divisor, act_negate, act_compare, act_test, act_access, act_index, Domain}
use Rattle.cc_model.specs.Meaning as of
use Rattle.cc_model.specs.Meaning.{Entry, Fixed, State, Seen, Result, ok, over, Ran, M, Done, ◌>>=◌, ◌>>◌, go_on, prepend, pure, stop, choose, step_at, step, steps, event_at, event, if_plain, if_made, checked, decided, accessed, fits}
use Rattle.cc_model.specs.Instructions.{Instruction, i_step, i_number, i_nil, i_copy, i_arith, i_divisor, i_negate, i_compare, i_truth, i_slot, i_global, i_access, i_offset, i_index, i_load, i_store, i_local, i_malloc, i_take, i_jump, i_jump_zero, i_call, i_return, i_stop, i_unless, Frame, Config, arguments, leave, enter, act, act_if, machine, from_entry, CodeRuns}

-- what holds of the values of an operation
abbrev pub OfAll : {V : Type 0} → (V → Type 0) → Act V → Type 0
OfAll P (act_arith o a b) = P a × P b
OfAll P (act_divisor a b) = P a × P b
OfAll P (act_negate a) = P a
OfAll P (act_compare o a b) = P a × P b
OfAll P (act_test a) = P a
OfAll P (act_access a) = P a
OfAll P (act_index p i n w) = P p × P i

-- an access of a block too many is the last event
abbrev pub Within : {V : Type 0} → ℕ → Act V → Outcome → Type 0
Within k (act_access a) (Object n) = nat_lt n k ≡ true
Within k _ _ = Unit {0}

abbrev pub Each : {A : Type 0} → (A → Type 0) → List A → Type 0
Each P [] = Unit {0}
Each P (x ∷ l) = P x × Each P l

each_append : {A : Type 0} (P : A → Type 0) (l m : List A) → Each P l → Each P m → Each P (l ++ m)
each_append P [] m p q = q
each_append P (x ∷ l) m p q = (p.0, each_append P l m p.1 q)

-- what holds of data where the run goes on and where it may end, and, beside data, of values and events; data grow
pub record Invariant (d : Domain) (k : ℕ) : Type 1 where
  pub Ok : d.D → Type 0
  pub Last : d.D → Type 0
  pub Value : d.D → d.V → Type 0
  pub Ev : d.D → d.E → Type 0
  pub Le : d.D → d.D → Type 0
  pub le_refl : (x : d.D) → Le x x
  pub le_trans : (x y z : d.D) → Le x y → Le y z → Le x z
  pub later : (x y : d.D) (v : d.V) → Le x y → Value x v → Value y v
  pub later_event : (x y : d.D) (e : d.E) → Le x y → Ev x e → Ev y e
  pub last : (x : d.D) → Ok x → Last x
  pub number : (x : d.D) (z : ℤ) → Value x (d.number z)
  pub nil : (x : d.D) → Value x d.nil
  pub offset : (x : d.D) (v : d.V) (n : ℕ) → Value x v → Value x (d.offset v n)
  pub global : (x : d.D) (n : ℕ) → Value x (d.global n)
  pub load : (x : d.D) (p : d.V) → Value x p → Ok x → Value x (d.load p x)
  pub store : (x : d.D) (p v : d.V) → Value x p → Value x v → Ok x → Ok (d.store p v x) × Le x (d.store p v x)
  pub make : (x : d.D) (t : Layout) → Ok x → Ok (d.make t x).after × Le x (d.make t x).after × Value (d.make t x).after (d.make t x).value
  pub take : (x : d.D) (p : d.V) → Value x p → Ok x → Ok (d.take p x) × Le x (d.take p x)
  pub act : (x : d.D) (a : Act d.V) → OfAll (Value x) a → Ok x → Ev (d.act a x).after (d.act a x).event × Last (d.act a x).after × Le x (d.act a x).after
      × (Within k a (d.outcome (d.act a x).event) → Ok (d.act a x).after × Value (d.act a x).after (d.act a x).value)

module _ (d : Domain) (k : ℕ) (i : Invariant d k) where
  abbrev St : Type 0
  St = State d.V d.D

  abbrev Fine : St → Type 0
  Fine s = i.Ok s.data_now × ((n : ℕ) → i.Value s.data_now (s.locals n))

  abbrev Ends : {A : Type 0} → (d.D → A → Type 0) → d.D → Result St A → Type 0
  Ends Q y (ok a s) = i.Le y s.data_now × Fine s × Q s.data_now a
  Ends Q y (over e s) = i.Le y s.data_now × i.Last s.data_now

  abbrev final : {A : Type 0} → Result St A → d.D
  final (ok a s) = s.data_now
  final (over e s) = s.data_now

  abbrev Known : d.D → List (Entry d.E) → Type 0
  Known y l = Each (λ a. i.Ev y a.event) l

  known_later : (y z : d.D) (l : List (Entry d.E)) → i.Le y z → Known y l → Known z l
  known_later y z [] le h = tt
  known_later y z (a ∷ l) le h = (i.later_event y z a.event le h.0, known_later y z l le h.1)

  -- what is kept from these data and each later ones, and what holds of what it gives
  abbrev Keeps : {A : Type 0} → d.D → (d.D → A → Type 0) → M d A → Type 0
  Keeps x Q m = (s : St) → i.Le x s.data_now → Fine s → Known (final (m s).result) (m s).log × Ends Q s.data_now (m s).result

  abbrev Any : {A : Type 0} → d.D → A → Type 0
  Any y a = Unit {0}

  ends_later : {A : Type 0} (Q : d.D → A → Type 0) (y z : d.D) (r : Result St A) → i.Le y z → Ends Q z r → Ends Q y r
  ends_later Q y z (ok a s) le h = (i.le_trans y z s.data_now le h.0, h.1, h.2)
  ends_later Q y z (over e s) le h = (i.le_trans y z s.data_now le h.0, h.1)

  ends_le : {A : Type 0} (Q : d.D → A → Type 0) (y : d.D) (r : Result St A) → Ends Q y r → i.Le y (final r)
  ends_le Q y (ok a s) h = h.0
  ends_le Q y (over e s) h = h.0

  k_pure : {A : Type 0} (x : d.D) (Q : d.D → A → Type 0) (a : A) → ((y : d.D) → i.Le x y → Q y a) → Keeps x Q (pure d a)
  unfolding pure
  k_pure x Q a h s le f = (tt, (i.le_refl s.data_now, f, h s.data_now le))

  k_stop : {A : Type 0} (x : d.D) (Q : d.D → A → Type 0) (e : End) → Keeps x Q (stop d {A = A} e)
  unfolding stop
  k_stop x Q e s le f = (tt, (i.le_refl s.data_now, i.last s.data_now f.0))

  k_on : {A B : Type 0} (Q : d.D → A → Type 0) (R : d.D → B → Type 0) (x y : d.D) (l : List (Entry d.E)) (r : Result St A) (f : A → M d B)
      → i.Le x y → Known (final r) l → Ends Q y r → ((z : d.D) (a : A) → i.Le x z → Q z a → Keeps z R (f a))
      → Known (final (go_on d l r f).result) (go_on d l r f).log × Ends R y (go_on d l r f).result
  unfolding go_on prepend
  k_on Q R x y l (ok a s) f le e h g =
      let n = g s.data_now a (i.le_trans x y s.data_now le h.0) h.2 s (i.le_refl s.data_now) h.1 in
      let z = final (f a s).result in
      (each_append (λ a. i.Ev z a.event) l (f a s).log (known_later s.data_now z l (ends_le R s.data_now (f a s).result n.1) e) n.0, ends_later R y s.data_now (f a s).result h.0 n.1)
  k_on Q R x y l (over e s) f le m h g = (m, h)

  k_bind : {A B : Type 0} (x : d.D) (Q : d.D → A → Type 0) (R : d.D → B → Type 0) (m : M d A) (f : A → M d B)
      → Keeps x Q m → ((z : d.D) (a : A) → i.Le x z → Q z a → Keeps z R (f a)) → Keeps x R (◌>>=◌ d m f)
  unfolding ◌>>=◌
  k_bind x Q R m f p q s le fine = let r = p s le fine in k_on Q R x s.data_now (m s).log (m s).result f le r.0 r.1 q

  k_then : {A B : Type 0} (x : d.D) (Q : d.D → A → Type 0) (R : d.D → B → Type 0) (m : M d A) (n : M d B)
      → Keeps x Q m → ((z : d.D) → i.Le x z → Keeps z R n) → Keeps x R (◌>>◌ d m n)
  unfolding ◌>>◌
  k_then x Q R m n p q = k_bind x Q R m (λ _. n) p (λ z a le h. q z le)

  k_step_at : (x : d.D) (n : ℕ) → Keeps x Any (step_at d n)
  unfolding step_at stop
  k_step_at x zero s le f = (tt, (i.le_refl s.data_now, i.last s.data_now f.0))
  k_step_at x (suc n) s le f = (tt, (i.le_refl s.data_now, f, tt))

  k_step : (x : d.D) → Keeps x Any (step d)
  unfolding step
  k_step x s le f = k_step_at x s.steps s le f

  k_steps : (x : d.D) (n : ℕ) → Keeps x Any (steps d n)
  unfolding steps
  k_steps x zero = k_pure x Any tt (λ y le. tt)
  k_steps x (suc n) = k_then x Any Any (step d) (steps d n) (k_step x) (λ z le. k_steps z n)

  k_local : (x : d.D) (n : ℕ) → Keeps x (λ y v. i.Value y v) (of.local d n)
  unfolding of.local
  k_local x n s le f = (tt, (i.le_refl s.data_now, f, f.1 n))

  abbrev Slots : d.D → (ℕ → d.V) → Type 0
  Slots y t = (n : ℕ) → i.Value y (t n)

  slots_later : (x y : d.D) (t : ℕ → d.V) → i.Le x y → Slots x t → Slots y t
  slots_later x y t le h n = i.later x y (t n) le (h n)

  k_get : (x : d.D) → Keeps x Slots (of.get_locals d)
  unfolding of.get_locals
  k_get x s le f = (tt, (i.le_refl s.data_now, f, f.1))

  k_set : (x : d.D) (t : ℕ → d.V) → Slots x t → Keeps x Any (of.set_locals d t)
  unfolding of.set_locals
  k_set x t h s le f = (tt, (i.le_refl s.data_now, (f.0, slots_later x s.data_now t le h), tt))

  put_one : (y : d.D) (t : ℕ → d.V) (v : d.V) (m : ℕ) (b : Bool) → i.Value y v → i.Value y (t m) → i.Value y (if b then v else t m)
  put_one y t v m true h g = h
  put_one y t v m false h g = g

  k_put : (x : d.D) (n : ℕ) (v : d.V) → i.Value x v → Keeps x Any (of.bind d n v)
  unfolding of.bind
  k_put x n v h s le f = (tt, (i.le_refl s.data_now, (f.0, λ m. put_one s.data_now s.locals v m (nat_eq m n) (i.later x s.data_now v le h) (f.1 m)), tt))

  k_load : (x : d.D) (p : d.V) → i.Value x p → Keeps x (λ y v. i.Value y v) (of.load d p)
  unfolding of.load
  k_load x p h s le f = (tt, (i.le_refl s.data_now, f, i.load s.data_now p (i.later x s.data_now p le h) f.0))

  k_store : (x : d.D) (p v : d.V) → i.Value x p → i.Value x v → Keeps x Any (of.store d p v)
  unfolding of.store
  k_store x p v h g s le f =
      let r = i.store s.data_now p v (i.later x s.data_now p le h) (i.later x s.data_now v le g) f.0 in
      (tt, (r.1, (r.0, slots_later s.data_now (d.store p v s.data_now) s.locals r.1 f.1), tt))

  k_take : (x : d.D) (p : d.V) → i.Value x p → Keeps x Any (of.take d p)
  unfolding of.take
  k_take x p h s le f =
      let r = i.take s.data_now p (i.later x s.data_now p le h) f.0 in
      (tt, (r.1, (r.0, slots_later s.data_now (d.take p s.data_now) s.locals r.1 f.1), tt))

  k_make : (x : d.D) (t : Layout) → Keeps x (λ y v. i.Value y v) (of.make d t)
  unfolding of.make
  k_make x t s le f =
      let r = i.make s.data_now t f.0 in
      (tt, (r.1, (r.0, slots_later s.data_now (d.make t s.data_now).after s.locals r.1 f.1), r.2))

  -- ---- events

  all_later : (x y : d.D) (a : Act d.V) → i.Le x y → OfAll (i.Value x) a → OfAll (i.Value y) a
  all_later x y (act_arith o a b) le h = (i.later x y a le h.0, i.later x y b le h.1)
  all_later x y (act_divisor a b) le h = (i.later x y a le h.0, i.later x y b le h.1)
  all_later x y (act_negate a) le h = i.later x y a le h
  all_later x y (act_compare o a b) le h = (i.later x y a le h.0, i.later x y b le h.1)
  all_later x y (act_test a) le h = i.later x y a le h
  all_later x y (act_access a) le h = i.later x y a le h
  all_later x y (act_index p j n w) le h = (i.later x y p le h.0, i.later x y j le h.1)

  abbrev Gives : d.D → Seen d.V → Type 0
  Gives y r = i.Value y r.value

  k_event_at : (n : ℕ) (j : SiteKind) (t : ℕ) (a : Act d.V) (x : d.D) → ((o : Outcome) → Within k a o) → OfAll (i.Value x) a → Keeps x Gives (event_at d n j t a)
  unfolding event_at
  k_event_at zero j t a x w h s le f = k_stop x Gives Cut s le f
  k_event_at (suc n) j t a x w h s le f =
      let r = i.act s.data_now a (all_later x s.data_now a le h) f.0 in
      let g = r.3 (w (d.outcome (d.act a s.data_now).event)) in
      ((r.0, tt), (r.2, (g.0, slots_later s.data_now (d.act a s.data_now).after s.locals r.2 f.1), g.1))

  k_event : (j : SiteKind) (t : ℕ) (a : Act d.V) (x : d.D) → ((o : Outcome) → Within k a o) → OfAll (i.Value x) a → Keeps x Gives (event d j t a)
  unfolding event
  k_event j t a x w h s le f = k_event_at s.events j t a x w h s le f

  k_if_plain : {A : Type 0} (x : d.D) (Q : d.D → A → Type 0) (o : Outcome) (e : End) (m : M d A) → Keeps x Q m → Keeps x Q (if_plain d o e m)
  unfolding if_plain
  k_if_plain x Q Plain e m h = h
  k_if_plain x Q _ e m h = k_stop x Q e

  abbrev Value : d.D → d.V → Type 0
  Value y v = i.Value y v

  -- an access that may be of a block too many
  chosen : (b : Bool) (e : End) (v : d.V) (s : St) (y : d.D) → i.Le y s.data_now → i.Last s.data_now → (b ≡ true → Fine s × i.Value s.data_now v)
      → Known (final (choose d b (pure d v) (stop d e) s).result) (choose d b (pure d v) (stop d e) s).log × Ends Value y (choose d b (pure d v) (stop d e) s).result
  unfolding choose pure stop
  chosen true e v s y m l h = let r = h refl in (tt, (m, r.0, r.1))
  chosen false e v s y m l h = (tt, (m, l))

  made_if : (o : Outcome) (e : End) (u v : d.V) (s : St) (y : d.D) → i.Le y s.data_now → i.Last s.data_now → (Within k (act_access u) o → Fine s × i.Value s.data_now v)
      → Known (final (if_made d k o e (pure d v) s).result) (if_made d k o e (pure d v) s).log × Ends Value y (if_made d k o e (pure d v) s).result
  unfolding if_made pure stop
  made_if Zero e u v s y m l h = (tt, (m, l))
  made_if (Object n) e u v s y m l h = chosen (nat_lt n k) Objects v s y m l h
  made_if High e u v s y m l h = let r = h tt in (tt, (m, r.0, r.1))
  made_if Low e u v s y m l h = let r = h tt in (tt, (m, r.0, r.1))
  made_if Plain e u v s y m l h = let r = h tt in (tt, (m, r.0, r.1))
  made_if False e u v s y m l h = let r = h tt in (tt, (m, r.0, r.1))
  made_if True e u v s y m l h = let r = h tt in (tt, (m, r.0, r.1))

  made_le : (o : Outcome) (e : End) (v : d.V) (s : St) → i.Le s.data_now (final (if_made d k o e (pure d v) s).result)
  unfolding if_made choose pure stop
  made_le Zero e v s = i.le_refl s.data_now
  made_le (Object n) e v s = chosen_le (nat_lt n k) v s
    where
      chosen_le : (b : Bool) (v : d.V) (s : St) → i.Le s.data_now (final (choose d b (pure d v) (stop d Objects) s).result)
      chosen_le true v s = i.le_refl s.data_now
      chosen_le false v s = i.le_refl s.data_now
  made_le High e v s = i.le_refl s.data_now
  made_le Low e v s = i.le_refl s.data_now
  made_le Plain e v s = i.le_refl s.data_now
  made_le False e v s = i.le_refl s.data_now
  made_le True e v s = i.le_refl s.data_now

  reached : (n : ℕ) (j : SiteKind) (t : ℕ) (u : d.V) (e : End) (x : d.D) (s : St) → i.Le x s.data_now → Fine s → i.Value x u
      → Known (final (go_on d (event_at d n j t (act_access u) s).log (event_at d n j t (act_access u) s).result (λ r. if_made d k r.outcome e (pure d r.value))).result) (go_on d (event_at d n j t (act_access u) s).log (event_at d n j t (act_access u) s).result (λ r. if_made d k r.outcome e (pure d r.value))).log
      × Ends Value s.data_now (go_on d (event_at d n j t (act_access u) s).log (event_at d n j t (act_access u) s).result (λ r. if_made d k r.outcome e (pure d r.value))).result
  unfolding event_at go_on prepend stop
  reached zero j t u e x s le f h = (tt, (i.le_refl s.data_now, i.last s.data_now f.0))
  reached (suc n) j t u e x s le f h =
      let r = i.act s.data_now (act_access u) (i.later x s.data_now u le h) f.0 in
      let q = d.act (act_access u) s.data_now in
      let s' : St = record s { events = n; data_now = q.after } in
      let g = made_if (d.outcome q.event) e u q.value s' s.data_now r.2 r.1
      (λ w. let z = r.3 w in ((z.0, slots_later s.data_now q.after s.locals r.2 f.1), z.1)) in
      let c = if_made d k (d.outcome q.event) e (pure d q.value) s' in
      ((i.later_event q.after (final c.result) q.event (made_le (d.outcome q.event) e q.value s') r.0, g.0), g.1)

  module _ (x : Fixed) (is : x.objects ≡ k) where
    abbrev Reached : ℕ → St → ℕ → d.V → Type 0
    Reached n s t v =
        Known (final (go_on d (event_at d s.events site.Access t (act_access v) s).log (event_at d s.events site.Access t (act_access v) s).result (λ r. if_made d n r.outcome (Fault Null (x.program.line t)) (pure d r.value))).result) (go_on d (event_at d s.events site.Access t (act_access v) s).log (event_at d s.events site.Access t (act_access v) s).result (λ r. if_made d n r.outcome (Fault Null (x.program.line t)) (pure d r.value))).log
        × Ends Value s.data_now (go_on d (event_at d s.events site.Access t (act_access v) s).log (event_at d s.events site.Access t (act_access v) s).result (λ r. if_made d n r.outcome (Fault Null (x.program.line t)) (pure d r.value))).result

    k_checked : (y : d.D) (j : SiteKind) (f : FaultKind) (t : ℕ) (a : Act d.V) → ((o : Outcome) → Within k a o) → OfAll (i.Value y) a → Keeps y Value (checked d x j f t a)
    unfolding checked
    k_checked y j f t a w h = k_bind y Gives Value (event d j t a) _ (k_event j t a y w h) (λ z r le v. k_if_plain z Value r.outcome _ (pure d r.value) (k_pure z Value r.value (λ u l. i.later z u r.value l v)))

    k_decided : (y : d.D) (t : ℕ) (a : Act d.V) → ((o : Outcome) → Within k a o) → OfAll (i.Value y) a → Keeps y Any (decided d x t a)
    unfolding decided
    k_decided y t a w h = k_bind y Gives Any (event d _ t a) _ (k_event _ t a y w h) (λ z r le v. k_pure z Any (of.is_true r.outcome) (λ u l. tt))

    k_accessed : (y : d.D) (t : ℕ) (v : d.V) → i.Value y v → Keeps y Value (accessed d x t v)
    unfolding accessed event ◌>>=◌
    k_accessed y t v h s le f = subst (λ (n : ℕ). Reached n s t v) is_k (reached s.events site.Access t v (Fault Null (x.program.line t)) y s le f h)
      where
        is_k : k ≡ x.objects
        is_k = sym is

    k_fits : (y : d.D) (t : ℕ) (o : Op) (a b : d.V) → i.Value y a → i.Value y b → Keeps y Value (fits d x t o a b)
    unfolding fits
    k_fits y t o a b h g = k_checked y _ _ t _ (λ o. tt) (h, g)

    abbrev AllOk : d.D → List d.V → Type 0
    AllOk y l = Each (i.Value y) l

    all_ok_later : (y z : d.D) (l : List d.V) → i.Le y z → AllOk y l → AllOk z l
    all_ok_later y z [] le h = tt
    all_ok_later y z (v ∷ l) le h = (i.later y z v le h.0, all_ok_later y z l le h.1)

    k_args : (y : d.D) (n : ℕ) (vs : List d.V) (cs : List Cell) → AllOk y vs → Keeps y Any (of.take_args d x n vs cs)
    unfolding of.take_args
    k_args y n (v ∷ vs) (c ∷ cs) h = k_then y Any Any (step d) _ (k_step y) (λ z le.
        k_bind z Value Any (of.make d (record { type = 0; cells = c ∷ [] })) _ (k_make z _) (λ z' p l q.
        let there : i.Le y z' = i.le_trans y z z' le l in
        k_then z' Any Any (of.store d p v) _ (k_store z' p v q (i.later y z' v there h.0)) (λ z'' m.
        k_then z'' Any Any (of.bind d n p) (of.take_args d x (suc n) vs cs) (k_put z'' n p (i.later z' z'' p m q)) (λ u o.
        k_args u (suc n) vs cs (all_ok_later y u vs (i.le_trans y z'' u (i.le_trans y z' z'' there m) o) h.1)))))
    k_args y n (v ∷ vs) [] h = k_pure y Any tt (λ z le. tt)
    k_args y n [] (c ∷ cs) h = k_pure y Any tt (λ z le. tt)
    k_args y n [] [] h = k_pure y Any tt (λ z le. tt)

    -- ---- instructions

    abbrev AllFrames : d.D → List (Frame d) → Type 0
    AllFrames y l = Each (λ r. Slots y r.temps × Slots y r.slots) l

    frames_later : (y z : d.D) (l : List (Frame d)) → i.Le y z → AllFrames y l → AllFrames z l
    frames_later y z [] le h = tt
    frames_later y z (r ∷ l) le h = ((slots_later y z r.temps le (h.0).0, slots_later y z r.slots le (h.0).1), frames_later y z l le h.1)

    abbrev pub FineAt : d.D → Config d → Type 0
    FineAt y c = Slots y c.temps × AllFrames y c.stack

    fine_later : (y z : d.D) (c : Config d) → i.Le y z → FineAt y c → FineAt z c
    fine_later y z c le h = (slots_later y z c.temps le h.0, frames_later y z c.stack le h.1)

    slots_put : (y : d.D) (t : ℕ → d.V) (n : ℕ) (v : d.V) → Slots y t → i.Value y v → Slots y (λ m. if nat_eq m n then v else t m)
    slots_put y t n v h g m = put_one y t v m (nat_eq m n) g (h m)

    args_fine : (y : d.D) (t : ℕ → d.V) (n m : ℕ) → Slots y t → AllOk y (arguments d t n m)
    args_fine y t n zero h = tt
    args_fine y t n (suc m) h = (h n, args_fine y t (suc n) m h)

    module _ (is_zero : d.V → Bool) (first_of : ℕ → ℕ) where
      module _ (g : Config d → Done d) (on : (y : d.D) (c : Config d) → FineAt y c → Keeps y Any (g c)) where
        k_leave : (y : d.D) (v : d.V) (l : List (Frame d)) → i.Value y v → AllFrames y l → Keeps y Any (leave d g v l)
        unfolding leave
        k_leave y v [] h f = k_stop y Any Return
        k_leave y v (r ∷ rest) h f = k_then y Any Any (of.set_locals d r.slots) _ (k_set y r.slots (f.0).1) (λ z le.
            on z _ (slots_put z r.temps r.dst v (slots_later y z r.temps le (f.0).0) (i.later y z v le h), frames_later y z rest le f.1))

        k_enter : (y : d.D) (c : Config d) (n : ℕ) (vs : List d.V) (f : ℕ) (o : Option Func) → FineAt y c → AllOk y vs → Keeps y Any (enter d x is_zero first_of g c n vs f o)
        unfolding enter
        k_enter y c n vs f None h a = k_stop y Any _
        k_enter y c n vs f (Some w) h a = k_bind y Slots Any (of.get_locals d) _ (k_get y) (λ z saved le q.
            k_then z Any Any (of.take_args d x 0 vs w.params) _ (k_args z 0 vs w.params (all_ok_later y z vs le a)) (λ u l.
            on u _ ((λ m. i.nil u), ((slots_later y u c.temps (i.le_trans y z u le l) h.0, slots_later z u saved l q), frames_later y u c.stack (i.le_trans y z u le l) h.1))))

        gives_value : (y : d.D) (c : Config d) (n : ℕ) → FineAt y c → (z : d.D) (v : d.V) → i.Le y z → i.Value z v → Keeps z Any (g (record { pc = suc c.pc; temps = λ m. if nat_eq m n then v else c.temps m; stack = c.stack }))
        gives_value y c n h z v le q = on z _ (slots_put z c.temps n v (slots_later y z c.temps le h.0) q, frames_later y z c.stack le h.1)

        goes_on : (y : d.D) (c : Config d) (to : ℕ) → FineAt y c → (z : d.D) → i.Le y z → Keeps z Any (g (record { pc = to; temps = c.temps; stack = c.stack }))
        goes_on y c to h z le = on z _ (fine_later y z c le h)

        truth_ok : (z : d.D) (b : Bool) → i.Value z (of.truth_value d x b)
        unfolding of.truth_value
        truth_ok z true = i.number z _
        truth_ok z false = i.number z _

        k_choice : (y : d.D) (b : Bool) (m n : Config d) → FineAt y m → FineAt y n → Keeps y Any (g (if b then m else n))
        k_choice y true m n p q = on y m p
        k_choice y false m n p q = on y n q

        k_if : (y : d.D) (b : Bool) (m n : Done d) → Keeps y Any m → Keeps y Any n → Keeps y Any (if b then m else n)
        k_if y true m n p q = p
        k_if y false m n p q = q

        k_act : (y : d.D) (j : Instruction) (c : Config d) → FineAt y c → Keeps y Any (act d x is_zero first_of j g c)
        unfolding act
        k_act y i_step c h = k_then y Any Any (step d) _ (k_step y) (λ z le. goes_on y c (suc c.pc) h z le)
        k_act y (i_number n z) c h = gives_value y c n h y _ (i.le_refl y) (i.number y z)
        k_act y (i_nil n) c h = gives_value y c n h y _ (i.le_refl y) (i.nil y)
        k_act y (i_copy n a) c h = gives_value y c n h y _ (i.le_refl y) (h.0 a)
        k_act y (i_arith t o n a b) c h = k_bind y Value Any (fits d x t o (c.temps a) (c.temps b)) _ (k_fits y t o (c.temps a) (c.temps b) (h.0 a) (h.0 b)) (λ z v le q. gives_value y c n h z v le q)
        k_act y (i_divisor t a b) c h = k_bind y Value Any (checked d x _ _ t _) _ (k_checked y _ _ t _ (λ o. tt) (h.0 a, h.0 b)) (λ z v le q. goes_on y c (suc c.pc) h z le)
        k_act y (i_negate t n a) c h = k_bind y Value Any (checked d x _ _ t _) _ (k_checked y _ _ t _ (λ o. tt) (h.0 a)) (λ z v le q. gives_value y c n h z v le q)
        k_act y (i_compare t o n a b) c h = k_bind y Any Any (decided d x t _) _ (k_decided y t _ (λ o. tt) (h.0 a, h.0 b)) (λ z v le q. gives_value y c n h z _ le (truth_ok z v))
        k_act y (i_truth t n a) c h = k_bind y Any Any (decided d x t _) _ (k_decided y t _ (λ o. tt) (h.0 a)) (λ z v le q. gives_value y c n h z _ le (truth_ok z v))
        k_act y (i_slot n s) c h = k_bind y Value Any (of.local d s) _ (k_local y s) (λ z v le q. gives_value y c n h z v le q)
        k_act y (i_global n m) c h = gives_value y c n h y _ (i.le_refl y) (i.global y m)
        k_act y (i_access t n a) c h = k_bind y Value Any (accessed d x t (c.temps a)) _ (k_accessed y t (c.temps a) (h.0 a)) (λ z v le q. gives_value y c n h z v le q)
        k_act y (i_offset n a m) c h = gives_value y c n h y _ (i.le_refl y) (i.offset y (c.temps a) m (h.0 a))
        k_act y (i_index t n a j m w) c h = k_bind y Value Any (checked d x _ _ t _) _ (k_checked y _ _ t _ (λ o. tt) (h.0 a, h.0 j)) (λ z v le q. gives_value y c n h z v le q)
        k_act y (i_load n a) c h = k_bind y Value Any (of.load d (c.temps a)) _ (k_load y (c.temps a) (h.0 a)) (λ z v le q. gives_value y c n h z v le q)
        k_act y (i_store a b) c h = k_then y Any Any (of.store d (c.temps a) (c.temps b)) _ (k_store y (c.temps a) (c.temps b) (h.0 a) (h.0 b)) (λ z le. goes_on y c (suc c.pc) h z le)
        k_act y (i_local s t) c h = k_then y Any Any (steps d (length t.cells)) _ (k_steps y (length t.cells)) (λ z le.
            k_bind z Value Any (of.make d t) _ (k_make z t) (λ u v l q. k_then u Any Any (of.bind d s v) _ (k_put u s v q) (λ w m. goes_on y c (suc c.pc) h w (i.le_trans y u w (i.le_trans y z u le l) m))))
        k_act y (i_malloc n t) c h = k_then y Any Any (steps d (length t.cells)) _ (k_steps y (length t.cells)) (λ z le.
            k_bind z Value Any (of.make d t) _ (k_make z t) (λ u v l q. gives_value y c n h u v (i.le_trans y z u le l) q))
        k_act y (i_take a) c h = k_then y Any Any (of.take d (c.temps a)) _ (k_take y (c.temps a) (h.0 a)) (λ z le. goes_on y c (suc c.pc) h z le)
        k_act y (i_jump to) c h = goes_on y c to h y (i.le_refl y)
        k_act y (i_jump_zero a to) c h = k_choice y (is_zero (c.temps a)) _ _ h h
        k_act y (i_call n f first m) c h = k_enter y c n _ f _ h (args_fine y c.temps first m h.0)
        k_act y (i_return a) c h = k_leave y (c.temps a) c.stack (h.0 a) h.1
        k_act y (i_stop f l) c h = k_stop y Any _
        k_act y (i_unless a) c h = k_if y (is_zero (c.temps a)) _ _ (k_stop y Any _) (goes_on y c (suc c.pc) h y (i.le_refl y))

        k_act_if : (y : d.D) (o : Option Instruction) (c : Config d) → FineAt y c → Keeps y Any (act_if d x is_zero first_of o g c)
        unfolding act_if
        k_act_if y None c h = k_stop y Any _
        k_act_if y (Some j) c h = k_act y j c h

      module _ (code : List Instruction) (lost : Config d → Done d) (kept : (y : d.D) (c : Config d) → FineAt y c → Keeps y Any (lost c)) where
        k_machine : (n : ℕ) (y : d.D) (c : Config d) → FineAt y c → Keeps y Any (machine d x is_zero first_of code lost n c)
        unfolding machine
        k_machine zero y c h = kept y c h
        k_machine (suc n) y c h = k_act_if (machine d x is_zero first_of code lost n) (k_machine n) y (slice_get code c.pc) c h

        k_entry : (n : ℕ) (y : d.D) (o : Option Func) → Keeps y Any (from_entry d x is_zero first_of code lost n o)
        unfolding from_entry
        k_entry n y None = k_stop y Any _
        k_entry n y (Some f) = k_machine n y _ ((λ m. i.nil y), tt)

      last_of : (r : Result St (Unit {0})) (y : d.D) → Ends Any y r → i.Last (final r)
      last_of (ok a s) y h = i.last s.data_now (h.1).0
      last_of (over e s) y h = h.1

      -- of each event, beside the data at the end, and of these
      pub kept_events : (code : List Instruction) (s : St) (r : Ran d.E St (Unit {0})) → CodeRuns d x is_zero first_of code s r → i.Ok s.data_now → ((n : ℕ) → i.Value s.data_now (s.locals n))
          → Each (λ a. i.Ev (last_state r.result).data_now a.event) r.log × i.Last (last_state r.result).data_now
      kept_events code s r p begun slots =
          let lost : Config d → Done d = λ c. stop d Return in
          let q = k_entry code lost (λ y c h. k_stop y Any Return) p.0 s.data_now (slice_get (x.program).funcs (x.program).entry) s (i.le_refl s.data_now) (begun, slots) in
          let h : Known (final r.result) r.log × Ends Any s.data_now r.result =
          subst (λ (z : Ran d.E St (Unit {0})). Known (final z.result) z.log × Ends Any s.data_now z.result) (p.1 lost) q in
          put r.result r.log h.0 (last_of r.result s.data_now h.1)
        where
          put : (q : Result St (Unit {0})) (l : List (Entry d.E)) → Known (final q) l → i.Last (final q) → Each (λ a. i.Ev (last_state q).data_now a.event) l × i.Last (last_state q).data_now
          put (ok a s) l h g = (h, g)
          put (over e s) l h g = (h, g)
