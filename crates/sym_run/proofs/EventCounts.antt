-- A run of code has no more events than it may have.
use Rattle.std.proofs.Common.{◌≡◌, ◌≤◌, ℕ, zero, suc, ◌+◌, Bool, true, false, List, [], ◌∷◌, length, length-append, Option, Some, None, slice_get, nat_lt, subst, arith, if◌then◌else◌}
use Rattle.cc_base.specs.declared.ends.End.{End}
use Rattle.cc_base.specs.declared.ends.End.TheVariants.{Return, Objects}
use Rattle.cc_base.specs.declared.ends.FaultKind.{FaultKind}
use Rattle.cc_base.specs.declared.outcomes.Outcome.{Outcome}
use Rattle.cc_base.specs.declared.outcomes.Outcome.TheVariants.{Zero, Plain, Object}
use Rattle.cc_model.specs.declared.checked.SiteKind.{SiteKind}
use Rattle.cc_model.specs.Conditions.{last_state}
use Rattle.cc_model.specs.Core.{Cell, Layout, Op, Func}
use Rattle.cc_model.specs.Domain.{Act, Domain}
use Rattle.cc_model.specs.Meaning as of
use Rattle.cc_model.specs.Meaning.{Entry, Fixed, State, Result, ok, over, Ran, M, Done, ◌>>=◌, ◌>>◌, go_on, prepend, pure, stop, choose, step_at, step, steps, event_at, event, if_plain, if_made, checked, decided, accessed, fits}
use Rattle.cc_model.specs.Instructions.{Instruction, i_step, i_number, i_nil, i_copy, i_arith, i_divisor, i_negate, i_compare, i_truth, i_slot, i_global, i_access, i_offset, i_index, i_load, i_store, i_local, i_malloc, i_take, i_jump, i_jump_zero, i_call, i_return, i_stop, i_unless, Frame, Config, leave, enter, act, act_if, machine, from_entry, CodeRuns}

module _ (d : Domain) where
  -- what it logs, and the events that it leaves, are the events that it may have
  abbrev Counts : {A : Type 0} → M d A → Type 0
  Counts m = (s : State d.V d.D) → length (m s).log + (last_state (m s).result).events ≡ s.events

  c_pure : {A : Type 0} (a : A) → Counts (pure d a)
  unfolding pure
  c_pure a s = omega arith

  c_stop : (A : Type 0) (e : End) → Counts (stop d {A = A} e)
  unfolding stop
  c_stop A e s = omega arith

  c_on : {A B : Type 0} (l : List (Entry d.E)) (r : Result (State d.V d.D) A) (f : A → M d B) (n : ℕ) → length l + (last_state r).events ≡ n → ((a : A) → Counts (f a))
      → length (go_on d l r f).log + (last_state (go_on d l r f).result).events ≡ n
  unfolding go_on prepend
  c_on l (ok a s) f n e h = let k = h a s in let m = length-append l (f a s).log in omega (arith, e, k, m)
  c_on l (over x s) f n e h = e

  c_bind : {A B : Type 0} (m : M d A) (f : A → M d B) → Counts m → ((a : A) → Counts (f a)) → Counts (◌>>=◌ d m f)
  unfolding ◌>>=◌
  c_bind m f p q s = c_on (m s).log (m s).result f s.events (p s) q

  c_then : {A B : Type 0} (m : M d A) (k : M d B) → Counts m → Counts k → Counts (◌>>◌ d m k)
  unfolding ◌>>◌
  c_then m k p q = c_bind m (λ _. k) p (λ _. q)

  c_step_at : (n : ℕ) → Counts (step_at d n)
  unfolding step_at stop
  c_step_at zero s = omega arith
  c_step_at (suc n) s = omega arith

  c_step : Counts (step d)
  unfolding step
  c_step s = c_step_at s.steps s

  c_steps : (n : ℕ) → Counts (steps d n)
  unfolding steps
  c_steps zero = c_pure tt
  c_steps (suc n) = c_then (step d) (steps d n) c_step (c_steps n)

  c_local : (n : ℕ) → Counts (of.local d n)
  unfolding of.local
  c_local n s = omega arith

  c_get : Counts (of.get_locals d)
  unfolding of.get_locals
  c_get s = omega arith

  c_set : (f : ℕ → d.V) → Counts (of.set_locals d f)
  unfolding of.set_locals
  c_set f s = omega arith

  c_put : (n : ℕ) (v : d.V) → Counts (of.bind d n v)
  unfolding of.bind
  c_put n v s = omega arith

  c_load : (p : d.V) → Counts (of.load d p)
  unfolding of.load
  c_load p s = omega arith

  c_store : (p v : d.V) → Counts (of.store d p v)
  unfolding of.store
  c_store p v s = omega arith

  c_take : (p : d.V) → Counts (of.take d p)
  unfolding of.take
  c_take p s = omega arith

  c_make : (t : Layout) → Counts (of.make d t)
  unfolding of.make
  c_make t s = omega arith

  c_event_at : (n : ℕ) (k : SiteKind) (t : ℕ) (a : Act d.V) (s : State d.V d.D) → s.events ≡ n → length (event_at d n k t a s).log + (last_state (event_at d n k t a s).result).events ≡ n
  unfolding event_at stop
  c_event_at zero k t a s e = omega (arith, e)
  c_event_at (suc n) k t a s e = omega arith

  c_event : (k : SiteKind) (t : ℕ) (a : Act d.V) → Counts (event d k t a)
  unfolding event
  c_event k t a s = c_event_at s.events k t a s refl_events
    where
      refl_events : s.events ≡ s.events
      refl_events = omega arith

  c_if_plain : {A : Type 0} (o : Outcome) (e : End) (m : M d A) → Counts m → Counts (if_plain d o e m)
  unfolding if_plain
  c_if_plain Plain e m h = h
  c_if_plain _ e m h = c_stop _ e

  c_choose : {A : Type 0} (b : Bool) (m k : M d A) → Counts m → Counts k → Counts (choose d b m k)
  unfolding choose
  c_choose true m k p q = p
  c_choose false m k p q = q

  c_if : {A : Type 0} (b : Bool) (m k : M d A) → Counts m → Counts k → Counts (if b then m else k)
  c_if true m k p q = p
  c_if false m k p q = q

  c_if_made : {A : Type 0} (k : ℕ) (o : Outcome) (e : End) (m : M d A) → Counts m → Counts (if_made d k o e m)
  unfolding if_made
  c_if_made k Zero e m h = c_stop _ e
  c_if_made k (Object n) e m h = c_choose (nat_lt n k) m (stop d Objects) h (c_stop _ Objects)
  c_if_made k _ e m h = h

  module _ (x : Fixed) where
    c_checked : (k : SiteKind) (f : FaultKind) (t : ℕ) (a : Act d.V) → Counts (checked d x k f t a)
    unfolding checked
    c_checked k f t a = c_bind (event d k t a) _ (c_event k t a) (λ r. c_if_plain r.outcome _ (pure d r.value) (c_pure r.value))

    c_decided : (t : ℕ) (a : Act d.V) → Counts (decided d x t a)
    unfolding decided
    c_decided t a = c_bind (event d _ t a) _ (c_event _ t a) (λ r. c_pure (of.is_true r.outcome))

    c_accessed : (t : ℕ) (v : d.V) → Counts (accessed d x t v)
    unfolding accessed
    c_accessed t v = c_bind (event d _ t _) _ (c_event _ t _) (λ r. c_if_made x.objects r.outcome _ (pure d r.value) (c_pure r.value))

    c_fits : (t : ℕ) (o : Op) (a b : d.V) → Counts (fits d x t o a b)
    unfolding fits
    c_fits t o a b = c_checked _ _ t _

    c_args : (n : ℕ) (vs : List d.V) (cs : List Cell) → Counts (of.take_args d x n vs cs)
    unfolding of.take_args
    c_args n (v ∷ vs) (c ∷ cs) = c_then (step d) _ c_step (c_bind (of.make d (record { type = 0; cells = c ∷ [] })) _ (c_make _) (λ p. c_then (of.store d p v) _ (c_store p v) (c_then (of.bind d n p) (of.take_args d x (suc n) vs cs) (c_put n p) (c_args (suc n) vs cs))))
    c_args n (v ∷ vs) [] = c_pure tt
    c_args n [] (c ∷ cs) = c_pure tt
    c_args n [] [] = c_pure tt

    module _ (is_zero : d.V → Bool) (first_of : ℕ → ℕ) where
      module _ (k : Config d → Done d) (h : (c : Config d) → Counts (k c)) where
        c_leave : (v : d.V) (l : List (Frame d)) → Counts (leave d k v l)
        unfolding leave
        c_leave v [] = c_stop _ Return
        c_leave v (r ∷ rest) = c_then (of.set_locals d r.slots) _ (c_set r.slots) (h _)

        c_enter : (c : Config d) (n : ℕ) (vs : List d.V) (f : ℕ) (o : Option Func) → Counts (enter d x is_zero first_of k c n vs f o)
        unfolding enter
        c_enter c n vs f None = c_stop _ _
        c_enter c n vs f (Some g) = c_bind (of.get_locals d) _ c_get (λ saved. c_then (of.take_args d x 0 vs g.params) _ (c_args 0 vs g.params) (h _))

        c_act : (i : Instruction) (c : Config d) → Counts (act d x is_zero first_of i k c)
        unfolding act
        c_act i_step c = c_then (step d) _ c_step (h _)
        c_act (i_number n z) c = h _
        c_act (i_nil n) c = h _
        c_act (i_copy n a) c = h _
        c_act (i_arith t o n a b) c = c_bind (fits d x t o (c.temps a) (c.temps b)) _ (c_fits t o (c.temps a) (c.temps b)) (λ v. h _)
        c_act (i_divisor t a b) c = c_bind (checked d x _ _ t _) _ (c_checked _ _ t _) (λ v. h _)
        c_act (i_negate t n a) c = c_bind (checked d x _ _ t _) _ (c_checked _ _ t _) (λ v. h _)
        c_act (i_compare t o n a b) c = c_bind (decided d x t _) _ (c_decided t _) (λ v. h _)
        c_act (i_truth t n a) c = c_bind (decided d x t _) _ (c_decided t _) (λ v. h _)
        c_act (i_slot n s) c = c_bind (of.local d s) _ (c_local s) (λ v. h _)
        c_act (i_global n g) c = h _
        c_act (i_access t n a) c = c_bind (accessed d x t (c.temps a)) _ (c_accessed t (c.temps a)) (λ v. h _)
        c_act (i_offset n a m) c = h _
        c_act (i_index t n a i m w) c = c_bind (checked d x _ _ t _) _ (c_checked _ _ t _) (λ v. h _)
        c_act (i_load n a) c = c_bind (of.load d (c.temps a)) _ (c_load (c.temps a)) (λ v. h _)
        c_act (i_store a b) c = c_then (of.store d (c.temps a) (c.temps b)) _ (c_store (c.temps a) (c.temps b)) (h _)
        c_act (i_local s t) c = c_then (steps d (length t.cells)) _ (c_steps (length t.cells)) (c_bind (of.make d t) _ (c_make t) (λ v. c_then (of.bind d s v) _ (c_put s v) (h _)))
        c_act (i_malloc n t) c = c_then (steps d (length t.cells)) _ (c_steps (length t.cells)) (c_bind (of.make d t) _ (c_make t) (λ v. h _))
        c_act (i_take a) c = c_then (of.take d (c.temps a)) _ (c_take (c.temps a)) (h _)
        c_act (i_jump to) c = h _
        c_act (i_jump_zero a to) c = h _
        c_act (i_call n f first m) c = c_enter c n _ f _
        c_act (i_return a) c = c_leave (c.temps a) c.stack
        c_act (i_stop f l) c = c_stop _ _
        c_act (i_unless a) c = c_if (is_zero (c.temps a)) _ _ (c_stop _ _) (h _)

        c_act_if : (o : Option Instruction) (c : Config d) → Counts (act_if d x is_zero first_of o k c)
        unfolding act_if
        c_act_if None c = c_stop _ _
        c_act_if (Some i) c = c_act i c

      module _ (code : List Instruction) where
        c_machine : (lost : Config d → Done d) → ((c : Config d) → Counts (lost c)) → (n : ℕ) (c : Config d) → Counts (machine d x is_zero first_of code lost n c)
        unfolding machine
        c_machine lost h zero c = h c
        c_machine lost h (suc n) c = c_act_if (machine d x is_zero first_of code lost n) (c_machine lost h n) (slice_get code c.pc) c

        c_entry : (lost : Config d → Done d) → ((c : Config d) → Counts (lost c)) → (n : ℕ) (o : Option Func) → Counts (from_entry d x is_zero first_of code lost n o)
        unfolding from_entry
        c_entry lost h n None = c_stop _ _
        c_entry lost h n (Some f) = c_machine lost h n _

        pub few_events : (s : State d.V d.D) (r : Ran d.E (State d.V d.D) (Unit {0})) → CodeRuns d x is_zero first_of code s r → length r.log ≤ s.events
        few_events s r p =
            let lost : Config d → Done d = λ c. stop d Return in
            let k : length r.log + (last_state r.result).events ≡ s.events =
            subst (λ (q : Ran d.E (State d.V d.D) (Unit {0})). length q.log + (last_state q.result).events ≡ s.events) (p.1 lost) (c_entry lost (λ c. c_stop _ Return) p.0 (slice_get (x.program).funcs (x.program).entry) s) in
            omega (arith, k)
