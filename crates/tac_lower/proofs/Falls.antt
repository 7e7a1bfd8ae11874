-- The steps that are left never rise.
use Rattle.std.proofs.Common.{ℕ, zero, suc, ◌≤◌, Bool, true, false, List, [], ◌∷◌, arith, nat_lt, le_refl, le_trans}
use Rattle.cc_base.specs.declared.outcomes.Outcome.{Outcome}
use Rattle.cc_base.specs.declared.outcomes.Outcome.TheVariants.{Zero, Plain, Object}
use Rattle.cc_base.specs.declared.ends.FaultKind.{FaultKind}
use Rattle.cc_base.specs.declared.ends.End.{End}
use Rattle.cc_base.specs.declared.ends.End.TheVariants.{Objects}
use Rattle.cc_model.specs.declared.checked.SiteKind.{SiteKind}
use Rattle.cc_model.specs.Core.{Cell, Layout, Op}
use Rattle.cc_model.specs.Domain.{Act, act_access, act_arith, Domain}
use Rattle.cc_model.specs.Meaning as of
use Rattle.cc_model.specs.Meaning.{Fixed, Entry, State, Result, ok, over, Ran, Seen, M, Done, ◌>>=◌, ◌>>◌, go_on, prepend, pure, stop, choose, step_at, step, steps}

module _ (d : Domain) where
  abbrev pub Fell : {A : Type 0} → Result (State d.V d.D) A → ℕ → Type 0
  Fell (ok a s) n = s.steps ≤ n
  Fell (over e s) n = Unit {0}

  abbrev pub Falls : {A : Type 0} → M d A → Type 0
  Falls m = (s : State d.V d.D) → Fell (m s).result s.steps

  fell_more : {A : Type 0} → (r : Result (State d.V d.D) A) (n m : ℕ) → n ≤ m → Fell r n → Fell r m
  fell_more (ok a s) n m i j = le_trans j i
  fell_more (over e s) n m i j = tt

  fell_on : {A B : Type 0} → (l : List (Entry d.E)) (r : Result (State d.V d.D) A) (f : A → M d B) (n : ℕ) → Fell r n → ((a : A) → Falls (f a)) → Fell (go_on d l r f).result n
  unfolding go_on prepend
  fell_on l (ok a s) f n i g = fell_more (f a s).result s.steps n i (g a s)
  fell_on l (over e s) f n i g = tt

  pub falls_bind : {A B : Type 0} → (m : M d A) (f : A → M d B) → Falls m → ((a : A) → Falls (f a)) → Falls (◌>>=◌ d m f)
  unfolding ◌>>=◌
  falls_bind m f i g s = fell_on (m s).log (m s).result f s.steps (i s) g

  pub falls_then : {A B : Type 0} → (m : M d A) (f : M d B) → Falls m → Falls f → Falls (◌>>◌ d m f)
  unfolding ◌>>◌
  falls_then m f i g = falls_bind m (λ _. f) i (λ _. g)

  pub falls_pure : {A : Type 0} → (a : A) → Falls (pure d a)
  unfolding pure
  falls_pure a s = le_refl _

  pub falls_stop : (A : Type 0) (e : End) → Falls (stop d {A = A} e)
  unfolding stop
  falls_stop A e s = tt

  falls_step_at : (n : ℕ) (s : State d.V d.D) → n ≤ s.steps → Fell (step_at d n s).result s.steps
  unfolding step_at stop
  falls_step_at zero s i = tt
  falls_step_at (suc n) s i = omega (arith, i)

  pub falls_step : Falls (step d)
  unfolding step
  falls_step s = falls_step_at s.steps s (le_refl _)

  pub falls_steps : (n : ℕ) → Falls (steps d n)
  unfolding steps
  falls_steps zero = falls_pure tt
  falls_steps (suc n) = falls_then (step d) (steps d n) falls_step (falls_steps n)

  pub falls_local : (n : ℕ) → Falls (of.local d n)
  unfolding of.local
  falls_local n s = le_refl _

  pub falls_get_locals : Falls (of.get_locals d)
  unfolding of.get_locals
  falls_get_locals s = le_refl _

  pub falls_set_locals : (f : ℕ → d.V) → Falls (of.set_locals d f)
  unfolding of.set_locals
  falls_set_locals f s = le_refl _

  pub falls_bound : (n : ℕ) (v : d.V) → Falls (of.bind d n v)
  unfolding of.bind
  falls_bound n v s = le_refl _

  pub falls_load : (v : d.V) → Falls (of.load d v)
  unfolding of.load
  falls_load v s = le_refl _

  pub falls_store : (p v : d.V) → Falls (of.store d p v)
  unfolding of.store
  falls_store p v s = le_refl _

  pub falls_take : (p : d.V) → Falls (of.take d p)
  unfolding of.take
  falls_take p s = le_refl _

  pub falls_make : (t : Layout) → Falls (of.make d t)
  unfolding of.make
  falls_make t s = le_refl _

  falls_event_at : (n : ℕ) (k : SiteKind) (t : ℕ) (a : Act d.V) → Falls (of.event_at d n k t a)
  unfolding of.event_at
  falls_event_at zero k t a = falls_stop _ _
  falls_event_at (suc n) k t a = λ s. le_refl _

  pub falls_event : (k : SiteKind) (t : ℕ) (a : Act d.V) → Falls (of.event d k t a)
  unfolding of.event
  falls_event k t a s = falls_event_at s.events k t a s

  falls_if_plain : {A : Type 0} → (o : Outcome) (e : End) (m : M d A) → Falls m → Falls (of.if_plain d o e m)
  unfolding of.if_plain
  falls_if_plain Plain e m i = i
  falls_if_plain _ e m i = falls_stop _ e

  pub falls_choose : {A : Type 0} → (b : Bool) (m n : M d A) → Falls m → Falls n → Falls (choose d b m n)
  unfolding choose
  falls_choose true m n i j = i
  falls_choose false m n i j = j

  falls_if_made : {A : Type 0} → (k : ℕ) (o : Outcome) (e : End) (m : M d A) → Falls m → Falls (of.if_made d k o e m)
  unfolding of.if_made
  falls_if_made k Zero e m i = falls_stop _ e
  falls_if_made k (Object n) e m i = falls_choose (nat_lt n k) m (stop d Objects) i (falls_stop _ Objects)
  falls_if_made k _ e m i = i

  module _ (x : Fixed) where
    pub falls_checked : (k : SiteKind) (f : FaultKind) (t : ℕ) (a : Act d.V) → Falls (of.checked d x k f t a)
    unfolding of.checked
    falls_checked k f t a = falls_bind _ _ (falls_event k t a) (λ r. falls_if_plain r.outcome _ _ (falls_pure r.value))

    pub falls_decided : (t : ℕ) (a : Act d.V) → Falls (of.decided d x t a)
    unfolding of.decided
    falls_decided t a = falls_bind _ _ (falls_event _ t a) (λ r. falls_pure _)

    pub falls_accessed : (t : ℕ) (v : d.V) → Falls (of.accessed d x t v)
    unfolding of.accessed
    falls_accessed t v = falls_bind _ _ (falls_event _ t (act_access v)) (λ r. falls_if_made x.objects r.outcome _ _ (falls_pure r.value))

    pub falls_fits : (t : ℕ) (o : Op) (a b : d.V) → Falls (of.fits d x t o a b)
    unfolding of.fits
    falls_fits t o a b = falls_checked _ _ t (act_arith o a b)

    pub falls_take_args : (n : ℕ) (vs : List d.V) (cs : List Cell) → Falls (of.take_args d x n vs cs)
    unfolding of.take_args
    falls_take_args n [] [] = falls_pure tt
    falls_take_args n [] (c ∷ cs) = falls_pure tt
    falls_take_args n (v ∷ vs) [] = falls_pure tt
    falls_take_args n (v ∷ vs) (c ∷ cs) = falls_then _ _ falls_step (falls_bind _ _ (falls_make _) (λ p. falls_then _ _ (falls_store p v) (falls_then _ _ (falls_bound n p) (falls_take_args (suc n) vs cs))))
