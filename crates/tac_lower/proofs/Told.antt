-- What so many instructions come to: the end of the run, or a place from which more are needed.
use Rattle.std.proofs.Common.{◌≡◌, ℕ, zero, suc, Bool, true, false, inl, inr, ◌⊎◌, List, [], ◌∷◌, ◌++◌, Option, Some, None, refl, sym, ap, ◌∙◌, slice_get, append_assoc, if◌then◌else◌}
use Rattle.cc_base.specs.declared.ends.End.{End}
use Rattle.cc_base.specs.declared.ends.End.TheVariants.{Return, Assume, Cut, Objects, Steps, Fault}
use Rattle.cc_model.specs.Core.{Func}
use Rattle.cc_model.specs.Domain.{act_divisor, act_negate, act_compare, act_test, act_index, Domain}
use Rattle.cc_model.specs.Meaning as of
use Rattle.cc_model.specs.Meaning.{Fixed, Entry, State, Result, ok, over, Ran, M, Done, ◌>>=◌, ◌>>◌, go_on, prepend, stop}
use Rattle.cc_model.specs.Runs.{end_of}
use Rattle.cc_model.specs.Instructions.{Instruction, i_step, i_number, i_nil, i_copy, i_arith, i_divisor, i_negate, i_compare, i_truth, i_slot, i_global, i_access, i_offset, i_index, i_load, i_store, i_local, i_malloc, i_take, i_jump, i_jump_zero, i_call, i_return, i_stop, i_unless, Frame, Config, arguments, leave, enter, act, act_if, machine, from_entry}

-- an end that is another
abbrev pub other : End → End
other Return = Cut
other Assume = Return
other Cut = Return
other Objects = Return
other Steps = Return
other (Fault f l) = Return

other_differs : (e : End) → other e ≡ e → ⊥
other_differs Return i = cc i
other_differs Assume i = cc i
other_differs Cut i = cc i
other_differs Objects i = cc i
other_differs Steps i = cc i
other_differs (Fault f l) i = cc i

module _ (d : Domain) where
  abbrev pub St : Type 0
  St = State d.V d.D

  abbrev pub Out : Type 0
  Out = Ran d.E St (Unit {0})

  abbrev pub Lost : Type 0
  Lost = Config d → Done d

  -- whatever is said of too few instructions: it is r, or something and then that
  abbrev pub Told : (Lost → Out) → Type 0
  Told f = ((r : Out) × ((lost : Lost) → f lost ≡ r)) ⊎ ((l : List (Entry d.E)) × (c : Config d) × (s : St) × ((lost : Lost) → f lost ≡ prepend d l (lost c s)))

  told_log : (l : List (Entry d.E)) (f : Lost → Out) → Told f → Told (λ lost. prepend d l (f lost))
  unfolding prepend
  told_log l f (inl r) = inl (prepend d l r.0, λ lost. ap (prepend d l) (r.1 lost))
  told_log l f (inr r) = inr (l ++ r.0, r.1, r.2, λ lost. ap (prepend d l) (r.3 lost) ∙ ap (λ z. record { log = z; result = (lost r.1 r.2).result }) (sym (append_assoc l r.0 (lost r.1 r.2).log)))

  told_on : {A : Type 0} → (l : List (Entry d.E)) (r : Result St A) (g : Lost → A → Done d) → ((a : A) (s : St) → Told (λ lost. g lost a s)) → Told (λ lost. go_on d l r (g lost))
  unfolding go_on
  told_on l (ok a s) g h = told_log l (λ lost. g lost a s) (h a s)
  told_on l (over e s) g h = inl (record { log = l; result = over e s }, λ lost. refl)

  told_bind : {A : Type 0} → (m : M d A) (g : Lost → A → Done d) (s : St) → ((a : A) (s1 : St) → Told (λ lost. g lost a s1)) → Told (λ lost. ◌>>=◌ d m (g lost) s)
  unfolding ◌>>=◌
  told_bind m g s h = told_on (m s).log (m s).result g h

  told_then : (m : Done d) (g : Lost → Done d) (s : St) → ((s1 : St) → Told (λ lost. g lost s1)) → Told (λ lost. ◌>>◌ d m (g lost) s)
  unfolding ◌>>◌
  told_then m g s h = told_bind m (λ lost u. g lost) s (λ u s1. h s1)

  told_same : (r : Out) → Told (λ lost. r)
  told_same r = inl (r, λ lost. refl)

  told_if : (b : Bool) (f g : Lost → Done d) (s : St) → Told (λ lost. f lost s) → Told (λ lost. g lost s) → Told (λ lost. (if b then f lost else g lost) s)
  told_if true f g s h i = h
  told_if false f g s h i = i

  stopped : (l : List (Entry d.E)) (e : End) (s : St) → end_of {S = St} {A = Unit {0}} (prepend d l (stop d e s)).result ≡ e
  unfolding prepend stop
  stopped l e s = refl

  clash : (l : List (Entry d.E)) (s : St) (r : Out) → prepend d l (stop d (other (end_of r.result)) s) ≡ r → ⊥
  clash l s r e = other_differs (end_of r.result) (sym (stopped l (other (end_of r.result)) s) ∙ ap (λ z. end_of z.result) e)

  -- where it is r for something that ends otherwise, it is r for all
  pub for_all : (f : Lost → Out) (r : Out) → Told f → f (λ c. stop d (other (end_of r.result))) ≡ r → (lost : Lost) → f lost ≡ r
  for_all f r (inl t) e lost = t.1 lost ∙ sym (t.1 (λ c. stop d (other (end_of r.result)))) ∙ e
  for_all f r (inr t) e lost = absurd (clash t.0 t.2 r (sym (t.3 (λ c. stop d (other (end_of r.result)))) ∙ e))

  module _ (x : Fixed) (is_zero : d.V → Bool) (first_of : ℕ → ℕ) where
    told_leave : (k : Lost → Config d → Done d) → ((c : Config d) (s : St) → Told (λ lost. k lost c s)) → (v : d.V) (st : List (Frame d)) (s : St) → Told (λ lost. leave d (k lost) v st s)
    unfolding leave
    told_leave k h v [] s = told_same _
    told_leave k h v (r ∷ rest) s = told_then _ _ s (λ s1. h _ s1)

    told_enter : (k : Lost → Config d → Done d) → ((c : Config d) (s : St) → Told (λ lost. k lost c s)) → (c : Config d) (n : ℕ) (vs : List d.V) (f : ℕ) (g : Option Func) (s : St) → Told (λ lost. enter d x is_zero first_of (k lost) c n vs f g s)
    unfolding enter
    told_enter k h c n vs f None s = told_same _
    told_enter k h c n vs f (Some g) s = told_bind _ _ s (λ saved s1. told_then _ _ s1 (λ s2. h _ s2))

    told_act : (k : Lost → Config d → Done d) → ((c : Config d) (s : St) → Told (λ lost. k lost c s)) → (i : Instruction) (c : Config d) (s : St) → Told (λ lost. act d x is_zero first_of i (k lost) c s)
    unfolding act
    told_act k h i_step c s = told_then _ _ s (λ s1. h _ s1)
    told_act k h (i_number n z) c s = h _ s
    told_act k h (i_nil n) c s = h _ s
    told_act k h (i_copy n a) c s = h _ s
    told_act k h (i_arith t o n a b) c s = told_bind _ _ s (λ v s1. h _ s1)
    told_act k h (i_divisor t a b) c s = told_bind _ _ s (λ v s1. h _ s1)
    told_act k h (i_negate t n a) c s = told_bind _ _ s (λ v s1. h _ s1)
    told_act k h (i_compare t o n a b) c s = told_bind _ _ s (λ v s1. h _ s1)
    told_act k h (i_truth t n a) c s = told_bind _ _ s (λ v s1. h _ s1)
    told_act k h (i_slot n a) c s = told_bind _ _ s (λ v s1. h _ s1)
    told_act k h (i_global n g) c s = h _ s
    told_act k h (i_access t n a) c s = told_bind _ _ s (λ v s1. h _ s1)
    told_act k h (i_offset n a m) c s = h _ s
    told_act k h (i_index t n a i m w) c s = told_bind _ _ s (λ v s1. h _ s1)
    told_act k h (i_load n a) c s = told_bind _ _ s (λ v s1. h _ s1)
    told_act k h (i_store a b) c s = told_then _ _ s (λ s1. h _ s1)
    told_act k h (i_local a t) c s = told_then _ _ s (λ s1. told_bind _ _ s1 (λ v s2. told_then _ _ s2 (λ s3. h _ s3)))
    told_act k h (i_malloc n t) c s = told_then _ _ s (λ s1. told_bind _ _ s1 (λ v s2. h _ s2))
    told_act k h (i_take a) c s = told_then _ _ s (λ s1. h _ s1)
    told_act k h (i_jump to) c s = h _ s
    told_act k h (i_jump_zero a to) c s = h _ s
    told_act k h (i_call n f first m) c s = told_enter k h c n _ f _ s
    told_act k h (i_return a) c s = told_leave k h _ c.stack s
    told_act k h (i_stop f l) c s = told_same _
    told_act k h (i_unless a) c s = told_if (is_zero (c.temps a)) _ _ s (told_same _) (h _ s)

    told_act_if : (k : Lost → Config d → Done d) → ((c : Config d) (s : St) → Told (λ lost. k lost c s)) → (o : Option Instruction) (c : Config d) (s : St) → Told (λ lost. act_if d x is_zero first_of o (k lost) c s)
    unfolding act_if
    told_act_if k h None c s = told_same _
    told_act_if k h (Some i) c s = told_act k h i c s

    module _ (code : List Instruction) where
      told : (n : ℕ) (c : Config d) (s : St) → Told (λ lost. machine d x is_zero first_of code lost n c s)
      unfolding machine prepend
      told zero c s = inr ([], c, s, λ lost. refl)
      told (suc n) c s = told_act_if (λ lost. machine d x is_zero first_of code lost n) (told n) (slice_get code c.pc) c s

      pub entry_told : (n : ℕ) (o : Option Func) (s : St) → Told (λ lost. from_entry d x is_zero first_of code lost n o s)
      unfolding from_entry
      entry_told n None s = told_same _
      entry_told n (Some f) s = told n _ s
