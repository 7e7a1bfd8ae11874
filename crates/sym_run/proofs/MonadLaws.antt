-- What the pieces of an instruction do at a state, over any domain.
use Rattle.std.proofs.Common.{◌≡◌, refl, sym, ap, subst, ◌∙◌, ℕ, zero, suc, Bool, true, false, [], ◌∷◌, nat_lt, nat_eq, length, Option, Some, None, arith, ◌+◌, ◌<◌, if◌then◌else◌}
use Rattle.cc_base.specs.declared.outcomes.Outcome.{Outcome}
use Rattle.cc_base.specs.declared.outcomes.Outcome.TheVariants.{Zero, High, Low, Plain, False, True, Object}
use Rattle.cc_base.specs.declared.ends.FaultKind.{FaultKind}
use Rattle.cc_base.specs.declared.ends.FaultKind.TheVariants.{Null}
use Rattle.cc_base.specs.declared.ends.End.{End}
use Rattle.cc_base.specs.declared.ends.End.TheVariants as end
use Rattle.cc_model.specs.declared.checked.SiteKind.{SiteKind}
use Rattle.cc_model.specs.declared.checked.SiteKind.TheVariants as site
use Rattle.cc_model.specs.Core.{Layout}
use Rattle.cc_model.specs.Domain.{Act, act_access, Domain}
use Rattle.cc_model.specs.Meaning.{Fixed, Entry, State, Ran, over, M, Done, ◌>>=◌, ◌>>◌, go_on, prepend, pure, stop, choose, step_at, step, steps, event_at, event, if_plain, if_made, checked, decided, accessed, is_true, make, bind}
use Rattle.sym_run.specs.Acting.{access_end}

module _ (d : Domain) where
  abbrev pub St : Type 0
  St = State d.V d.D

  -- ---- steps

  step_on : (k : Done d) (s : St) (m n : ℕ) → m ≡ suc n → go_on d (step_at d m s).log (step_at d m s).result (λ _. k) ≡ k (record s { steps = n })
  unfolding step_at go_on prepend
  step_on k s m n e = subst (λ (x : ℕ). go_on d (step_at d x s).log (step_at d x s).result (λ _. k) ≡ k (record s { steps = n })) (sym e) refl

  pub step_goes : (k : Done d) (s : St) (n : ℕ) → s.steps ≡ suc n → ◌>>◌ d (step d) k s ≡ k (record s { steps = n })
  unfolding ◌>>◌ ◌>>=◌ step
  step_goes k s n e = step_on k s s.steps n e

  step_off : (k : Done d) (s : St) (m : ℕ) → m ≡ 0 → go_on d (step_at d m s).log (step_at d m s).result (λ _. k) ≡ record { log = []; result = over end.Steps s }
  unfolding step_at go_on stop
  step_off k s m e = subst (λ (x : ℕ). go_on d (step_at d x s).log (step_at d x s).result (λ _. k) ≡ record { log = []; result = over end.Steps s }) (sym e) refl

  pub step_ends : (k : Done d) (s : St) → s.steps ≡ 0 → ◌>>◌ d (step d) k s ≡ record { log = []; result = over end.Steps s }
  unfolding ◌>>◌ ◌>>=◌ step
  step_ends k s e = step_off k s s.steps e

  -- ---- events

  abbrev pub entry : SiteKind → ℕ → Act d.V → St → Entry d.E
  entry k t a s = record { kind = k; token = t; event = (d.act a s.data_now).event }

  abbrev pub met : Act d.V → St → ℕ → St
  met a s n = record s { events = n; data_now = (d.act a s.data_now).after }

  abbrev pub ended : End → St → Ran d.E St (Unit {0})
  ended e s = record { log = []; result = over e s }

  abbrev pub ended_at : SiteKind → ℕ → Act d.V → End → St → ℕ → Ran d.E St (Unit {0})
  ended_at k t a e s n = record { log = entry k t a s ∷ []; result = over e (met a s n) }

  module _ (x : Fixed) (t : ℕ) (s : St) where
    module _ (k : SiteKind) (f : FaultKind) (a : Act d.V) (g : d.V → Done d) where
      abbrev fault : End
      fault = end.Fault f (x.program.line t)

      abbrev rest : Outcome → M d d.V
      rest o = if_plain d o fault (pure d (d.act a s.data_now).value)

      -- checked, at m events that are left
      abbrev checked_with : ℕ → Ran d.E St (Unit {0})
      checked_with m = (let e = event_at d m k t a s in (let r = go_on d e.log e.result (λ v. if_plain d v.outcome fault (pure d v.value)) in go_on d r.log r.result g))

      checked_cut : (m : ℕ) → m ≡ 0 → checked_with m ≡ ended end.Cut s
      unfolding event_at go_on stop
      checked_cut m e = subst (λ (y : ℕ). checked_with y ≡ ended end.Cut s) (sym e) refl

      pub checked_ends : s.events ≡ 0 → ◌>>=◌ d (checked d x k f t a) g s ≡ ended end.Cut s
      unfolding checked ◌>>=◌ event
      checked_ends e = checked_cut s.events e

      abbrev settled : ℕ → Outcome → Ran d.E St (Unit {0})
      settled n o = (let r = prepend d (entry k t a s ∷ []) (rest o (met a s n)) in go_on d r.log r.result g)

      checked_met : (m n : ℕ) → m ≡ suc n → checked_with m ≡ settled n (d.outcome (d.act a s.data_now).event)
      unfolding event_at go_on
      checked_met m n e = subst (λ (y : ℕ). checked_with y ≡ settled n (d.outcome (d.act a s.data_now).event)) (sym e) refl

      settled_plain : (n : ℕ) (o : Outcome) → o ≡ Plain → settled n o ≡ prepend d (entry k t a s ∷ []) (g (d.act a s.data_now).value (met a s n))
      unfolding if_plain go_on prepend pure
      settled_plain n o e = subst (λ (y : Outcome). settled n y ≡ prepend d (entry k t a s ∷ []) (g (d.act a s.data_now).value (met a s n))) (sym e) refl

      pub checked_goes : (n : ℕ) → s.events ≡ suc n → d.outcome (d.act a s.data_now).event ≡ Plain → ◌>>=◌ d (checked d x k f t a) g s ≡ prepend d (entry k t a s ∷ []) (g (d.act a s.data_now).value (met a s n))
      unfolding checked ◌>>=◌ event
      checked_goes n e o = checked_met s.events n e ∙ settled_plain n (d.outcome (d.act a s.data_now).event) o

      settled_fault : (n : ℕ) (o : Outcome) → (o ≡ Plain → ⊥) → settled n o ≡ ended_at k t a fault s n
      unfolding if_plain go_on prepend stop
      settled_fault n Zero h = refl
      settled_fault n High h = refl
      settled_fault n Low h = refl
      settled_fault n Plain h = absurd (h refl)
      settled_fault n False h = refl
      settled_fault n True h = refl
      settled_fault n (Object r) h = refl

      pub checked_faults : (n : ℕ) → s.events ≡ suc n → (d.outcome (d.act a s.data_now).event ≡ Plain → ⊥) → ◌>>=◌ d (checked d x k f t a) g s ≡ ended_at k t a fault s n
      unfolding checked ◌>>=◌ event
      checked_faults n e o = checked_met s.events n e ∙ settled_fault n (d.outcome (d.act a s.data_now).event) o

    module _ (a : Act d.V) (g : Bool → Done d) where
      abbrev decided_with : ℕ → Ran d.E St (Unit {0})
      decided_with m = (let e = event_at d m site.Decision t a s in (let r = go_on d e.log e.result (λ v. pure d (is_true v.outcome)) in go_on d r.log r.result g))

      decided_cut : (m : ℕ) → m ≡ 0 → decided_with m ≡ ended end.Cut s
      unfolding event_at go_on stop
      decided_cut m e = subst (λ (y : ℕ). decided_with y ≡ ended end.Cut s) (sym e) refl

      pub decided_ends : s.events ≡ 0 → ◌>>=◌ d (decided d x t a) g s ≡ ended end.Cut s
      unfolding decided ◌>>=◌ event
      decided_ends e = decided_cut s.events e

      decided_met : (m n : ℕ) → m ≡ suc n → decided_with m ≡ prepend d (entry site.Decision t a s ∷ []) (g (is_true (d.outcome (d.act a s.data_now).event)) (met a s n))
      unfolding event_at go_on prepend pure
      decided_met m n e = subst (λ (y : ℕ). decided_with y ≡ prepend d (entry site.Decision t a s ∷ []) (g (is_true (d.outcome (d.act a s.data_now).event)) (met a s n))) (sym e) refl

      pub decided_goes : (n : ℕ) → s.events ≡ suc n → ◌>>=◌ d (decided d x t a) g s ≡ prepend d (entry site.Decision t a s ∷ []) (g (is_true (d.outcome (d.act a s.data_now).event)) (met a s n))
      unfolding decided ◌>>=◌ event
      decided_goes n e = decided_met s.events n e

    module _ (v : d.V) (g : d.V → Done d) where
      abbrev reached : Act d.V
      reached = act_access v

      abbrev null_fault : End
      null_fault = end.Fault Null (x.program.line t)

      abbrev accessed_with : ℕ → Ran d.E St (Unit {0})
      accessed_with m = (let e = event_at d m site.Access t reached s in (let r = go_on d e.log e.result (λ v. if_made d x.objects v.outcome null_fault (pure d v.value)) in go_on d r.log r.result g))

      accessed_cut : (m : ℕ) → m ≡ 0 → accessed_with m ≡ ended end.Cut s
      unfolding event_at go_on stop
      accessed_cut m e = subst (λ (y : ℕ). accessed_with y ≡ ended end.Cut s) (sym e) refl

      pub accessed_ends : s.events ≡ 0 → ◌>>=◌ d (accessed d x t v) g s ≡ ended end.Cut s
      unfolding accessed ◌>>=◌ event
      accessed_ends e = accessed_cut s.events e

      abbrev arrived : ℕ → Outcome → Ran d.E St (Unit {0})
      arrived n o = (let r = prepend d (entry site.Access t reached s ∷ []) (if_made d x.objects o null_fault (pure d (d.act reached s.data_now).value) (met reached s n)) in go_on d r.log r.result g)

      accessed_met : (m n : ℕ) → m ≡ suc n → accessed_with m ≡ arrived n (d.outcome (d.act reached s.data_now).event)
      unfolding event_at go_on
      accessed_met m n e = subst (λ (y : ℕ). accessed_with y ≡ arrived n (d.outcome (d.act reached s.data_now).event)) (sym e) refl

      abbrev chosen : ℕ → Bool → Ran d.E St (Unit {0})
      chosen n b = (let r = prepend d (entry site.Access t reached s ∷ []) (choose d b (pure d (d.act reached s.data_now).value) (stop d end.Objects) (met reached s n)) in go_on d r.log r.result g)

      abbrev onward : ℕ → Ran d.E St (Unit {0})
      onward n = prepend d (entry site.Access t reached s ∷ []) (g (d.act reached s.data_now).value (met reached s n))

      chosen_on : (n : ℕ) (b : Bool) → (if b then None else Some end.Objects) ≡ None → chosen n b ≡ onward n
      unfolding choose go_on prepend pure
      chosen_on n true e = refl
      chosen_on n false e = absurd (cc e)

      same_end : (a b : End) → (let o : Option End = Some a in o) ≡ Some b → a ≡ b
      same_end a b e = cc

      chosen_over : (n : ℕ) (b : Bool) (z : End) → (if b then None else Some end.Objects) ≡ Some z → chosen n b ≡ ended_at site.Access t reached z s n
      unfolding choose go_on prepend stop
      chosen_over n true z e = absurd (cc e)
      chosen_over n false z e = ap (λ (y : End). ended_at site.Access t reached y s n) (same_end end.Objects z e)

      arrived_on : (n : ℕ) (o : Outcome) → access_end o x.objects null_fault ≡ None → arrived n o ≡ onward n
      unfolding if_made go_on prepend pure
      arrived_on n Zero e = absurd (cc e)
      arrived_on n High e = refl
      arrived_on n Low e = refl
      arrived_on n Plain e = refl
      arrived_on n False e = refl
      arrived_on n True e = refl
      arrived_on n (Object r) e = chosen_on n (nat_lt r x.objects) e

      arrived_over : (n : ℕ) (o : Outcome) (z : End) → access_end o x.objects null_fault ≡ Some z → arrived n o ≡ ended_at site.Access t reached z s n
      unfolding if_made go_on prepend stop
      arrived_over n Zero z e = ap (λ (y : End). ended_at site.Access t reached y s n) (same_end null_fault z e)
      arrived_over n High z e = absurd (cc e)
      arrived_over n Low z e = absurd (cc e)
      arrived_over n Plain z e = absurd (cc e)
      arrived_over n False z e = absurd (cc e)
      arrived_over n True z e = absurd (cc e)
      arrived_over n (Object r) z e = chosen_over n (nat_lt r x.objects) z e

      pub accessed_goes : (n : ℕ) → s.events ≡ suc n → access_end (d.outcome (d.act reached s.data_now).event) x.objects null_fault ≡ None → ◌>>=◌ d (accessed d x t v) g s ≡ onward n
      unfolding accessed ◌>>=◌ event
      accessed_goes n e h = accessed_met s.events n e ∙ arrived_on n (d.outcome (d.act reached s.data_now).event) h

      pub accessed_over : (n : ℕ) (z : End) → s.events ≡ suc n → access_end (d.outcome (d.act reached s.data_now).event) x.objects null_fault ≡ Some z → ◌>>=◌ d (accessed d x t v) g s ≡ ended_at site.Access t reached z s n
      unfolding accessed ◌>>=◌ event
      accessed_over n z e h = accessed_met s.events n e ∙ arrived_over n (d.outcome (d.act reached s.data_now).event) z h

  -- ---- many steps

  abbrev after_steps : Ran d.E St (Unit {0}) → Done d → Ran d.E St (Unit {0})
  after_steps r k = go_on d r.log r.result (λ _. k)

  pub steps_go : (n j : ℕ) (k : Done d) (s : St) → s.steps ≡ n + j → ◌>>◌ d (steps d n) k s ≡ k (record s { steps = j })
  unfolding ◌>>◌ ◌>>=◌ steps pure go_on prepend
  steps_go zero j k s e = let f : s.steps ≡ j = omega (arith, e) in ap (λ (i : ℕ). k (record s { steps = i })) f
  steps_go (suc n) j k s e =
      let f : s.steps ≡ suc (n + j) = omega (arith, e) in
      ap (λ (r : Ran d.E St (Unit {0})). after_steps r k) (step_goes (steps d n) s (n + j) f) ∙ steps_go n j k (record s { steps = n + j }) refl

  none_left : (n : ℕ) (k : Done d) (s : St) → s.steps ≡ 0 → ◌>>◌ d (steps d (suc n)) k s ≡ ended end.Steps (record s { steps = 0 })
  unfolding ◌>>◌ ◌>>=◌ steps go_on
  none_left n k s e = ap (λ (r : Ran d.E St (Unit {0})). after_steps r k) (step_ends (steps d n) s e) ∙ ap (λ (i : ℕ). ended end.Steps (record s { steps = i })) e

  some_left : (n m : ℕ) (k : Done d) (s : St) → s.steps ≡ suc m → ◌>>◌ d (steps d n) k (record s { steps = m }) ≡ ended end.Steps (record s { steps = 0 }) → ◌>>◌ d (steps d (suc n)) k s ≡ ended end.Steps (record s { steps = 0 })
  unfolding ◌>>◌ ◌>>=◌ steps
  some_left n m k s e h = ap (λ (r : Ran d.E St (Unit {0})). after_steps r k) (step_goes (steps d n) s m e) ∙ h

  pub steps_end : (n m : ℕ) (k : Done d) (s : St) → s.steps ≡ m → m < n → ◌>>◌ d (steps d n) k s ≡ ended end.Steps (record s { steps = 0 })
  steps_end zero m k s e h = absurd (omega (arith, h))
  steps_end (suc n) zero k s e h = none_left n k s e
  steps_end (suc n) (suc m) k s e h = some_left n m k s e (steps_end n m k (record s { steps = m }) refl (omega (arith, h)))

  -- ---- new objects

  pub make_goes : (t : Layout) (g : d.V → Done d) (s : St) (j : ℕ) → s.steps ≡ length t.cells + j
      → ◌>>◌ d (steps d (length t.cells)) (◌>>=◌ d (make d t) g) s ≡ g (d.make t s.data_now).value (record s { steps = j; data_now = (d.make t s.data_now).after })
  unfolding ◌>>=◌ make go_on prepend
  make_goes t g s j e = steps_go (length t.cells) j (◌>>=◌ d (make d t) g) s e

  pub bind_goes : (n : ℕ) (v : d.V) (k : Done d) (s : St) → ◌>>◌ d (bind d n v) k s ≡ k (record s { locals = λ m. if nat_eq m n then v else s.locals m })
  unfolding ◌>>◌ ◌>>=◌ bind go_on prepend
  bind_goes n v k s = refl
