-- What each instruction without events comes to.
use Rattle.std.proofs.Common.{◌≡◌, refl, sym, ap, subst, ◌∙◌, arith, ℕ, suc, ℤ, Bool, true, false, Some, None, if◌then◌else◌}
use Rattle.std.specs.List.{slice_get, slice_set}
use Rattle.cc_base.specs.declared.ends.End.TheVariants as end
use Rattle.cc_base.specs.declared.ends.FaultKind.{FaultKind}
use Rattle.checked_memory.specs.declared.values.Cell.{Cell as Held}
use Rattle.checked_memory.specs.declared.values.Value.TheVariants.{Int, Null, Made}
use Rattle.cc_model.specs.Compiles.{is_zero, is_traced_zero}
use Rattle.cc_model.specs.Instructions as instr
use Rattle.cc_model.specs.Instructions.{Instruction, i_step, i_number, i_nil, i_copy, i_jump, i_jump_zero, i_unless, i_stop, i_slot, i_global, act}
use Rattle.cc_model.specs.Meaning as of
use Rattle.cc_model.specs.Traced as traced
use Rattle.cc_model.specs.Traced.{Traced}
use Rattle.cc_laws.specs.LinearForms.{linear}
use Rattle.sym_run.specs.declared.machine.Machine.{Machine}
use Rattle.sym_run.specs.Beside.{value_of}
use Rattle.sym_run.specs.Numbers.{IsWord}
use Rattle.sym_run.specs.Remembers.{names_in}
use Rattle.sym_run.specs.Stands.{Setting, Holds, domain, Conf, St, Log, Done, acts, Stands, Did}
use Rattle.sym_run.proofs.MonadLaws.{step_goes, step_ends}
use Rattle.sym_run.proofs.StandsLaws.{number_holds, nil_holds, stands_given, stands_at, goes_on, ends_there}

module _ (w : Setting) (m new : Machine) where
  pub step_done : (n : ℕ) → m.steps ≡ suc n → new ≡ record m { pc = suc m.pc; steps = n } → Did w m new i_step None
  unfolding act
  step_done n e f c s log st = goes_on w new s (record s { steps = n }) log (λ k. acts w i_step k c) (instr.next (domain w) c)
      (subst (λ (x : Machine). Stands w x (instr.next (domain w) c) (record s { steps = n }) log) (sym f) (stands_at w m c s log (suc c.pc) (suc m.pc) n n st (ap (λ (p : ℕ). suc p) st.pc) refl))
      (λ k. step_goes (domain w) (k (instr.next (domain w) c)) s n (st.steps ∙ e))

  pub step_over : m.steps ≡ 0 → Did w m m i_step (Some end.Steps)
  unfolding act
  step_over e c s log st = ends_there w m m c s s log (λ k. acts w i_step k c) end.Steps st refl refl (λ k. step_ends (domain w) (k (instr.next (domain w) c)) s (st.steps ∙ e))

  -- a value into a temporary
  pub value_done : (i : Instruction) (dst : ℕ) (cell : Held) (v : Conf w → St w → Traced) → new ≡ record m { pc = suc m.pc; temps = slice_set m.temps dst cell }
      → ((c : Conf w) (s : St w) (k : Conf w → Done w) → acts w i k c s ≡ k (instr.gives (domain w) c dst (v c s)) s)
      → ((c : Conf w) (s : St w) (log : Log w) → (st : Stands w m c s log) → Holds st.named (names_in m.objects) m.symbols (v c s) cell)
      → Did w m new i None
  value_done i dst cell v f a h c s log st =
      goes_on w new s s log (λ k. acts w i k c) (instr.gives (domain w) c dst (v c s)) (stands_given w m new c s log dst (v c s) cell st (h c s log st) f) (λ k. a c s k)

  pub number_done : (dst : ℕ) (z : ℤ) → IsWord z → new ≡ record m { pc = suc m.pc; temps = slice_set m.temps dst (record { value = Int z; shadow = 0 }) } → Did w m new (i_number dst z) None
  unfolding act
  number_done dst z h f = value_done (i_number dst z) dst (record { value = Int z; shadow = 0 }) (λ c s. traced.number linear z) f (λ c s k. refl) (λ c s log st. number_holds st.named (names_in m.objects) m.symbols z h)

  pub nil_done : (dst : ℕ) → new ≡ record m { pc = suc m.pc; temps = slice_set m.temps dst (record { value = Null; shadow = 0 }) } → Did w m new (i_nil dst) None
  unfolding act
  nil_done dst f = value_done (i_nil dst) dst (record { value = Null; shadow = 0 }) (λ c s. traced.nil) f (λ c s k. refl) (λ c s log st. nil_holds st.named (names_in m.objects) m.symbols)

  pub copy_done : (dst a : ℕ) (cell : Held) → slice_get m.temps a ≡ Some cell → new ≡ record m { pc = suc m.pc; temps = slice_set m.temps dst cell } → Did w m new (i_copy dst a) None
  unfolding act
  copy_done dst a cell e f = value_done (i_copy dst a) dst cell (λ c s. c.temps a) f (λ c s k. refl) (λ c s log st. st.temps a cell e)

  pub slot_done : (dst a : ℕ) (cell : Held) → slice_get m.slots a ≡ Some (Some cell) → new ≡ record m { pc = suc m.pc; temps = slice_set m.temps dst cell } → Did w m new (i_slot dst a) None
  unfolding act of.local of.◌>>=◌ of.go_on of.prepend
  slot_done dst a cell e f = value_done (i_slot dst a) dst cell (λ c s. s.locals a) f (λ c s k. refl) (λ c s log st. st.slots a cell e)

  pub global_done : (dst g : ℕ) → new ≡ record m { pc = suc m.pc; temps = slice_set m.temps dst (record { value = Made 0 g; shadow = 0 }) } → Did w m new (i_global dst g) None
  unfolding act
  global_done dst g f = value_done (i_global dst g) dst (record { value = Made 0 g; shadow = 0 }) (λ c s. (domain w).global g) f (λ c s k. refl)
      (λ c s log st. record { value = refl; known = record { cell = record { known = omega arith; value = tt }; kind = λ h. h; pointer = tt } })

  -- another place
  place_done : (i : Instruction) (p : Conf w → ℕ) (q : ℕ) → new ≡ record m { pc = q }
      → ((c : Conf w) (s : St w) (log : Log w) → Stands w m c s log → (p c ≡ q) × ((k : Conf w → Done w) → acts w i k c s ≡ k (instr.goes (domain w) c (p c)) s)) → Did w m new i None
  place_done i p q f h c s log st =
      let g = h c s log st in
      goes_on w new s s log (λ k. acts w i k c) (instr.goes (domain w) c (p c))
      (subst (λ (x : Machine). Stands w x (instr.goes (domain w) c (p c)) s log) (sym f) (stands_at w m c s log (p c) q s.steps m.steps st g.0 st.steps)) g.1

  pub jump_done : (to : ℕ) → new ≡ record m { pc = to } → Did w m new (i_jump to) None
  unfolding act
  jump_done to f = place_done (i_jump to) (λ c. to) to f (λ c s log st. (refl, λ k. refl))

  zero_tested : (c : Conf w) (s : St w) (log : Log w) → Stands w m c s log → (a : ℕ) (cell : Held) (b : Bool) → slice_get m.temps a ≡ Some cell → is_zero (value_of cell.value) ≡ b → is_traced_zero (c.temps a) ≡ b
  unfolding is_traced_zero
  zero_tested c s log st a cell b e f = ap (λ (v : Traced). is_traced_zero v) (st.temps a cell e).value ∙ f

  pub jump_zero_done : (a to : ℕ) (cell : Held) → slice_get m.temps a ≡ Some cell → is_zero (value_of cell.value) ≡ true → new ≡ record m { pc = to } → Did w m new (i_jump_zero a to) None
  unfolding act
  jump_zero_done a to cell e b f = place_done (i_jump_zero a to) (λ c. to) to f (λ c s log st. (refl, λ k. ap (λ (t : Bool). k (if t then instr.goes (domain w) c to else instr.next (domain w) c) s) (zero_tested c s log st a cell true e b)))

  pub jump_zero_past : (a to : ℕ) (cell : Held) → slice_get m.temps a ≡ Some cell → is_zero (value_of cell.value) ≡ false → new ≡ record m { pc = suc m.pc } → Did w m new (i_jump_zero a to) None
  unfolding act
  jump_zero_past a to cell e b f = place_done (i_jump_zero a to) (λ c. suc c.pc) (suc m.pc) f (λ c s log st. (ap (λ (p : ℕ). suc p) st.pc, λ k. ap (λ (t : Bool). k (if t then instr.goes (domain w) c to else instr.next (domain w) c) s) (zero_tested c s log st a cell false e b)))

  pub unless_past : (a : ℕ) (cell : Held) → slice_get m.temps a ≡ Some cell → is_zero (value_of cell.value) ≡ false → new ≡ record m { pc = suc m.pc } → Did w m new (i_unless a) None
  unfolding act
  unless_past a cell e b f = place_done (i_unless a) (λ c. suc c.pc) (suc m.pc) f (λ c s log st. (ap (λ (p : ℕ). suc p) st.pc, λ k. ap (λ (t : Bool). (if t then of.stop (domain w) end.Assume else k (instr.next (domain w) c)) s) (zero_tested c s log st a cell false e b)))

  pub unless_over : (a : ℕ) (cell : Held) → slice_get m.temps a ≡ Some cell → is_zero (value_of cell.value) ≡ true → Did w m m (i_unless a) (Some end.Assume)
  unfolding act of.stop
  unless_over a cell e b c s log st = ends_there w m m c s s log (λ k. acts w (i_unless a) k c) end.Assume st refl refl
      (λ k. ap (λ (t : Bool). (if t then of.stop (domain w) end.Assume else k (instr.next (domain w) c)) s) (zero_tested c s log st a cell true e b))

  pub stop_over : (f : FaultKind) (l : ℕ) → Did w m m (i_stop f l) (Some (end.Fault f l))
  unfolding act of.stop
  stop_over f l c s log st = ends_there w m m c s s log (λ k. acts w (i_stop f l) k c) (end.Fault f l) st refl refl (λ k. refl)
