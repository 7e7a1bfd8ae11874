-- What calls and returns come to, and the step of a machine.
use Rattle.std.proofs.Common.{◌≡◌, refl, sym, ap, subst, ◌∙◌, ℕ, List, [], ◌∷◌, ◌++◌, reverse, Option, Some, None, nat_eq, if◌then◌else◌}
use Rattle.std.specs.List.{slice_get, slice_set}
use Rattle.std.specs.Option.{option_map}
use Rattle.std.proofs.lemmas.List.{reverse-append}
use Rattle.std.proofs.lemmas.Option.{slice_get-map}
use Rattle.cc_base.specs.declared.ends.End.{End}
use Rattle.cc_base.specs.declared.ends.End.TheVariants as end
use Rattle.checked_memory.specs.declared.values.Cell.{Cell as Held}
use Rattle.cc_model.specs.Canonical.{Named}
use Rattle.cc_model.specs.CheckedProgram.{core_of}
use Rattle.cc_model.specs.Compiles.{is_traced_zero}
use Rattle.cc_model.specs.Instructions as instr
use Rattle.cc_model.specs.Instructions.{Instruction, i_return, act, act_if, leave}
use Rattle.cc_model.specs.Meaning as of
use Rattle.cc_model.specs.Runs.{fixed_of}
use Rattle.tac_lower.specs.declared.instr.Instr.{Instr}
use Rattle.tac_lower.specs.Finished.{first_in}
use Rattle.tac_lower.specs.Seen.{seen}
use Rattle.sym_run.specs.declared.machine.Frame.{Frame}
use Rattle.sym_run.specs.declared.machine.Machine.{Machine}
use Rattle.sym_run.specs.declared.symbols.Symbol.{Symbol}
use Rattle.sym_run.specs.Remembers.{names_in}
use Rattle.sym_run.specs.Stands.{Setting, Holds, domain, Conf, Caller, acts, instruction_at, Waits, AllWait, Stands, After, Did, Stepped}
use Rattle.sym_run.proofs.StandsLaws.{facts_put, goes_on, ends_there}

module _ (w : Setting) (m new : Machine) where
  -- ---- the step of a machine, by its instruction

  pub stepped_by : (i : Instr) (e : Option End) → Some i ≡ slice_get (w.code).code m.pc → Did w m new (seen w.checked i) e → Stepped w m new e
  unfolding act_if
  stepped_by i e there did c s log st =
      let found : instruction_at w c.pc ≡ Some (seen w.checked i) =
      ap (λ (n : ℕ). instruction_at w n) st.pc ∙ slice_get-map (seen w.checked) (w.code).code m.pc ∙ ap (option_map (seen w.checked)) (sym there) in
      subst (λ (o : Option Instruction). After w new s log (λ k. instr.act_if (domain w) (fixed_of (core_of w.checked) w.limits) is_traced_zero (first_in w.code) o k c) e) (sym found) (did c s log st)

  -- ---- returns

  module _ (named : List Named) (touched : List ℕ) (symbols : List Symbol) where
    none_wait : (gs : List (Caller w)) → AllWait w named touched symbols [] gs → gs ≡ []
    none_wait [] h = refl
    none_wait (g ∷ gs) h = absurd h

    -- the caller that waits last
    record Last (f : Frame) (fs : List Frame) (gs : List (Caller w)) : Type 0 where
      pub caller : Caller w
      pub rest : List (Caller w)
      pub is : gs ≡ caller ∷ rest
      pub waits : Waits w named touched symbols f caller
      pub others : AllWait w named touched symbols fs rest

    last_waits : (f : Frame) (fs : List Frame) (gs : List (Caller w)) → AllWait w named touched symbols (f ∷ fs) gs → Last f fs gs
    last_waits f fs [] h = absurd h
    last_waits f fs (g ∷ gs) h = record { caller = g; rest = gs; is = refl; waits = h.0; others = h.1 }

  pub leave_over : (a : ℕ) → m.stack ≡ [] → new.journal ≡ m.journal → (new.objects).places ≡ (m.objects).places → Did w m new (i_return a) (Some end.Return)
  unfolding act leave of.stop
  leave_over a e j p c s log st =
      let none : c.stack ≡ [] = none_wait st.named (names_in m.objects) m.symbols c.stack (subst (λ (l : List Frame). AllWait w st.named (names_in m.objects) m.symbols (reverse l) c.stack) e st.stack) in
      ends_there w m new c s s log (λ k. acts w (i_return a) k c) end.Return st j p (λ k. ap (λ (l : List (Caller w)). leave (domain w) k (c.temps a) l s) none)

  pub leave_did : (a : ℕ) (cell : Held) (f : Frame) (stack : List Frame) → slice_get m.temps a ≡ Some cell → m.stack ≡ stack ++ f ∷ []
      → new ≡ record m { pc = f.back; temps = slice_set f.temps f.dst cell; slots = f.slots; stack = stack } → Did w m new (i_return a) None
  unfolding act leave of.set_locals of.◌>>◌ of.◌>>=◌ of.go_on of.prepend
  leave_did a cell f stack e q n c s log st =
      let l = last_waits st.named (names_in m.objects) m.symbols f (reverse stack) c.stack (subst (λ (l : List Frame). AllWait w st.named (names_in m.objects) m.symbols l c.stack) (ap (λ (l : List Frame). reverse l) q ∙ reverse-append stack (f ∷ [])) st.stack) in
      let g = l.caller in
      let v = c.temps a in
      let c' : Conf w = record { pc = g.back; temps = instr.put (domain w) g.temps g.dst v; stack = l.rest } in
      goes_on w new s (record s { locals = g.slots }) log (λ k. acts w (i_return a) k c) c'
      (subst (λ (x : Machine). Stands w x c' (record s { locals = g.slots }) log) (sym n) (record {
        start = st.start;
        named = st.named;
        begun = st.begun;
        pc = (l.waits).back;
        temps = subst (λ (d : ℕ). (i : ℕ) (b : Held) → slice_get (slice_set f.temps f.dst cell) i ≡ Some b → Holds st.named (names_in m.objects) m.symbols (if nat_eq i d then v else g.temps i) b) (sym (l.waits).dst)
            (facts_put (Holds st.named (names_in m.objects) m.symbols) (λ b. b) g.temps f.temps f.dst v cell (λ b h. subst (λ (y : Held). Holds st.named (names_in m.objects) m.symbols v y) h (st.temps a cell e)) (l.waits).temps);
        slots = (l.waits).slots;
        stack = l.others;
        steps = st.steps;
        events = st.events;
        data_now = st.data_now;
        journal = st.journal;
      }))
      (λ k. ap (λ (x : List (Caller w)). leave (domain w) k v x s) l.is)
