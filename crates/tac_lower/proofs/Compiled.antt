-- The code of a function and of the whole run does what they do, over every domain.
use Rattle.std.proofs.Common.{◌≡◌, ℕ, zero, suc, ◌+◌, ◌<◌, ◌≤◌, pos, Bool, true, false, List, [], ◌∷◌, ◌++◌, length, Option, Some, None, refl, sym, ap, ◌∙◌, subst, arith, slice_get, le_refl}
use Rattle.cc_base.specs.declared.ends.End.TheVariants.{Return, Steps}
use Rattle.cc_model.specs.Core.{Cell, int_cell, ptr_cell, Func}
use Rattle.cc_model.specs.Domain.{Domain}
use Rattle.cc_model.specs.Meaning as of
use Rattle.cc_model.specs.Meaning.{Fixed, State, Result, ok, over, Ran, Flow, on, broken, continued, returned, M, Done, ◌>>=◌, ◌>>◌, go_on, prepend, pure, stop, step}
use Rattle.cc_model.specs.Instructions.{Instruction, i_step, i_call, i_return, Config, Frame, Temporaries, put, arguments, act, leave, enter, machine, from_entry}
use Rattle.tac_lower.specs.Lowering.{zero_code, parts_code, func_code}
use Rattle.tac_lower.proofs.Falls.{falls_get_locals, falls_set_locals, falls_take_args}
use Rattle.tac_lower.proofs.Lowered as low
use Rattle.tac_lower.proofs.Lowered.{HasAt, has_front, has_back, Does, FlowTo, exec_does, parts_does}

module _ (d : Domain) (x : Fixed) (is_zero : d.V → Bool) (first_of : ℕ → ℕ) (code : List Instruction) (lost : Config d → Done d) (zero_false : is_zero (d.number (pos 0)) ≡ true) (zero_true : is_zero (d.number (pos 1)) ≡ false)
    (funcs_ok : (f : ℕ) (g : Func) → slice_get (x.program).funcs f ≡ Some g → HasAt code (first_of f) (func_code (x.program).line g (first_of f))) where
  abbrev pub St : Type 0
  St = State d.V d.D

  abbrev pub Temp : Type 0
  Temp = Temporaries d

  abbrev pub Stack : Type 0
  Stack = List (Frame d)

  abbrev pub Conf : Type 0
  Conf = Config d

  abbrev pub stands : ℕ → Temp → Stack → Conf
  stands pc t st = record { pc = pc; temps = t; stack = st }

  abbrev pub run : ℕ → Conf → Done d
  run = machine d x is_zero first_of code lost

  module _ (B : ℕ) where
    -- back to the caller, whatever is to be done there
    ret_at : (pc : ℕ) (t : Temp) (st : Stack) (v : d.V) (s : St) (goal : Ran d.E St (Unit {0})) → t 0 ≡ v → slice_get code pc ≡ Some (i_return 0) → (j : ℕ) × (leave d (run j) v st s ≡ goal) → (j : ℕ) × (run j (stands pc t st) s ≡ goal)
    unfolding act
    ret_at pc t st v s goal i e r = (suc r.0, low.step_run d x is_zero first_of code lost zero_false zero_true B pc t st (i_return 0) e r.0 s ∙ ap (λ z. leave d (run r.0) z st s) i ∙ r.1)

    zero_at : (c : Cell) (pc : ℕ) (t : Temp) (st : Stack) (s : St) (goal : Ran d.E St (Unit {0})) → HasAt code pc (zero_code c 0 ++ i_return 0 ∷ []) → (j : ℕ) × (leave d (run j) (of.zero_of d x c) st s ≡ goal) → (j : ℕ) × (run j (stands pc t st) s ≡ goal)
    unfolding act of.zero_of
    zero_at int_cell pc t st s goal e r =
        let q = ret_at (suc pc) (put d t 0 (d.number (pos 0))) st _ s goal (low.put_in d x is_zero first_of code lost zero_false zero_true B t 0 (d.number (pos 0))).0 (e.1).0 r in
        (suc q.0, low.step_run d x is_zero first_of code lost zero_false zero_true B pc t st _ e.0 q.0 s ∙ q.1)
    zero_at (ptr_cell c) pc t st s goal e r =
        let q = ret_at (suc pc) (put d t 0 d.nil) st _ s goal (low.put_in d x is_zero first_of code lost zero_false zero_true B t 0 d.nil).0 (e.1).0 r in
        (suc q.0, low.step_run d x is_zero first_of code lost zero_false zero_true B pc t st _ e.0 q.0 s ∙ q.1)

    -- a frame's slots come back, and then the caller goes on
    leave_to : (n pc : ℕ) (t : Temp) (saved : ℕ → d.V) (st : Stack) (v : d.V) (k : d.V → Done d) (s : St) → ((t' : Temp) → low.In d x is_zero first_of code lost zero_false zero_true B n t v t' → (s' : St) → s'.steps ≤ s.steps → (j : ℕ) × (run j (stands pc t' st) s' ≡ k v s'))
        → (j : ℕ) × (leave d (run j) v (record { dst = n; back = pc; temps = t; slots = saved } ∷ st) s ≡ ◌>>=◌ d (◌>>◌ d (of.set_locals d saved) (pure d v)) k s)
    unfolding leave ◌>>◌
    leave_to n pc t saved st v k s g =
        let r = low.bind_at d x is_zero first_of code lost zero_false zero_true B (of.set_locals d saved) (λ j u. run j (stands pc (put d t n v) st)) (λ u. ◌>>=◌ d (pure d v) k) s (falls_set_locals d saved)
        (λ u s' le. let q = g (put d t n v) (low.put_in d x is_zero first_of code lost zero_false zero_true B t n v) s' le in (q.0, q.1 ∙ sym (low.pure_bind d x is_zero first_of code lost zero_false zero_true B v k s'))) in
        (r.0, r.1 ∙ sym (low.bind_assoc d x is_zero first_of code lost zero_false zero_true B (of.set_locals d saved) (λ u. pure d v) k s))

  abbrev pub CallOk : ℕ → (ℕ → List d.V → M d d.V) → Type 0
  CallOk B h = (pc n f m : ℕ) (t : Temp) → slice_get code pc ≡ Some (i_call n f n m) → Does d x is_zero first_of code lost zero_false zero_true B (low.In d x is_zero first_of code lost zero_false zero_true B n) pc t (h f (arguments d t n m)) (suc pc)

  -- a function's code, from its first instruction: its body, and what is done with how that is left
  body_does : (B : ℕ) (h : ℕ → List d.V → M d d.V) → CallOk B h → B ≤ x.fuel → (pc : ℕ) (f : Func) (t : Temp) → HasAt code pc (func_code (x.program).line f pc) → (st : Stack) (k : Flow d.V → Done d) (s : St) → s.steps ≤ B
      → ((r : Option d.V) (s' : St) → s'.steps < s.steps → (j : ℕ) × (leave d (run j) (of.answer d x f.result (returned r)) st s' ≡ k (returned r) s'))
      → ((s' : St) → s'.steps < s.steps → (j : ℕ) × (leave d (run j) (of.zero_of d x f.result) st s' ≡ k on s'))
      → ((s' : St) → s'.steps < s.steps → (j : ℕ) × (leave d (run j) (of.zero_of d x f.result) st s' ≡ k broken s'))
      → ((s' : St) → s'.steps < s.steps → (j : ℕ) × (leave d (run j) (of.zero_of d x f.result) st s' ≡ k continued s'))
      → (j : ℕ) × (run j (stands pc t st) s ≡ ◌>>=◌ d (◌>>◌ d (step d) (of.exec_parts d x h f.body)) k s)
  unfolding ◌>>◌ act
  body_does B h call_ok fuel_ok pc f t e st k s lt ret falls brk cont =
      let line = (x.program).line in
      let e0 = suc pc + length (parts_code line f.result f.body (suc pc) 0 0) in
      let cp = parts_code line f.result f.body (suc pc) e0 e0 in let tail = zero_code f.result 0 ++ i_return 0 ∷ [] in
      let lc = low.parts_length d x is_zero first_of code lost zero_false zero_true B h call_ok f.result fuel_ok f.body (suc pc) e0 e0 0 0 in
      let at_end = subst (λ z. HasAt code z tail) (let q : suc pc + length cp ≡ e0 = omega (arith, lc) in q) (has_back code (suc pc) cp tail e.1) in
      let pd = parts_does d x is_zero first_of code lost zero_false zero_true B h call_ok f.result fuel_ok f.body (suc pc) e0 e0 t (has_front code (suc pc) cp tail e.1) in
      let r = low.step_then d x is_zero first_of code lost zero_false zero_true B (λ j u. run j (stands (suc pc) t st)) (λ u. ◌>>=◌ d (of.exec_parts d x h f.body) k) s
      (λ s1 le. pd st k s1 (omega (arith, le, lt)) (record {
        to_on = λ t' s' i. zero_at B f.result (suc pc + length cp) t' st s' _ (has_back code (suc pc) cp tail e.1) (falls s' (omega (arith, i, le)));
        to_brk = λ t' s' i. zero_at B f.result e0 t' st s' _ at_end (brk s' (omega (arith, i, le)));
        to_cont = λ t' s' i. zero_at B f.result e0 t' st s' _ at_end (cont s' (omega (arith, i, le)));
        to_ret = λ v s' i. ret v s' (omega (arith, i, le));
      })) in
      (suc r.0, low.step_run d x is_zero first_of code lost zero_false zero_true B pc t st i_step e.0 r.0 s ∙ r.1 ∙ sym (low.bind_assoc d x is_zero first_of code lost zero_false zero_true B (step d) (λ u. of.exec_parts d x h f.body) k s))

  answer_on : (c : Cell) → of.answer d x c on ≡ of.zero_of d x c
  unfolding of.answer
  answer_on c = refl

  answer_broken : (c : Cell) → of.answer d x c broken ≡ of.zero_of d x c
  unfolding of.answer
  answer_broken c = refl

  answer_continued : (c : Cell) → of.answer d x c continued ≡ of.zero_of d x c
  unfolding of.answer
  answer_continued c = refl

  stop_bind : {A : Type 0} → (k : A → Done d) (s : St) → stop d Steps s ≡ ◌>>=◌ d (stop d {A = A} Steps) k s
  unfolding ◌>>=◌ stop go_on
  stop_bind k s = refl

  leave_nothing : (j : ℕ) (v : d.V) (s : St) → leave d (run j) v [] s ≡ stop d Return s
  unfolding leave
  leave_nothing j v s = refl

  -- a function's body, and the way back
  body_in : (B : ℕ) (h : ℕ → List d.V → M d d.V) → CallOk B h → B ≤ x.fuel → (n pc f : ℕ) (t : Temp) (fn : Func) → slice_get (x.program).funcs f ≡ Some fn → (st : Stack) (k : d.V → Done d) (saved : ℕ → d.V) (s : St) → s.steps ≤ B
      → ((t' : Temp) (v : d.V) → low.In d x is_zero first_of code lost zero_false zero_true B n t v t' → (s' : St) → s'.steps ≤ s.steps → (j : ℕ) × (run j (stands (suc pc) t' st) s' ≡ k v s'))
      → (j : ℕ) × (run j (stands (first_of f) (λ m. d.nil) (record { dst = n; back = suc pc; temps = t; slots = saved } ∷ st)) s
      ≡ ◌>>=◌ d (◌>>=◌ d (step d) (λ u. ◌>>=◌ d (of.exec_parts d x h fn.body) (λ flow. ◌>>=◌ d (of.set_locals d saved) (λ u. pure d (of.answer d x fn.result flow))))) k s)
  unfolding ◌>>◌
  body_in B h call_ok fuel_ok n pc f t fn e st k saved s lt g =
      let after : Flow d.V → M d d.V = λ flow. ◌>>=◌ d (of.set_locals d saved) (λ u. pure d (of.answer d x fn.result flow)) in
      let back : (v : d.V) (s' : St) → s'.steps < s.steps → (j : ℕ) × (leave d (run j) v (record { dst = n; back = suc pc; temps = t; slots = saved } ∷ st) s' ≡ ◌>>=◌ d (◌>>=◌ d (of.set_locals d saved) (λ u. pure d v)) k s') = λ v s' le.
      leave_to B n (suc pc) t saved st v k s' (λ t' z s'' le'. g t' v z s'' (omega (arith, le, le'))) in
      let r = body_does B h call_ok fuel_ok (first_of f) fn (λ m. d.nil) (funcs_ok f fn e) (record { dst = n; back = suc pc; temps = t; slots = saved } ∷ st) (λ flow. ◌>>=◌ d (after flow) k) s lt
      (λ v s' le. back _ s' le)
      (λ s' le. subst (λ z. (j : ℕ) × (leave d (run j) (of.zero_of d x fn.result) (record { dst = n; back = suc pc; temps = t; slots = saved } ∷ st) s' ≡ ◌>>=◌ d (◌>>=◌ d (of.set_locals d saved) (λ u. pure d z)) k s')) (sym (answer_on fn.result)) (back _ s' le))
      (λ s' le. subst (λ z. (j : ℕ) × (leave d (run j) (of.zero_of d x fn.result) (record { dst = n; back = suc pc; temps = t; slots = saved } ∷ st) s' ≡ ◌>>=◌ d (◌>>=◌ d (of.set_locals d saved) (λ u. pure d z)) k s')) (sym (answer_broken fn.result)) (back _ s' le))
      (λ s' le. subst (λ z. (j : ℕ) × (leave d (run j) (of.zero_of d x fn.result) (record { dst = n; back = suc pc; temps = t; slots = saved } ∷ st) s' ≡ ◌>>=◌ d (◌>>=◌ d (of.set_locals d saved) (λ u. pure d z)) k s')) (sym (answer_continued fn.result)) (back _ s' le)) in (
        r.0,
        r.1 ∙ low.bind_assoc d x is_zero first_of code lost zero_false zero_true B (step d) (λ u. of.exec_parts d x h fn.body) (λ flow. ◌>>=◌ d (after flow) k) s
            ∙ low.bind_ext d x is_zero first_of code lost zero_false zero_true B (step d) _ _ s (λ u s1. sym (low.bind_assoc d x is_zero first_of code lost zero_false zero_true B (of.exec_parts d x h fn.body) after k s1))
            ∙ sym (low.bind_assoc d x is_zero first_of code lost zero_false zero_true B (step d) (λ u. ◌>>=◌ d (of.exec_parts d x h fn.body) after) k s),
      )

  -- the call of a function, where calls inside it are right
  enter_does : (B : ℕ) (h : ℕ → List d.V → M d d.V) → CallOk B h → B ≤ x.fuel → (n pc f : ℕ) (vs : List d.V) (t : Temp) (o : Option Func) → slice_get (x.program).funcs f ≡ o → (st : Stack) (k : d.V → Done d) (s : St) → s.steps ≤ B
      → ((t' : Temp) (v : d.V) → low.In d x is_zero first_of code lost zero_false zero_true B n t v t' → (s' : St) → s'.steps ≤ s.steps → (j : ℕ) × (run j (stands (suc pc) t' st) s' ≡ k v s'))
      → (j : ℕ) × (enter d x is_zero first_of (run j) (stands pc t st) n vs f o s ≡ ◌>>=◌ d (of.call_in d x h vs o) k s)
  unfolding enter of.call_in ◌>>◌
  enter_does B h call_ok fuel_ok n pc f vs t None e st k s lt g = (0, stop_bind k s)
  enter_does B h call_ok fuel_ok n pc f vs t (Some fn) e st k s lt g =
      let after : (ℕ → d.V) → Flow d.V → M d d.V = λ saved flow. ◌>>=◌ d (of.set_locals d saved) (λ u. pure d (of.answer d x fn.result flow)) in
      let inner : (ℕ → d.V) → M d d.V = λ saved. ◌>>=◌ d (step d) (λ u. ◌>>=◌ d (of.exec_parts d x h fn.body) (after saved)) in
      let frame : (ℕ → d.V) → Stack = λ saved. record { dst = n; back = suc pc; temps = t; slots = saved } ∷ st in
      let start : ℕ → (ℕ → d.V) → Done d = λ j saved. run j (stands (first_of f) (λ m. d.nil) (frame saved)) in
      let r = low.bind_at d x is_zero first_of code lost zero_false zero_true B (of.get_locals d) (λ j saved. ◌>>=◌ d (of.take_args d x 0 vs fn.params) (λ u. start j saved)) (λ saved. ◌>>=◌ d (◌>>=◌ d (of.take_args d x 0 vs fn.params) (λ u. inner saved)) k) s (falls_get_locals d)
      (λ saved s1 le1. let q = low.bind_at d x is_zero first_of code lost zero_false zero_true B (of.take_args d x 0 vs fn.params) (λ j u. start j saved) (λ u. ◌>>=◌ d (inner saved) k) s1 (falls_take_args d x 0 vs fn.params)
      (λ u s2 le2. body_in B h call_ok fuel_ok n pc f t fn e st k saved s2 (omega (arith, le1, le2, lt)) (λ t' v z s' le. g t' v z s' (omega (arith, le, le1, le2)))) in
      (q.0, q.1 ∙ sym (low.bind_assoc d x is_zero first_of code lost zero_false zero_true B (of.take_args d x 0 vs fn.params) (λ u. inner saved) k s1))) in
      (r.0, r.1 ∙ sym (low.bind_assoc d x is_zero first_of code lost zero_false zero_true B (of.get_locals d) (λ saved. ◌>>=◌ d (of.take_args d x 0 vs fn.params) (λ u. inner saved)) k s))

  -- calls with fuel n are right from fewer steps than n
  pub calls_ok : (n : ℕ) → n ≤ x.fuel → CallOk n (of.calls d x n)
  unfolding of.calls act
  calls_ok zero le pc n f m t e st k s lt g = absurd (omega (arith, lt))
  calls_ok (suc b) le pc n f m t e st k s lt g =
      let r = enter_does b (of.calls d x b) (calls_ok b (omega (arith, le))) (omega (arith, le)) n pc f (arguments d t n m) t (slice_get (x.program).funcs f) refl st k s (omega (arith, lt)) (λ t' v z s' le'. g v t' z s' le') in
      (suc r.0, low.step_run d x is_zero first_of code lost zero_false zero_true b pc t st (i_call n f n m) e r.0 s ∙ r.1)

  -- the entry's code, from its first instruction and with no caller, does what the program does
  pub main_does : (o : Option Func) → slice_get (x.program).funcs (x.program).entry ≡ o → (s : St) → s.steps < x.fuel → (j : ℕ) × (from_entry d x is_zero first_of code lost j o s ≡ of.main_in d x (of.calls d x x.fuel) o s)
  unfolding of.main_in ◌>>◌ from_entry
  main_does None e s lt = (0, refl)
  main_does (Some fn) e s lt =
      let end : Flow d.V → Done d = λ flow. stop d Return in
      let leaves : (v : d.V) (s' : St) → (j : ℕ) × (leave d (run j) v [] s' ≡ stop d Return s') = λ v s'. (0, leave_nothing 0 v s') in
      let r = body_does x.fuel (of.calls d x x.fuel) (calls_ok x.fuel (le_refl _)) (le_refl _) (first_of (x.program).entry) fn (λ m. d.nil) (funcs_ok (x.program).entry fn e) [] end s (omega (arith, lt))
      (λ v s' le. leaves _ s') (λ s' le. leaves _ s') (λ s' le. leaves _ s') (λ s' le. leaves _ s') in
      (r.0, r.1 ∙ low.bind_assoc d x is_zero first_of code lost zero_false zero_true x.fuel (step d) (λ u. of.exec_parts d x (of.calls d x x.fuel) fn.body) end s)
