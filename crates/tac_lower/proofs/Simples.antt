-- What the emitters of simple statements and declarations add, by what their parts add.
use Rattle.std.proofs.Common.{◌≡◌, ℕ, suc, ◌+◌, ◌-◌, ◌<◌, ◌≤◌, pos, List, [], ◌∷◌, ◌++◌, length, map, drop, get_or, Some, None, refl, sym, ap, ◌∙◌, arith, subst}
use Rattle.std.proofs.Math.Seq.{drop-cons, drop-length}
use Rattle.std.proofs.lemmas.List.{append-nil}
use Rattle.cc_base.specs.declared.ends.FaultKind.TheVariants.{Assert, Abort}
use Rattle.cc_model.specs.declared.checked.Checked.{Checked}
use Rattle.cc_model.specs.declared.trees.Declared.{Declared}
use Rattle.cc_model.specs.Core as tree
use Rattle.cc_model.specs.Core.{Op, Val, Cond, Loc, Vals, Layout, Simple, Declarator}
use Rattle.cc_model.specs.Resolve.{Facts, declarator_of}
use Rattle.cc_model.specs.CheckedProgram.{layout_at}
use Rattle.cc_model.specs.Instructions.{Instruction, i_step, i_number, i_copy, i_slot, i_load, i_store, i_local, i_take, i_call, i_stop, i_unless}
use Rattle.tac_lower.specs.declared.instr.Instr.{Instr}
use Rattle.tac_lower.specs.declared.instr.Instr.TheVariants as instr
use Rattle.tac_lower.specs.Lowering.{arith_code, value_code, cond_code, locate_code, values_code, update_code, bump_code, simply_code, start_code, declare_code, declare_all_code, count}
use Rattle.tac_lower.specs.Sizes.{op_size, value_size, cond_size, locate_size, values_size, declare_size}
use Rattle.tac_lower.specs.Adding.{Adds}
use Rattle.tac_lower.specs.Emitted.{Room, AddsOperation, AddsValue, AddsCond, AddsPlace, AddsValues, AddsSimple, AddsSimpleIf, AddsDeclarator, AddsDeclarators, AddsCondIf, AddsLocal, line_in}
use Rattle.tac_lower.proofs.Adding.{one, two, turned, longer}
use Rattle.tac_lower.proofs.Emitting.{stepped, IsHere}
use Rattle.tac_lower.proofs.Lengths.{value_length, cond_length_is, declare_length}

module _ (c : Checked) where
  pub assign_done : (l : Loc) (a : Val) (old m1 m2 new : List Instr) → m1 ≡ old ++ instr.Store 1 0 ∷ [] → AddsPlace c l 1 m1 m2 → AddsValue c a 0 m2 new → AddsSimple c (tree.assign l a) old new
  unfolding AddsPlace AddsValue AddsSimple
  assign_done l a old m1 m2 new e p q =
      let o = one c old m1 (instr.Store 1 0) (Unit {0}) e in let l1 = longer c old m1 _ _ _ o in let l2 = longer c m1 m2 _ _ _ p in
      turned c old new _ _ _ _ _ _ (two c old m2 new _ _ _ _ _ _ (two c old m1 m2 _ _ _ _ _ _ o p) q) (omega arith)
      (λ g. ((tt, (g.0.0, omega (arith, g.1, l1))), (g.0.1, omega (arith, g.1, l1, l2))))
      (λ g total pc h. ap (λ z. value_code a pc 0 ++ (locate_code l (pc + z) 1 ++ i_store 1 0 ∷ [])) (sym (value_length a pc 0)))

  pub update_done : (t : ℕ) (o : Op) (l : Loc) (a : Val) (old m1 m2 m3 m4 m5 m6 new : List Instr) → m1 ≡ old ++ instr.Store 1 2 ∷ [] → AddsOperation c t o 2 m1 m2
      → m3 ≡ m2 ++ instr.Copy 3 0 ∷ [] → m4 ≡ m3 ++ instr.Load 2 1 ∷ [] → m5 ≡ m4 ++ instr.Step ∷ [] → AddsPlace c l 1 m5 m6 → AddsValue c a 0 m6 new → AddsSimple c (tree.update t o l a) old new
  unfolding AddsOperation AddsPlace AddsValue AddsSimple
  update_done t o l a old m1 m2 m3 m4 m5 m6 new e1 p e3 e4 e5 q r =
      let o1 = one c old m1 (instr.Store 1 2) (Unit {0}) e1 in let o3 = one c m2 m3 (instr.Copy 3 0) (Unit {0}) e3 in let o4 = one c m3 m4 (instr.Load 2 1) (Unit {0}) e4 in let o5 = one c m4 m5 instr.Step (Unit {0}) e5 in
      let w5 = two c old m4 m5 _ _ _ _ _ _ (two c old m3 m4 _ _ _ _ _ _ (two c old m2 m3 _ _ _ _ _ _ (two c old m1 m2 _ _ _ _ _ _ o1 p) o3) o4) o5 in
      let l5 = longer c old m5 _ _ _ w5 in let l6 = longer c m5 m6 _ _ _ q in
      turned c old new _ _ _ _ _ _ (two c old m6 new _ _ _ _ _ _ (two c old m5 m6 _ _ _ _ _ _ w5 q) r) (omega arith)
      (λ g. (((((((tt, (g.0.0, omega arith)), tt), tt), tt)), (g.0.1, omega (arith, g.1, l5))), (g.0.2, omega (arith, g.1, l5, l6))))
      (λ g total pc h. ap (λ z. value_code a pc 0 ++ (locate_code l (pc + z) 1 ++ update_code t o)) (sym (value_length a pc 0)))

  pub bump_done : (t : ℕ) (o : Op) (l : Loc) (old m1 m2 m3 m4 m5 new : List Instr) → m1 ≡ old ++ instr.Store 0 1 ∷ [] → AddsOperation c t o 1 m1 m2
      → m3 ≡ m2 ++ instr.Number 2 (pos 1) ∷ [] → m4 ≡ m3 ++ instr.Load 1 0 ∷ [] → m5 ≡ m4 ++ instr.Step ∷ [] → AddsPlace c l 0 m5 new → AddsSimple c (tree.bump t o l) old new
  unfolding AddsOperation AddsPlace AddsSimple
  bump_done t o l old m1 m2 m3 m4 m5 new e1 p e3 e4 e5 q =
      let o1 = one c old m1 (instr.Store 0 1) (Unit {0}) e1 in let o3 = one c m2 m3 (instr.Number 2 (pos 1)) (Unit {0}) e3 in let o4 = one c m3 m4 (instr.Load 1 0) (Unit {0}) e4 in let o5 = one c m4 m5 instr.Step (Unit {0}) e5 in
      let w5 = two c old m4 m5 _ _ _ _ _ _ (two c old m3 m4 _ _ _ _ _ _ (two c old m2 m3 _ _ _ _ _ _ (two c old m1 m2 _ _ _ _ _ _ o1 p) o3) o4) o5 in
      let l5 = longer c old m5 _ _ _ w5 in
      turned c old new _ _ _ _ _ _ (two c old m5 new _ _ _ _ _ _ w5 q) (omega arith)
      (λ g. ((((((tt, (g.0.0, omega arith)), tt), tt), tt)), (g.0.1, omega (arith, g.1, l5)))) (λ g total pc h. refl)

  pub perform_done : (f : ℕ) (xs : Vals) (old new : List Instr) → AddsValue c (tree.call f xs) 0 old new → AddsSimple c (tree.perform f xs) old new
  unfolding AddsValue AddsSimple
  perform_done f xs old new p = turned c old new _ _ _ _ _ _ p refl (λ g. (g.0, omega (arith, g.1))) (λ g total pc h. refl)

  pub assert_done : (t : ℕ) (k : Cond) (line end fault : ℕ) (old m1 m2 new : List Instr) → IsHere c old end → line ≡ line_in c t → m1 ≡ old ++ instr.Stop Assert line ∷ [] → IsHere c m1 fault
      → AddsCond c k 0 end fault m1 m2 → new ≡ m2 ++ instr.Step ∷ [] → AddsSimple c (tree.assert t k) old new
  unfolding AddsCond AddsSimple
  assert_done t k line end fault old m1 m2 new x i e y p f =
      let o = one c old m1 (instr.Stop Assert line) (Unit {0}) e in let l1 = longer c old m1 _ _ _ o in
      let w = stepped c old m2 new _ _ _ (two c old m1 m2 _ _ _ _ _ _ o p) f in let l3 = longer c old new _ _ _ w in
      turned c old new _ _ _ _ _ _ w (omega arith) (λ g. (tt, (g.0, omega (arith, g.1, l1))))
      (λ g total pc h.
      let sx : end ≡ length old = x (omega (arith, g.1)) in let sy : fault ≡ length m1 = y (omega (arith, g.1, l1)) in
      let cl = cond_length_is k (suc pc) 0 0 0 in let at : ℕ = suc pc + length (cond_code k (suc pc) 0 0 0) in
      let e1 : total - end ≡ suc at = omega (arith, h, l3, sx, cl) in let e2 : total - fault ≡ at = omega (arith, h, l1, l3, sy, cl) in
      ap (λ u. i_step ∷ (cond_code k (suc pc) 0 u (total - fault) ++ i_stop Assert line ∷ [])) e1
      ∙ ap (λ u. i_step ∷ (cond_code k (suc pc) 0 (suc at) u ++ i_stop Assert line ∷ [])) e2
      ∙ ap (λ u. i_step ∷ (cond_code k (suc pc) 0 (suc at) at ++ i_stop Assert u ∷ [])) i)

  pub assume_done : (k : Cond) (end away : ℕ) (old m1 m2 m3 new : List Instr) → IsHere c old end → m1 ≡ old ++ instr.Unless 0 ∷ [] → m2 ≡ m1 ++ instr.Number 0 (pos 0) ∷ [] → IsHere c m2 away
      → AddsCond c k 0 end away m2 m3 → new ≡ m3 ++ instr.Step ∷ [] → AddsSimple c (tree.assume k) old new
  unfolding AddsCond AddsSimple
  assume_done k end away old m1 m2 m3 new x d e y p f =
      let o = one c old m1 (instr.Unless 0) (Unit {0}) d in let q = one c m1 m2 (instr.Number 0 (pos 0)) (Unit {0}) e in
      let u2 = two c old m1 m2 _ _ _ _ _ _ o q in let l2 = longer c old m2 _ _ _ u2 in
      let w = stepped c old m3 new _ _ _ (two c old m2 m3 _ _ _ _ _ _ u2 p) f in let l3 = longer c old new _ _ _ w in
      turned c old new _ _ _ _ _ _ w (omega arith) (λ g. ((tt, tt), (g.0, omega (arith, g.1, l2))))
      (λ g total pc h.
      let sx : end ≡ length old = x (omega (arith, g.1)) in let sy : away ≡ length m2 = y (omega (arith, g.1, l2)) in
      let cl = cond_length_is k (suc pc) 0 0 0 in let at : ℕ = suc pc + length (cond_code k (suc pc) 0 0 0) in
      let e1 : total - end ≡ suc (suc at) = omega (arith, h, l3, sx, cl) in let e2 : total - away ≡ at = omega (arith, h, l2, l3, sy, cl) in
      ap (λ u. i_step ∷ (cond_code k (suc pc) 0 u (total - away) ++ i_number 0 (pos 0) ∷ i_unless 0 ∷ [])) e1
      ∙ ap (λ u. i_step ∷ (cond_code k (suc pc) 0 (suc (suc at)) u ++ i_number 0 (pos 0) ∷ i_unless 0 ∷ [])) e2)

  pub abort_done : (t line : ℕ) (old m1 new : List Instr) → line ≡ line_in c t → m1 ≡ old ++ instr.Stop Abort line ∷ [] → new ≡ m1 ++ instr.Step ∷ [] → AddsSimple c (tree.abort t) old new
  unfolding AddsSimple
  abort_done t line old m1 new i e f =
      turned c old new _ _ _ _ _ _ (stepped c old m1 new _ _ _ (one c old m1 (instr.Stop Abort line) (Unit {0}) e) f) (omega arith) (λ g. tt) (λ g total pc h. ap (λ u. i_step ∷ i_stop Abort u ∷ []) i)

  pub take_done : (l : Loc) (old m1 m2 new : List Instr) → m1 ≡ old ++ instr.Take 0 ∷ [] → AddsPlace c l 0 m1 m2 → new ≡ m2 ++ instr.Step ∷ [] → AddsSimple c (tree.take l) old new
  unfolding AddsPlace AddsSimple
  take_done l old m1 m2 new e p f =
      let o = one c old m1 (instr.Take 0) (Unit {0}) e in let l1 = longer c old m1 _ _ _ o in
      turned c old new _ _ _ _ _ _ (stepped c old m2 new _ _ _ (two c old m1 m2 _ _ _ _ _ _ o p) f) (omega arith) (λ g. (tt, (g.0, omega (arith, g.1, l1)))) (λ g total pc h. refl)

  -- ---- what may be left out

  pub no_simple : (old : List Instr) → AddsSimpleIf c None old old
  unfolding AddsSimpleIf
  no_simple old = record { added = []; is = sym (append-nil old); many = refl; reads = λ g total pc h. refl }

  pub some_simple : (s : Simple) (old m1 new : List Instr) → AddsSimple c s old m1 → new ≡ m1 ++ instr.Step ∷ [] → AddsSimpleIf c (Some s) old new
  unfolding AddsSimple AddsSimpleIf
  some_simple s old m1 new p f = turned c old new _ _ _ _ _ _ (stepped c old m1 new _ _ _ p f) (omega arith) (λ g. (g.0, omega (arith, g.1))) (λ g total pc h. refl)

  pub no_cond : (y z : ℕ) (old new : List Instr) → new ≡ old ++ instr.Jump y ∷ [] → AddsCondIf c None y z old new
  unfolding AddsCondIf
  no_cond y z old new e = one c old new (instr.Jump y) _ e

  pub some_cond : (k : Cond) (y z : ℕ) (old new : List Instr) → AddsCond c k 0 y z old new → AddsCondIf c (Some k) y z old new
  unfolding AddsCond AddsCondIf
  some_cond k y z old new p = turned c old new _ _ _ _ _ _ p refl (λ g. (g.0, omega (arith, g.1))) (λ g total pc h. refl)

  -- ---- declarations

  pub local_done : (slot i : ℕ) (type : Layout) (old m1 new : List Instr) → layout_at c i ≡ type → m1 ≡ old ++ instr.Local slot (record { 0 = i }) ∷ [] → new ≡ m1 ++ instr.Step ∷ [] → AddsLocal c slot type old new
  unfolding AddsLocal
  local_done slot i type old m1 new y e f =
      turned c old new _ _ _ _ _ _ (stepped c old m1 new _ _ _ (one c old m1 (instr.Local slot (record { 0 = i })) (Unit {0}) e) f) (omega arith) (λ g. tt) (λ g total pc h. ap (λ z. i_step ∷ i_local slot z ∷ []) y)

  pub not_started : (slot : ℕ) (type : Layout) (old new : List Instr) → AddsLocal c slot type old new → AddsDeclarator c (record { slot = slot; type = type; start = None }) old new
  unfolding AddsLocal AddsDeclarator
  not_started slot type old new p = turned c old new _ _ _ _ _ _ p refl (λ g. tt) (λ g total pc h. refl)

  pub started : (slot : ℕ) (type : Layout) (a : Val) (old m1 m2 m3 new : List Instr) → m1 ≡ old ++ instr.Store 0 1 ∷ [] → AddsValue c a 1 m1 m2 → m3 ≡ m2 ++ instr.Slot 0 slot ∷ [] → AddsLocal c slot type m3 new
      → AddsDeclarator c (record { slot = slot; type = type; start = Some a }) old new
  unfolding AddsValue AddsLocal AddsDeclarator
  started slot type a old m1 m2 m3 new e p f q =
      let o = one c old m1 (instr.Store 0 1) (Unit {0}) e in let l1 = longer c old m1 _ _ _ o in let r = one c m2 m3 (instr.Slot 0 slot) (Unit {0}) f in
      turned c old new _ _ _ _ _ _ (two c old m3 new _ _ _ _ _ _ (two c old m2 m3 _ _ _ _ _ _ (two c old m1 m2 _ _ _ _ _ _ o p) r) q) (omega arith)
      (λ g. (((tt, (g.0, omega (arith, g.1, l1))), tt), tt))
      (λ g total pc h. let e1 : (pc + 2) + 1 ≡ suc (suc (suc pc)) = omega arith in ap (λ z. i_step ∷ i_local slot type ∷ i_slot 0 slot ∷ (value_code a z 1 ++ i_store 0 1 ∷ [])) e1)

  pub no_declarators : (old : List Instr) → AddsDeclarators c [] old old
  unfolding AddsDeclarators
  no_declarators old = record { added = []; is = sym (append-nil old); many = refl; reads = λ g total pc h. refl }

  pub more_declarators : (d : Declarator) (ds : List Declarator) (old m1 new : List Instr) → AddsDeclarators c ds old m1 → AddsDeclarator c d m1 new → AddsDeclarators c (d ∷ ds) old new
  unfolding AddsDeclarator AddsDeclarators
  more_declarators d ds old m1 new p q =
      let l1 = longer c old m1 _ _ _ p in
      turned c old new _ _ _ _ _ _ (two c old m1 new _ _ _ _ _ _ p q) refl (λ g. ((g.0.1, omega (arith, g.1)), (g.0.0, omega (arith, g.1, l1))))
      (λ g total pc h. ap (λ z. declare_code (line_in c) d pc ++ declare_all_code (line_in c) ds (pc + z)) (sym (declare_length (line_in c) d pc)))

  module _ (facts : Facts) where
    pub none_declared : (ds : List Declared) (old : List Instr) → AddsDeclarators c (map (declarator_of facts) (drop (length ds) ds)) old old
    none_declared ds old = subst (λ (l : List Declared). AddsDeclarators c (map (declarator_of facts) l) old old) (sym (drop-length ds)) (no_declarators old)

    pub one_declared : (ds : List Declared) (e : Declared) (left k : ℕ) (old m1 new : List Instr) → left ≡ suc k → left ≤ length ds → e ≡ get_or ds k e
        → AddsDeclarators c (map (declarator_of facts) (drop left ds)) old m1 → AddsDeclarator c (declarator_of facts e) m1 new → AddsDeclarators c (map (declarator_of facts) (drop k ds)) old new
    one_declared ds e left k old m1 new i h g p q =
        let within : k < length ds = omega (arith, i, h) in
        let d : e ∷ drop left ds ≡ drop k ds = ap (λ z. z ∷ drop left ds) g ∙ ap (λ z. get_or ds k e ∷ drop z ds) i ∙ sym (drop-cons ds k e within) in
        subst (λ (l : List Declared). AddsDeclarators c (map (declarator_of facts) l) old new) d (more_declarators (declarator_of facts e) (map (declarator_of facts) (drop left ds)) old m1 new p q)
