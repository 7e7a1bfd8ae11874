-- What the emitters of statements add, by what their parts add.
use Rattle.std.proofs.Common.{◌≡◌, ℕ, suc, pos, ◌+◌, ◌-◌, ◌<◌, ◌≤◌, List, [], ◌∷◌, ◌++◌, length, map, drop, get_or, slice_set, Option, Some, None, refl, sym, ap, ◌∙◌, arith, subst, append_assoc, length-append, add-zero}
use Rattle.std.proofs.Math.Seq.{drop-cons, drop-length}
use Rattle.std.proofs.lemmas.List.{append-nil}
use Rattle.cc_model.specs.declared.checked.Checked.{Checked}
use Rattle.cc_model.specs.Core as tree
use Rattle.cc_model.specs.Core.{Cell, int_cell, ptr_cell, Val, Cond, Simple, Declarator, Stmt, Parts, Func}
use Rattle.cc_model.specs.declared.trees.Part.{Part}
use Rattle.cc_model.specs.Resolve.{Facts, Piece, declares, does, declared_before, parts_of, piece_of}
use Rattle.cc_model.specs.Instructions.{Instruction, i_step, i_jump, i_return}
use Rattle.tac_lower.specs.declared.instr.Instr.{Instr}
use Rattle.tac_lower.specs.declared.instr.Instr.TheVariants as instr
use Rattle.tac_lower.specs.Lowering.{cond_code, simply_if_code, declare_code, declare_all_code, cond_if_code, exec_code, parts_code, zero_code}
use Rattle.tac_lower.specs.Sizes.{cond_size, simply_if_size, declare_size, declare_all_size, cond_if_size, exec_size, parts_size}
use Rattle.tac_lower.specs.Adding.{Adds, ordered, DeclaratorsSited, PartsSited}
use Rattle.tac_lower.specs.Emitted.{Room, AddsValue, AddsCond, AddsSimple, AddsSimpleIf, AddsDeclarators, AddsCondIf, AddsReturn, AddsStmt, AddsParts, AddsFunc, line_in}
use Rattle.tac_lower.proofs.Adding.{one, two, turned, longer}
use Rattle.tac_lower.proofs.Emitting.{stepped, IsHere}
use Rattle.tac_lower.proofs.Lengths.{cond_length_is, simply_if_length, declare_length, declare_all_length, cond_if_length_is, exec_length, parts_length_is}

-- an instruction behind a list is set
set_seam : (old added : List Instr) (i j : Instr) → slice_set ((old ++ i ∷ []) ++ added) (length old) j ≡ (old ++ j ∷ []) ++ added
set_seam [] added i j = refl
set_seam (x ∷ old) added i j = ap (λ l. x ∷ l) (set_seam old added i j)

-- an instruction is set at the length that was taken before
pub set_at : (code new old : List Instr) (at : ℕ) (j : Instr) → at ≡ length old → new ≡ slice_set code at j → new ≡ slice_set code (length old) j
set_at code new old at j e f = f ∙ ap (λ n. slice_set code n j) e

append_lift : (a b j : List Instruction) → i_step ∷ ((a ++ b) ++ j) ≡ i_step ∷ (a ++ (b ++ j))
append_lift a b j = ap (λ l. i_step ∷ l) (append_assoc a b j)

-- what was added behind an instruction stays when that instruction is set
pub patched : (c : Checked) (old m0 m1 new : List Instr) (i j : Instr) (s : ℕ) (G : Type 0) (k : ℕ → ℕ → List Instruction) → m0 ≡ old ++ i ∷ [] → Adds c m0 m1 s G k → new ≡ slice_set m1 (length old) j
    → Adds c (old ++ j ∷ []) new s G k
patched c old m0 m1 new i j s G k e a f =
    let n : new ≡ (old ++ j ∷ []) ++ a.added = f ∙ ap (λ l. slice_set l (length old) j) (a.is ∙ ap (λ l. l ++ a.added) e) ∙ set_seam old a.added i j in
    let l0 = length-append old (i ∷ []) in let l1 = length-append old (j ∷ []) in let l2 = ap length n ∙ length-append (old ++ j ∷ []) a.added in let l3 = ap length a.is ∙ length-append m0 a.added in let l4 = ap length e in
    record {
      added = a.added;
      is = n;
      many = a.many;
      reads = λ x total pc h. a.reads x total pc (omega (arith, h, l0, l1, l2, l3, l4));
    }

module _ (c : Checked) (res : Cell) where
  abbrev line : ℕ → ℕ
  line = line_in c

  pub empty_done : (brk cont : ℕ) (old new : List Instr) → new ≡ old ++ instr.Step ∷ [] → AddsStmt c res tree.empty brk cont old new
  unfolding AddsStmt
  empty_done brk cont old new e = one c old new instr.Step _ e

  pub block_done : (ps : Parts) (brk cont : ℕ) (old m1 new : List Instr) → AddsParts c res ps brk cont old m1 → new ≡ m1 ++ instr.Step ∷ [] → AddsStmt c res (tree.block ps) brk cont old new
  unfolding AddsParts AddsStmt
  block_done ps brk cont old m1 new p e = turned c old new _ _ _ _ _ _ (stepped c old m1 new _ _ _ p e) (omega arith) (λ g. (g.0, omega (arith, g.1))) (λ g total pc h. refl)

  pub simple_done : (s : Simple) (brk cont : ℕ) (old m1 new : List Instr) → AddsSimple c s old m1 → new ≡ m1 ++ instr.Step ∷ [] → AddsStmt c res (tree.simple s) brk cont old new
  unfolding AddsSimple AddsStmt
  simple_done s brk cont old m1 new p e = turned c old new _ _ _ _ _ _ (stepped c old m1 new _ _ _ p e) (omega arith) (λ g. (g.0, omega (arith, g.1))) (λ g total pc h. refl)

  pub return_done : (a : Option Val) (brk cont : ℕ) (old m1 new : List Instr) → AddsReturn c res a old m1 → new ≡ m1 ++ instr.Step ∷ [] → AddsStmt c res (tree.return a) brk cont old new
  unfolding AddsReturn AddsStmt
  return_done a brk cont old m1 new p e = turned c old new _ _ _ _ _ _ (stepped c old m1 new _ _ _ p e) (omega arith) (λ g. (g.0, omega (arith, g.1))) (λ g total pc h. refl)

  pub break_done : (brk cont : ℕ) (old m1 new : List Instr) → m1 ≡ old ++ instr.Jump brk ∷ [] → new ≡ m1 ++ instr.Step ∷ [] → AddsStmt c res tree.break brk cont old new
  unfolding AddsStmt
  break_done brk cont old m1 new e f = turned c old new _ _ _ _ _ _ (stepped c old m1 new _ _ _ (one c old m1 (instr.Jump brk) (Unit {0}) e) f) refl (λ g. tt) (λ g total pc h. refl)

  pub continue_done : (brk cont : ℕ) (old m1 new : List Instr) → m1 ≡ old ++ instr.Jump cont ∷ [] → new ≡ m1 ++ instr.Step ∷ [] → AddsStmt c res tree.continue brk cont old new
  unfolding AddsStmt
  continue_done brk cont old m1 new e f = turned c old new _ _ _ _ _ _ (stepped c old m1 new _ _ _ (one c old m1 (instr.Jump cont) (Unit {0}) e) f) refl (λ g. tt) (λ g total pc h. refl)

  pub choice_done : (k : Cond) (a : Stmt) (brk cont end then_at : ℕ) (old m1 m2 new : List Instr) → IsHere c old end → AddsStmt c res a brk cont old m1 → IsHere c m1 then_at → AddsCond c k 0 then_at end m1 m2 → new ≡ m2 ++ instr.Step ∷ []
      → AddsStmt c res (tree.choice k a) brk cont old new
  unfolding AddsCond AddsStmt
  choice_done k a brk cont end then_at old m1 m2 new x p y q e =
      let w = stepped c old m2 new _ _ _ (two c old m1 m2 _ _ _ _ _ _ p q) e in let l1 = longer c old m1 _ _ _ p in let l3 = longer c old new _ _ _ w in
      turned c old new _ _ _ _ _ _ w (omega arith) (λ g. ((g.0.1, omega (arith, g.1)), (g.0.0, omega (arith, g.1, l1))))
      (λ g total pc h.
      let sx : end ≡ length old = x (omega (arith, g.1)) in let sy : then_at ≡ length m1 = y (omega (arith, g.1, l1)) in
      let l : ℕ = suc pc + length (cond_code k (suc pc) 0 0 0) in
      let cl = cond_length_is k (suc pc) 0 0 0 in let ca = exec_length line res a l (total - brk) (total - cont) in
      let e1 : total - then_at ≡ l = omega (arith, h, l1, l3, sy, cl) in
      let e2 : total - end ≡ l + length (exec_code line res a l (total - brk) (total - cont)) = omega (arith, h, l3, sx, cl, ca) in
      let e3 : suc pc + cond_size k ≡ l = omega (arith, cl) in
      ap (λ u. i_step ∷ (cond_code k (suc pc) 0 u (total - end) ++ exec_code line res a (suc pc + cond_size k) (total - brk) (total - cont))) e1
      ∙ ap (λ u. i_step ∷ (cond_code k (suc pc) 0 l u ++ exec_code line res a (suc pc + cond_size k) (total - brk) (total - cont))) e2
      ∙ ap (λ u. i_step ∷ (cond_code k (suc pc) 0 l (l + length (exec_code line res a l (total - brk) (total - cont))) ++ exec_code line res a u (total - brk) (total - cont))) e3)

  pub choice_else_done : (k : Cond) (a b : Stmt) (brk cont end else_at then_at : ℕ) (old m1 m2 m3 m4 new : List Instr) → IsHere c old end → AddsStmt c res b brk cont old m1 → IsHere c m1 else_at
      → m2 ≡ m1 ++ instr.Jump end ∷ [] → AddsStmt c res a brk cont m2 m3 → IsHere c m3 then_at → AddsCond c k 0 then_at else_at m3 m4 → new ≡ m4 ++ instr.Step ∷ []
      → AddsStmt c res (tree.choice_else k a b) brk cont old new
  unfolding AddsCond AddsStmt
  choice_else_done k a b brk cont end else_at then_at old m1 m2 m3 m4 new x p y d q z r e =
      let j = one c m1 m2 (instr.Jump end) (Unit {0}) d in
      let w = stepped c old m4 new _ _ _ (two c old m3 m4 _ _ _ _ _ _ (two c old m2 m3 _ _ _ _ _ _ (two c old m1 m2 _ _ _ _ _ _ p j) q) r) e in
      let l1 = longer c old m1 _ _ _ p in let l2 = longer c m1 m2 _ _ _ j in let l3 = longer c m2 m3 _ _ _ q in let l5 = longer c old new _ _ _ w in
      turned c old new _ _ _ _ _ _ w (omega arith)
      (λ g. ((((g.0.2, omega (arith, g.1)), tt), (g.0.1, omega (arith, g.1, l1, l2))), (g.0.0, omega (arith, g.1, l1, l2, l3))))
      (λ g total pc h.
      let sx : end ≡ length old = x (omega (arith, g.1)) in let sy : else_at ≡ length m1 = y (omega (arith, g.1, l1)) in let sz : then_at ≡ length m3 = z (omega (arith, g.1, l1, l2, l3)) in
      let l : ℕ = suc pc + length (cond_code k (suc pc) 0 0 0) in let cl = cond_length_is k (suc pc) 0 0 0 in
      let ca = exec_length line res a l (total - brk) (total - cont) in
      let m : ℕ = l + length (exec_code line res a l (total - brk) (total - cont)) in
      let cb = exec_length line res b (suc m) (total - brk) (total - cont) in
      let e1 : total - then_at ≡ l = omega (arith, h, l1, l2, l3, l5, sz, cl) in
      let e2 : total - else_at ≡ suc m = omega (arith, h, l1, l5, sy, cl, ca) in
      let e3 : suc pc + cond_size k ≡ l = omega (arith, cl) in
      let e4 : total - end ≡ suc m + length (exec_code line res b (suc m) (total - brk) (total - cont)) = omega (arith, h, l5, sx, cl, ca, cb) in
      let e5 : ((suc pc + cond_size k) + exec_size a) + 1 ≡ suc m = omega (arith, cl, ca) in
      ap (λ u. i_step ∷ (cond_code k (suc pc) 0 u (total - else_at) ++ (exec_code line res a (suc pc + cond_size k) (total - brk) (total - cont) ++ (i_jump (total - end) ∷ exec_code line res b (((suc pc + cond_size k) + exec_size a) + 1) (total - brk) (total - cont))))) e1
      ∙ ap (λ u. i_step ∷ (cond_code k (suc pc) 0 l u ++ (exec_code line res a (suc pc + cond_size k) (total - brk) (total - cont) ++ (i_jump (total - end) ∷ exec_code line res b (((suc pc + cond_size k) + exec_size a) + 1) (total - brk) (total - cont))))) e2
      ∙ ap (λ u. i_step ∷ (cond_code k (suc pc) 0 l (suc m) ++ (exec_code line res a u (total - brk) (total - cont) ++ (i_jump (total - end) ∷ exec_code line res b (((suc pc + cond_size k) + exec_size a) + 1) (total - brk) (total - cont))))) e3
      ∙ ap (λ u. i_step ∷ (cond_code k (suc pc) 0 l (suc m) ++ (exec_code line res a l (total - brk) (total - cont) ++ (i_jump u ∷ exec_code line res b (((suc pc + cond_size k) + exec_size a) + 1) (total - brk) (total - cont))))) e4
      ∙ ap (λ u. i_step ∷ (cond_code k (suc pc) 0 l (suc m) ++ (exec_code line res a l (total - brk) (total - cont) ++ (i_jump (suc m + length (exec_code line res b (suc m) (total - brk) (total - cont))) ∷ exec_code line res b u (total - brk) (total - cont))))) e5)

  pub loop_done : (k : Cond) (body : Stmt) (brk cont end again inside start : ℕ) (old m0 m1 m2 m3 new : List Instr) → IsHere c old end → m0 ≡ old ++ instr.Jump 0 ∷ [] → IsHere c m0 again → AddsStmt c res body end again m0 m1
      → IsHere c m1 inside → AddsCond c k 0 inside end m1 m2 → IsHere c m2 start → m3 ≡ slice_set m2 (length old) (instr.Jump start) → new ≡ m3 ++ instr.Step ∷ [] → AddsStmt c res (tree.loop k body) brk cont old new
  unfolding AddsCond AddsStmt
  loop_done k body brk cont end again inside start old m0 m1 m2 m3 new x d y p z q v f e =
      let o = one c old m0 (instr.Jump 0) (Unit {0}) d in
      let w1 = patched c old m0 m2 m3 (instr.Jump 0) (instr.Jump start) _ _ _ d (two c m0 m1 m2 _ _ _ _ _ _ p q) f in
      let j = one c old (old ++ instr.Jump start ∷ []) (instr.Jump start) (Unit {0}) refl in
      let w = stepped c old m3 new _ _ _ (two c old (old ++ instr.Jump start ∷ []) m3 _ _ _ _ _ _ j w1) e in
      let l0 = longer c old m0 _ _ _ o in let l1 = longer c m0 m1 _ _ _ p in let l2 = longer c m1 m2 _ _ _ q in let l5 = longer c old new _ _ _ w in
      turned c old new _ _ _ _ _ _ w (omega arith)
      (λ g. (tt, ((g.0.1, omega (arith, g.1, l0)), (g.0.0, omega (arith, g.1, l0, l1)))))
      (λ g total pc h.
      let sx : end ≡ length old = x (omega (arith, g.1)) in let sy : again ≡ length m0 = y (omega (arith, g.1, l0)) in
      let sz : inside ≡ length m1 = z (omega (arith, g.1, l0, l1)) in let sv : start ≡ length m2 = v (omega (arith, g.1, l0, l1, l2)) in
      let l : ℕ = suc pc + length (cond_code k (suc pc) 0 0 0) in let cl = cond_length_is k (suc pc) 0 0 0 in
      let m : ℕ = l + length (exec_code line res body l 0 0) in let ca = exec_length line res body l 0 0 in
      let e1 : total - inside ≡ l = omega (arith, h, l0, l1, l5, sz, cl) in
      let e2 : total - end ≡ suc m = omega (arith, h, l5, sx, cl, ca) in
      let e3 : suc pc + cond_size k ≡ l = omega (arith, cl) in
      let e4 : total - again ≡ m = omega (arith, h, l0, l5, sy, cl, ca) in
      let e5 : total - start ≡ suc pc = omega (arith, h, l0, l1, l2, l5, sv) in
      append_lift (cond_code k (suc pc) 0 (total - inside) (total - end)) (exec_code line res body (suc pc + cond_size k) (total - end) (total - again)) (i_jump (total - start) ∷ [])
      ∙ ap (λ u. i_step ∷ (cond_code k (suc pc) 0 u (total - end) ++ (exec_code line res body (suc pc + cond_size k) (total - end) (total - again) ++ i_jump (total - start) ∷ []))) e1
      ∙ ap (λ u. i_step ∷ (cond_code k (suc pc) 0 l u ++ (exec_code line res body (suc pc + cond_size k) u (total - again) ++ i_jump (total - start) ∷ []))) e2
      ∙ ap (λ u. i_step ∷ (cond_code k (suc pc) 0 l (suc m) ++ (exec_code line res body u (suc m) (total - again) ++ i_jump (total - start) ∷ []))) e3
      ∙ ap (λ u. i_step ∷ (cond_code k (suc pc) 0 l (suc m) ++ (exec_code line res body l (suc m) u ++ i_jump (total - start) ∷ []))) e4
      ∙ ap (λ u. i_step ∷ (cond_code k (suc pc) 0 l (suc m) ++ (exec_code line res body l (suc m) m ++ i_jump u ∷ []))) e5)

  pub repeat_done : (body : Stmt) (k : Cond) (brk cont end again test start : ℕ) (old m0 m1 m2 m3 new : List Instr) → IsHere c old end → m0 ≡ old ++ instr.Jump 0 ∷ [] → IsHere c m0 again → AddsCond c k 0 again end m0 m1
      → IsHere c m1 test → AddsStmt c res body end test m1 m2 → IsHere c m2 start → m3 ≡ slice_set m2 (length old) (instr.Jump start) → new ≡ m3 ++ instr.Step ∷ [] → AddsStmt c res (tree.repeat body k) brk cont old new
  unfolding AddsCond AddsStmt
  repeat_done body k brk cont end again test start old m0 m1 m2 m3 new x d y p z q v f e =
      let o = one c old m0 (instr.Jump 0) (Unit {0}) d in
      let w1 = patched c old m0 m2 m3 (instr.Jump 0) (instr.Jump start) _ _ _ d (two c m0 m1 m2 _ _ _ _ _ _ p q) f in
      let j = one c old (old ++ instr.Jump start ∷ []) (instr.Jump start) (Unit {0}) refl in
      let w = stepped c old m3 new _ _ _ (two c old (old ++ instr.Jump start ∷ []) m3 _ _ _ _ _ _ j w1) e in
      let l0 = longer c old m0 _ _ _ o in let l1 = longer c m0 m1 _ _ _ p in let l2 = longer c m1 m2 _ _ _ q in let l5 = longer c old new _ _ _ w in
      turned c old new _ _ _ _ _ _ w (omega arith)
      (λ g. (tt, ((g.0.0, omega (arith, g.1, l0)), (g.0.1, omega (arith, g.1, l0, l1)))))
      (λ g total pc h.
      let sx : end ≡ length old = x (omega (arith, g.1)) in let sy : again ≡ length m0 = y (omega (arith, g.1, l0)) in
      let sz : test ≡ length m1 = z (omega (arith, g.1, l0, l1)) in let sv : start ≡ length m2 = v (omega (arith, g.1, l0, l1, l2)) in
      let m : ℕ = suc pc + length (exec_code line res body (suc pc) 0 0) in let ca = exec_length line res body (suc pc) 0 0 in
      let l : ℕ = m + length (cond_code k m 0 0 0) in let cl = cond_length_is k m 0 0 0 in
      let e1 : total - end ≡ suc l = omega (arith, h, l5, sx, cl, ca) in
      let e2 : total - test ≡ m = omega (arith, h, l0, l1, l5, sz, ca) in
      let e3 : suc pc + exec_size body ≡ m = omega (arith, ca) in
      let e4 : total - again ≡ l = omega (arith, h, l0, l5, sy, cl, ca) in
      let e5 : total - start ≡ suc pc = omega (arith, h, l0, l1, l2, l5, sv) in
      append_lift (exec_code line res body (suc pc) (total - end) (total - test)) (cond_code k (suc pc + exec_size body) 0 (total - again) (total - end)) (i_jump (total - start) ∷ [])
      ∙ ap (λ u. i_step ∷ (exec_code line res body (suc pc) u (total - test) ++ (cond_code k (suc pc + exec_size body) 0 (total - again) u ++ i_jump (total - start) ∷ []))) e1
      ∙ ap (λ u. i_step ∷ (exec_code line res body (suc pc) (suc l) u ++ (cond_code k (suc pc + exec_size body) 0 (total - again) (suc l) ++ i_jump (total - start) ∷ []))) e2
      ∙ ap (λ u. i_step ∷ (exec_code line res body (suc pc) (suc l) m ++ (cond_code k u 0 (total - again) (suc l) ++ i_jump (total - start) ∷ []))) e3
      ∙ ap (λ u. i_step ∷ (exec_code line res body (suc pc) (suc l) m ++ (cond_code k m 0 u (suc l) ++ i_jump (total - start) ∷ []))) e4
      ∙ ap (λ u. i_step ∷ (exec_code line res body (suc pc) (suc l) m ++ (cond_code k m 0 l (suc l) ++ i_jump u ∷ []))) e5)

  pub no_parts : (brk cont : ℕ) (old : List Instr) → AddsParts c res tree.finish brk cont old old
  unfolding AddsParts
  no_parts brk cont old = record { added = []; is = sym (append-nil old); many = refl; reads = λ g total pc h. refl }

  pub more_parts : (s : Stmt) (ps : Parts) (brk cont : ℕ) (old m1 new : List Instr) → AddsParts c res ps brk cont old m1 → AddsStmt c res s brk cont m1 new → AddsParts c res (tree.then s ps) brk cont old new
  unfolding AddsStmt AddsParts
  more_parts s ps brk cont old m1 new p q =
      let l1 = longer c old m1 _ _ _ p in
      turned c old new _ _ _ _ _ _ (two c old m1 new _ _ _ _ _ _ p q) refl (λ g. ((g.0.1, omega (arith, g.1)), (g.0.0, omega (arith, g.1, l1))))
      (λ g total pc h. ap (λ z. exec_code line res s pc (total - brk) (total - cont) ++ parts_code line res ps (pc + z) (total - brk) (total - cont)) (sym (exec_length line res s pc (total - brk) (total - cont))))

  abbrev for_code : (first : List Instruction) (ds : ℕ → List Instruction) (k : ℕ → ℕ → ℕ → List Instruction) (body : ℕ → ℕ → ℕ → List Instruction) (next : ℕ → List Instruction) (p0 p1 p2 p3 a e n s : ℕ) → List Instruction
  for_code first ds k body next p0 p1 p2 p3 a e n s = i_step ∷ (first ++ (ds p0 ++ (k p1 a e ++ (body p2 e n ++ (next p3 ++ i_jump s ∷ [])))))

  for_same : (first : List Instruction) (ds : ℕ → List Instruction) (k : ℕ → ℕ → ℕ → List Instruction) (body : ℕ → ℕ → ℕ → List Instruction) (next : ℕ → List Instruction) (p0 p1 p2 p3 a e n s p0' p1' p2' p3' a' e' n' s' : ℕ)
      → p0 ≡ p0' → p1 ≡ p1' → p2 ≡ p2' → p3 ≡ p3' → a ≡ a' → e ≡ e' → n ≡ n' → s ≡ s' → for_code first ds k body next p0 p1 p2 p3 a e n s ≡ for_code first ds k body next p0' p1' p2' p3' a' e' n' s'
  for_same first ds k body next p0 p1 p2 p3 a e n s p0' p1' p2' p3' a' e' n' s' h0 h1 h2 h3 ha he hn hs =
      ap (λ u. for_code first ds k body next u p1 p2 p3 a e n s) h0
      ∙ ap (λ u. for_code first ds k body next p0' u p2 p3 a e n s) h1
      ∙ ap (λ u. for_code first ds k body next p0' p1' u p3 a e n s) h2
      ∙ ap (λ u. for_code first ds k body next p0' p1' p2' u a e n s) h3
      ∙ ap (λ u. for_code first ds k body next p0' p1' p2' p3' u e n s) ha
      ∙ ap (λ u. for_code first ds k body next p0' p1' p2' p3' a' u n s) he
      ∙ ap (λ u. for_code first ds k body next p0' p1' p2' p3' a' e' u s) hn
      ∙ ap (λ u. for_code first ds k body next p0' p1' p2' p3' a' e' n' u) hs

  for_grouped : (first ds k body next j : List Instruction) → i_step ∷ (first ++ (ds ++ ((k ++ (body ++ next)) ++ j))) ≡ i_step ∷ (first ++ (ds ++ (k ++ (body ++ (next ++ j)))))
  for_grouped first ds k body next j = ap (λ l. i_step ∷ (first ++ (ds ++ l))) (append_assoc k (body ++ next) j ∙ ap (λ l. k ++ l) (append_assoc body next j))

  pub for_done : (first : Option Simple) (ds : List Declarator) (k : Option Cond) (next : Option Simple) (body : Stmt) (brk cont end again inside start : ℕ) (old m0 m1 m2 m3 m4 m5 m6 new : List Instr)
      → IsHere c old end → m0 ≡ old ++ instr.Jump 0 ∷ [] → AddsSimpleIf c next m0 m1 → IsHere c m1 again → AddsStmt c res body end again m1 m2 → IsHere c m2 inside → AddsCondIf c k inside end m2 m3 → IsHere c m3 start
      → m4 ≡ slice_set m3 (length old) (instr.Jump start) → AddsDeclarators c ds m4 m5 → AddsSimpleIf c first m5 m6 → new ≡ m6 ++ instr.Step ∷ [] → AddsStmt c res (tree.loop_for first ds k next body) brk cont old new
  unfolding AddsSimpleIf AddsCondIf AddsDeclarators AddsStmt
  for_done first ds k next body brk cont end again inside start old m0 m1 m2 m3 m4 m5 m6 new x d pn y pb z pk v f pd pf e =
      let o = one c old m0 (instr.Jump 0) (Unit {0}) d in
      let w1 = patched c old m0 m3 m4 (instr.Jump 0) (instr.Jump start) _ _ _ d (two c m0 m2 m3 _ _ _ _ _ _ (two c m0 m1 m2 _ _ _ _ _ _ pn pb) pk) f in
      let j = one c old (old ++ instr.Jump start ∷ []) (instr.Jump start) (Unit {0}) refl in
      let w4 = two c old (old ++ instr.Jump start ∷ []) m4 _ _ _ _ _ _ j w1 in
      let w = stepped c old m6 new _ _ _ (two c old m5 m6 _ _ _ _ _ _ (two c old m4 m5 _ _ _ _ _ _ w4 pd) pf) e in
      let l0 = longer c old m0 _ _ _ o in let l1 = longer c m0 m1 _ _ _ pn in let l2 = longer c m1 m2 _ _ _ pb in let l3 = longer c m2 m3 _ _ _ pk in
      let l4 = longer c old m4 _ _ _ w4 in let l5 = longer c m4 m5 _ _ _ pd in let l7 = longer c old new _ _ _ w in
      turned c old new _ _ _ _ _ _ w (omega arith)
      (λ g. (((tt, (((g.0.3, omega (arith, g.1, l0)), (g.0.4, omega (arith, g.1, l0, l1))), (g.0.2, omega (arith, g.1, l0, l1, l2)))), (g.0.1, omega (arith, g.1, l4))), (g.0.0, omega (arith, g.1, l4, l5))))
      (λ g total pc h.
      let sx : end ≡ length old = x (omega (arith, g.1)) in let sy : again ≡ length m1 = y (omega (arith, g.1, l0, l1)) in
      let sz : inside ≡ length m2 = z (omega (arith, g.1, l0, l1, l2)) in let sv : start ≡ length m3 = v (omega (arith, g.1, l0, l1, l2, l3)) in
      let i0 = simply_if_length line first (suc pc) in let t0 : ℕ = suc pc + length (simply_if_code line first (suc pc)) in
      let i1 = declare_all_length line ds t0 in let t1 : ℕ = t0 + length (declare_all_code line ds t0) in
      let i2 = cond_if_length_is line k t1 0 0 in let l : ℕ = t1 + length (cond_if_code line k t1 0 0) in
      let i3 = exec_length line res body l 0 0 in let m : ℕ = l + length (exec_code line res body l 0 0) in
      let i4 = simply_if_length line next m in let q : ℕ = m + length (simply_if_code line next m) in
      let h0 : suc pc + simply_if_size first ≡ t0 = omega (arith, i0) in
      let h1 : (suc pc + simply_if_size first) + declare_all_size ds ≡ t1 = omega (arith, i0, i1) in
      let h2 : ((suc pc + simply_if_size first) + declare_all_size ds) + cond_if_size k ≡ l = omega (arith, i0, i1, i2) in
      let h3 : (((suc pc + simply_if_size first) + declare_all_size ds) + cond_if_size k) + exec_size body ≡ m = omega (arith, i0, i1, i2, i3) in
      let e1 : total - inside ≡ l = omega (arith, h, l0, l1, l2, l7, sz, i0, i1, i2) in
      let e2 : total - end ≡ suc q = omega (arith, h, l7, sx, i0, i1, i2, i3, i4) in
      let e3 : total - again ≡ m = omega (arith, h, l0, l1, l7, sy, i0, i1, i2, i3) in
      let e4 : total - start ≡ t1 = omega (arith, h, l0, l1, l2, l3, l7, sv, i0, i1) in
      for_grouped (simply_if_code line first (suc pc)) (declare_all_code line ds (suc pc + simply_if_size first)) (cond_if_code line k ((suc pc + simply_if_size first) + declare_all_size ds) (total - inside) (total - end))
      (exec_code line res body (((suc pc + simply_if_size first) + declare_all_size ds) + cond_if_size k) (total - end) (total - again))
      (simply_if_code line next ((((suc pc + simply_if_size first) + declare_all_size ds) + cond_if_size k) + exec_size body)) (i_jump (total - start) ∷ [])
      ∙ for_same (simply_if_code line first (suc pc)) (declare_all_code line ds) (cond_if_code line k) (exec_code line res body) (simply_if_code line next) _ _ _ _ _ _ _ _ _ _ _ _ _ _ _ _ h0 h1 h2 h3 e1 e2 e3 e4)

  -- ---- blocks

  before_size : (ds : List Declarator) (rest : Parts) → parts_size (declared_before ds rest) ≡ declare_all_size ds + parts_size rest
  before_size [] rest = omega arith
  before_size (d ∷ ds) rest = let i = before_size ds rest in omega (arith, i)

  before_sited : (ds : List Declarator) (rest : Parts) → PartsSited c (declared_before ds rest) → PartsSited c rest × DeclaratorsSited c ds
  before_sited [] rest g = (g, tt)
  before_sited (d ∷ ds) rest g = let h = before_sited ds rest g.1 in (h.0, (g.0, h.1))

  before_code : (ds : List Declarator) (rest : Parts) (pc b k : ℕ) → declare_all_code line ds pc ++ parts_code line res rest (pc + declare_all_size ds) b k ≡ parts_code line res (declared_before ds rest) pc b k
  before_code [] rest pc b k = ap (λ u. parts_code line res rest u b k) (add-zero pc)
  before_code (d ∷ ds) rest pc b k =
      let i = declare_length line d pc in let at : ℕ = pc + length (declare_code line d pc) in
      let e : pc + (declare_size d + declare_all_size ds) ≡ at + declare_all_size ds = omega (arith, i) in
      append_assoc (declare_code line d pc) (declare_all_code line ds at) (parts_code line res rest (pc + (declare_size d + declare_all_size ds)) b k)
      ∙ ap (λ u. declare_code line d pc ++ (declare_all_code line ds at ++ parts_code line res rest u b k)) e
      ∙ ap (λ l. declare_code line d pc ++ l) (before_code ds rest at b k)

  pub declared_parts : (ds : List Declarator) (rest : Parts) (brk cont : ℕ) (old m1 new : List Instr) → AddsParts c res rest brk cont old m1 → AddsDeclarators c ds m1 new → AddsParts c res (declared_before ds rest) brk cont old new
  unfolding AddsParts AddsDeclarators
  declared_parts ds rest brk cont old m1 new p q =
      let l1 = longer c old m1 _ _ _ p in let s = before_size ds rest in
      turned c old new _ _ _ _ _ _ (two c old m1 new _ _ _ _ _ _ p q) (sym s)
      (λ g. let h = before_sited ds rest g.0 in ((h.0, omega (arith, g.1, s)), (h.1, omega (arith, g.1, l1, s))))
      (λ g total pc h. before_code ds rest pc (total - brk) (total - cont))

  pub stmt_as : {s t : Stmt} → (brk cont : ℕ) (old new : List Instr) → s ≡ t → AddsStmt c res s brk cont old new → AddsStmt c res t brk cont old new
  stmt_as brk cont old new e p = subst (λ (x : Stmt). AddsStmt c res x brk cont old new) e p

  pub piece_decl_done : (ds : List Declarator) (l : List Piece) (brk cont : ℕ) (base old new : List Instr) → AddsDeclarators c ds old new → AddsParts c res (parts_of l) brk cont base old → AddsParts c res (parts_of (declares ds ∷ l)) brk cont base new
  piece_decl_done ds l brk cont base old new q p = declared_parts ds (parts_of l) brk cont base old new p q

  pub piece_stmt_done : (s : Stmt) (l : List Piece) (brk cont : ℕ) (base old new : List Instr) → AddsStmt c res s brk cont old new → AddsParts c res (parts_of l) brk cont base old → AddsParts c res (parts_of (does s ∷ l)) brk cont base new
  piece_stmt_done s l brk cont base old new q p = more_parts s (parts_of l) brk cont base old new p q

  pub piece_as : {x y : Piece} → (l : List Piece) (brk cont : ℕ) (base new : List Instr) → x ≡ y → AddsParts c res (parts_of (x ∷ l)) brk cont base new → AddsParts c res (parts_of (y ∷ l)) brk cont base new
  piece_as l brk cont base new e p = subst (λ (z : Piece). AddsParts c res (parts_of (z ∷ l)) brk cont base new) e p

  module _ (facts : Facts) where
    pub none_placed : (ps : List Part) (brk cont : ℕ) (old : List Instr) → AddsParts c res (parts_of (map (piece_of facts) (drop (length ps) ps))) brk cont old old
    none_placed ps brk cont old = subst (λ (l : List Part). AddsParts c res (parts_of (map (piece_of facts) l)) brk cont old old) (sym (drop-length ps)) (no_parts brk cont old)

    pub one_placed : (ps : List Part) (e : Part) (left k brk cont : ℕ) (base old new : List Instr) → left ≡ suc k → left ≤ length ps → e ≡ get_or ps k e
        → AddsParts c res (parts_of (map (piece_of facts) (drop left ps))) brk cont base old
        → ((l : List Piece) (start : List Instr) → AddsParts c res (parts_of l) brk cont start old → AddsParts c res (parts_of (piece_of facts e ∷ l)) brk cont start new)
        → AddsParts c res (parts_of (map (piece_of facts) (drop k ps))) brk cont base new
    one_placed ps e left k brk cont base old new i h g p q =
        let within : k < length ps = omega (arith, i, h) in
        let d : e ∷ drop left ps ≡ drop k ps = ap (λ z. z ∷ drop left ps) g ∙ ap (λ z. get_or ps k e ∷ drop z ps) i ∙ sym (drop-cons ps k e within) in
        subst (λ (l : List Part). AddsParts c res (parts_of (map (piece_of facts) l)) brk cont base new) d (q (map (piece_of facts) (drop left ps)) base p)

module _ (c : Checked) where
  pub return_value : (res : Cell) (a : Val) (old m1 new : List Instr) → m1 ≡ old ++ instr.Return 0 ∷ [] → AddsValue c a 0 m1 new → AddsReturn c res (Some a) old new
  unfolding AddsValue AddsReturn
  return_value res a old m1 new e p =
      let o = one c old m1 (instr.Return 0) (Unit {0}) e in let l1 = longer c old m1 _ _ _ o in
      turned c old new _ _ _ _ _ _ (two c old m1 new _ _ _ _ _ _ o p) refl (λ g. (tt, (g.0, omega (arith, g.1, l1)))) (λ g total pc h. refl)

  pub return_zero : (old m1 new : List Instr) → m1 ≡ old ++ instr.Return 0 ∷ [] → new ≡ m1 ++ instr.Number 0 (pos 0) ∷ [] → AddsReturn c int_cell None old new
  unfolding AddsReturn
  return_zero old m1 new e f =
      turned c old new _ _ _ _ _ _ (two c old m1 new _ _ _ _ _ _ (one c old m1 (instr.Return 0) (Unit {0}) e) (one c m1 new (instr.Number 0 (pos 0)) (Unit {0}) f)) refl (λ g. (tt, tt)) (λ g total pc h. refl)

  pub return_null : (t : ℕ) (old m1 new : List Instr) → m1 ≡ old ++ instr.Return 0 ∷ [] → new ≡ m1 ++ instr.Nil 0 ∷ [] → AddsReturn c (ptr_cell t) None old new
  unfolding AddsReturn
  return_null t old m1 new e f =
      turned c old new _ _ _ _ _ _ (two c old m1 new _ _ _ _ _ _ (one c old m1 (instr.Return 0) (Unit {0}) e) (one c m1 new (instr.Nil 0) (Unit {0}) f)) refl (λ g. (tt, tt)) (λ g total pc h. refl)

  pub func_done : (f : Func) (end : ℕ) (old m1 m2 new : List Instr) → AddsReturn c f.result None old m1 → IsHere c m1 end → AddsParts c f.result f.body end end m1 m2 → new ≡ m2 ++ instr.Step ∷ [] → AddsFunc c f old new
  unfolding AddsReturn AddsParts AddsFunc
  func_done f end old m1 m2 new p x q e =
      let w = stepped c old m2 new _ _ _ (two c old m1 m2 _ _ _ _ _ _ p q) e in let l1 = longer c old m1 _ _ _ p in let l3 = longer c old new _ _ _ w in
      turned c old new _ _ _ _ _ _ w (omega arith) (λ g. ((tt, omega (arith, g.1)), (g.0, omega (arith, g.1, l1))))
      (λ g total pc h.
      let sx : end ≡ length m1 = x (omega (arith, g.1, l1)) in
      let at : ℕ = suc pc + length (parts_code (line_in c) f.result f.body (suc pc) 0 0) in let cl = parts_length_is (line_in c) f.result f.body (suc pc) 0 0 in
      let e1 : total - end ≡ at = omega (arith, h, l1, l3, sx, cl) in
      ap (λ u. i_step ∷ (parts_code (line_in c) f.result f.body (suc pc) u u ++ (zero_code f.result 0 ++ i_return 0 ∷ []))) e1)
