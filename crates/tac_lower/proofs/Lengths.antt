-- The code of each thing has as many instructions as its size says.
use Rattle.std.proofs.Common.{◌≡◌, ℕ, zero, suc, ◌+◌, List, [], ◌∷◌, ◌++◌, length, Option, Some, None, refl, sym, ap, ◌∙◌, arith, length-append, pos}
use Rattle.cc_base.specs.declared.ends.FaultKind.TheVariants.{Assert}
use Rattle.cc_model.specs.Core as tree
use Rattle.cc_model.specs.Core.{Cell, int_cell, ptr_cell, Op, Cmp, Val, Cond, Loc, Vals, Simple, Declarator, Stmt, Parts}
use Rattle.cc_model.specs.Instructions.{Instruction, i_step, i_load, i_negate, i_call, i_compare, i_truth, i_access, i_offset, i_index, i_store, i_take, i_stop, i_unless, i_number, i_jump, i_return}
use Rattle.tac_lower.specs.Lowering.{arith_code, sides_code, number_code, compare_code, test_code, if_single, value_code, decision_code, cond_code, locate_code, values_code, zero_code, update_code, bump_code, simply_code, start_code, declare_code, declare_all_code, simply_if_code, cond_if_code, return_code, exec_code, parts_code, count}
use Rattle.tac_lower.specs.Sizes.{op_size, value_size, decision_size, cond_size, locate_size, values_size, simply_size, start_size, declare_size, declare_all_size, simply_if_size, cond_if_size, return_size, exec_size, parts_size}

abbrev Ins : Type 0
Ins = List Instruction

one_behind : (a : Ins) (i : Instruction) → length (a ++ i ∷ []) ≡ length a + 1
one_behind a i = length-append a (i ∷ [])

arith_length : (t : ℕ) (o : Op) (n : ℕ) → length (arith_code t o n) ≡ op_size o
arith_length t tree.add n = refl
arith_length t tree.sub n = refl
arith_length t tree.mul n = refl
arith_length t tree.quot n = refl
arith_length t tree.rem n = refl

single_length : (c : Cond) (x y : Ins) → length (if_single c x y) ≡ if_single c (length x) (length y)
single_length (tree.compare t o a b) x y = refl
single_length (tree.test t a) x y = refl
single_length (tree.opposite c) x y = refl
single_length (tree.both a b) x y = refl
single_length (tree.either a b) x y = refl

single_same : (c : Cond) (a b m k : ℕ) → a ≡ m → b ≡ k → if_single c a b ≡ if_single c m k
single_same (tree.compare t o x y) a b m k e f = e
single_same (tree.test t x) a b m k e f = e
single_same (tree.opposite c) a b m k e f = f
single_same (tree.both x y) a b m k e f = f
single_same (tree.either x y) a b m k e f = f

compare_length : (t : ℕ) (o : Cmp) (n : ℕ) (a b : Ins) (x y : ℕ) → length a ≡ x → length b ≡ y → length (compare_code t o n a b) ≡ 2 + x + y
compare_length t o n a b x y e f =
    let i = length-append a (b ++ i_compare t o n n (suc n) ∷ []) in let j = one_behind b (i_compare t o n n (suc n)) in omega (arith, e, f, i, j)

mutual
  pub value_length : (a : Val) (pc n : ℕ) → length (value_code a pc n) ≡ value_size a
  value_length (tree.number z) pc n = refl
  value_length tree.nil pc n = refl
  value_length (tree.read l) pc n = let i = locate_length l pc n in let j = one_behind (locate_code l pc n) (i_load n n) in omega (arith, i, j)
  value_length (tree.arith t o a b) pc n =
      let ca = value_code a (suc pc) n in let cb = value_code b (suc pc + length ca) (suc n) in
      let i = value_length a (suc pc) n in let j = value_length b (suc pc + length ca) (suc n) in let k = arith_length t o n in
      let p = length-append ca (cb ++ arith_code t o n) in let q = length-append cb (arith_code t o n) in omega (arith, i, j, k, p, q)
  value_length (tree.negate t a) pc n = let i = value_length a (suc pc) n in let j = one_behind (value_code a (suc pc) n) (i_negate t n n) in omega (arith, i, j)
  value_length (tree.truth c) pc n =
      let l = pc + length (cond_code c pc n 0 0) in let cc = cond_code c pc n l (suc (suc l)) in
      let i = decision_length c pc n in let j = cond_length_is c pc n l (suc (suc l)) in let k = length-append cc (number_code n l) in
      single_length c _ _ ∙ single_same c _ _ _ _ i (omega (arith, j, k))
  value_length (tree.address l) pc n = let i = locate_length l (suc pc) n in omega (arith, i)
  value_length (tree.call f args) pc n = let i = values_length args (suc pc) n in let j = one_behind (values_code args (suc pc) n) (i_call n f n (count args)) in omega (arith, i, j)
  value_length (tree.malloc type) pc n = refl

  pub decision_length : (c : Cond) (pc n : ℕ) → length (decision_code c pc n) ≡ decision_size c
  decision_length (tree.compare t o a b) pc n = compare_length t o n _ _ _ _ (value_length a (suc pc) n) (value_length b _ (suc n))
  decision_length (tree.test t a) pc n = let i = value_length a pc n in let j = one_behind (value_code a pc n) (i_truth t n n) in omega (arith, i, j)
  decision_length (tree.opposite c) pc n = refl
  decision_length (tree.both a b) pc n = refl
  decision_length (tree.either a b) pc n = refl

  pub cond_length_is : (c : Cond) (pc n y z : ℕ) → length (cond_code c pc n y z) ≡ cond_size c
  cond_length_is (tree.compare t o a b) pc n y z =
      let ca = value_code a (suc pc) n in let cb = value_code b (suc pc + length ca) (suc n) in
      let i = compare_length t o n ca cb _ _ (value_length a (suc pc) n) (value_length b (suc pc + length ca) (suc n)) in
      let j = length-append (compare_code t o n ca cb) (sides_code n y z) in omega (arith, i, j)
  cond_length_is (tree.test t a) pc n y z =
      let ca = value_code a pc n in let i = value_length a pc n in let j = one_behind ca (i_truth t n n) in
      let k = length-append (test_code t n ca) (sides_code n y z) in omega (arith, i, j, k)
  cond_length_is (tree.opposite c) pc n y z = let i = cond_length_is c (suc pc) n z y in omega (arith, i)
  cond_length_is (tree.both a b) pc n y z =
      let l = suc pc + length (cond_code a (suc pc) n 0 0) in let i = cond_length_is a (suc pc) n l z in let j = cond_length_is b l n y z in
      let k = length-append (cond_code a (suc pc) n l z) (cond_code b l n y z) in omega (arith, i, j, k)
  cond_length_is (tree.either a b) pc n y z =
      let l = suc pc + length (cond_code a (suc pc) n 0 0) in let i = cond_length_is a (suc pc) n y l in let j = cond_length_is b l n y z in
      let k = length-append (cond_code a (suc pc) n y l) (cond_code b l n y z) in omega (arith, i, j, k)

  pub locate_length : (l : Loc) (pc n : ℕ) → length (locate_code l pc n) ≡ locate_size l
  locate_length (tree.local s) pc n = refl
  locate_length (tree.global c) pc n = refl
  locate_length (tree.deref t a) pc n = let i = value_length a (suc pc) n in let j = one_behind (value_code a (suc pc) n) (i_access t n n) in omega (arith, i, j)
  locate_length (tree.arrow t a c) pc n = let i = value_length a (suc pc) n in let j = length-append (value_code a (suc pc) n) (i_access t n n ∷ i_offset n n c ∷ []) in omega (arith, i, j)
  locate_length (tree.dot l c) pc n = let i = locate_length l (suc pc) n in let j = one_behind (locate_code l (suc pc) n) (i_offset n n c) in omega (arith, i, j)
  locate_length (tree.index t l i m w) pc n =
      let ca = locate_code l (suc pc) n in let cb = value_code i (suc pc + length ca) (suc n) in
      let p = locate_length l (suc pc) n in let q = value_length i (suc pc + length ca) (suc n) in
      let r = length-append ca (cb ++ i_index t n n (suc n) m w ∷ []) in let s = one_behind cb (i_index t n n (suc n) m w) in omega (arith, p, q, r, s)

  pub values_length : (xs : Vals) (pc n : ℕ) → length (values_code xs pc n) ≡ values_size xs
  values_length tree.done pc n = refl
  values_length (tree.more a rest) pc n =
      let ca = value_code a pc n in let cr = values_code rest (pc + length ca) (suc n) in
      let i = value_length a pc n in let j = values_length rest (pc + length ca) (suc n) in let k = length-append ca cr in omega (arith, i, j, k)

update_length : (t : ℕ) (o : Op) → length (update_code t o) ≡ 4 + op_size o
update_length t o = let i = arith_length t o 2 in let j = one_behind (arith_code t o 2) (i_store 1 2) in omega (arith, i, j)

bump_length : (t : ℕ) (o : Op) → length (bump_code t o) ≡ 4 + op_size o
bump_length t o = let i = arith_length t o 1 in let j = one_behind (arith_code t o 1) (i_store 0 1) in omega (arith, i, j)

module _ (line : ℕ → ℕ) where
  pub simply_length : (s : Simple) (pc : ℕ) → length (simply_code line s pc) ≡ simply_size s
  simply_length (tree.assign l a) pc =
      let ca = value_code a pc 0 in let cl = locate_code l (pc + length ca) 1 in let i = value_length a pc 0 in let j = locate_length l (pc + length ca) 1 in
      let k = length-append ca (cl ++ i_store 1 0 ∷ []) in let m = one_behind cl (i_store 1 0) in omega (arith, i, j, k, m)
  simply_length (tree.update t o l a) pc =
      let ca = value_code a pc 0 in let cl = locate_code l (pc + length ca) 1 in let i = value_length a pc 0 in let j = locate_length l (pc + length ca) 1 in
      let k = length-append ca (cl ++ update_code t o) in let m = length-append cl (update_code t o) in let u = update_length t o in omega (arith, i, j, k, m, u)
  simply_length (tree.bump t o l) pc = let i = locate_length l pc 0 in let k = length-append (locate_code l pc 0) (bump_code t o) in let u = bump_length t o in omega (arith, i, k, u)
  simply_length (tree.perform f xs) pc = let i = values_length xs (suc pc) 0 in let j = one_behind (values_code xs (suc pc) 0) (i_call 0 f 0 (count xs)) in omega (arith, i, j)
  simply_length (tree.assert t c) pc =
      let l = suc pc + length (cond_code c (suc pc) 0 0 0) in let i = cond_length_is c (suc pc) 0 (suc l) l in
      let j = length-append (cond_code c (suc pc) 0 (suc l) l) (i_stop Assert (line t) ∷ []) in omega (arith, i, j)
  simply_length (tree.assume c) pc =
      let l = suc pc + length (cond_code c (suc pc) 0 0 0) in let i = cond_length_is c (suc pc) 0 (suc (suc l)) l in
      let j = length-append (cond_code c (suc pc) 0 (suc (suc l)) l) (i_number 0 (pos 0) ∷ i_unless 0 ∷ []) in omega (arith, i, j)
  simply_length (tree.abort t) pc = refl
  simply_length (tree.take l) pc = let i = locate_length l (suc pc) 0 in let j = one_behind (locate_code l (suc pc) 0) (i_take 0) in omega (arith, i, j)

  pub start_length : (slot : ℕ) (a : Option Val) (pc : ℕ) → length (start_code line slot a pc) ≡ start_size a
  start_length slot None pc = refl
  start_length slot (Some a) pc = let i = value_length a (suc pc) 1 in let j = one_behind (value_code a (suc pc) 1) (i_store 0 1) in omega (arith, i, j)

  pub declare_length : (t : Declarator) (pc : ℕ) → length (declare_code line t pc) ≡ declare_size t
  declare_length t pc = let i = start_length t.slot t.start (suc (suc pc)) in omega (arith, i)

  pub declare_all_length : (ts : List Declarator) (pc : ℕ) → length (declare_all_code line ts pc) ≡ declare_all_size ts
  declare_all_length [] pc = refl
  declare_all_length (t ∷ ts) pc =
      let ct = declare_code line t pc in let i = declare_length t pc in let j = declare_all_length ts (pc + length ct) in
      let k = length-append ct (declare_all_code line ts (pc + length ct)) in omega (arith, i, j, k)

  pub simply_if_length : (a : Option Simple) (pc : ℕ) → length (simply_if_code line a pc) ≡ simply_if_size a
  simply_if_length None pc = refl
  simply_if_length (Some a) pc = let i = simply_length a (suc pc) in omega (arith, i)

  pub cond_if_length_is : (a : Option Cond) (pc y z : ℕ) → length (cond_if_code line a pc y z) ≡ cond_if_size a
  cond_if_length_is None pc y z = refl
  cond_if_length_is (Some c) pc y z = cond_length_is c pc 0 y z

  zero_length : (c : Cell) → length (zero_code c 0) ≡ 1
  zero_length int_cell = refl
  zero_length (ptr_cell t) = refl

  module _ (res : Cell) where
    pub return_length : (a : Option Val) (pc : ℕ) → length (return_code line res a pc) ≡ return_size a
    return_length None pc = let i = zero_length res in let j = one_behind (zero_code res 0) (i_return 0) in omega (arith, i, j)
    return_length (Some a) pc = let i = value_length a pc 0 in let j = one_behind (value_code a pc 0) (i_return 0) in omega (arith, i, j)

    mutual
      pub exec_length : (s : Stmt) (pc b k : ℕ) → length (exec_code line res s pc b k) ≡ exec_size s
      exec_length tree.empty pc b k = refl
      exec_length (tree.block parts) pc b k = let i = parts_length_is parts (suc pc) b k in omega (arith, i)
      exec_length (tree.choice c a) pc b k =
          let l = suc pc + length (cond_code c (suc pc) 0 0 0) in let ca = exec_code line res a l b k in let cc = cond_code c (suc pc) 0 l (l + length ca) in
          let i = cond_length_is c (suc pc) 0 l (l + length ca) in let j = exec_length a l b k in let m = length-append cc ca in omega (arith, i, j, m)
      exec_length (tree.choice_else c a e) pc b k =
          let l = suc pc + length (cond_code c (suc pc) 0 0 0) in let ca = exec_code line res a l b k in let m = l + length ca in
          let ce = exec_code line res e (suc m) b k in let tail = i_jump (suc m + length ce) ∷ ce in let cc = cond_code c (suc pc) 0 l (suc m) in
          let i = cond_length_is c (suc pc) 0 l (suc m) in let j = exec_length a l b k in let p = exec_length e (suc m) b k in
          let q = length-append cc (ca ++ tail) in let r = length-append ca tail in omega (arith, i, j, p, q, r)
      exec_length (tree.loop c body) pc b k =
          let l = suc pc + length (cond_code c (suc pc) 0 0 0) in let m = l + length (exec_code line res body l 0 0) in
          let cb = exec_code line res body l (suc m) m in let cc = cond_code c (suc pc) 0 l (suc m) in
          let i = cond_length_is c (suc pc) 0 l (suc m) in let j = exec_length body l (suc m) m in
          let q = length-append cc (cb ++ i_jump (suc pc) ∷ []) in let r = one_behind cb (i_jump (suc pc)) in omega (arith, i, j, q, r)
      exec_length (tree.repeat body c) pc b k =
          let m = suc pc + length (exec_code line res body (suc pc) 0 0) in let l = m + length (cond_code c m 0 0 0) in
          let cb = exec_code line res body (suc pc) (suc l) m in let cc = cond_code c m 0 l (suc l) in
          let i = cond_length_is c m 0 l (suc l) in let j = exec_length body (suc pc) (suc l) m in
          let q = length-append cb (cc ++ i_jump (suc pc) ∷ []) in let r = one_behind cc (i_jump (suc pc)) in omega (arith, i, j, q, r)
      exec_length (tree.loop_for first ds c next body) pc b k =
          let cf = simply_if_code line first (suc pc) in let p0 = suc pc + length cf in let cd = declare_all_code line ds p0 in let p1 = p0 + length cd in
          let l = p1 + length (cond_if_code line c p1 0 0) in let m = l + length (exec_code line res body l 0 0) in let cn = simply_if_code line next m in let q = m + length cn in
          let cc = cond_if_code line c p1 l (suc q) in let cb = exec_code line res body l (suc q) m in
          let r3 = cn ++ i_jump p1 ∷ [] in let r2 = cb ++ r3 in let r1 = cc ++ r2 in let r0 = cd ++ r1 in
          let l0 = length-append cf r0 in let l1 = length-append cd r1 in let l2 = length-append cc r2 in let l3 = length-append cb r3 in let l4 = one_behind cn (i_jump p1) in
          let i0 = simply_if_length first (suc pc) in let i1 = declare_all_length ds p0 in let i2 = cond_if_length_is c p1 l (suc q) in let i3 = exec_length body l (suc q) m in let i4 = simply_if_length next m in
          omega (arith, l0, l1, l2, l3, l4, i0, i1, i2, i3, i4)
      exec_length (tree.return a) pc b k = let i = return_length a (suc pc) in omega (arith, i)
      exec_length tree.break pc b k = refl
      exec_length tree.continue pc b k = refl
      exec_length (tree.simple a) pc b k = let i = simply_length a (suc pc) in omega (arith, i)

      pub parts_length_is : (ps : Parts) (pc b k : ℕ) → length (parts_code line res ps pc b k) ≡ parts_size ps
      parts_length_is tree.finish pc b k = refl
      parts_length_is (tree.declare t rest) pc b k =
          let ct = declare_code line t pc in let i = declare_length t pc in let j = parts_length_is rest (pc + length ct) b k in
          let m = length-append ct (parts_code line res rest (pc + length ct) b k) in omega (arith, i, j, m)
      parts_length_is (tree.then a rest) pc b k =
          let ca = exec_code line res a pc b k in let i = exec_length a pc b k in let j = parts_length_is rest (pc + length ca) b k in
          let m = length-append ca (parts_code line res rest (pc + length ca) b k) in omega (arith, i, j, m)
