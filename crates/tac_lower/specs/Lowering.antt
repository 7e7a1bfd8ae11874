-- The code of a program: the instructions of each expression, condition, statement and function, one after another.
-- A condition is lowered by jumps: it leads to one place where it is true, and to another where it is false.
-- pc is the place of the first instruction; a result stands in the temporary n, and those below n stay as they are.
use Rattle.std.specs.Prelude.{ℕ, zero, suc, ◌+◌, pos, List, [], ◌∷◌, ◌++◌, length, Option, Some, None}
use Rattle.cc_base.specs.declared.ends.FaultKind.TheVariants.{Assert, Abort}
use Rattle.cc_model.specs.Core as tree
use Rattle.cc_model.specs.Core.{Cell, Op, Cmp, Val, Cond, Loc, Vals, Simple, Declarator, Stmt, Parts, Func}
use Rattle.cc_model.specs.Instructions.{Instruction, i_step, i_number, i_nil, i_copy, i_arith, i_divisor, i_negate, i_compare, i_truth, i_slot, i_global, i_access, i_offset, i_index, i_load, i_store, i_local, i_malloc, i_take, i_jump, i_jump_zero, i_call, i_return, i_stop, i_unless}

-- ---- expressions

abbrev pub division : ℕ → Op → ℕ → List Instruction
division t o n = i_divisor t n (suc n) ∷ i_arith t o n n (suc n) ∷ []

-- the operands stand in n and the next
abbrev pub arith_code : ℕ → Op → ℕ → List Instruction
arith_code t tree.quot n = division t tree.quot n
arith_code t tree.rem n = division t tree.rem n
arith_code t o n = i_arith t o n n (suc n) ∷ []

-- by the decision's result in n to one of two places
abbrev pub sides_code : ℕ → (true_at false_at : ℕ) → List Instruction
sides_code n true_at false_at = i_jump_zero n false_at ∷ i_jump true_at ∷ []

-- at pc where a condition is true, at pc + 2 where it is false: the number 1 or 0
abbrev pub number_code : ℕ → ℕ → List Instruction
number_code n pc = i_number n (pos 1) ∷ i_jump (suc (suc (suc pc))) ∷ i_number n (pos 0) ∷ []

-- a comparison, of the codes of its operands
abbrev pub compare_code : ℕ → Cmp → ℕ → List Instruction → List Instruction → List Instruction
compare_code t o n a b = i_step ∷ (a ++ (b ++ i_compare t o n n (suc n) ∷ []))

-- a value's truth, of its code
abbrev pub test_code : ℕ → ℕ → List Instruction → List Instruction
test_code t n a = a ++ i_truth t n n ∷ []

-- the first where the condition is a single decision, else the second
abbrev pub if_single : {A : Type 0} → Cond → A → A → A
if_single (tree.compare t o a b) x y = x
if_single (tree.test t a) x y = x
if_single (tree.opposite c) x y = y
if_single (tree.both a b) x y = y
if_single (tree.either a b) x y = y

abbrev mutual
  pub value_code : Val → ℕ → ℕ → List Instruction
  value_code (tree.number z) pc n = i_number n z ∷ []
  value_code tree.nil pc n = i_nil n ∷ []
  value_code (tree.read l) pc n = locate_code l pc n ++ i_load n n ∷ []
  value_code (tree.arith t o a b) pc n = i_step ∷ (value_code a (suc pc) n ++ (value_code b (suc pc + length (value_code a (suc pc) n)) (suc n) ++ arith_code t o n))
  value_code (tree.negate t a) pc n = i_step ∷ (value_code a (suc pc) n ++ i_negate t n n ∷ [])
  -- the decision's own result where it is a single one, else 1 or 0 at the end of the jumps
  value_code (tree.truth c) pc n = let l = pc + length (cond_code c pc n 0 0) in
      if_single c (decision_code c pc n) (cond_code c pc n l (suc (suc l)) ++ number_code n l)
  value_code (tree.address l) pc n = i_step ∷ locate_code l (suc pc) n
  value_code (tree.call f args) pc n = i_step ∷ (values_code args (suc pc) n ++ i_call n f n (count args) ∷ [])
  value_code (tree.malloc type) pc n = i_step ∷ i_malloc n type ∷ []

  -- the code of a single decision
  pub decision_code : Cond → ℕ → ℕ → List Instruction
  decision_code (tree.compare t o a b) pc n = compare_code t o n (value_code a (suc pc) n) (value_code b (suc pc + length (value_code a (suc pc) n)) (suc n))
  decision_code (tree.test t a) pc n = test_code t n (value_code a pc n)
  decision_code (tree.opposite c) pc n = []
  decision_code (tree.both a b) pc n = []
  decision_code (tree.either a b) pc n = []

  -- the code of a condition, which leads to `true_at` where it is true and to `false_at` where it is false
  pub cond_code : Cond → ℕ → ℕ → (true_at false_at : ℕ) → List Instruction
  cond_code (tree.compare t o a b) pc n y z = compare_code t o n (value_code a (suc pc) n) (value_code b (suc pc + length (value_code a (suc pc) n)) (suc n)) ++ sides_code n y z
  cond_code (tree.test t a) pc n y z = test_code t n (value_code a pc n) ++ sides_code n y z
  cond_code (tree.opposite c) pc n y z = i_step ∷ cond_code c (suc pc) n z y
  cond_code (tree.both a b) pc n y z = let l = suc pc + length (cond_code a (suc pc) n 0 0) in
      i_step ∷ (cond_code a (suc pc) n l z ++ cond_code b l n y z)
  cond_code (tree.either a b) pc n y z = let l = suc pc + length (cond_code a (suc pc) n 0 0) in
      i_step ∷ (cond_code a (suc pc) n y l ++ cond_code b l n y z)

  pub locate_code : Loc → ℕ → ℕ → List Instruction
  locate_code (tree.local s) pc n = i_slot n s ∷ []
  locate_code (tree.global c) pc n = i_global n c ∷ []
  locate_code (tree.deref t a) pc n = i_step ∷ (value_code a (suc pc) n ++ i_access t n n ∷ [])
  locate_code (tree.arrow t a c) pc n = i_step ∷ (value_code a (suc pc) n ++ (i_access t n n ∷ i_offset n n c ∷ []))
  locate_code (tree.dot l c) pc n = i_step ∷ (locate_code l (suc pc) n ++ i_offset n n c ∷ [])
  locate_code (tree.index t l i m w) pc n = i_step ∷ (locate_code l (suc pc) n ++ (value_code i (suc pc + length (locate_code l (suc pc) n)) (suc n) ++ i_index t n n (suc n) m w ∷ []))

  pub values_code : Vals → ℕ → ℕ → List Instruction
  values_code tree.done pc n = []
  values_code (tree.more a rest) pc n = value_code a pc n ++ values_code rest (pc + length (value_code a pc n)) (suc n)

  pub count : Vals → ℕ
  count tree.done = 0
  count (tree.more a rest) = suc (count rest)

-- ---- statements: `brk` and `cont` are where `break` and `continue` go, and `line` is the program's

abbrev pub zero_code : Cell → ℕ → List Instruction
zero_code tree.int_cell n = i_number n (pos 0) ∷ []
zero_code (tree.ptr_cell t) n = i_nil n ∷ []

abbrev pub update_code : ℕ → Op → List Instruction
update_code t o = i_step ∷ i_load 2 1 ∷ i_copy 3 0 ∷ (arith_code t o 2 ++ i_store 1 2 ∷ [])

abbrev pub bump_code : ℕ → Op → List Instruction
bump_code t o = i_step ∷ i_load 1 0 ∷ i_number 2 (pos 1) ∷ (arith_code t o 1 ++ i_store 0 1 ∷ [])

module _ (line : ℕ → ℕ) where
  abbrev pub simply_code : Simple → ℕ → List Instruction
  simply_code (tree.assign l a) pc = value_code a pc 0 ++ (locate_code l (pc + length (value_code a pc 0)) 1 ++ i_store 1 0 ∷ [])
  simply_code (tree.update t o l a) pc = value_code a pc 0 ++ (locate_code l (pc + length (value_code a pc 0)) 1 ++ update_code t o)
  simply_code (tree.bump t o l) pc = locate_code l pc 0 ++ bump_code t o
  simply_code (tree.perform f xs) pc = i_step ∷ (values_code xs (suc pc) 0 ++ i_call 0 f 0 (count xs) ∷ [])
  simply_code (tree.assert t c) pc = let l = suc pc + length (cond_code c (suc pc) 0 0 0) in
      i_step ∷ (cond_code c (suc pc) 0 (suc l) l ++ i_stop Assert (line t) ∷ [])
  simply_code (tree.assume c) pc = let l = suc pc + length (cond_code c (suc pc) 0 0 0) in
      i_step ∷ (cond_code c (suc pc) 0 (suc (suc l)) l ++ i_number 0 (pos 0) ∷ i_unless 0 ∷ [])
  simply_code (tree.abort t) pc = i_step ∷ i_stop Abort (line t) ∷ []
  simply_code (tree.take l) pc = i_step ∷ (locate_code l (suc pc) 0 ++ i_take 0 ∷ [])

  abbrev pub start_code : ℕ → Option Val → ℕ → List Instruction
  start_code slot None pc = []
  start_code slot (Some a) pc = i_slot 0 slot ∷ (value_code a (suc pc) 1 ++ i_store 0 1 ∷ [])

  abbrev pub declare_code : Declarator → ℕ → List Instruction
  declare_code t pc = i_step ∷ i_local t.slot t.type ∷ start_code t.slot t.start (suc (suc pc))

  abbrev pub declare_all_code : List Declarator → ℕ → List Instruction
  declare_all_code [] pc = []
  declare_all_code (t ∷ ts) pc = declare_code t pc ++ declare_all_code ts (pc + length (declare_code t pc))

  abbrev pub simply_if_code : Option Simple → ℕ → List Instruction
  simply_if_code None pc = []
  simply_if_code (Some a) pc = i_step ∷ simply_code a (suc pc)

  -- without a condition it is true
  abbrev pub cond_if_code : Option Cond → ℕ → (true_at false_at : ℕ) → List Instruction
  cond_if_code None pc y z = i_jump y ∷ []
  cond_if_code (Some c) pc y z = cond_code c pc 0 y z

  module _ (res : Cell) where
    abbrev pub return_code : Option Val → ℕ → List Instruction
    return_code None pc = zero_code res 0 ++ i_return 0 ∷ []
    return_code (Some a) pc = value_code a pc 0 ++ i_return 0 ∷ []

    abbrev mutual
      pub exec_code : Stmt → (pc brk cont : ℕ) → List Instruction
      exec_code tree.empty pc brk cont = i_step ∷ []
      exec_code (tree.block parts) pc brk cont = i_step ∷ parts_code parts (suc pc) brk cont
      exec_code (tree.choice c a) pc brk cont = let l = suc pc + length (cond_code c (suc pc) 0 0 0) in
          i_step ∷ (cond_code c (suc pc) 0 l (l + length (exec_code a l brk cont)) ++ exec_code a l brk cont)
      exec_code (tree.choice_else c a b) pc brk cont = let l = suc pc + length (cond_code c (suc pc) 0 0 0) in
          let m = l + length (exec_code a l brk cont) in
          i_step ∷ (cond_code c (suc pc) 0 l (suc m) ++ (exec_code a l brk cont ++ (i_jump (suc m + length (exec_code b (suc m) brk cont)) ∷ exec_code b (suc m) brk cont)))
      exec_code (tree.loop c body) pc brk cont = let l = suc pc + length (cond_code c (suc pc) 0 0 0) in
          let m = l + length (exec_code body l 0 0) in
          i_step ∷ (cond_code c (suc pc) 0 l (suc m) ++ (exec_code body l (suc m) m ++ i_jump (suc pc) ∷ []))
      exec_code (tree.repeat body c) pc brk cont = let m = suc pc + length (exec_code body (suc pc) 0 0) in
          let l = m + length (cond_code c m 0 0 0) in
          i_step ∷ (exec_code body (suc pc) (suc l) m ++ (cond_code c m 0 l (suc l) ++ i_jump (suc pc) ∷ []))
      exec_code (tree.loop_for first decls c next body) pc brk cont = let top0 = suc pc + length (simply_if_code first (suc pc)) in
          let top = top0 + length (declare_all_code decls top0) in
          let l = top + length (cond_if_code c top 0 0) in
          let m = l + length (exec_code body l 0 0) in
          let q = m + length (simply_if_code next m) in
          i_step ∷ (simply_if_code first (suc pc) ++ (declare_all_code decls top0 ++ (cond_if_code c top l (suc q) ++ (exec_code body l (suc q) m ++ (simply_if_code next m ++ i_jump top ∷ [])))))
      exec_code (tree.return a) pc brk cont = i_step ∷ return_code a (suc pc)
      exec_code tree.break pc brk cont = i_step ∷ i_jump brk ∷ []
      exec_code tree.continue pc brk cont = i_step ∷ i_jump cont ∷ []
      exec_code (tree.simple a) pc brk cont = i_step ∷ simply_code a (suc pc)

      pub parts_code : Parts → (pc brk cont : ℕ) → List Instruction
      parts_code tree.finish pc brk cont = []
      parts_code (tree.declare t rest) pc brk cont = declare_code t pc ++ parts_code rest (pc + length (declare_code t pc)) brk cont
      parts_code (tree.then a rest) pc brk cont = exec_code a pc brk cont ++ parts_code rest (pc + length (exec_code a pc brk cont)) brk cont

  -- a function: its step, its body, and 0 or NULL where the body ends without a return
  abbrev pub func_code : Func → ℕ → List Instruction
  func_code g pc = let e = suc pc + length (parts_code g.result g.body (suc pc) 0 0) in
      i_step ∷ (parts_code g.result g.body (suc pc) e e ++ (zero_code g.result 0 ++ i_return 0 ∷ []))

  -- the functions' codes one after another, from the place pc on, and where each begins
  abbrev pub code_from : List Func → ℕ → List Instruction
  code_from [] pc = []
  code_from (f ∷ fs) pc = func_code f pc ++ code_from fs (pc + length (func_code f pc))

  abbrev pub first_from : List Func → ℕ → ℕ → ℕ
  first_from [] pc i = pc
  first_from (f ∷ fs) pc zero = pc
  first_from (f ∷ fs) pc (suc i) = first_from fs (pc + length (func_code f pc)) i
