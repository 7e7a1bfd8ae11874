-- How many instructions the code of each thing has. It hangs neither on where the code stands nor on where its jumps go.
use Rattle.std.specs.Prelude.{ℕ, ◌+◌, List, [], ◌∷◌, Option, Some, None}
use Rattle.cc_model.specs.Core as tree
use Rattle.cc_model.specs.Core.{Cell, Op, Val, Cond, Loc, Vals, Simple, Declarator, Stmt, Parts, Func}
use Rattle.tac_lower.specs.Lowering.{if_single}

abbrev pub op_size : Op → ℕ
op_size tree.quot = 2
op_size tree.rem = 2
op_size o = 1

abbrev mutual
  pub value_size : Val → ℕ
  value_size (tree.number z) = 1
  value_size tree.nil = 1
  value_size (tree.read l) = locate_size l + 1
  value_size (tree.arith t o a b) = 1 + value_size a + value_size b + op_size o
  value_size (tree.negate t a) = 2 + value_size a
  value_size (tree.truth c) = if_single c (decision_size c) (cond_size c + 3)
  value_size (tree.address l) = 1 + locate_size l
  value_size (tree.call f args) = 2 + values_size args
  value_size (tree.malloc type) = 2

  pub decision_size : Cond → ℕ
  decision_size (tree.compare t o a b) = 2 + value_size a + value_size b
  decision_size (tree.test t a) = 1 + value_size a
  decision_size (tree.opposite c) = 0
  decision_size (tree.both a b) = 0
  decision_size (tree.either a b) = 0

  pub cond_size : Cond → ℕ
  cond_size (tree.compare t o a b) = 4 + value_size a + value_size b
  cond_size (tree.test t a) = 3 + value_size a
  cond_size (tree.opposite c) = 1 + cond_size c
  cond_size (tree.both a b) = 1 + cond_size a + cond_size b
  cond_size (tree.either a b) = 1 + cond_size a + cond_size b

  pub locate_size : Loc → ℕ
  locate_size (tree.local s) = 1
  locate_size (tree.global c) = 1
  locate_size (tree.deref t a) = 2 + value_size a
  locate_size (tree.arrow t a c) = 3 + value_size a
  locate_size (tree.dot l c) = 2 + locate_size l
  locate_size (tree.index t l i m w) = 2 + locate_size l + value_size i

  pub values_size : Vals → ℕ
  values_size tree.done = 0
  values_size (tree.more a rest) = value_size a + values_size rest

abbrev pub simply_size : Simple → ℕ
simply_size (tree.assign l a) = value_size a + locate_size l + 1
simply_size (tree.update t o l a) = value_size a + locate_size l + 4 + op_size o
simply_size (tree.bump t o l) = locate_size l + 4 + op_size o
simply_size (tree.perform f xs) = 2 + values_size xs
simply_size (tree.assert t c) = 2 + cond_size c
simply_size (tree.assume c) = 3 + cond_size c
simply_size (tree.abort t) = 2
simply_size (tree.take l) = 2 + locate_size l

abbrev pub start_size : Option Val → ℕ
start_size None = 0
start_size (Some a) = 2 + value_size a

abbrev pub declare_size : Declarator → ℕ
declare_size t = 2 + start_size t.start

abbrev pub declare_all_size : List Declarator → ℕ
declare_all_size [] = 0
declare_all_size (t ∷ ts) = declare_size t + declare_all_size ts

abbrev pub simply_if_size : Option Simple → ℕ
simply_if_size None = 0
simply_if_size (Some a) = 1 + simply_size a

abbrev pub cond_if_size : Option Cond → ℕ
cond_if_size None = 1
cond_if_size (Some c) = cond_size c

abbrev pub return_size : Option Val → ℕ
return_size None = 2
return_size (Some a) = value_size a + 1

abbrev mutual
  pub exec_size : Stmt → ℕ
  exec_size tree.empty = 1
  exec_size (tree.block parts) = 1 + parts_size parts
  exec_size (tree.choice c a) = 1 + cond_size c + exec_size a
  exec_size (tree.choice_else c a b) = 2 + cond_size c + exec_size a + exec_size b
  exec_size (tree.loop c body) = 2 + cond_size c + exec_size body
  exec_size (tree.repeat body c) = 2 + cond_size c + exec_size body
  exec_size (tree.loop_for first decls c next body) = 2 + simply_if_size first + declare_all_size decls + cond_if_size c + exec_size body + simply_if_size next
  exec_size (tree.return a) = 1 + return_size a
  exec_size tree.break = 2
  exec_size tree.continue = 2
  exec_size (tree.simple a) = 1 + simply_size a

  pub parts_size : Parts → ℕ
  parts_size tree.finish = 0
  parts_size (tree.declare t rest) = declare_size t + parts_size rest
  parts_size (tree.then a rest) = exec_size a + parts_size rest
