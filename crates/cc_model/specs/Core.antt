-- The program with its names, types and sites resolved: one node for each node of the source tree.
use Rattle.std.specs.Prelude.{ℕ, ℤ, List, Option}

-- the type of a cell: a number, or a pointer to a type by its number
pub data Cell : Type 0 where
  int_cell : Cell
  ptr_cell : (target : ℕ) → Cell

-- a type, by its number, and its cells
pub record Layout : Type 0 where
  pub type : ℕ
  pub cells : List Cell

pub data Op : Type 0 where
  add sub mul quot rem : Op

pub data Cmp : Type 0 where
  eq ne lt gt le ge : Cmp

-- Val: an expression for its value. Cond: an expression for its truth. Loc: a place. A number t is the token of the site.
mutual
  pub data Val : Type 0 where
    number : (z : ℤ) → Val
    nil : Val
    read : (l : Loc) → Val
    arith : (t : ℕ) → (o : Op) → (a b : Val) → Val
    negate : (t : ℕ) → (a : Val) → Val
    truth : (c : Cond) → Val
    address : (l : Loc) → Val
    call : (f : ℕ) → (args : Vals) → Val
    malloc : (type : Layout) → Val

  pub data Cond : Type 0 where
    compare : (t : ℕ) → (o : Cmp) → (a b : Val) → Cond
    opposite : (c : Cond) → Cond
    both : (a b : Cond) → Cond
    either : (a b : Cond) → Cond
    test : (t : ℕ) → (a : Val) → Cond

  pub data Loc : Type 0 where
    local : (slot : ℕ) → Loc
    global : (cell : ℕ) → Loc
    deref : (t : ℕ) → (a : Val) → Loc
    arrow : (t : ℕ) → (a : Val) → (cells : ℕ) → Loc
    dot : (l : Loc) → (cells : ℕ) → Loc
    index : (t : ℕ) → (l : Loc) → (i : Val) → (length width : ℕ) → Loc

  pub data Vals : Type 0 where
    done : Vals
    more : (a : Val) → (rest : Vals) → Vals

pub data Simple : Type 0 where
  assign : (l : Loc) → (a : Val) → Simple
  update : (t : ℕ) → (o : Op) → (l : Loc) → (a : Val) → Simple
  bump : (t : ℕ) → (o : Op) → (l : Loc) → Simple
  perform : (f : ℕ) → (args : Vals) → Simple
  assert : (t : ℕ) → (c : Cond) → Simple
  assume : (c : Cond) → Simple
  abort : (t : ℕ) → Simple
  take : (l : Loc) → Simple

pub record Declarator : Type 0 where
  pub slot : ℕ
  pub type : Layout
  pub start : Option Val

mutual
  pub data Stmt : Type 0 where
    empty : Stmt
    block : (parts : Parts) → Stmt
    choice : (c : Cond) → (a : Stmt) → Stmt
    choice_else : (c : Cond) → (a b : Stmt) → Stmt
    loop : (c : Cond) → (body : Stmt) → Stmt
    repeat : (body : Stmt) → (c : Cond) → Stmt
    loop_for : (first : Option Simple) → (decls : List Declarator) → (c : Option Cond) → (next : Option Simple) → (body : Stmt) → Stmt
    return : (a : Option Val) → Stmt
    break : Stmt
    continue : Stmt
    simple : (s : Simple) → Stmt

  pub data Parts : Type 0 where
    finish : Parts
    declare : (d : Declarator) → (rest : Parts) → Parts
    then : (s : Stmt) → (rest : Parts) → Parts

pub record Func : Type 0 where
  pub params : List Cell
  pub result : Cell
  pub body : Parts

-- what a cell of a global starts with
pub data Start : Type 0 where
  start_number : (z : ℤ) → Start
  start_null : Start

-- a program: its functions, the line of each token, the cells of each type, the cells of its globals, and the tested function
pub record Program : Type 0 where
  pub funcs : List Func
  pub line : ℕ → ℕ
  pub layouts : ℕ → List Cell
  pub globals : List Start
  pub entry : ℕ
