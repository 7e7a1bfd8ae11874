-- The source tree with its names, types and sites resolved: its core tree, one node for each node of the source tree.
-- What each form computes is C's (ISO/IEC 9899:2011, 6.5 to 6.9). The sites are this project's own: that of an operator
-- stands at its token, that of a truth which is no comparison at the first token of its expression.
use Rattle.std.specs.Prelude.{ℕ, ℤ, Bool, true, false, List, [], ◌∷◌, map, Option, Some, None}
use Rattle.cc_model.specs.declared.checked.Target.{Target}
use Rattle.cc_model.specs.declared.checked.Target.TheVariants as target
use Rattle.cc_model.specs.declared.trees.Expr.{Expr}
use Rattle.cc_model.specs.declared.trees.Expr.TheOpen as expr
use Rattle.cc_model.specs.declared.trees.Expr.TheOpen.{Expr-F}
use Rattle.cc_model.specs.declared.trees.Expr.TheFolds.{fold-Expr}
use Rattle.cc_model.specs.declared.trees.Simple as source_simple
use Rattle.cc_model.specs.declared.trees.Simple.TheVariants as simple
use Rattle.cc_model.specs.declared.trees.Head.{Head}
use Rattle.cc_model.specs.declared.trees.Head.TheVariants as head
use Rattle.cc_model.specs.declared.trees.Decl.{Decl}
use Rattle.cc_model.specs.declared.trees.Declared.{Declared}
use Rattle.cc_model.specs.declared.trees.Initializer.{Initializer}
use Rattle.cc_model.specs.declared.trees.Param.{Param}
use Rattle.cc_model.specs.declared.trees.Stmt as source_stmt
use Rattle.cc_model.specs.declared.trees.Part.{Part}
use Rattle.cc_model.specs.declared.trees.Part.TheOpen as stmt
use Rattle.cc_model.specs.declared.trees.Part.TheOpen.{Part-F, Stmt-F}
use Rattle.cc_model.specs.declared.trees.Part.TheFolds.{fold-Part, fold-Stmt}
use Rattle.cc_model.specs.declared.trees.Func as source_func
use Rattle.cc_model.specs.Core as core
use Rattle.cc_model.specs.Core.{Cell, int_cell, Layout, Val, Cond, Loc, Vals, Simple, Declarator, Stmt, Parts, Func}

-- What a checker tells of tokens, by their index.
pub record Facts : Type 0 where
  -- what a name means: a variable, a function or a field; of a declarator's and a parameter's name too
  pub names : ℕ → Option Target
  -- the first cell of a global, by the global's number
  pub global_cells : ℕ → ℕ
  -- what a `malloc` makes, by its word
  pub made : ℕ → Layout
  -- the type of a declared variable or parameter, by its name
  pub declared : ℕ → Layout
  -- the length of the array that an index goes into, by its `[`
  pub lengths : ℕ → ℕ
  -- the number of cells of that array's element, by the same `[`
  pub widths : ℕ → ℕ
  -- whether a number stands for NULL
  pub is_null : ℕ → Bool
  -- what a function gives, by its name; an int cell for `void`
  pub results : ℕ → Cell

-- an expression for its value, for its truth, and as a place
pub record Read : Type 0 where
  pub value : Val
  pub truth : Cond
  pub place : Loc

-- a part of a block: the declarators of a declaration, or a statement
pub data Piece : Type 0 where
  declares : (ds : List Declarator) → Piece
  does : (s : Stmt) → Piece

-- of an expression that is no place; a well typed program doesn't use it
abbrev pub no_place : Loc
no_place = core.global 0

-- an expression whose truth is that its value isn't 0 or NULL (6.8.4.1): tested at the expression's first token
abbrev pub by_value : ℕ → Val → Read
by_value first v = record { value = v; truth = core.test first v; place = no_place }

-- a comparison, `!`, `&&` or `||`: its value is 1 or 0 by its truth (6.5.3.3, 6.5.8, 6.5.9, 6.5.13, 6.5.14)
abbrev pub by_truth : Cond → Read
by_truth c = record { value = core.truth c; truth = c; place = no_place }

-- a place: its value is read from it (6.3.2.1)
abbrev pub by_place : ℕ → Loc → Read
by_place first l = record { value = core.read l; truth = core.test first (core.read l); place = l }

-- arguments, from left to right (the order is this project's own)
abbrev pub vals_of : List Read → Vals
vals_of [] = core.done
vals_of (a ∷ l) = core.more a.value (vals_of l)

-- the number 0 where a pointer is due is NULL (6.3.2.3)
abbrev pub number_or_null : Bool → ℤ → Val
number_or_null true z = core.nil
number_or_null false z = core.number z

-- the function that a name means
abbrev pub function_named : Option Target → ℕ
function_named (Some (target.Func n)) = n
function_named _ = 0

-- the offset of the field that a name means, in cells
abbrev pub offset_named : Option Target → ℕ
offset_named (Some (target.Field n)) = n
offset_named _ = 0

-- the local that a name means
abbrev pub slot_named : Option Target → ℕ
slot_named (Some (target.Local n)) = n
slot_named _ = 0

-- the cell of a parameter: it is a number or a pointer
abbrev pub first_cell : List Cell → Cell
first_cell [] = int_cell
first_cell (c ∷ cs) = c

-- declarators, in order, and then the rest
abbrev pub declared_before : List Declarator → Parts → Parts
declared_before [] rest = rest
declared_before (d ∷ ds) rest = core.declare d (declared_before ds rest)

-- the parts of a block, in order
abbrev pub parts_of : List Piece → Parts
parts_of [] = core.finish
parts_of (declares ds ∷ l) = declared_before ds (parts_of l)
parts_of (does s ∷ l) = core.then s (parts_of l)

module _ (facts : Facts) where
  -- the variable that a name means
  abbrev pub variable_named : Option Target → Loc
  variable_named (Some (target.Local n)) = core.local n
  variable_named (Some (target.Global n)) = core.global (facts.global_cells n)
  variable_named _ = no_place

  -- ---- expressions: each variant, over what its parts are; `f` is the first token, `t` the operator's, name's or word's

  abbrev pub expr_level : Expr-F Read → Read
  expr_level (expr.Or f t a b) = by_truth (core.either a.truth b.truth)
  expr_level (expr.And f t a b) = by_truth (core.both a.truth b.truth)
  expr_level (expr.Equal f t a b) = by_truth (core.compare t core.eq a.value b.value)
  expr_level (expr.Unequal f t a b) = by_truth (core.compare t core.ne a.value b.value)
  expr_level (expr.Less f t a b) = by_truth (core.compare t core.lt a.value b.value)
  expr_level (expr.Greater f t a b) = by_truth (core.compare t core.gt a.value b.value)
  expr_level (expr.AtMost f t a b) = by_truth (core.compare t core.le a.value b.value)
  expr_level (expr.AtLeast f t a b) = by_truth (core.compare t core.ge a.value b.value)
  expr_level (expr.Sum f t a b) = by_value f (core.arith t core.add a.value b.value)
  expr_level (expr.Difference f t a b) = by_value f (core.arith t core.sub a.value b.value)
  expr_level (expr.Product f t a b) = by_value f (core.arith t core.mul a.value b.value)
  expr_level (expr.Quotient f t a b) = by_value f (core.arith t core.quot a.value b.value)
  expr_level (expr.Remainder f t a b) = by_value f (core.arith t core.rem a.value b.value)
  expr_level (expr.Minus f t a) = by_value f (core.negate t a.value)
  expr_level (expr.Not f t a) = by_truth (core.opposite a.truth)
  expr_level (expr.Deref f t a) = by_place f (core.deref t a.value)
  expr_level (expr.Address f t a) = by_value f (core.address a.place)
  expr_level (expr.Dot f t a name) = by_place f (core.dot a.place (offset_named (facts.names name)))
  expr_level (expr.Arrow f t a name) = by_place f (core.arrow t a.value (offset_named (facts.names name)))
  expr_level (expr.Index f t a i) = by_place f (core.index t a.place i.value (facts.lengths t) (facts.widths t))
  expr_level (expr.Name f t) = by_place f (variable_named (facts.names t))
  expr_level (expr.Number f t z) = by_value f (number_or_null (facts.is_null t) z)
  expr_level (expr.Null f t) = by_value f core.nil
  expr_level (expr.Call f t args) = by_value f (core.call (function_named (facts.names t)) (vals_of args))
  expr_level (expr.Malloc f t cast made) = by_value f (core.malloc (facts.made t))

  abbrev pub resolve : Expr → Read
  resolve e = fold-Expr Read expr_level e

  abbrev pub value_of : Expr → Val
  value_of e = (resolve e).value

  abbrev pub truth_of : Expr → Cond
  truth_of e = (resolve e).truth

  abbrev pub place_of : Expr → Loc
  place_of e = (resolve e).place

  -- ---- simple statements (6.5.16, 6.5.3.1, 6.5.2.2); `t` is the operator's or the word's token

  abbrev pub simple_of : source_simple.Simple → Simple
  simple_of (simple.Assign t l e) = core.assign (place_of l) (value_of e)
  simple_of (simple.AddTo t l e) = core.update t core.add (place_of l) (value_of e)
  simple_of (simple.SubFrom t l e) = core.update t core.sub (place_of l) (value_of e)
  simple_of (simple.MulBy t l e) = core.update t core.mul (place_of l) (value_of e)
  simple_of (simple.DivBy t l e) = core.update t core.quot (place_of l) (value_of e)
  simple_of (simple.RemBy t l e) = core.update t core.rem (place_of l) (value_of e)
  simple_of (simple.Increase t l) = core.bump t core.add (place_of l)
  simple_of (simple.Decrease t l) = core.bump t core.sub (place_of l)
  simple_of (simple.IncreaseFirst t l) = core.bump t core.add (place_of l)
  simple_of (simple.DecreaseFirst t l) = core.bump t core.sub (place_of l)
  simple_of (simple.Call t args) = core.perform (function_named (facts.names t)) (vals_of (map resolve args))
  simple_of (simple.Assert t e) = core.assert t (truth_of e)
  simple_of (simple.Assume t e) = core.assume (truth_of e)
  simple_of (simple.Abort t) = core.abort t
  simple_of (simple.CrestInt t l) = core.take (place_of l)

  -- ---- declarations (6.7.6, 6.7.9)

  abbrev pub start_value : Option Initializer → Option Val
  start_value None = None
  start_value (Some i) = Some (value_of i.value)

  abbrev pub declarator_of : Declared → Declarator
  declarator_of d = record {
    slot = slot_named (facts.names (d.declarator).name);
    type = facts.declared (d.declarator).name;
    start = start_value d.initializer;
  }

  abbrev pub declarators_of : Decl → List Declarator
  declarators_of d = map declarator_of d.parts

  -- ---- statements (6.8), and what they may leave out

  abbrev pub value_if : Option Expr → Option Val
  value_if None = None
  value_if (Some e) = Some (value_of e)

  abbrev pub truth_if : Option Expr → Option Cond
  truth_if None = None
  truth_if (Some e) = Some (truth_of e)

  abbrev pub simple_if : Option source_simple.Simple → Option Simple
  simple_if None = None
  simple_if (Some s) = Some (simple_of s)

  -- what stands before the first `;` of a `for`
  abbrev pub head_simple : Head → Option Simple
  head_simple (head.Decl d) = None
  head_simple (head.Simple s) = simple_if s

  abbrev pub head_declarators : Head → List Declarator
  head_declarators (head.Decl d) = declarators_of d
  head_declarators (head.Simple s) = []

  abbrev pub part_level : Part-F Piece Stmt → Piece
  part_level (stmt.Decl d) = declares (declarators_of d)
  part_level (stmt.Stmt s) = does s

  abbrev pub stmt_level : Stmt-F Piece Stmt → Stmt
  stmt_level stmt.Empty = core.empty
  stmt_level (stmt.Block parts) = core.block (parts_of parts)
  stmt_level (stmt.If w c a) = core.choice (truth_of c) a
  stmt_level (stmt.IfElse w c a b) = core.choice_else (truth_of c) a b
  stmt_level (stmt.While w c body) = core.loop (truth_of c) body
  stmt_level (stmt.Do w body c) = core.repeat body (truth_of c)
  stmt_level (stmt.For w h c next body) = core.loop_for (head_simple h) (head_declarators h) (truth_if c) (simple_if next) body
  stmt_level (stmt.Return w e) = core.return (value_if e)
  stmt_level (stmt.Break w) = core.break
  stmt_level (stmt.Continue w) = core.continue
  stmt_level (stmt.Simple s) = core.simple (simple_of s)

  abbrev pub stmt_of : source_stmt.Stmt → Stmt
  stmt_of s = fold-Stmt Piece Stmt part_level stmt_level s

  abbrev pub piece_of : Part → Piece
  piece_of p = fold-Part Piece Stmt part_level stmt_level p

  abbrev pub body_of : List Part → Parts
  body_of parts = parts_of (map piece_of parts)

  -- ---- functions (6.9.1)

  abbrev pub param_of : Param → Cell
  param_of p = first_cell (facts.declared p.name).cells

  abbrev pub func_of : source_func.Func → Func
  func_of f = record { params = map param_of f.params; result = facts.results f.name; body = body_of f.body }
