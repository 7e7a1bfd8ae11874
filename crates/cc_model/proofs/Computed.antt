-- What a source tree resolves to, computed: a tree that is written out unfolds here, which a fold does not.
use Rattle.std.proofs.Common.{◌≡◌, List, [], ◌∷◌, map, Option, Some, None, refl, ap, ◌∙◌}
use Rattle.cc_model.specs.declared.trees.Expr.{Expr, Row_of-Expr, more_of-Expr, end_of-Expr, items-the_row-Expr, items_shown-the_row-Expr-1}
use Rattle.cc_model.specs.declared.trees.Expr.TheVariants as expr
use Rattle.cc_model.specs.declared.trees.Expr.TheOpen as level
use Rattle.cc_model.specs.declared.trees.Expr.TheFolds.{fold_out-Expr}
use Rattle.cc_model.specs.declared.trees.Simple as source_simple
use Rattle.cc_model.specs.declared.trees.Simple.TheVariants as simple
use Rattle.cc_model.specs.declared.trees.Head.{Head}
use Rattle.cc_model.specs.declared.trees.Head.TheVariants as head
use Rattle.cc_model.specs.declared.trees.Decl.{Decl}
use Rattle.cc_model.specs.declared.trees.Declared.{Declared}
use Rattle.cc_model.specs.declared.trees.Initializer.{Initializer}
use Rattle.cc_model.specs.declared.trees.Stmt as source
use Rattle.cc_model.specs.declared.trees.Stmt.{Row_of-Part, more_of-Part, end_of-Part, items-the_row-Part, items_shown-the_row-Part-0, Row_of-Stmt, more_of-Stmt, end_of-Stmt}
use Rattle.cc_model.specs.declared.trees.Stmt.TheVariants as stmt
use Rattle.cc_model.specs.declared.trees.Part.{Part}
use Rattle.cc_model.specs.declared.trees.Part.TheVariants as part
use Rattle.cc_model.specs.declared.trees.Part.TheFolds.{fold_out-Part, fold_out-Stmt}
use Rattle.cc_model.specs.declared.trees.Func as source_func
use Rattle.cc_model.specs.Core as core
use Rattle.cc_model.specs.Core.{Val, Cond, Simple, Declarator, Stmt, Parts, Func}
use Rattle.cc_model.specs.Resolve.{Facts, Read, Piece, declares, does, expr_level, part_level, stmt_level, resolve, vals_of, function_named, slot_named, simple_of, start_value, declarator_of, declarators_of, value_if, truth_if, simple_if, head_simple, head_declarators, stmt_of, piece_of, parts_of, param_of, func_of}

unfoldable mutual
  pub compute : Facts → Expr → Read
  compute facts (expr.Or' f t s (more_of-Expr a end_of-Expr) s' (more_of-Expr b end_of-Expr)) = expr_level facts (level.Or f t (compute facts a) (compute facts b))
  compute facts (expr.And' f t s (more_of-Expr a end_of-Expr) s' (more_of-Expr b end_of-Expr)) = expr_level facts (level.And f t (compute facts a) (compute facts b))
  compute facts (expr.Equal' f t s (more_of-Expr a end_of-Expr) s' (more_of-Expr b end_of-Expr)) = expr_level facts (level.Equal f t (compute facts a) (compute facts b))
  compute facts (expr.Unequal' f t s (more_of-Expr a end_of-Expr) s' (more_of-Expr b end_of-Expr)) = expr_level facts (level.Unequal f t (compute facts a) (compute facts b))
  compute facts (expr.Less' f t s (more_of-Expr a end_of-Expr) s' (more_of-Expr b end_of-Expr)) = expr_level facts (level.Less f t (compute facts a) (compute facts b))
  compute facts (expr.Greater' f t s (more_of-Expr a end_of-Expr) s' (more_of-Expr b end_of-Expr)) = expr_level facts (level.Greater f t (compute facts a) (compute facts b))
  compute facts (expr.AtMost' f t s (more_of-Expr a end_of-Expr) s' (more_of-Expr b end_of-Expr)) = expr_level facts (level.AtMost f t (compute facts a) (compute facts b))
  compute facts (expr.AtLeast' f t s (more_of-Expr a end_of-Expr) s' (more_of-Expr b end_of-Expr)) = expr_level facts (level.AtLeast f t (compute facts a) (compute facts b))
  compute facts (expr.Sum' f t s (more_of-Expr a end_of-Expr) s' (more_of-Expr b end_of-Expr)) = expr_level facts (level.Sum f t (compute facts a) (compute facts b))
  compute facts (expr.Difference' f t s (more_of-Expr a end_of-Expr) s' (more_of-Expr b end_of-Expr)) = expr_level facts (level.Difference f t (compute facts a) (compute facts b))
  compute facts (expr.Product' f t s (more_of-Expr a end_of-Expr) s' (more_of-Expr b end_of-Expr)) = expr_level facts (level.Product f t (compute facts a) (compute facts b))
  compute facts (expr.Quotient' f t s (more_of-Expr a end_of-Expr) s' (more_of-Expr b end_of-Expr)) = expr_level facts (level.Quotient f t (compute facts a) (compute facts b))
  compute facts (expr.Remainder' f t s (more_of-Expr a end_of-Expr) s' (more_of-Expr b end_of-Expr)) = expr_level facts (level.Remainder f t (compute facts a) (compute facts b))
  compute facts (expr.Index' f t s (more_of-Expr a end_of-Expr) s' (more_of-Expr b end_of-Expr)) = expr_level facts (level.Index f t (compute facts a) (compute facts b))
  compute facts (expr.Minus' f t s (more_of-Expr a end_of-Expr)) = expr_level facts (level.Minus f t (compute facts a))
  compute facts (expr.Not' f t s (more_of-Expr a end_of-Expr)) = expr_level facts (level.Not f t (compute facts a))
  compute facts (expr.Deref' f t s (more_of-Expr a end_of-Expr)) = expr_level facts (level.Deref f t (compute facts a))
  compute facts (expr.Address' f t s (more_of-Expr a end_of-Expr)) = expr_level facts (level.Address f t (compute facts a))
  compute facts (expr.Dot' f t s (more_of-Expr a end_of-Expr) name) = expr_level facts (level.Dot f t (compute facts a) name)
  compute facts (expr.Arrow' f t s (more_of-Expr a end_of-Expr) name) = expr_level facts (level.Arrow f t (compute facts a) name)
  compute facts (expr.Name f t) = expr_level facts (level.Name f t)
  compute facts (expr.Number f t z) = expr_level facts (level.Number f t z)
  compute facts (expr.Null f t) = expr_level facts (level.Null f t)
  compute facts (expr.Malloc f t cast type) = expr_level facts (level.Malloc f t cast type)
  compute facts (expr.Call' f t n args) = expr_level facts (level.Call f t (compute_row facts args))

  pub compute_row : Facts → {n : _} → Row_of-Expr n → List Read
  compute_row facts end_of-Expr = []
  compute_row facts (more_of-Expr a l) = compute facts a ∷ compute_row facts l

mutual
  unfolding compute Rattle.cc_model.specs.declared.trees.Expr.TheBlock.shown-the_row-Expr-0 denote.Hole.Carrier.shown denote.Hole.Carrier.out Rattle.cc_model.specs.declared.trees.Expr.TheViews.out-Expr

  pub computes : (facts : Facts) (e : Expr) → resolve facts e ≡ compute facts e
  computes facts (expr.Or' f t s (more_of-Expr a end_of-Expr) s' (more_of-Expr b end_of-Expr)) = fold_out-Expr Read (expr_level facts) (expr.Or' f t s (more_of-Expr a end_of-Expr) s' (more_of-Expr b end_of-Expr)) ∙ (λ i. expr_level facts (level.Or f t (computes facts a i) (computes facts b i)))
  computes facts (expr.And' f t s (more_of-Expr a end_of-Expr) s' (more_of-Expr b end_of-Expr)) = fold_out-Expr Read (expr_level facts) (expr.And' f t s (more_of-Expr a end_of-Expr) s' (more_of-Expr b end_of-Expr)) ∙ (λ i. expr_level facts (level.And f t (computes facts a i) (computes facts b i)))
  computes facts (expr.Equal' f t s (more_of-Expr a end_of-Expr) s' (more_of-Expr b end_of-Expr)) = fold_out-Expr Read (expr_level facts) (expr.Equal' f t s (more_of-Expr a end_of-Expr) s' (more_of-Expr b end_of-Expr)) ∙ (λ i. expr_level facts (level.Equal f t (computes facts a i) (computes facts b i)))
  computes facts (expr.Unequal' f t s (more_of-Expr a end_of-Expr) s' (more_of-Expr b end_of-Expr)) = fold_out-Expr Read (expr_level facts) (expr.Unequal' f t s (more_of-Expr a end_of-Expr) s' (more_of-Expr b end_of-Expr)) ∙ (λ i. expr_level facts (level.Unequal f t (computes facts a i) (computes facts b i)))
  computes facts (expr.Less' f t s (more_of-Expr a end_of-Expr) s' (more_of-Expr b end_of-Expr)) = fold_out-Expr Read (expr_level facts) (expr.Less' f t s (more_of-Expr a end_of-Expr) s' (more_of-Expr b end_of-Expr)) ∙ (λ i. expr_level facts (level.Less f t (computes facts a i) (computes facts b i)))
  computes facts (expr.Greater' f t s (more_of-Expr a end_of-Expr) s' (more_of-Expr b end_of-Expr)) = fold_out-Expr Read (expr_level facts) (expr.Greater' f t s (more_of-Expr a end_of-Expr) s' (more_of-Expr b end_of-Expr)) ∙ (λ i. expr_level facts (level.Greater f t (computes facts a i) (computes facts b i)))
  computes facts (expr.AtMost' f t s (more_of-Expr a end_of-Expr) s' (more_of-Expr b end_of-Expr)) = fold_out-Expr Read (expr_level facts) (expr.AtMost' f t s (more_of-Expr a end_of-Expr) s' (more_of-Expr b end_of-Expr)) ∙ (λ i. expr_level facts (level.AtMost f t (computes facts a i) (computes facts b i)))
  computes facts (expr.AtLeast' f t s (more_of-Expr a end_of-Expr) s' (more_of-Expr b end_of-Expr)) = fold_out-Expr Read (expr_level facts) (expr.AtLeast' f t s (more_of-Expr a end_of-Expr) s' (more_of-Expr b end_of-Expr)) ∙ (λ i. expr_level facts (level.AtLeast f t (computes facts a i) (computes facts b i)))
  computes facts (expr.Sum' f t s (more_of-Expr a end_of-Expr) s' (more_of-Expr b end_of-Expr)) = fold_out-Expr Read (expr_level facts) (expr.Sum' f t s (more_of-Expr a end_of-Expr) s' (more_of-Expr b end_of-Expr)) ∙ (λ i. expr_level facts (level.Sum f t (computes facts a i) (computes facts b i)))
  computes facts (expr.Difference' f t s (more_of-Expr a end_of-Expr) s' (more_of-Expr b end_of-Expr)) = fold_out-Expr Read (expr_level facts) (expr.Difference' f t s (more_of-Expr a end_of-Expr) s' (more_of-Expr b end_of-Expr)) ∙ (λ i. expr_level facts (level.Difference f t (computes facts a i) (computes facts b i)))
  computes facts (expr.Product' f t s (more_of-Expr a end_of-Expr) s' (more_of-Expr b end_of-Expr)) = fold_out-Expr Read (expr_level facts) (expr.Product' f t s (more_of-Expr a end_of-Expr) s' (more_of-Expr b end_of-Expr)) ∙ (λ i. expr_level facts (level.Product f t (computes facts a i) (computes facts b i)))
  computes facts (expr.Quotient' f t s (more_of-Expr a end_of-Expr) s' (more_of-Expr b end_of-Expr)) = fold_out-Expr Read (expr_level facts) (expr.Quotient' f t s (more_of-Expr a end_of-Expr) s' (more_of-Expr b end_of-Expr)) ∙ (λ i. expr_level facts (level.Quotient f t (computes facts a i) (computes facts b i)))
  computes facts (expr.Remainder' f t s (more_of-Expr a end_of-Expr) s' (more_of-Expr b end_of-Expr)) = fold_out-Expr Read (expr_level facts) (expr.Remainder' f t s (more_of-Expr a end_of-Expr) s' (more_of-Expr b end_of-Expr)) ∙ (λ i. expr_level facts (level.Remainder f t (computes facts a i) (computes facts b i)))
  computes facts (expr.Index' f t s (more_of-Expr a end_of-Expr) s' (more_of-Expr b end_of-Expr)) = fold_out-Expr Read (expr_level facts) (expr.Index' f t s (more_of-Expr a end_of-Expr) s' (more_of-Expr b end_of-Expr)) ∙ (λ i. expr_level facts (level.Index f t (computes facts a i) (computes facts b i)))
  computes facts (expr.Minus' f t s (more_of-Expr a end_of-Expr)) = fold_out-Expr Read (expr_level facts) (expr.Minus' f t s (more_of-Expr a end_of-Expr)) ∙ (λ i. expr_level facts (level.Minus f t (computes facts a i)))
  computes facts (expr.Not' f t s (more_of-Expr a end_of-Expr)) = fold_out-Expr Read (expr_level facts) (expr.Not' f t s (more_of-Expr a end_of-Expr)) ∙ (λ i. expr_level facts (level.Not f t (computes facts a i)))
  computes facts (expr.Deref' f t s (more_of-Expr a end_of-Expr)) = fold_out-Expr Read (expr_level facts) (expr.Deref' f t s (more_of-Expr a end_of-Expr)) ∙ (λ i. expr_level facts (level.Deref f t (computes facts a i)))
  computes facts (expr.Address' f t s (more_of-Expr a end_of-Expr)) = fold_out-Expr Read (expr_level facts) (expr.Address' f t s (more_of-Expr a end_of-Expr)) ∙ (λ i. expr_level facts (level.Address f t (computes facts a i)))
  computes facts (expr.Dot' f t s (more_of-Expr a end_of-Expr) name) = fold_out-Expr Read (expr_level facts) (expr.Dot' f t s (more_of-Expr a end_of-Expr) name) ∙ (λ i. expr_level facts (level.Dot f t (computes facts a i) name))
  computes facts (expr.Arrow' f t s (more_of-Expr a end_of-Expr) name) = fold_out-Expr Read (expr_level facts) (expr.Arrow' f t s (more_of-Expr a end_of-Expr) name) ∙ (λ i. expr_level facts (level.Arrow f t (computes facts a i) name))
  computes facts (expr.Name f t) = fold_out-Expr Read (expr_level facts) (expr.Name f t)
  computes facts (expr.Number f t z) = fold_out-Expr Read (expr_level facts) (expr.Number f t z)
  computes facts (expr.Null f t) = fold_out-Expr Read (expr_level facts) (expr.Null f t)
  computes facts (expr.Malloc f t cast type) = fold_out-Expr Read (expr_level facts) (expr.Malloc f t cast type)
  computes facts (expr.Call' f t n args) = fold_out-Expr Read (expr_level facts) (expr.Call' f t n args) ∙ ap (λ l. expr_level facts (level.Call f t (map (resolve facts) l))) (items_shown-the_row-Expr-1 n args) ∙ (λ i. expr_level facts (level.Call f t (computes_row facts args i)))

  pub computes_row : (facts : Facts) {n : _} (r : Row_of-Expr n) → map (resolve facts) (items-the_row-Expr _ r) ≡ compute_row facts r
  computes_row facts end_of-Expr = refl
  computes_row facts (more_of-Expr a l) = λ i. computes facts a i ∷ computes_row facts l i

-- ---- simple statements and declarations

unfoldable pub compute_simple : Facts → source_simple.Simple → Simple
compute_simple facts (simple.Assign t l e) = core.assign (compute facts l).place (compute facts e).value
compute_simple facts (simple.AddTo t l e) = core.update t core.add (compute facts l).place (compute facts e).value
compute_simple facts (simple.SubFrom t l e) = core.update t core.sub (compute facts l).place (compute facts e).value
compute_simple facts (simple.MulBy t l e) = core.update t core.mul (compute facts l).place (compute facts e).value
compute_simple facts (simple.DivBy t l e) = core.update t core.quot (compute facts l).place (compute facts e).value
compute_simple facts (simple.RemBy t l e) = core.update t core.rem (compute facts l).place (compute facts e).value
compute_simple facts (simple.Increase t l) = core.bump t core.add (compute facts l).place
compute_simple facts (simple.Decrease t l) = core.bump t core.sub (compute facts l).place
compute_simple facts (simple.IncreaseFirst t l) = core.bump t core.add (compute facts l).place
compute_simple facts (simple.DecreaseFirst t l) = core.bump t core.sub (compute facts l).place
compute_simple facts (simple.Call t args) = core.perform (function_named (facts.names t)) (vals_of (map (compute facts) args))
compute_simple facts (simple.Assert t e) = core.assert t (compute facts e).truth
compute_simple facts (simple.Assume t e) = core.assume (compute facts e).truth
compute_simple facts (simple.Abort t) = core.abort t
compute_simple facts (simple.CrestInt t l) = core.take (compute facts l).place

pub computes_simple : (facts : Facts) (s : source_simple.Simple) → simple_of facts s ≡ compute_simple facts s
unfolding compute_simple
computes_simple facts (simple.Assign t l e) = λ i. core.assign (computes facts l i).place (computes facts e i).value
computes_simple facts (simple.AddTo t l e) = λ i. core.update t core.add (computes facts l i).place (computes facts e i).value
computes_simple facts (simple.SubFrom t l e) = λ i. core.update t core.sub (computes facts l i).place (computes facts e i).value
computes_simple facts (simple.MulBy t l e) = λ i. core.update t core.mul (computes facts l i).place (computes facts e i).value
computes_simple facts (simple.DivBy t l e) = λ i. core.update t core.quot (computes facts l i).place (computes facts e i).value
computes_simple facts (simple.RemBy t l e) = λ i. core.update t core.rem (computes facts l i).place (computes facts e i).value
computes_simple facts (simple.Increase t l) = λ i. core.bump t core.add (computes facts l i).place
computes_simple facts (simple.Decrease t l) = λ i. core.bump t core.sub (computes facts l i).place
computes_simple facts (simple.IncreaseFirst t l) = λ i. core.bump t core.add (computes facts l i).place
computes_simple facts (simple.DecreaseFirst t l) = λ i. core.bump t core.sub (computes facts l i).place
computes_simple facts (simple.Call t args) = λ i. core.perform (function_named (facts.names t)) (vals_of (map (λ e. computes facts e i) args))
computes_simple facts (simple.Assert t e) = λ i. core.assert t (computes facts e i).truth
computes_simple facts (simple.Assume t e) = λ i. core.assume (computes facts e i).truth
computes_simple facts (simple.Abort t) = refl
computes_simple facts (simple.CrestInt t l) = λ i. core.take (computes facts l i).place

unfoldable pub compute_start : Facts → Option Initializer → Option Val
compute_start facts None = None
compute_start facts (Some i) = Some (compute facts i.value).value

pub computes_start : (facts : Facts) (i : Option Initializer) → start_value facts i ≡ compute_start facts i
unfolding compute_start
computes_start facts None = refl
computes_start facts (Some n) = λ i. Some (computes facts n.value i).value

unfoldable pub compute_declarator : Facts → Declared → Declarator
compute_declarator facts d = record { slot = slot_named (facts.names (d.declarator).name); type = facts.declared (d.declarator).name; start = compute_start facts d.initializer }

pub computes_declarator : (facts : Facts) (d : Declared) → declarator_of facts d ≡ compute_declarator facts d
unfolding compute_declarator
computes_declarator facts d = λ i. record { slot = slot_named (facts.names (d.declarator).name); type = facts.declared (d.declarator).name; start = computes_start facts d.initializer i }

unfoldable pub compute_declarators : Facts → Decl → List Declarator
compute_declarators facts d = map (compute_declarator facts) d.parts

pub computes_declarators : (facts : Facts) (d : Decl) → declarators_of facts d ≡ compute_declarators facts d
unfolding compute_declarators
computes_declarators facts d = λ i. map (λ p. computes_declarator facts p i) d.parts

-- ---- what a statement may leave out

unfoldable pub compute_value_if : Facts → Option Expr → Option Val
compute_value_if facts None = None
compute_value_if facts (Some e) = Some (compute facts e).value

pub computes_value_if : (facts : Facts) (e : Option Expr) → value_if facts e ≡ compute_value_if facts e
unfolding compute_value_if
computes_value_if facts None = refl
computes_value_if facts (Some e) = λ i. Some (computes facts e i).value

unfoldable pub compute_truth_if : Facts → Option Expr → Option Cond
compute_truth_if facts None = None
compute_truth_if facts (Some e) = Some (compute facts e).truth

pub computes_truth_if : (facts : Facts) (e : Option Expr) → truth_if facts e ≡ compute_truth_if facts e
unfolding compute_truth_if
computes_truth_if facts None = refl
computes_truth_if facts (Some e) = λ i. Some (computes facts e i).truth

unfoldable pub compute_simple_if : Facts → Option source_simple.Simple → Option Simple
compute_simple_if facts None = None
compute_simple_if facts (Some s) = Some (compute_simple facts s)

pub computes_simple_if : (facts : Facts) (s : Option source_simple.Simple) → simple_if facts s ≡ compute_simple_if facts s
unfolding compute_simple_if
computes_simple_if facts None = refl
computes_simple_if facts (Some s) = λ i. Some (computes_simple facts s i)

unfoldable pub compute_head_simple : Facts → Head → Option Simple
compute_head_simple facts (head.Decl d) = None
compute_head_simple facts (head.Simple s) = compute_simple_if facts s

pub computes_head_simple : (facts : Facts) (h : Head) → head_simple facts h ≡ compute_head_simple facts h
unfolding compute_head_simple
computes_head_simple facts (head.Decl d) = refl
computes_head_simple facts (head.Simple s) = computes_simple_if facts s

unfoldable pub compute_head_declarators : Facts → Head → List Declarator
compute_head_declarators facts (head.Decl d) = compute_declarators facts d
compute_head_declarators facts (head.Simple s) = []

pub computes_head_declarators : (facts : Facts) (h : Head) → head_declarators facts h ≡ compute_head_declarators facts h
unfolding compute_head_declarators
computes_head_declarators facts (head.Decl d) = computes_declarators facts d
computes_head_declarators facts (head.Simple s) = refl

-- ---- statements

unfoldable mutual
  pub compute_stmt : Facts → source.Stmt → Stmt
  compute_stmt facts stmt.Empty = core.empty
  compute_stmt facts (stmt.Block' n parts) = core.block (parts_of (compute_parts_row facts parts))
  compute_stmt facts (stmt.If' w c s (more_of-Stmt a end_of-Stmt)) = core.choice (compute facts c).truth (compute_stmt facts a)
  compute_stmt facts (stmt.IfElse' w c s (more_of-Stmt a end_of-Stmt) s' (more_of-Stmt b end_of-Stmt)) = core.choice_else (compute facts c).truth (compute_stmt facts a) (compute_stmt facts b)
  compute_stmt facts (stmt.While' w c s (more_of-Stmt a end_of-Stmt)) = core.loop (compute facts c).truth (compute_stmt facts a)
  compute_stmt facts (stmt.Do' w s (more_of-Stmt a end_of-Stmt) c) = core.repeat (compute_stmt facts a) (compute facts c).truth
  compute_stmt facts (stmt.For' w h c next s (more_of-Stmt a end_of-Stmt)) = core.loop_for (compute_head_simple facts h) (compute_head_declarators facts h) (compute_truth_if facts c) (compute_simple_if facts next) (compute_stmt facts a)
  compute_stmt facts (stmt.Return w e) = core.return (compute_value_if facts e)
  compute_stmt facts (stmt.Break w) = core.break
  compute_stmt facts (stmt.Continue w) = core.continue
  compute_stmt facts (stmt.Simple s) = core.simple (compute_simple facts s)

  pub compute_piece : Facts → Part → Piece
  compute_piece facts (part.Decl d) = declares (compute_declarators facts d)
  compute_piece facts (part.Stmt s) = does (compute_stmt facts s)

  pub compute_parts_row : Facts → {n : _} → Row_of-Part n → List Piece
  compute_parts_row facts end_of-Part = []
  compute_parts_row facts (more_of-Part p l) = compute_piece facts p ∷ compute_parts_row facts l

mutual
  unfolding compute_stmt Rattle.cc_model.specs.declared.trees.Part.TheBlock.shown-the_row-Stmt-1 denote.Hole.Carrier.shown denote.Hole.Carrier.out Rattle.cc_model.specs.declared.trees.Part.TheViews.out-Part Rattle.cc_model.specs.declared.trees.Part.TheViews.out-Stmt

  pub computes_stmt : (facts : Facts) (s : source.Stmt) → stmt_of facts s ≡ compute_stmt facts s
  computes_stmt facts stmt.Empty = fold_out-Stmt Piece Stmt (part_level facts) (stmt_level facts) stmt.Empty
  computes_stmt facts (stmt.Block' n parts) = fold_out-Stmt Piece Stmt (part_level facts) (stmt_level facts) (stmt.Block' n parts) ∙ ap (λ l. core.block (parts_of (map (piece_of facts) l))) (items_shown-the_row-Part-0 n parts) ∙ (λ i. core.block (parts_of (computes_parts_row facts parts i)))
  computes_stmt facts (stmt.If' w c s (more_of-Stmt a end_of-Stmt)) = fold_out-Stmt Piece Stmt (part_level facts) (stmt_level facts) (stmt.If' w c s (more_of-Stmt a end_of-Stmt)) ∙ (λ i. core.choice (computes facts c i).truth (computes_stmt facts a i))
  computes_stmt facts (stmt.IfElse' w c s (more_of-Stmt a end_of-Stmt) s' (more_of-Stmt b end_of-Stmt)) = fold_out-Stmt Piece Stmt (part_level facts) (stmt_level facts) (stmt.IfElse' w c s (more_of-Stmt a end_of-Stmt) s' (more_of-Stmt b end_of-Stmt)) ∙ (λ i. core.choice_else (computes facts c i).truth (computes_stmt facts a i) (computes_stmt facts b i))
  computes_stmt facts (stmt.While' w c s (more_of-Stmt a end_of-Stmt)) = fold_out-Stmt Piece Stmt (part_level facts) (stmt_level facts) (stmt.While' w c s (more_of-Stmt a end_of-Stmt)) ∙ (λ i. core.loop (computes facts c i).truth (computes_stmt facts a i))
  computes_stmt facts (stmt.Do' w s (more_of-Stmt a end_of-Stmt) c) = fold_out-Stmt Piece Stmt (part_level facts) (stmt_level facts) (stmt.Do' w s (more_of-Stmt a end_of-Stmt) c) ∙ (λ i. core.repeat (computes_stmt facts a i) (computes facts c i).truth)
  computes_stmt facts (stmt.For' w h c next s (more_of-Stmt a end_of-Stmt)) = fold_out-Stmt Piece Stmt (part_level facts) (stmt_level facts) (stmt.For' w h c next s (more_of-Stmt a end_of-Stmt)) ∙ (λ i. core.loop_for (computes_head_simple facts h i) (computes_head_declarators facts h i) (computes_truth_if facts c i) (computes_simple_if facts next i) (computes_stmt facts a i))
  computes_stmt facts (stmt.Return w e) = fold_out-Stmt Piece Stmt (part_level facts) (stmt_level facts) (stmt.Return w e) ∙ (λ i. core.return (computes_value_if facts e i))
  computes_stmt facts (stmt.Break w) = fold_out-Stmt Piece Stmt (part_level facts) (stmt_level facts) (stmt.Break w)
  computes_stmt facts (stmt.Continue w) = fold_out-Stmt Piece Stmt (part_level facts) (stmt_level facts) (stmt.Continue w)
  computes_stmt facts (stmt.Simple s) = fold_out-Stmt Piece Stmt (part_level facts) (stmt_level facts) (stmt.Simple s) ∙ (λ i. core.simple (computes_simple facts s i))

  pub computes_piece : (facts : Facts) (p : Part) → piece_of facts p ≡ compute_piece facts p
  computes_piece facts (part.Decl d) = fold_out-Part Piece Stmt (part_level facts) (stmt_level facts) (part.Decl d) ∙ (λ i. declares (computes_declarators facts d i))
  computes_piece facts (part.Stmt s) = fold_out-Part Piece Stmt (part_level facts) (stmt_level facts) (part.Stmt s) ∙ (λ i. does (computes_stmt facts s i))

  pub computes_parts_row : (facts : Facts) {n : _} (r : Row_of-Part n) → map (piece_of facts) (items-the_row-Part _ r) ≡ compute_parts_row facts r
  computes_parts_row facts end_of-Part = refl
  computes_parts_row facts (more_of-Part p l) = λ i. computes_piece facts p i ∷ computes_parts_row facts l i

-- ---- functions

unfoldable pub compute_func : Facts → source_func.Func → Func
compute_func facts f = record { params = map (param_of facts) f.params; result = facts.results f.name; body = parts_of (map (compute_piece facts) f.body) }

pub computes_func : (facts : Facts) (f : source_func.Func) → func_of facts f ≡ compute_func facts f
unfolding compute_func
computes_func facts f = λ i. record { params = map (param_of facts) f.params; result = facts.results f.name; body = parts_of (map (λ p. computes_piece facts p i) f.body) }

-- all that unfolds when a written tree is resolved
unfoldable pub written : Unit {0}
unfolding
    compute compute_simple compute_start compute_declarator compute_declarators compute_value_if compute_truth_if compute_simple_if compute_head_simple
    compute_head_declarators compute_stmt compute_func Rattle.cc_model.specs.declared.trees.Expr.TheBlock.hidden-the_row-Expr-0
    Rattle.cc_model.specs.declared.trees.Expr.TheBlock.hidden-the_row-Expr-1 Rattle.cc_model.specs.declared.trees.Part.TheBlock.hidden-the_row-Part-0 Rattle.cc_model.specs.declared.trees.Part.TheBlock.hidden-the_row-Stmt-1 denote.Hole.Carrier.hidden
written = tt
