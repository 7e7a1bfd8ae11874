-- What each form of the source resolves to, by what its parts resolve to.
use Rattle.std.proofs.Common.{◌≡◌, ℕ, ℤ, false, List, [], ◌∷◌, map, Option, Some, sym, ap, ◌∙◌}
use Rattle.cc_model.specs.declared.trees.Expr.{Expr}
use Rattle.cc_model.specs.declared.trees.Expr.TheVariants as expr
use Rattle.cc_model.specs.declared.trees.Expr.TheOpen as level
use Rattle.cc_model.specs.declared.trees.Expr.TheFolds.{fold-roll-Expr}
use Rattle.cc_model.specs.declared.trees.TypeName.{TypeName}
use Rattle.cc_model.specs.declared.trees.ResultType.{ResultType}
use Rattle.cc_model.specs.declared.trees.Simple.{Simple}
use Rattle.cc_model.specs.declared.trees.Head.{Head}
use Rattle.cc_model.specs.declared.trees.Decl.{Decl}
use Rattle.cc_model.specs.declared.trees.Stmt as source
use Rattle.cc_model.specs.declared.trees.Stmt.TheVariants as stmt
use Rattle.cc_model.specs.declared.trees.Part.{Part}
use Rattle.cc_model.specs.declared.trees.Part.TheVariants as part
use Rattle.cc_model.specs.declared.trees.Part.TheOpen as levels
use Rattle.cc_model.specs.declared.trees.Part.TheFolds.{fold-roll-Part, fold-roll-Stmt}
use Rattle.cc_model.specs.Core as core
use Rattle.cc_model.specs.Core.{Stmt}
use Rattle.cc_model.specs.Resolve.{Facts, Read, Piece, declares, does, by_value, by_truth, by_place, vals_of, number_or_null, function_named, offset_named, variable_named, expr_level, resolve, value_of, truth_of, place_of, simple_of, declarators_of, value_if, truth_if, simple_if, head_simple, head_declarators, part_level, stmt_level, stmt_of, piece_of, parts_of, body_of, func_of}

pub resolve_or : (facts : Facts) (f t : ℕ) (a b : Expr) → resolve facts (expr.Or f t a b) ≡ by_truth (core.either (truth_of facts a) (truth_of facts b))
resolve_or facts f t a b = ap (resolve facts) (sym (expr.rolls-Or f t a b)) ∙ fold-roll-Expr Read (expr_level facts) (level.Or f t a b)

pub resolve_and : (facts : Facts) (f t : ℕ) (a b : Expr) → resolve facts (expr.And f t a b) ≡ by_truth (core.both (truth_of facts a) (truth_of facts b))
resolve_and facts f t a b = ap (resolve facts) (sym (expr.rolls-And f t a b)) ∙ fold-roll-Expr Read (expr_level facts) (level.And f t a b)

pub resolve_equal : (facts : Facts) (f t : ℕ) (a b : Expr) → resolve facts (expr.Equal f t a b) ≡ by_truth (core.compare t core.eq (value_of facts a) (value_of facts b))
resolve_equal facts f t a b = ap (resolve facts) (sym (expr.rolls-Equal f t a b)) ∙ fold-roll-Expr Read (expr_level facts) (level.Equal f t a b)

pub resolve_unequal : (facts : Facts) (f t : ℕ) (a b : Expr) → resolve facts (expr.Unequal f t a b) ≡ by_truth (core.compare t core.ne (value_of facts a) (value_of facts b))
resolve_unequal facts f t a b = ap (resolve facts) (sym (expr.rolls-Unequal f t a b)) ∙ fold-roll-Expr Read (expr_level facts) (level.Unequal f t a b)

pub resolve_less : (facts : Facts) (f t : ℕ) (a b : Expr) → resolve facts (expr.Less f t a b) ≡ by_truth (core.compare t core.lt (value_of facts a) (value_of facts b))
resolve_less facts f t a b = ap (resolve facts) (sym (expr.rolls-Less f t a b)) ∙ fold-roll-Expr Read (expr_level facts) (level.Less f t a b)

pub resolve_greater : (facts : Facts) (f t : ℕ) (a b : Expr) → resolve facts (expr.Greater f t a b) ≡ by_truth (core.compare t core.gt (value_of facts a) (value_of facts b))
resolve_greater facts f t a b = ap (resolve facts) (sym (expr.rolls-Greater f t a b)) ∙ fold-roll-Expr Read (expr_level facts) (level.Greater f t a b)

pub resolve_at_most : (facts : Facts) (f t : ℕ) (a b : Expr) → resolve facts (expr.AtMost f t a b) ≡ by_truth (core.compare t core.le (value_of facts a) (value_of facts b))
resolve_at_most facts f t a b = ap (resolve facts) (sym (expr.rolls-AtMost f t a b)) ∙ fold-roll-Expr Read (expr_level facts) (level.AtMost f t a b)

pub resolve_at_least : (facts : Facts) (f t : ℕ) (a b : Expr) → resolve facts (expr.AtLeast f t a b) ≡ by_truth (core.compare t core.ge (value_of facts a) (value_of facts b))
resolve_at_least facts f t a b = ap (resolve facts) (sym (expr.rolls-AtLeast f t a b)) ∙ fold-roll-Expr Read (expr_level facts) (level.AtLeast f t a b)

pub resolve_sum : (facts : Facts) (f t : ℕ) (a b : Expr) → resolve facts (expr.Sum f t a b) ≡ by_value f (core.arith t core.add (value_of facts a) (value_of facts b))
resolve_sum facts f t a b = ap (resolve facts) (sym (expr.rolls-Sum f t a b)) ∙ fold-roll-Expr Read (expr_level facts) (level.Sum f t a b)

pub resolve_difference : (facts : Facts) (f t : ℕ) (a b : Expr) → resolve facts (expr.Difference f t a b) ≡ by_value f (core.arith t core.sub (value_of facts a) (value_of facts b))
resolve_difference facts f t a b = ap (resolve facts) (sym (expr.rolls-Difference f t a b)) ∙ fold-roll-Expr Read (expr_level facts) (level.Difference f t a b)

pub resolve_product : (facts : Facts) (f t : ℕ) (a b : Expr) → resolve facts (expr.Product f t a b) ≡ by_value f (core.arith t core.mul (value_of facts a) (value_of facts b))
resolve_product facts f t a b = ap (resolve facts) (sym (expr.rolls-Product f t a b)) ∙ fold-roll-Expr Read (expr_level facts) (level.Product f t a b)

pub resolve_quotient : (facts : Facts) (f t : ℕ) (a b : Expr) → resolve facts (expr.Quotient f t a b) ≡ by_value f (core.arith t core.quot (value_of facts a) (value_of facts b))
resolve_quotient facts f t a b = ap (resolve facts) (sym (expr.rolls-Quotient f t a b)) ∙ fold-roll-Expr Read (expr_level facts) (level.Quotient f t a b)

pub resolve_remainder : (facts : Facts) (f t : ℕ) (a b : Expr) → resolve facts (expr.Remainder f t a b) ≡ by_value f (core.arith t core.rem (value_of facts a) (value_of facts b))
resolve_remainder facts f t a b = ap (resolve facts) (sym (expr.rolls-Remainder f t a b)) ∙ fold-roll-Expr Read (expr_level facts) (level.Remainder f t a b)

pub resolve_index : (facts : Facts) (f t : ℕ) (a b : Expr) → resolve facts (expr.Index f t a b) ≡ by_place f (core.index t (place_of facts a) (value_of facts b) (facts.lengths t) (facts.widths t))
resolve_index facts f t a b = ap (resolve facts) (sym (expr.rolls-Index f t a b)) ∙ fold-roll-Expr Read (expr_level facts) (level.Index f t a b)

pub resolve_minus : (facts : Facts) (f t : ℕ) (a : Expr) → resolve facts (expr.Minus f t a) ≡ by_value f (core.negate t (value_of facts a))
resolve_minus facts f t a = ap (resolve facts) (sym (expr.rolls-Minus f t a)) ∙ fold-roll-Expr Read (expr_level facts) (level.Minus f t a)

pub resolve_not : (facts : Facts) (f t : ℕ) (a : Expr) → resolve facts (expr.Not f t a) ≡ by_truth (core.opposite (truth_of facts a))
resolve_not facts f t a = ap (resolve facts) (sym (expr.rolls-Not f t a)) ∙ fold-roll-Expr Read (expr_level facts) (level.Not f t a)

pub resolve_deref : (facts : Facts) (f t : ℕ) (a : Expr) → resolve facts (expr.Deref f t a) ≡ by_place f (core.deref t (value_of facts a))
resolve_deref facts f t a = ap (resolve facts) (sym (expr.rolls-Deref f t a)) ∙ fold-roll-Expr Read (expr_level facts) (level.Deref f t a)

pub resolve_address : (facts : Facts) (f t : ℕ) (a : Expr) → resolve facts (expr.Address f t a) ≡ by_value f (core.address (place_of facts a))
resolve_address facts f t a = ap (resolve facts) (sym (expr.rolls-Address f t a)) ∙ fold-roll-Expr Read (expr_level facts) (level.Address f t a)

pub resolve_dot : (facts : Facts) (f t : ℕ) (a : Expr) (name : ℕ) → resolve facts (expr.Dot f t a name) ≡ by_place f (core.dot (place_of facts a) (offset_named (facts.names name)))
resolve_dot facts f t a name = ap (resolve facts) (sym (expr.rolls-Dot f t a name)) ∙ fold-roll-Expr Read (expr_level facts) (level.Dot f t a name)

pub resolve_arrow : (facts : Facts) (f t : ℕ) (a : Expr) (name : ℕ) → resolve facts (expr.Arrow f t a name) ≡ by_place f (core.arrow t (value_of facts a) (offset_named (facts.names name)))
resolve_arrow facts f t a name = ap (resolve facts) (sym (expr.rolls-Arrow f t a name)) ∙ fold-roll-Expr Read (expr_level facts) (level.Arrow f t a name)

pub resolve_name : (facts : Facts) (f t : ℕ) → resolve facts (expr.Name f t) ≡ by_place f (variable_named facts (facts.names t))
resolve_name facts f t = ap (resolve facts) (sym (expr.rolls-Name f t)) ∙ fold-roll-Expr Read (expr_level facts) (level.Name f t)

pub resolve_number : (facts : Facts) (f t : ℕ) (z : ℤ) → resolve facts (expr.Number f t z) ≡ by_value f (number_or_null (facts.is_null t) z)
resolve_number facts f t z = ap (resolve facts) (sym (expr.rolls-Number f t z)) ∙ fold-roll-Expr Read (expr_level facts) (level.Number f t z)

pub resolve_null : (facts : Facts) (f t : ℕ) → resolve facts (expr.Null f t) ≡ by_value f core.nil
resolve_null facts f t = ap (resolve facts) (sym (expr.rolls-Null f t)) ∙ fold-roll-Expr Read (expr_level facts) (level.Null f t)

pub resolve_call : (facts : Facts) (f t : ℕ) (args : List Expr) → resolve facts (expr.Call f t args) ≡ by_value f (core.call (function_named (facts.names t)) (vals_of (map (resolve facts) args)))
resolve_call facts f t args = ap (resolve facts) (sym (expr.rolls-Call f t args)) ∙ fold-roll-Expr Read (expr_level facts) (level.Call f t args)

pub resolve_malloc : (facts : Facts) (f t : ℕ) (cast : Option TypeName) (type : TypeName) → resolve facts (expr.Malloc f t cast type) ≡ by_value f (core.malloc (facts.made t))
resolve_malloc facts f t cast type = ap (resolve facts) (sym (expr.rolls-Malloc f t cast type)) ∙ fold-roll-Expr Read (expr_level facts) (level.Malloc f t cast type)

pub stmt_empty : (facts : Facts) → stmt_of facts stmt.Empty ≡ core.empty
stmt_empty facts = ap (stmt_of facts) (sym stmt.rolls-Empty) ∙ fold-roll-Stmt Piece Stmt (part_level facts) (stmt_level facts) levels.Empty

pub stmt_block : (facts : Facts) (parts : List Part) → stmt_of facts (stmt.Block parts) ≡ core.block (body_of facts parts)
stmt_block facts parts = ap (stmt_of facts) (sym (stmt.rolls-Block parts)) ∙ fold-roll-Stmt Piece Stmt (part_level facts) (stmt_level facts) (levels.Block parts)

pub stmt_if : (facts : Facts) (w : ℕ) (c : Expr) (a : source.Stmt) → stmt_of facts (stmt.If w c a) ≡ core.choice (truth_of facts c) (stmt_of facts a)
stmt_if facts w c a = ap (stmt_of facts) (sym (stmt.rolls-If w c a)) ∙ fold-roll-Stmt Piece Stmt (part_level facts) (stmt_level facts) (levels.If w c a)

pub stmt_if_else : (facts : Facts) (w : ℕ) (c : Expr) (a b : source.Stmt) → stmt_of facts (stmt.IfElse w c a b) ≡ core.choice_else (truth_of facts c) (stmt_of facts a) (stmt_of facts b)
stmt_if_else facts w c a b = ap (stmt_of facts) (sym (stmt.rolls-IfElse w c a b)) ∙ fold-roll-Stmt Piece Stmt (part_level facts) (stmt_level facts) (levels.IfElse w c a b)

pub stmt_while : (facts : Facts) (w : ℕ) (c : Expr) (body : source.Stmt) → stmt_of facts (stmt.While w c body) ≡ core.loop (truth_of facts c) (stmt_of facts body)
stmt_while facts w c body = ap (stmt_of facts) (sym (stmt.rolls-While w c body)) ∙ fold-roll-Stmt Piece Stmt (part_level facts) (stmt_level facts) (levels.While w c body)

pub stmt_do : (facts : Facts) (w : ℕ) (body : source.Stmt) (c : Expr) → stmt_of facts (stmt.Do w body c) ≡ core.repeat (stmt_of facts body) (truth_of facts c)
stmt_do facts w body c = ap (stmt_of facts) (sym (stmt.rolls-Do w body c)) ∙ fold-roll-Stmt Piece Stmt (part_level facts) (stmt_level facts) (levels.Do w body c)

pub stmt_for : (facts : Facts) (w : ℕ) (h : Head) (c : Option Expr) (next : Option Simple) (body : source.Stmt) → stmt_of facts (stmt.For w h c next body) ≡ core.loop_for (head_simple facts h) (head_declarators facts h) (truth_if facts c) (simple_if facts next) (stmt_of facts body)
stmt_for facts w h c next body = ap (stmt_of facts) (sym (stmt.rolls-For w h c next body)) ∙ fold-roll-Stmt Piece Stmt (part_level facts) (stmt_level facts) (levels.For w h c next body)

pub stmt_return : (facts : Facts) (w : ℕ) (e : Option Expr) → stmt_of facts (stmt.Return w e) ≡ core.return (value_if facts e)
stmt_return facts w e = ap (stmt_of facts) (sym (stmt.rolls-Return w e)) ∙ fold-roll-Stmt Piece Stmt (part_level facts) (stmt_level facts) (levels.Return w e)

pub stmt_break : (facts : Facts) (w : ℕ) → stmt_of facts (stmt.Break w) ≡ core.break
stmt_break facts w = ap (stmt_of facts) (sym (stmt.rolls-Break w)) ∙ fold-roll-Stmt Piece Stmt (part_level facts) (stmt_level facts) (levels.Break w)

pub stmt_continue : (facts : Facts) (w : ℕ) → stmt_of facts (stmt.Continue w) ≡ core.continue
stmt_continue facts w = ap (stmt_of facts) (sym (stmt.rolls-Continue w)) ∙ fold-roll-Stmt Piece Stmt (part_level facts) (stmt_level facts) (levels.Continue w)

pub stmt_simple : (facts : Facts) (s : Simple) → stmt_of facts (stmt.Simple s) ≡ core.simple (simple_of facts s)
stmt_simple facts s = ap (stmt_of facts) (sym (stmt.rolls-Simple s)) ∙ fold-roll-Stmt Piece Stmt (part_level facts) (stmt_level facts) (levels.Simple s)

pub piece_decl : (facts : Facts) (d : Decl) → piece_of facts (part.Decl d) ≡ declares (declarators_of facts d)
piece_decl facts d = ap (piece_of facts) (sym (part.rolls-Decl d)) ∙ fold-roll-Part Piece Stmt (part_level facts) (stmt_level facts) (levels.Decl d)

pub piece_stmt : (facts : Facts) (s : source.Stmt) → piece_of facts (part.Stmt s) ≡ does (stmt_of facts s)
piece_stmt facts s = ap (piece_of facts) (sym (part.rolls-Stmt s)) ∙ fold-roll-Part Piece Stmt (part_level facts) (stmt_level facts) (levels.Stmt s)

-- a number that isn't NULL is itself
pub value_number : (facts : Facts) (f t : ℕ) (z : ℤ) → facts.is_null t ≡ false → value_of facts (expr.Number f t z) ≡ core.number z
value_number facts f t z plain = ap (λ r. r.value) (resolve_number facts f t z) ∙ ap (λ b. number_or_null b z) plain

pub value_sum : (facts : Facts) (f t : ℕ) (a b : Expr) → value_of facts (expr.Sum f t a b) ≡ core.arith t core.add (value_of facts a) (value_of facts b)
value_sum facts f t a b = ap (λ r. r.value) (resolve_sum facts f t a b)

pub value_difference : (facts : Facts) (f t : ℕ) (a b : Expr) → value_of facts (expr.Difference f t a b) ≡ core.arith t core.sub (value_of facts a) (value_of facts b)
value_difference facts f t a b = ap (λ r. r.value) (resolve_difference facts f t a b)

-- a function without parameters that gives a value
pub func_returning : (facts : Facts) (r : ResultType) (n w : ℕ) (e : Expr) → func_of facts (record { result = r; name = n; params = []; body = part.Stmt (stmt.Return w (Some e)) ∷ [] }) ≡ record { params = []; result = facts.results n; body = core.then (core.return (Some (value_of facts e))) core.finish }
func_returning facts r n w e = ap (λ p. record { params = []; result = facts.results n; body = parts_of (p ∷ []) }) (piece_stmt facts (stmt.Return w (Some e)) ∙ ap does (stmt_return facts w (Some e)))
