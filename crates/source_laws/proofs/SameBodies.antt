-- Trees that are resolved by facts that differ by the numbers of types alone.
use Rattle.std.proofs.Common.{◌≡◌, ℕ, ℤ, Bool, true, false, List, [], ◌∷◌, ◌++◌, map, flat_map, Option, Some, None, refl, sym, ap, ap₂, subst, ◌∙◌}
use Rattle.cc_model.specs.declared.checked.Target.{Target}
use Rattle.cc_model.specs.declared.checked.Target.TheVariants as target
use Rattle.cc_model.specs.declared.trees.Expr.{Expr, Row_of-Expr, more_of-Expr, end_of-Expr}
use Rattle.cc_model.specs.declared.trees.Expr.TheVariants as expr
use Rattle.cc_model.specs.declared.trees.Expr.TheOpen as level
use Rattle.cc_model.specs.declared.trees.Simple as source_simple
use Rattle.cc_model.specs.declared.trees.Simple.TheVariants as simple
use Rattle.cc_model.specs.declared.trees.Head.{Head}
use Rattle.cc_model.specs.declared.trees.Head.TheVariants as head
use Rattle.cc_model.specs.declared.trees.Declared.{Declared}
use Rattle.cc_model.specs.declared.trees.Initializer.{Initializer}
use Rattle.cc_model.specs.declared.trees.Param.{Param}
use Rattle.cc_model.specs.declared.trees.Stmt as source
use Rattle.cc_model.specs.declared.trees.Stmt.{Row_of-Part, more_of-Part, end_of-Part, more_of-Stmt, end_of-Stmt}
use Rattle.cc_model.specs.declared.trees.Stmt.TheVariants as stmt
use Rattle.cc_model.specs.declared.trees.Part.{Part}
use Rattle.cc_model.specs.declared.trees.Part.TheVariants as part
use Rattle.cc_model.specs.declared.trees.Func as source_func
use Rattle.cc_model.specs.Core as core
use Rattle.cc_model.specs.Core.{Cell, Layout, Func, Vals, Declarator, Parts}
use Rattle.cc_model.specs.Resolve.{Facts, Read, Piece, declares, does, by_value, by_place, vals_of, number_or_null, function_named, offset_named, slot_named, first_cell, variable_named, expr_level, resolve, simple_of, declarator_of, start_value, value_if, truth_if, simple_if, head_simple, head_declarators, part_level, stmt_level, declared_before, parts_of, piece_of, body_of, param_of, func_of}
use Rattle.cc_model.specs.CheckedProgram.{expression_if, simple_expressions, simple_expressions_if, start_expression}
use Rattle.cc_model.proofs.Folds.{fold_of, fold_of_row, folds, fold_of_stmt, fold_of_part, fold_of_parts, folds_part}
use Rattle.cc_laws.proofs.StructCells.{Every}
use Rattle.source_laws.specs.Renumbering.{renumber_cell, renumber_layout, renumber_val, renumber_cond, renumber_loc, renumber_vals, renumber_simple, if_there, renumber_declarator, renumber_stmt, renumber_parts, renumber_func}
use Rattle.source_laws.specs.Settled as due
use Rattle.source_laws.specs.Settled.{Due, due_level, dues_in, dues_of, declared_dues, head_dues, part_dues, stmt_dues, dues_of_part, func_dues}

-- two checkers that tell the same of tokens, but for the numbers of types; of some tokens only where that is due
pub record SameFacts (r : ℕ → ℕ) (IsDue : Due → Type 0) (facts other : Facts) : Type 0 where
  pub names : (t : ℕ) → other.names t ≡ facts.names t
  pub global_cells : (n : ℕ) → other.global_cells n ≡ facts.global_cells n
  pub is_null : (t : ℕ) → other.is_null t ≡ facts.is_null t
  pub lengths : (t : ℕ) → other.lengths t ≡ facts.lengths t
  pub results : (t : ℕ) → other.results t ≡ renumber_cell r (facts.results t)
  pub made : (t : ℕ) → IsDue (due.makes t) → other.made t ≡ renumber_layout r (facts.made t)
  pub widths : (t : ℕ) → IsDue (due.indexes t) → other.widths t ≡ facts.widths t
  pub declared : (t : ℕ) → IsDue (due.declares t) → other.declared t ≡ renumber_layout r (facts.declared t)

module _ (r : ℕ → ℕ) (IsDue : Due → Type 0) (facts other : Facts) (same : SameFacts r IsDue facts other) where
  front : (l m : List Due) → Every IsDue (l ++ m) → Every IsDue l
  front [] m h = tt
  front (x ∷ l) m h = (h.0, front l m h.1)

  back : (l m : List Due) → Every IsDue (l ++ m) → Every IsDue m
  back [] m h = h
  back (x ∷ l) m h = back l m h.1

  abbrev again : Read → Read
  again a = record { value = renumber_val r a.value; truth = renumber_cond r a.truth; place = renumber_loc r a.place }

  variable_same : (o : Option Target) → variable_named other o ≡ renumber_loc r (variable_named facts o)
  variable_same None = refl
  variable_same (Some (target.Local n)) = refl
  variable_same (Some (target.Global n)) = ap core.global (same.global_cells n)
  variable_same (Some (target.Func n)) = refl
  variable_same (Some (target.Field n)) = refl

  number_same : (b : Bool) (z : ℤ) → number_or_null b z ≡ renumber_val r (number_or_null b z)
  number_same true z = refl
  number_same false z = refl

  vals_same : (l : List Read) → vals_of (map again l) ≡ renumber_vals r (vals_of l)
  vals_same [] = refl
  vals_same (a ∷ l) = ap (core.more (renumber_val r a.value)) (vals_same l)

  -- ---- expressions

  mutual
    unfolding fold_of

    same_of : (e : Expr) → Every IsDue (fold_of due_level e) → fold_of (expr_level other) e ≡ again (fold_of (expr_level facts) e)
    same_of (expr.Or' f t s (more_of-Expr a end_of-Expr) s' (more_of-Expr b end_of-Expr)) m = ap₂ (λ x y. expr_level other (level.Or f t x y)) (same_of a (front (fold_of due_level a) (fold_of due_level b) m)) (same_of b (back (fold_of due_level a) (fold_of due_level b) m))
    same_of (expr.And' f t s (more_of-Expr a end_of-Expr) s' (more_of-Expr b end_of-Expr)) m = ap₂ (λ x y. expr_level other (level.And f t x y)) (same_of a (front (fold_of due_level a) (fold_of due_level b) m)) (same_of b (back (fold_of due_level a) (fold_of due_level b) m))
    same_of (expr.Equal' f t s (more_of-Expr a end_of-Expr) s' (more_of-Expr b end_of-Expr)) m = ap₂ (λ x y. expr_level other (level.Equal f t x y)) (same_of a (front (fold_of due_level a) (fold_of due_level b) m)) (same_of b (back (fold_of due_level a) (fold_of due_level b) m))
    same_of (expr.Unequal' f t s (more_of-Expr a end_of-Expr) s' (more_of-Expr b end_of-Expr)) m = ap₂ (λ x y. expr_level other (level.Unequal f t x y)) (same_of a (front (fold_of due_level a) (fold_of due_level b) m)) (same_of b (back (fold_of due_level a) (fold_of due_level b) m))
    same_of (expr.Less' f t s (more_of-Expr a end_of-Expr) s' (more_of-Expr b end_of-Expr)) m = ap₂ (λ x y. expr_level other (level.Less f t x y)) (same_of a (front (fold_of due_level a) (fold_of due_level b) m)) (same_of b (back (fold_of due_level a) (fold_of due_level b) m))
    same_of (expr.Greater' f t s (more_of-Expr a end_of-Expr) s' (more_of-Expr b end_of-Expr)) m = ap₂ (λ x y. expr_level other (level.Greater f t x y)) (same_of a (front (fold_of due_level a) (fold_of due_level b) m)) (same_of b (back (fold_of due_level a) (fold_of due_level b) m))
    same_of (expr.AtMost' f t s (more_of-Expr a end_of-Expr) s' (more_of-Expr b end_of-Expr)) m = ap₂ (λ x y. expr_level other (level.AtMost f t x y)) (same_of a (front (fold_of due_level a) (fold_of due_level b) m)) (same_of b (back (fold_of due_level a) (fold_of due_level b) m))
    same_of (expr.AtLeast' f t s (more_of-Expr a end_of-Expr) s' (more_of-Expr b end_of-Expr)) m = ap₂ (λ x y. expr_level other (level.AtLeast f t x y)) (same_of a (front (fold_of due_level a) (fold_of due_level b) m)) (same_of b (back (fold_of due_level a) (fold_of due_level b) m))
    same_of (expr.Sum' f t s (more_of-Expr a end_of-Expr) s' (more_of-Expr b end_of-Expr)) m = ap₂ (λ x y. expr_level other (level.Sum f t x y)) (same_of a (front (fold_of due_level a) (fold_of due_level b) m)) (same_of b (back (fold_of due_level a) (fold_of due_level b) m))
    same_of (expr.Difference' f t s (more_of-Expr a end_of-Expr) s' (more_of-Expr b end_of-Expr)) m = ap₂ (λ x y. expr_level other (level.Difference f t x y)) (same_of a (front (fold_of due_level a) (fold_of due_level b) m)) (same_of b (back (fold_of due_level a) (fold_of due_level b) m))
    same_of (expr.Product' f t s (more_of-Expr a end_of-Expr) s' (more_of-Expr b end_of-Expr)) m = ap₂ (λ x y. expr_level other (level.Product f t x y)) (same_of a (front (fold_of due_level a) (fold_of due_level b) m)) (same_of b (back (fold_of due_level a) (fold_of due_level b) m))
    same_of (expr.Quotient' f t s (more_of-Expr a end_of-Expr) s' (more_of-Expr b end_of-Expr)) m = ap₂ (λ x y. expr_level other (level.Quotient f t x y)) (same_of a (front (fold_of due_level a) (fold_of due_level b) m)) (same_of b (back (fold_of due_level a) (fold_of due_level b) m))
    same_of (expr.Remainder' f t s (more_of-Expr a end_of-Expr) s' (more_of-Expr b end_of-Expr)) m = ap₂ (λ x y. expr_level other (level.Remainder f t x y)) (same_of a (front (fold_of due_level a) (fold_of due_level b) m)) (same_of b (back (fold_of due_level a) (fold_of due_level b) m))
    same_of (expr.Minus' f t s (more_of-Expr a end_of-Expr)) m = ap (λ x. expr_level other (level.Minus f t x)) (same_of a m)
    same_of (expr.Not' f t s (more_of-Expr a end_of-Expr)) m = ap (λ x. expr_level other (level.Not f t x)) (same_of a m)
    same_of (expr.Deref' f t s (more_of-Expr a end_of-Expr)) m = ap (λ x. expr_level other (level.Deref f t x)) (same_of a m)
    same_of (expr.Address' f t s (more_of-Expr a end_of-Expr)) m = ap (λ x. expr_level other (level.Address f t x)) (same_of a m)
    same_of (expr.Index' f t s (more_of-Expr a end_of-Expr) s' (more_of-Expr b end_of-Expr)) m =
        ap₂ (λ x y. expr_level other (level.Index f t x y)) (same_of a (front (fold_of due_level a) (fold_of due_level b) m.1)) (same_of b (back (fold_of due_level a) (fold_of due_level b) m.1))
        ∙ ap₂ (λ n w. by_place f (core.index t (renumber_loc r (fold_of (expr_level facts) a).place) (renumber_val r (fold_of (expr_level facts) b).value) n w)) (same.lengths t) (same.widths t m.0)
    same_of (expr.Dot' f t s (more_of-Expr a end_of-Expr) name) m = ap₂ (λ x o. by_place f (core.dot x.place (offset_named o))) (same_of a m) (same.names name)
    same_of (expr.Arrow' f t s (more_of-Expr a end_of-Expr) name) m = ap₂ (λ x o. by_place f (core.arrow t x.value (offset_named o))) (same_of a m) (same.names name)
    same_of (expr.Name f t) m = ap (λ o. by_place f (variable_named other o)) (same.names t) ∙ ap (by_place f) (variable_same (facts.names t))
    same_of (expr.Number f t z) m = ap (λ b. by_value f (number_or_null b z)) (same.is_null t) ∙ ap (by_value f) (number_same (facts.is_null t) z)
    same_of (expr.Null f t) m = refl
    same_of (expr.Malloc f t cast made) m = ap (λ l. by_value f (core.malloc l)) (same.made t m.0)
    same_of (expr.Call' f t n args) m = ap₂ (λ o l. by_value f (core.call (function_named o) (vals_of l))) (same.names t) (same_row args m)
        ∙ ap (λ l. by_value f (core.call (function_named (facts.names t)) l)) (vals_same (fold_of_row (expr_level facts) args))

    same_row : {n : _} (l : Row_of-Expr n) → Every IsDue (flat_map (λ d. d) (fold_of_row due_level l)) → fold_of_row (expr_level other) l ≡ map again (fold_of_row (expr_level facts) l)
    same_row end_of-Expr m = refl
    same_row (more_of-Expr a l) m = ap₂ (λ x y. x ∷ y) (same_of a (front (fold_of due_level a) (flat_map (λ d. d) (fold_of_row due_level l)) m)) (same_row l (back (fold_of due_level a) (flat_map (λ d. d) (fold_of_row due_level l)) m))

  same_resolved : (e : Expr) → Every IsDue (dues_in e) → resolve other e ≡ again (resolve facts e)
  same_resolved e m = folds (expr_level other) e ∙ same_of e (subst (Every IsDue) (folds due_level e) m) ∙ sym (ap again (folds (expr_level facts) e))

  -- ---- statements

  val : (e : Expr) → Every IsDue (dues_in e) → (resolve other e).value ≡ renumber_val r (resolve facts e).value
  val e m = ap (λ x. x.value) (same_resolved e m)

  tru : (e : Expr) → Every IsDue (dues_in e) → (resolve other e).truth ≡ renumber_cond r (resolve facts e).truth
  tru e m = ap (λ x. x.truth) (same_resolved e m)

  pla : (e : Expr) → Every IsDue (dues_in e) → (resolve other e).place ≡ renumber_loc r (resolve facts e).place
  pla e m = ap (λ x. x.place) (same_resolved e m)

  one : (e : Expr) → Every IsDue (dues_of (e ∷ [])) → Every IsDue (dues_in e)
  one e m = front (dues_in e) [] m

  first : (e k : Expr) → Every IsDue (dues_of (e ∷ k ∷ [])) → Every IsDue (dues_in e)
  first e k m = front (dues_in e) (dues_of (k ∷ [])) m

  second : (e k : Expr) → Every IsDue (dues_of (e ∷ k ∷ [])) → Every IsDue (dues_in k)
  second e k m = one k (back (dues_in e) (dues_of (k ∷ [])) m)

  args_same : (l : List Expr) → Every IsDue (dues_of l) → map (resolve other) l ≡ map again (map (resolve facts) l)
  args_same [] m = refl
  args_same (e ∷ l) m = ap₂ (λ x y. x ∷ y) (same_resolved e (front (dues_in e) (dues_of l) m)) (args_same l (back (dues_in e) (dues_of l) m))

  simple_same : (s : source_simple.Simple) → Every IsDue (dues_of (simple_expressions s)) → simple_of other s ≡ renumber_simple r (simple_of facts s)
  simple_same (simple.Assign t l e) m = ap₂ core.assign (pla l (first l e m)) (val e (second l e m))
  simple_same (simple.AddTo t l e) m = ap₂ (core.update t core.add) (pla l (first l e m)) (val e (second l e m))
  simple_same (simple.SubFrom t l e) m = ap₂ (core.update t core.sub) (pla l (first l e m)) (val e (second l e m))
  simple_same (simple.MulBy t l e) m = ap₂ (core.update t core.mul) (pla l (first l e m)) (val e (second l e m))
  simple_same (simple.DivBy t l e) m = ap₂ (core.update t core.quot) (pla l (first l e m)) (val e (second l e m))
  simple_same (simple.RemBy t l e) m = ap₂ (core.update t core.rem) (pla l (first l e m)) (val e (second l e m))
  simple_same (simple.Increase t l) m = ap (core.bump t core.add) (pla l (one l m))
  simple_same (simple.Decrease t l) m = ap (core.bump t core.sub) (pla l (one l m))
  simple_same (simple.IncreaseFirst t l) m = ap (core.bump t core.add) (pla l (one l m))
  simple_same (simple.DecreaseFirst t l) m = ap (core.bump t core.sub) (pla l (one l m))
  simple_same (simple.Call t args) m = ap₂ (λ o l. core.perform (function_named o) (vals_of l)) (same.names t) (args_same args m) ∙ ap (core.perform (function_named (facts.names t))) (vals_same (map (resolve facts) args))
  simple_same (simple.Assert t e) m = ap (core.assert t) (tru e (one e m))
  simple_same (simple.Assume t e) m = ap core.assume (tru e (one e m))
  simple_same (simple.Abort t) m = refl
  simple_same (simple.CrestInt t l) m = ap core.take (pla l (one l m))

  simple_if_same : (s : Option source_simple.Simple) → Every IsDue (dues_of (simple_expressions_if s)) → simple_if other s ≡ if_there r (renumber_simple r) (simple_if facts s)
  simple_if_same None m = refl
  simple_if_same (Some s) m = ap (λ x. Some x) (simple_same s m)

  value_if_same : (e : Option Expr) → Every IsDue (dues_of (expression_if e)) → value_if other e ≡ if_there r (renumber_val r) (value_if facts e)
  value_if_same None m = refl
  value_if_same (Some e) m = ap (λ x. Some x) (val e (one e m))

  truth_if_same : (e : Option Expr) → Every IsDue (dues_of (expression_if e)) → truth_if other e ≡ if_there r (renumber_cond r) (truth_if facts e)
  truth_if_same None m = refl
  truth_if_same (Some e) m = ap (λ x. Some x) (tru e (one e m))

  start_same : (i : Option Initializer) → Every IsDue (dues_of (start_expression i)) → start_value other i ≡ if_there r (renumber_val r) (start_value facts i)
  start_same None m = refl
  start_same (Some i) m = ap (λ x. Some x) (val i.value (one i.value m))

  declarator_same : (p : Declared) → Every IsDue (declared_dues p) → declarator_of other p ≡ renumber_declarator r (declarator_of facts p)
  declarator_same p m = ap₂ (λ o l. record { slot = slot_named o; type = l; start = start_value other p.initializer }) (same.names (p.declarator).name) (same.declared (p.declarator).name m.0)
      ∙ ap (λ v. record { slot = slot_named (facts.names (p.declarator).name); type = renumber_layout r (facts.declared (p.declarator).name); start = v }) (start_same p.initializer m.1)

  declared_same : (l : List Declared) → Every IsDue (flat_map declared_dues l) → map (declarator_of other) l ≡ map (renumber_declarator r) (map (declarator_of facts) l)
  declared_same [] m = refl
  declared_same (p ∷ l) m = ap₂ (λ x y. x ∷ y) (declarator_same p (front (declared_dues p) (flat_map declared_dues l) m)) (declared_same l (back (declared_dues p) (flat_map declared_dues l) m))

  head_first : (h : Head) → Every IsDue (head_dues h) → head_simple other h ≡ if_there r (renumber_simple r) (head_simple facts h)
  head_first (head.Decl d) m = refl
  head_first (head.Simple s) m = simple_if_same s m

  head_declared : (h : Head) → Every IsDue (head_dues h) → head_declarators other h ≡ map (renumber_declarator r) (head_declarators facts h)
  head_declared (head.Decl d) m = declared_same d.parts m
  head_declared (head.Simple s) m = refl

  abbrev again_piece : Piece → Piece
  again_piece (declares ds) = declares (map (renumber_declarator r) ds)
  again_piece (does s) = does (renumber_stmt r s)

  before_same : (ds : List Declarator) (rest : Parts) → declared_before (map (renumber_declarator r) ds) (renumber_parts r rest) ≡ renumber_parts r (declared_before ds rest)
  before_same [] rest = refl
  before_same (d ∷ ds) rest = ap (core.declare (renumber_declarator r d)) (before_same ds rest)

  parts_same : (l : List Piece) → parts_of (map again_piece l) ≡ renumber_parts r (parts_of l)
  parts_same [] = refl
  parts_same (declares ds ∷ l) = ap (declared_before (map (renumber_declarator r) ds)) (parts_same l) ∙ before_same ds (parts_of l)
  parts_same (does s ∷ l) = ap (core.then (renumber_stmt r s)) (parts_same l)

  abbrev Ds : source.Stmt → List Due
  Ds s = fold_of_stmt part_dues stmt_dues s

  mutual
    unfolding fold_of_stmt

    stmt_same : (s : source.Stmt) → Every IsDue (fold_of_stmt part_dues stmt_dues s) → fold_of_stmt (part_level other) (stmt_level other) s ≡ renumber_stmt r (fold_of_stmt (part_level facts) (stmt_level facts) s)
    stmt_same stmt.Empty m = refl
    stmt_same (stmt.Block' n parts) m = ap (λ l. core.block (parts_of l)) (pieces_same parts m) ∙ ap core.block (parts_same (fold_of_parts (part_level facts) (stmt_level facts) parts))
    stmt_same (stmt.If' w e n (more_of-Stmt a end_of-Stmt)) m = ap₂ core.choice (tru e (front (dues_in e) (Ds a) m)) (stmt_same a (back (dues_in e) (Ds a) m))
    stmt_same (stmt.IfElse' w e n (more_of-Stmt a end_of-Stmt) n' (more_of-Stmt b end_of-Stmt)) m = let k = back (dues_in e) (Ds a ++ Ds b) m in
        ap₂ (λ x y. core.choice_else x y (fold_of_stmt (part_level other) (stmt_level other) b)) (tru e (front (dues_in e) (Ds a ++ Ds b) m)) (stmt_same a (front (Ds a) (Ds b) k))
        ∙ ap (core.choice_else (renumber_cond r (resolve facts e).truth) (renumber_stmt r (fold_of_stmt (part_level facts) (stmt_level facts) a))) (stmt_same b (back (Ds a) (Ds b) k))
    stmt_same (stmt.While' w e n (more_of-Stmt a end_of-Stmt)) m = ap₂ core.loop (tru e (front (dues_in e) (Ds a) m)) (stmt_same a (back (dues_in e) (Ds a) m))
    stmt_same (stmt.Do' w n (more_of-Stmt a end_of-Stmt) e) m = ap₂ core.repeat (stmt_same a (front (Ds a) (dues_in e) m)) (tru e (back (Ds a) (dues_in e) m))
    stmt_same (stmt.For' w h e next n (more_of-Stmt a end_of-Stmt)) m =
        let two = dues_of (expression_if e) in
        let three = dues_of (simple_expressions_if next) in
        let m0 = front (head_dues h) (two ++ (three ++ Ds a)) m in
        let m1 = back (head_dues h) (two ++ (three ++ Ds a)) m in
        let m2 = back two (three ++ Ds a) m1 in
        ap₂ (λ x y. core.loop_for x y (truth_if other e) (simple_if other next) (fold_of_stmt (part_level other) (stmt_level other) a)) (head_first h m0) (head_declared h m0)
        ∙ ap₂ (λ x y. core.loop_for (if_there r (renumber_simple r) (head_simple facts h)) (map (renumber_declarator r) (head_declarators facts h)) x y (fold_of_stmt (part_level other) (stmt_level other) a))
        (truth_if_same e (front two (three ++ Ds a) m1)) (simple_if_same next (front three (Ds a) m2))
        ∙ ap (core.loop_for (if_there r (renumber_simple r) (head_simple facts h)) (map (renumber_declarator r) (head_declarators facts h)) (if_there r (renumber_cond r) (truth_if facts e)) (if_there r (renumber_simple r) (simple_if facts next)))
        (stmt_same a (back three (Ds a) m2))
    stmt_same (stmt.Return w e) m = ap core.return (value_if_same e m)
    stmt_same (stmt.Break w) m = refl
    stmt_same (stmt.Continue w) m = refl
    stmt_same (stmt.Simple x) m = ap core.simple (simple_same x m)

    piece_same : (p : Part) → Every IsDue (fold_of_part part_dues stmt_dues p) → fold_of_part (part_level other) (stmt_level other) p ≡ again_piece (fold_of_part (part_level facts) (stmt_level facts) p)
    piece_same (part.Decl d) m = ap declares (declared_same d.parts m)
    piece_same (part.Stmt s) m = ap does (stmt_same s m)

    pieces_same : {n : _} (l : Row_of-Part n) → Every IsDue (flat_map (λ d. d) (fold_of_parts part_dues stmt_dues l)) → fold_of_parts (part_level other) (stmt_level other) l ≡ map again_piece (fold_of_parts (part_level facts) (stmt_level facts) l)
    pieces_same end_of-Part m = refl
    pieces_same (more_of-Part p l) m = ap₂ (λ x y. x ∷ y) (piece_same p (front (fold_of_part part_dues stmt_dues p) (flat_map (λ d. d) (fold_of_parts part_dues stmt_dues l)) m))
        (pieces_same l (back (fold_of_part part_dues stmt_dues p) (flat_map (λ d. d) (fold_of_parts part_dues stmt_dues l)) m))

  part_same : (p : Part) → Every IsDue (dues_of_part p) → piece_of other p ≡ again_piece (piece_of facts p)
  part_same p m = folds_part (part_level other) (stmt_level other) p ∙ piece_same p (subst (Every IsDue) (folds_part part_dues stmt_dues p) m) ∙ sym (ap again_piece (folds_part (part_level facts) (stmt_level facts) p))

  all_same : (l : List Part) → Every IsDue (flat_map dues_of_part l) → map (piece_of other) l ≡ map again_piece (map (piece_of facts) l)
  all_same [] m = refl
  all_same (p ∷ l) m = ap₂ (λ x y. x ∷ y) (part_same p (front (dues_of_part p) (flat_map dues_of_part l) m)) (all_same l (back (dues_of_part p) (flat_map dues_of_part l) m))

  body_same : (l : List Part) → Every IsDue (flat_map dues_of_part l) → body_of other l ≡ renumber_parts r (body_of facts l)
  body_same l m = ap parts_of (all_same l m) ∙ parts_same (map (piece_of facts) l)

  first_same : (cs : List Cell) → first_cell (map (renumber_cell r) cs) ≡ renumber_cell r (first_cell cs)
  first_same [] = refl
  first_same (c ∷ cs) = refl

  params_same : (l : List Param) → Every IsDue (map (λ p. due.declares p.name) l) → map (param_of other) l ≡ map (renumber_cell r) (map (param_of facts) l)
  params_same [] m = refl
  params_same (p ∷ l) m = ap₂ (λ x y. x ∷ y) (ap (λ t. first_cell t.cells) (same.declared p.name m.0) ∙ first_same (facts.declared p.name).cells) (params_same l m.1)

  pub func_same : (f : source_func.Func) → Every IsDue (func_dues f) → func_of other f ≡ renumber_func r (func_of facts f)
  func_same f m = let l = map (λ p. due.declares p.name) f.params in let k = flat_map dues_of_part f.body in
      ap₂ (λ x y. record { params = x; result = other.results f.name; body = y }) (params_same f.params (front l k m)) (body_same f.body (back l k m))
      ∙ ap (λ c. record { params = map (renumber_cell r) (map (param_of facts) f.params); result = c; body = renumber_parts r (body_of facts f.body) }) (same.results f.name)
