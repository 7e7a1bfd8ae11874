-- Folds over written trees, computed: a tree that is written out unfolds here, which a fold does not.
use Rattle.std.proofs.Common.{◌≡◌, List, [], ◌∷◌, map, refl, ap, ◌∙◌}
use Rattle.cc_model.specs.declared.trees.Expr.{Expr, Row_of-Expr, more_of-Expr, end_of-Expr, items-the_row-Expr, items_shown-the_row-Expr-1}
use Rattle.cc_model.specs.declared.trees.Expr.TheVariants as expr
use Rattle.cc_model.specs.declared.trees.Expr.TheOpen as level
use Rattle.cc_model.specs.declared.trees.Expr.TheOpen.{Expr-F}
use Rattle.cc_model.specs.declared.trees.Expr.TheFolds.{fold-Expr, fold_out-Expr}
use Rattle.cc_model.specs.declared.trees.Stmt as source
use Rattle.cc_model.specs.declared.trees.Stmt.{Row_of-Part, more_of-Part, end_of-Part, items-the_row-Part, items_shown-the_row-Part-0, Row_of-Stmt, more_of-Stmt, end_of-Stmt}
use Rattle.cc_model.specs.declared.trees.Stmt.TheVariants as stmt
use Rattle.cc_model.specs.declared.trees.Part.{Part}
use Rattle.cc_model.specs.declared.trees.Part.TheVariants as part
use Rattle.cc_model.specs.declared.trees.Part.TheOpen as levels
use Rattle.cc_model.specs.declared.trees.Part.TheOpen.{Part-F, Stmt-F}
use Rattle.cc_model.specs.declared.trees.Part.TheFolds.{fold-Part, fold-Stmt, fold_out-Part, fold_out-Stmt}

unfoldable mutual
  pub fold_of : {A : Type 0} → (Expr-F A → A) → Expr → A
  fold_of f_level (expr.Or' f t s (more_of-Expr a end_of-Expr) s' (more_of-Expr b end_of-Expr)) = f_level (level.Or f t (fold_of f_level a) (fold_of f_level b))
  fold_of f_level (expr.And' f t s (more_of-Expr a end_of-Expr) s' (more_of-Expr b end_of-Expr)) = f_level (level.And f t (fold_of f_level a) (fold_of f_level b))
  fold_of f_level (expr.Equal' f t s (more_of-Expr a end_of-Expr) s' (more_of-Expr b end_of-Expr)) = f_level (level.Equal f t (fold_of f_level a) (fold_of f_level b))
  fold_of f_level (expr.Unequal' f t s (more_of-Expr a end_of-Expr) s' (more_of-Expr b end_of-Expr)) = f_level (level.Unequal f t (fold_of f_level a) (fold_of f_level b))
  fold_of f_level (expr.Less' f t s (more_of-Expr a end_of-Expr) s' (more_of-Expr b end_of-Expr)) = f_level (level.Less f t (fold_of f_level a) (fold_of f_level b))
  fold_of f_level (expr.Greater' f t s (more_of-Expr a end_of-Expr) s' (more_of-Expr b end_of-Expr)) = f_level (level.Greater f t (fold_of f_level a) (fold_of f_level b))
  fold_of f_level (expr.AtMost' f t s (more_of-Expr a end_of-Expr) s' (more_of-Expr b end_of-Expr)) = f_level (level.AtMost f t (fold_of f_level a) (fold_of f_level b))
  fold_of f_level (expr.AtLeast' f t s (more_of-Expr a end_of-Expr) s' (more_of-Expr b end_of-Expr)) = f_level (level.AtLeast f t (fold_of f_level a) (fold_of f_level b))
  fold_of f_level (expr.Sum' f t s (more_of-Expr a end_of-Expr) s' (more_of-Expr b end_of-Expr)) = f_level (level.Sum f t (fold_of f_level a) (fold_of f_level b))
  fold_of f_level (expr.Difference' f t s (more_of-Expr a end_of-Expr) s' (more_of-Expr b end_of-Expr)) = f_level (level.Difference f t (fold_of f_level a) (fold_of f_level b))
  fold_of f_level (expr.Product' f t s (more_of-Expr a end_of-Expr) s' (more_of-Expr b end_of-Expr)) = f_level (level.Product f t (fold_of f_level a) (fold_of f_level b))
  fold_of f_level (expr.Quotient' f t s (more_of-Expr a end_of-Expr) s' (more_of-Expr b end_of-Expr)) = f_level (level.Quotient f t (fold_of f_level a) (fold_of f_level b))
  fold_of f_level (expr.Remainder' f t s (more_of-Expr a end_of-Expr) s' (more_of-Expr b end_of-Expr)) = f_level (level.Remainder f t (fold_of f_level a) (fold_of f_level b))
  fold_of f_level (expr.Index' f t s (more_of-Expr a end_of-Expr) s' (more_of-Expr b end_of-Expr)) = f_level (level.Index f t (fold_of f_level a) (fold_of f_level b))
  fold_of f_level (expr.Minus' f t s (more_of-Expr a end_of-Expr)) = f_level (level.Minus f t (fold_of f_level a))
  fold_of f_level (expr.Not' f t s (more_of-Expr a end_of-Expr)) = f_level (level.Not f t (fold_of f_level a))
  fold_of f_level (expr.Deref' f t s (more_of-Expr a end_of-Expr)) = f_level (level.Deref f t (fold_of f_level a))
  fold_of f_level (expr.Address' f t s (more_of-Expr a end_of-Expr)) = f_level (level.Address f t (fold_of f_level a))
  fold_of f_level (expr.Dot' f t s (more_of-Expr a end_of-Expr) name) = f_level (level.Dot f t (fold_of f_level a) name)
  fold_of f_level (expr.Arrow' f t s (more_of-Expr a end_of-Expr) name) = f_level (level.Arrow f t (fold_of f_level a) name)
  fold_of f_level (expr.Name f t) = f_level (level.Name f t)
  fold_of f_level (expr.Number f t z) = f_level (level.Number f t z)
  fold_of f_level (expr.Null f t) = f_level (level.Null f t)
  fold_of f_level (expr.Malloc f t cast type) = f_level (level.Malloc f t cast type)
  fold_of f_level (expr.Call' f t n args) = f_level (level.Call f t (fold_of_row f_level args))

  pub fold_of_row : {A : Type 0} → (Expr-F A → A) → {n : _} → Row_of-Expr n → List A
  fold_of_row f_level end_of-Expr = []
  fold_of_row f_level (more_of-Expr a l) = fold_of f_level a ∷ fold_of_row f_level l

mutual
  unfolding fold_of Rattle.cc_model.specs.declared.trees.Expr.TheBlock.shown-the_row-Expr-0 denote.Hole.Carrier.shown denote.Hole.Carrier.out Rattle.cc_model.specs.declared.trees.Expr.TheViews.out-Expr

  pub folds : {A : Type 0} (f_level : Expr-F A → A) (e : Expr) → fold-Expr A f_level e ≡ fold_of f_level e
  folds {A = A} f_level (expr.Or' f t s (more_of-Expr a end_of-Expr) s' (more_of-Expr b end_of-Expr)) = fold_out-Expr A f_level (expr.Or' f t s (more_of-Expr a end_of-Expr) s' (more_of-Expr b end_of-Expr)) ∙ (λ i. f_level (level.Or f t (folds f_level a i) (folds f_level b i)))
  folds {A = A} f_level (expr.And' f t s (more_of-Expr a end_of-Expr) s' (more_of-Expr b end_of-Expr)) = fold_out-Expr A f_level (expr.And' f t s (more_of-Expr a end_of-Expr) s' (more_of-Expr b end_of-Expr)) ∙ (λ i. f_level (level.And f t (folds f_level a i) (folds f_level b i)))
  folds {A = A} f_level (expr.Equal' f t s (more_of-Expr a end_of-Expr) s' (more_of-Expr b end_of-Expr)) = fold_out-Expr A f_level (expr.Equal' f t s (more_of-Expr a end_of-Expr) s' (more_of-Expr b end_of-Expr)) ∙ (λ i. f_level (level.Equal f t (folds f_level a i) (folds f_level b i)))
  folds {A = A} f_level (expr.Unequal' f t s (more_of-Expr a end_of-Expr) s' (more_of-Expr b end_of-Expr)) = fold_out-Expr A f_level (expr.Unequal' f t s (more_of-Expr a end_of-Expr) s' (more_of-Expr b end_of-Expr)) ∙ (λ i. f_level (level.Unequal f t (folds f_level a i) (folds f_level b i)))
  folds {A = A} f_level (expr.Less' f t s (more_of-Expr a end_of-Expr) s' (more_of-Expr b end_of-Expr)) = fold_out-Expr A f_level (expr.Less' f t s (more_of-Expr a end_of-Expr) s' (more_of-Expr b end_of-Expr)) ∙ (λ i. f_level (level.Less f t (folds f_level a i) (folds f_level b i)))
  folds {A = A} f_level (expr.Greater' f t s (more_of-Expr a end_of-Expr) s' (more_of-Expr b end_of-Expr)) = fold_out-Expr A f_level (expr.Greater' f t s (more_of-Expr a end_of-Expr) s' (more_of-Expr b end_of-Expr)) ∙ (λ i. f_level (level.Greater f t (folds f_level a i) (folds f_level b i)))
  folds {A = A} f_level (expr.AtMost' f t s (more_of-Expr a end_of-Expr) s' (more_of-Expr b end_of-Expr)) = fold_out-Expr A f_level (expr.AtMost' f t s (more_of-Expr a end_of-Expr) s' (more_of-Expr b end_of-Expr)) ∙ (λ i. f_level (level.AtMost f t (folds f_level a i) (folds f_level b i)))
  folds {A = A} f_level (expr.AtLeast' f t s (more_of-Expr a end_of-Expr) s' (more_of-Expr b end_of-Expr)) = fold_out-Expr A f_level (expr.AtLeast' f t s (more_of-Expr a end_of-Expr) s' (more_of-Expr b end_of-Expr)) ∙ (λ i. f_level (level.AtLeast f t (folds f_level a i) (folds f_level b i)))
  folds {A = A} f_level (expr.Sum' f t s (more_of-Expr a end_of-Expr) s' (more_of-Expr b end_of-Expr)) = fold_out-Expr A f_level (expr.Sum' f t s (more_of-Expr a end_of-Expr) s' (more_of-Expr b end_of-Expr)) ∙ (λ i. f_level (level.Sum f t (folds f_level a i) (folds f_level b i)))
  folds {A = A} f_level (expr.Difference' f t s (more_of-Expr a end_of-Expr) s' (more_of-Expr b end_of-Expr)) = fold_out-Expr A f_level (expr.Difference' f t s (more_of-Expr a end_of-Expr) s' (more_of-Expr b end_of-Expr)) ∙ (λ i. f_level (level.Difference f t (folds f_level a i) (folds f_level b i)))
  folds {A = A} f_level (expr.Product' f t s (more_of-Expr a end_of-Expr) s' (more_of-Expr b end_of-Expr)) = fold_out-Expr A f_level (expr.Product' f t s (more_of-Expr a end_of-Expr) s' (more_of-Expr b end_of-Expr)) ∙ (λ i. f_level (level.Product f t (folds f_level a i) (folds f_level b i)))
  folds {A = A} f_level (expr.Quotient' f t s (more_of-Expr a end_of-Expr) s' (more_of-Expr b end_of-Expr)) = fold_out-Expr A f_level (expr.Quotient' f t s (more_of-Expr a end_of-Expr) s' (more_of-Expr b end_of-Expr)) ∙ (λ i. f_level (level.Quotient f t (folds f_level a i) (folds f_level b i)))
  folds {A = A} f_level (expr.Remainder' f t s (more_of-Expr a end_of-Expr) s' (more_of-Expr b end_of-Expr)) = fold_out-Expr A f_level (expr.Remainder' f t s (more_of-Expr a end_of-Expr) s' (more_of-Expr b end_of-Expr)) ∙ (λ i. f_level (level.Remainder f t (folds f_level a i) (folds f_level b i)))
  folds {A = A} f_level (expr.Index' f t s (more_of-Expr a end_of-Expr) s' (more_of-Expr b end_of-Expr)) = fold_out-Expr A f_level (expr.Index' f t s (more_of-Expr a end_of-Expr) s' (more_of-Expr b end_of-Expr)) ∙ (λ i. f_level (level.Index f t (folds f_level a i) (folds f_level b i)))
  folds {A = A} f_level (expr.Minus' f t s (more_of-Expr a end_of-Expr)) = fold_out-Expr A f_level (expr.Minus' f t s (more_of-Expr a end_of-Expr)) ∙ (λ i. f_level (level.Minus f t (folds f_level a i)))
  folds {A = A} f_level (expr.Not' f t s (more_of-Expr a end_of-Expr)) = fold_out-Expr A f_level (expr.Not' f t s (more_of-Expr a end_of-Expr)) ∙ (λ i. f_level (level.Not f t (folds f_level a i)))
  folds {A = A} f_level (expr.Deref' f t s (more_of-Expr a end_of-Expr)) = fold_out-Expr A f_level (expr.Deref' f t s (more_of-Expr a end_of-Expr)) ∙ (λ i. f_level (level.Deref f t (folds f_level a i)))
  folds {A = A} f_level (expr.Address' f t s (more_of-Expr a end_of-Expr)) = fold_out-Expr A f_level (expr.Address' f t s (more_of-Expr a end_of-Expr)) ∙ (λ i. f_level (level.Address f t (folds f_level a i)))
  folds {A = A} f_level (expr.Dot' f t s (more_of-Expr a end_of-Expr) name) = fold_out-Expr A f_level (expr.Dot' f t s (more_of-Expr a end_of-Expr) name) ∙ (λ i. f_level (level.Dot f t (folds f_level a i) name))
  folds {A = A} f_level (expr.Arrow' f t s (more_of-Expr a end_of-Expr) name) = fold_out-Expr A f_level (expr.Arrow' f t s (more_of-Expr a end_of-Expr) name) ∙ (λ i. f_level (level.Arrow f t (folds f_level a i) name))
  folds {A = A} f_level (expr.Name f t) = fold_out-Expr A f_level (expr.Name f t)
  folds {A = A} f_level (expr.Number f t z) = fold_out-Expr A f_level (expr.Number f t z)
  folds {A = A} f_level (expr.Null f t) = fold_out-Expr A f_level (expr.Null f t)
  folds {A = A} f_level (expr.Malloc f t cast type) = fold_out-Expr A f_level (expr.Malloc f t cast type)
  folds {A = A} f_level (expr.Call' f t n args) = fold_out-Expr A f_level (expr.Call' f t n args) ∙ ap (λ l. f_level (level.Call f t (map (fold-Expr A f_level) l))) (items_shown-the_row-Expr-1 n args) ∙ (λ i. f_level (level.Call f t (folds_row f_level args i)))

  pub folds_row : {A : Type 0} (f_level : Expr-F A → A) {n : _} (r : Row_of-Expr n) → map (fold-Expr A f_level) (items-the_row-Expr _ r) ≡ fold_of_row f_level r
  folds_row f_level end_of-Expr = refl
  folds_row f_level (more_of-Expr a l) = λ i. folds f_level a i ∷ folds_row f_level l i

-- ---- statements

unfoldable mutual
  pub fold_of_stmt : {P S : Type 0} → (Part-F P S → P) → (Stmt-F P S → S) → source.Stmt → S
  fold_of_stmt p s stmt.Empty = s levels.Empty
  fold_of_stmt p s (stmt.Block' n parts) = s (levels.Block (fold_of_parts p s parts))
  fold_of_stmt p s (stmt.If' w c n (more_of-Stmt a end_of-Stmt)) = s (levels.If w c (fold_of_stmt p s a))
  fold_of_stmt p s (stmt.IfElse' w c n (more_of-Stmt a end_of-Stmt) n' (more_of-Stmt b end_of-Stmt)) = s (levels.IfElse w c (fold_of_stmt p s a) (fold_of_stmt p s b))
  fold_of_stmt p s (stmt.While' w c n (more_of-Stmt a end_of-Stmt)) = s (levels.While w c (fold_of_stmt p s a))
  fold_of_stmt p s (stmt.Do' w n (more_of-Stmt a end_of-Stmt) c) = s (levels.Do w (fold_of_stmt p s a) c)
  fold_of_stmt p s (stmt.For' w h c next n (more_of-Stmt a end_of-Stmt)) = s (levels.For w h c next (fold_of_stmt p s a))
  fold_of_stmt p s (stmt.Return w e) = s (levels.Return w e)
  fold_of_stmt p s (stmt.Break w) = s (levels.Break w)
  fold_of_stmt p s (stmt.Continue w) = s (levels.Continue w)
  fold_of_stmt p s (stmt.Simple x) = s (levels.Simple x)

  pub fold_of_part : {P S : Type 0} → (Part-F P S → P) → (Stmt-F P S → S) → Part → P
  fold_of_part p s (part.Decl d) = p (levels.Decl d)
  fold_of_part p s (part.Stmt a) = p (levels.Stmt (fold_of_stmt p s a))

  pub fold_of_parts : {P S : Type 0} → (Part-F P S → P) → (Stmt-F P S → S) → {n : _} → Row_of-Part n → List P
  fold_of_parts p s end_of-Part = []
  fold_of_parts p s (more_of-Part a l) = fold_of_part p s a ∷ fold_of_parts p s l

mutual
  unfolding fold_of_stmt Rattle.cc_model.specs.declared.trees.Part.TheBlock.shown-the_row-Stmt-1 denote.Hole.Carrier.shown denote.Hole.Carrier.out Rattle.cc_model.specs.declared.trees.Part.TheViews.out-Part Rattle.cc_model.specs.declared.trees.Part.TheViews.out-Stmt

  pub folds_stmt : {P S : Type 0} (p : Part-F P S → P) (s : Stmt-F P S → S) (a : source.Stmt) → fold-Stmt P S p s a ≡ fold_of_stmt p s a
  folds_stmt {P = P} {S = S} p s stmt.Empty = fold_out-Stmt P S p s stmt.Empty
  folds_stmt {P = P} {S = S} p s (stmt.Block' n parts) = fold_out-Stmt P S p s (stmt.Block' n parts) ∙ ap (λ l. s (levels.Block (map (fold-Part P S p s) l))) (items_shown-the_row-Part-0 n parts) ∙ (λ i. s (levels.Block (folds_parts p s parts i)))
  folds_stmt {P = P} {S = S} p s (stmt.If' w c n (more_of-Stmt a end_of-Stmt)) = fold_out-Stmt P S p s (stmt.If' w c n (more_of-Stmt a end_of-Stmt)) ∙ (λ i. s (levels.If w c (folds_stmt p s a i)))
  folds_stmt {P = P} {S = S} p s (stmt.IfElse' w c n (more_of-Stmt a end_of-Stmt) n' (more_of-Stmt b end_of-Stmt)) = fold_out-Stmt P S p s (stmt.IfElse' w c n (more_of-Stmt a end_of-Stmt) n' (more_of-Stmt b end_of-Stmt)) ∙ (λ i. s (levels.IfElse w c (folds_stmt p s a i) (folds_stmt p s b i)))
  folds_stmt {P = P} {S = S} p s (stmt.While' w c n (more_of-Stmt a end_of-Stmt)) = fold_out-Stmt P S p s (stmt.While' w c n (more_of-Stmt a end_of-Stmt)) ∙ (λ i. s (levels.While w c (folds_stmt p s a i)))
  folds_stmt {P = P} {S = S} p s (stmt.Do' w n (more_of-Stmt a end_of-Stmt) c) = fold_out-Stmt P S p s (stmt.Do' w n (more_of-Stmt a end_of-Stmt) c) ∙ (λ i. s (levels.Do w (folds_stmt p s a i) c))
  folds_stmt {P = P} {S = S} p s (stmt.For' w h c next n (more_of-Stmt a end_of-Stmt)) = fold_out-Stmt P S p s (stmt.For' w h c next n (more_of-Stmt a end_of-Stmt)) ∙ (λ i. s (levels.For w h c next (folds_stmt p s a i)))
  folds_stmt {P = P} {S = S} p s (stmt.Return w e) = fold_out-Stmt P S p s (stmt.Return w e)
  folds_stmt {P = P} {S = S} p s (stmt.Break w) = fold_out-Stmt P S p s (stmt.Break w)
  folds_stmt {P = P} {S = S} p s (stmt.Continue w) = fold_out-Stmt P S p s (stmt.Continue w)
  folds_stmt {P = P} {S = S} p s (stmt.Simple x) = fold_out-Stmt P S p s (stmt.Simple x)

  pub folds_part : {P S : Type 0} (p : Part-F P S → P) (s : Stmt-F P S → S) (a : Part) → fold-Part P S p s a ≡ fold_of_part p s a
  folds_part {P = P} {S = S} p s (part.Decl d) = fold_out-Part P S p s (part.Decl d)
  folds_part {P = P} {S = S} p s (part.Stmt a) = fold_out-Part P S p s (part.Stmt a) ∙ (λ i. p (levels.Stmt (folds_stmt p s a i)))

  pub folds_parts : {P S : Type 0} (p : Part-F P S → P) (s : Stmt-F P S → S) {n : _} (r : Row_of-Part n) → map (fold-Part P S p s) (items-the_row-Part _ r) ≡ fold_of_parts p s r
  folds_parts p s end_of-Part = refl
  folds_parts p s (more_of-Part a l) = λ i. folds_part p s a i ∷ folds_parts p s l i
