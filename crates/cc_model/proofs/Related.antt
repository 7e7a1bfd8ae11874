-- Two folds of one expression that are related level by level are related.
use Rattle.std.proofs.Common.{ℕ, ℤ, List, [], ◌∷◌, Option, sym, subst}
use Rattle.cc_model.specs.declared.trees.Expr.{Expr, Row_of-Expr, more_of-Expr, end_of-Expr}
use Rattle.cc_model.specs.declared.trees.Expr.TheVariants as expr
use Rattle.cc_model.specs.declared.trees.Expr.TheOpen as level
use Rattle.cc_model.specs.declared.trees.Expr.TheOpen.{Expr-F}
use Rattle.cc_model.specs.declared.trees.Expr.TheFolds.{fold-Expr}
use Rattle.cc_model.specs.declared.trees.TypeName.{TypeName}
use Rattle.cc_model.proofs.Folds.{fold_of, fold_of_row, folds}

-- the lists are as long as each other, and related one by one
abbrev pub AllRelated : {A B : Type 0} → (A → B → Type 0) → List A → List B → Type 0
AllRelated R [] [] = Unit {0}
AllRelated R (a ∷ l) (b ∷ m) = R a b × AllRelated R l m
AllRelated R _ _ = ⊥

-- the levels take related parts to related wholes
pub record Levels (A B : Type 0) (R : A → B → Type 0) (l : Expr-F A → A) (m : Expr-F B → B) : Type 0 where
  pub of_or : (f t : ℕ) (a b : A) (c d : B) → R a c → R b d → R (l (level.Or f t a b)) (m (level.Or f t c d))
  pub of_and : (f t : ℕ) (a b : A) (c d : B) → R a c → R b d → R (l (level.And f t a b)) (m (level.And f t c d))
  pub of_equal : (f t : ℕ) (a b : A) (c d : B) → R a c → R b d → R (l (level.Equal f t a b)) (m (level.Equal f t c d))
  pub of_unequal : (f t : ℕ) (a b : A) (c d : B) → R a c → R b d → R (l (level.Unequal f t a b)) (m (level.Unequal f t c d))
  pub of_less : (f t : ℕ) (a b : A) (c d : B) → R a c → R b d → R (l (level.Less f t a b)) (m (level.Less f t c d))
  pub of_greater : (f t : ℕ) (a b : A) (c d : B) → R a c → R b d → R (l (level.Greater f t a b)) (m (level.Greater f t c d))
  pub of_at_most : (f t : ℕ) (a b : A) (c d : B) → R a c → R b d → R (l (level.AtMost f t a b)) (m (level.AtMost f t c d))
  pub of_at_least : (f t : ℕ) (a b : A) (c d : B) → R a c → R b d → R (l (level.AtLeast f t a b)) (m (level.AtLeast f t c d))
  pub of_sum : (f t : ℕ) (a b : A) (c d : B) → R a c → R b d → R (l (level.Sum f t a b)) (m (level.Sum f t c d))
  pub of_difference : (f t : ℕ) (a b : A) (c d : B) → R a c → R b d → R (l (level.Difference f t a b)) (m (level.Difference f t c d))
  pub of_product : (f t : ℕ) (a b : A) (c d : B) → R a c → R b d → R (l (level.Product f t a b)) (m (level.Product f t c d))
  pub of_quotient : (f t : ℕ) (a b : A) (c d : B) → R a c → R b d → R (l (level.Quotient f t a b)) (m (level.Quotient f t c d))
  pub of_remainder : (f t : ℕ) (a b : A) (c d : B) → R a c → R b d → R (l (level.Remainder f t a b)) (m (level.Remainder f t c d))
  pub of_index : (f t : ℕ) (a b : A) (c d : B) → R a c → R b d → R (l (level.Index f t a b)) (m (level.Index f t c d))
  pub of_minus : (f t : ℕ) (a : A) (c : B) → R a c → R (l (level.Minus f t a)) (m (level.Minus f t c))
  pub of_not : (f t : ℕ) (a : A) (c : B) → R a c → R (l (level.Not f t a)) (m (level.Not f t c))
  pub of_deref : (f t : ℕ) (a : A) (c : B) → R a c → R (l (level.Deref f t a)) (m (level.Deref f t c))
  pub of_address : (f t : ℕ) (a : A) (c : B) → R a c → R (l (level.Address f t a)) (m (level.Address f t c))
  pub of_dot : (f t : ℕ) (a : A) (c : B) (name : ℕ) → R a c → R (l (level.Dot f t a name)) (m (level.Dot f t c name))
  pub of_arrow : (f t : ℕ) (a : A) (c : B) (name : ℕ) → R a c → R (l (level.Arrow f t a name)) (m (level.Arrow f t c name))
  pub of_name : (f t : ℕ) → R (l (level.Name f t)) (m (level.Name f t))
  pub of_number : (f t : ℕ) (z : ℤ) → R (l (level.Number f t z)) (m (level.Number f t z))
  pub of_null : (f t : ℕ) → R (l (level.Null f t)) (m (level.Null f t))
  pub of_call : (f t : ℕ) (xs : List A) (ys : List B) → AllRelated R xs ys → R (l (level.Call f t xs)) (m (level.Call f t ys))
  pub of_malloc : (f t : ℕ) (cast : Option TypeName) (made : TypeName) → R (l (level.Malloc f t cast made)) (m (level.Malloc f t cast made))

mutual
  unfolding fold_of

  pub related_of : {A B : Type 0} {R : A → B → Type 0} {l : Expr-F A → A} {m : Expr-F B → B} → Levels A B R l m → (e : Expr) → R (fold_of l e) (fold_of m e)
  related_of {l = l} {m = m} h (expr.Or' f t s (more_of-Expr a end_of-Expr) s' (more_of-Expr b end_of-Expr)) = h.of_or f t (fold_of l a) (fold_of l b) (fold_of m a) (fold_of m b) (related_of h a) (related_of h b)
  related_of {l = l} {m = m} h (expr.And' f t s (more_of-Expr a end_of-Expr) s' (more_of-Expr b end_of-Expr)) = h.of_and f t (fold_of l a) (fold_of l b) (fold_of m a) (fold_of m b) (related_of h a) (related_of h b)
  related_of {l = l} {m = m} h (expr.Equal' f t s (more_of-Expr a end_of-Expr) s' (more_of-Expr b end_of-Expr)) = h.of_equal f t (fold_of l a) (fold_of l b) (fold_of m a) (fold_of m b) (related_of h a) (related_of h b)
  related_of {l = l} {m = m} h (expr.Unequal' f t s (more_of-Expr a end_of-Expr) s' (more_of-Expr b end_of-Expr)) = h.of_unequal f t (fold_of l a) (fold_of l b) (fold_of m a) (fold_of m b) (related_of h a) (related_of h b)
  related_of {l = l} {m = m} h (expr.Less' f t s (more_of-Expr a end_of-Expr) s' (more_of-Expr b end_of-Expr)) = h.of_less f t (fold_of l a) (fold_of l b) (fold_of m a) (fold_of m b) (related_of h a) (related_of h b)
  related_of {l = l} {m = m} h (expr.Greater' f t s (more_of-Expr a end_of-Expr) s' (more_of-Expr b end_of-Expr)) = h.of_greater f t (fold_of l a) (fold_of l b) (fold_of m a) (fold_of m b) (related_of h a) (related_of h b)
  related_of {l = l} {m = m} h (expr.AtMost' f t s (more_of-Expr a end_of-Expr) s' (more_of-Expr b end_of-Expr)) = h.of_at_most f t (fold_of l a) (fold_of l b) (fold_of m a) (fold_of m b) (related_of h a) (related_of h b)
  related_of {l = l} {m = m} h (expr.AtLeast' f t s (more_of-Expr a end_of-Expr) s' (more_of-Expr b end_of-Expr)) = h.of_at_least f t (fold_of l a) (fold_of l b) (fold_of m a) (fold_of m b) (related_of h a) (related_of h b)
  related_of {l = l} {m = m} h (expr.Sum' f t s (more_of-Expr a end_of-Expr) s' (more_of-Expr b end_of-Expr)) = h.of_sum f t (fold_of l a) (fold_of l b) (fold_of m a) (fold_of m b) (related_of h a) (related_of h b)
  related_of {l = l} {m = m} h (expr.Difference' f t s (more_of-Expr a end_of-Expr) s' (more_of-Expr b end_of-Expr)) = h.of_difference f t (fold_of l a) (fold_of l b) (fold_of m a) (fold_of m b) (related_of h a) (related_of h b)
  related_of {l = l} {m = m} h (expr.Product' f t s (more_of-Expr a end_of-Expr) s' (more_of-Expr b end_of-Expr)) = h.of_product f t (fold_of l a) (fold_of l b) (fold_of m a) (fold_of m b) (related_of h a) (related_of h b)
  related_of {l = l} {m = m} h (expr.Quotient' f t s (more_of-Expr a end_of-Expr) s' (more_of-Expr b end_of-Expr)) = h.of_quotient f t (fold_of l a) (fold_of l b) (fold_of m a) (fold_of m b) (related_of h a) (related_of h b)
  related_of {l = l} {m = m} h (expr.Remainder' f t s (more_of-Expr a end_of-Expr) s' (more_of-Expr b end_of-Expr)) = h.of_remainder f t (fold_of l a) (fold_of l b) (fold_of m a) (fold_of m b) (related_of h a) (related_of h b)
  related_of {l = l} {m = m} h (expr.Index' f t s (more_of-Expr a end_of-Expr) s' (more_of-Expr b end_of-Expr)) = h.of_index f t (fold_of l a) (fold_of l b) (fold_of m a) (fold_of m b) (related_of h a) (related_of h b)
  related_of {l = l} {m = m} h (expr.Minus' f t s (more_of-Expr a end_of-Expr)) = h.of_minus f t (fold_of l a) (fold_of m a) (related_of h a)
  related_of {l = l} {m = m} h (expr.Not' f t s (more_of-Expr a end_of-Expr)) = h.of_not f t (fold_of l a) (fold_of m a) (related_of h a)
  related_of {l = l} {m = m} h (expr.Deref' f t s (more_of-Expr a end_of-Expr)) = h.of_deref f t (fold_of l a) (fold_of m a) (related_of h a)
  related_of {l = l} {m = m} h (expr.Address' f t s (more_of-Expr a end_of-Expr)) = h.of_address f t (fold_of l a) (fold_of m a) (related_of h a)
  related_of {l = l} {m = m} h (expr.Dot' f t s (more_of-Expr a end_of-Expr) name) = h.of_dot f t (fold_of l a) (fold_of m a) name (related_of h a)
  related_of {l = l} {m = m} h (expr.Arrow' f t s (more_of-Expr a end_of-Expr) name) = h.of_arrow f t (fold_of l a) (fold_of m a) name (related_of h a)
  related_of h (expr.Name f t) = h.of_name f t
  related_of h (expr.Number f t z) = h.of_number f t z
  related_of h (expr.Null f t) = h.of_null f t
  related_of h (expr.Malloc f t cast made) = h.of_malloc f t cast made
  related_of {l = l} {m = m} h (expr.Call' f t n args) = h.of_call f t (fold_of_row l args) (fold_of_row m args) (related_row h args)

  pub related_row : {A B : Type 0} {R : A → B → Type 0} {l : Expr-F A → A} {m : Expr-F B → B} → Levels A B R l m → {n : _} (r : Row_of-Expr n) → AllRelated R (fold_of_row l r) (fold_of_row m r)
  related_row h end_of-Expr = tt
  related_row h (more_of-Expr a r) = (related_of h a, related_row h r)

-- so the folds are related
pub related : {A B : Type 0} {R : A → B → Type 0} {l : Expr-F A → A} {m : Expr-F B → B} → Levels A B R l m → (e : Expr) → R (fold-Expr A l e) (fold-Expr B m e)
related {A = A} {B = B} {R = R} {l = l} {m = m} h e = subst (λ a. R a (fold-Expr B m e)) (sym (folds l e)) (subst (λ b. R (fold_of l e) b) (sym (folds m e)) (related_of h e))
