-- The name of a type, a cast and `malloc` are parsed where they have a derivation.
use Rattle.std.proofs.Common.{◌≡◌, ◌⊎◌, inl, inr, ℕ, zero, suc, ◌≤◌, Bool, true, false, Option, Some, refl, sym, ap, ◌∙◌, arith}
use Rattle.cc_model.specs.declared.tokens.Kind.{Kind}
use Rattle.cc_model.specs.declared.tokens.Kind.TheVariants as kind
use Rattle.cc_model.specs.declared.tokens.Punct.{Punct}
use Rattle.cc_model.specs.declared.tokens.Punct.TheVariants as punct
use Rattle.cc_model.specs.declared.tokens.Keyword.{Keyword}
use Rattle.cc_model.specs.declared.tokens.Keyword.TheVariants as keyword
use Rattle.cc_model.specs.declared.trees.Base.{Base}
use Rattle.cc_model.specs.declared.trees.TypeName.{TypeName}
use Rattle.cc_model.specs.declared.trees.Expr.{Expr}
use Rattle.cc_model.specs.declared.trees.Expr.TheVariants as tree
use Rattle.cc_model.specs.Spots.{Spot, opened, passed, closed, back, Is, IsKey}
use Rattle.cc_model.specs.ReadTypes.{BaseType, Stars, Typed}
use Rattle.cc_model.specs.ReadTypes as type
use Rattle.cc_model.specs.ReadExpressions.{Prefix, prefix_sign}
use Rattle.cc_model.specs.ReadExpressions as by
use Rattle.c_expressions.specs.Descent.{Got, got, failed, P, go_on, ◌>>=◌, ◌>>◌, pure, leave, Ends, is_sign, base_at, BaseStart, an_int, a_struct, an_alias, no_base}
use Rattle.c_expressions.specs.Descent as of
use Rattle.c_expressions.proofs.Rules.{ends_suc, ends_bind, ends_then, ends_pure, ends_leave}
use Rattle.c_expressions.proofs.Tests.{sign_yes, take_yes, expect_yes, word_yes, name_yes, close_yes, base_tells, is_sign_tells}
use Rattle.c_expressions.proofs.First.{begins_base, first, not_close, postfix_star}

pub other_sign : (p q : Punct) (k : Option Kind) → k ≡ Some (kind.Punct q) → is_sign p (Some (kind.Punct q)) ≡ false → is_sign p k ≡ false
other_sign p q k e h = ap (is_sign p) e ∙ h

close_no_star : (k : Option Kind) → k ≡ Some (kind.Punct punct.Close) → is_sign punct.Star k ≡ false
unfolding is_sign
close_no_star k e = rw e refl

prefix_stops : (p : Punct) (make : Prefix) → prefix_sign p ≡ Some make → (p ≡ punct.Star) ⊎ ((is_sign punct.Star (Some (kind.Punct p)) ≡ false) × (is_sign punct.Close (Some (kind.Punct p)) ≡ false))
unfolding is_sign
prefix_stops punct.Star make e = inl refl
prefix_stops punct.Close make e = cc
prefix_stops _ make e = inr (refl, refl)

module _ (tok : ℕ → Option Kind) (fits : ℕ → ℕ → Bool) where
  pub base_done : {s t : Spot} {b : Base} → BaseType tok fits s t b → of.base_type tok fits s ≡ got b t
  unfolding of.base_type of.base_from base_at ◌>>=◌ ◌>>◌ go_on pure
  base_done (type.int {s} i) = rw (i.0, take_yes tok fits s passed i.1) refl
  base_done (type.struct {s} i j) = rw (i.0, take_yes tok fits s passed i.1, name_yes tok fits (passed s) j.0 j.1) refl
  base_done (type.alias {s} i) = rw (i.0, take_yes tok fits s passed i.1) refl

  pub stars_done : {s t : Spot} {n : ℕ} → Stars tok fits s t n → is_sign punct.Star (tok t.at) ≡ false → Ends (λ m. of.stars tok fits m) s (got n t)
  unfolding of.stars pure
  stars_done (type.none {s}) h = ends_suc {s = s} (λ m. of.stars tok fits m) (λ m. pure 0) (λ m. rw h refl) (ends_pure 0 s)
  stars_done (type.star {s} {t} {n} i d) h = ends_suc {s = s} (λ m. of.stars tok fits m) (λ m. of.take tok fits opened >> (of.stars tok fits m >>= λ k. leave s.level (suc k)))
      (λ m. rw (ap (is_sign punct.Star) i.0 ∙ sign_yes punct.Star) refl)
      (ends_then _ _ (take_yes tok fits s opened i.1) (ends_bind _ (λ m k. leave s.level (suc k)) (stars_done d h) (ends_leave s.level (suc n) t)))

  pub type_done : {s t : Spot} {ty : TypeName} → Typed tok fits s t ty → is_sign punct.Star (tok t.at) ≡ false → Ends (λ m. of.type_name tok fits m) s (got ty t)
  unfolding of.type_name
  type_done (type.typed {s} {t} {u} {b} {n} d e) h = ends_bind (λ _. of.base_type tok fits) (λ m b. of.stars tok fits m >>= λ k. pure (record { base = b; stars = k })) (0, λ _ _. base_done d)
      (ends_bind _ (λ m k. pure (record { base = b; stars = k })) (stars_done e h) (ends_pure _ u))

  pub worded_done : {A : Type 0} (k : Keyword) (f : ℕ → P A) (s t : Spot) (a : A) → IsKey tok fits k s → Is tok fits punct.Open (passed s) →
      Ends f (opened (passed s)) (got a t) → Is tok fits punct.Close (back t s.level) → Ends (λ m. of.worded tok fits k (f m)) s (got a (closed t s.level))
  unfolding of.worded
  worded_done k f s t a i o h c = ends_then _ (λ m. of.expect tok fits punct.Open opened >> (f m >>= λ a. of.close tok fits punct.Close s.level >> pure a)) (word_yes tok fits s k i.0 i.1)
      (ends_then _ (λ m. f m >>= λ a. of.close tok fits punct.Close s.level >> pure a) (expect_yes tok fits (passed s) punct.Open opened o.0 o.1)
      (ends_bind _ (λ m a. of.close tok fits punct.Close s.level >> pure a) h
      (ends_then _ _ (close_yes tok fits t punct.Close s.level c.0 c.1) (ends_pure _ (closed t s.level)))))

  pub allocation_done : {s t : Spot} {ty : TypeName} → by.Allocation tok fits s t ty → Ends (λ m. of.allocation tok fits m) s (got ty t)
  unfolding of.allocation of.sized
  allocation_done (by.Allocation.malloc {s} {t} {ty} i o k p d c e) =
      worded_done keyword.Malloc (λ m. of.sized tok fits m) s (closed t (suc s.level)) ty i o
      (worded_done keyword.Sizeof (λ m. of.type_name tok fits m) (opened (passed s)) t ty k p (type_done d (close_no_star (tok t.at) c.0)) c) e

  pub allocated_done : {s t : Spot} {ty : TypeName} (first : ℕ) (cast : Option TypeName) → by.Allocation tok fits s t ty →
      Ends (λ m. of.allocated tok fits m first cast) s (got (tree.Malloc first s.at cast ty) t)
  unfolding of.allocated
  allocated_done {s} {t} {ty} first cast d = ends_bind _ (λ m ty. pure (tree.Malloc first s.at cast ty)) (allocation_done d) (ends_pure _ t)

  pub cast_type_done : {s t u : Spot} {b : Base} {n : ℕ} → Is tok fits punct.Open s → BaseType tok fits (opened s) t b → Is tok fits punct.Star t → Stars tok fits (opened t) u n →
      Is tok fits punct.Close (back u s.level) → Ends (λ m. of.cast_type tok fits m) s (got (record { base = b; stars = suc n }) (closed u s.level))
  unfolding of.cast_type
  cast_type_done {s} {t} {u} {b} {n} i d x e c =
      ends_then _ (λ m. of.base_type tok fits >>= λ b. of.expect tok fits punct.Star opened >> (of.stars tok fits m >>= λ k. of.close tok fits punct.Close s.level >> pure (record { base = b; stars = suc k })))
      (expect_yes tok fits s punct.Open opened i.0 i.1)
      (ends_bind (λ _. of.base_type tok fits) (λ m b. of.expect tok fits punct.Star opened >> (of.stars tok fits m >>= λ k. of.close tok fits punct.Close s.level >> pure (record { base = b; stars = suc k }))) (0, λ _ _. base_done d)
      (ends_then _ (λ m. of.stars tok fits m >>= λ k. of.close tok fits punct.Close s.level >> pure (record { base = b; stars = suc k })) (expect_yes tok fits t punct.Star opened x.0 x.1)
      (ends_bind _ (λ m k. of.close tok fits punct.Close s.level >> pure (record { base = b; stars = suc k })) (stars_done e (close_no_star (tok u.at) c.0))
      (ends_then _ _ (close_yes tok fits u punct.Close s.level c.0 c.1) (ends_pure _ (closed u s.level))))))

  pub cast_done : {s t u v : Spot} {b : Base} {n : ℕ} {ty : TypeName} → Is tok fits punct.Open s → BaseType tok fits (opened s) t b → Is tok fits punct.Star t → Stars tok fits (opened t) u n →
      Is tok fits punct.Close (back u s.level) → by.Allocation tok fits (closed u s.level) v ty →
      Ends (λ m. of.cast tok fits m) s (got (tree.Malloc s.at (suc u.at) (Some (record { base = b; stars = suc n })) ty) v)
  unfolding of.cast
  cast_done {s} {t} {u} {v} {b} {n} {ty} i d x e c a = ends_bind _ (λ m ty. of.allocated tok fits m s.at (Some ty)) (cast_type_done i d x e c)
      (allocated_done s.at (Some (record { base = b; stars = suc n })) a)

  -- ---- whether a `(` begins a cast

  -- the stars up to a `)`
  pub closes_yes : {s t : Spot} {n : ℕ} (x : Spot) → Stars tok fits s t n → tok t.at ≡ Some (kind.Punct punct.Close) → Ends (λ m. of.closes tok fits m s.at) x (got true x)
  unfolding of.closes pure
  closes_yes x (type.none {s}) e = ends_suc {s = x} (λ m. of.closes tok fits m s.at) (λ m. pure true) (λ m. rw (close_no_star (tok s.at) e, ap (is_sign punct.Close) e ∙ sign_yes punct.Close) refl) (ends_pure true x)
  closes_yes x (type.star {s} i d) e = ends_suc {s = x} (λ m. of.closes tok fits m s.at) (λ m. of.closes tok fits m (suc s.at))
      (λ m. rw (ap (is_sign punct.Star) i.0 ∙ sign_yes punct.Star) refl) (closes_yes x d e)

  -- behind the stars before a unary expression stands no `)`
  pub closes_no : {s t : Spot} {a : Expr} (x : Spot) → by.Exp tok fits 0 s t a → Ends (λ m. of.closes tok fits m s.at) x (got false x)
  unfolding of.closes pure
  closes_no x (by.prefix {s} p make e i d) = go (closes_no x d) (prefix_stops p make e)
    where
      go : Ends (λ m. of.closes tok fits m (suc s.at)) x (got false x) → (p ≡ punct.Star) ⊎ ((is_sign punct.Star (Some (kind.Punct p)) ≡ false) × (is_sign punct.Close (Some (kind.Punct p)) ≡ false)) →
          Ends (λ m. of.closes tok fits m s.at) x (got false x)
      go h (inl q) = ends_suc {s = x} (λ m. of.closes tok fits m s.at) (λ m. of.closes tok fits m (suc s.at))
          (λ m. rw (ap (is_sign punct.Star) (rw q at i.0) ∙ sign_yes punct.Star) refl) h
      go h (inr q) = ends_suc {s = x} (λ m. of.closes tok fits m s.at) (λ m. pure false)
          (λ m. rw (ap (is_sign punct.Star) i.0 ∙ q.0, ap (is_sign punct.Close) i.0 ∙ q.1) refl) (ends_pure false x)
  closes_no x (by.plain {s} d) = ends_suc {s = x} (λ m. of.closes tok fits m s.at) (λ m. pure false)
      (λ m. rw (postfix_star tok fits d, not_close tok fits (by.plain d)) refl) (ends_pure false x)

  pub casts_yes : {s t u : Spot} {b : Base} {n : ℕ} → BaseType tok fits (opened s) t b → Is tok fits punct.Star t → Stars tok fits (opened t) u n →
      tok u.at ≡ Some (kind.Punct punct.Close) → Ends (λ m. of.casts tok fits m) s (got true s)
  unfolding of.casts of.casts_from base_at pure
  casts_yes {s} (type.int i) x e c = (0, λ m _. rw i.0 refl)
  casts_yes {s} (type.struct i j) x e c = (0, λ m _. rw i.0 refl)
  casts_yes {s} (type.alias i) x e c = let h = closes_yes s (type.star x e) c in
      (h.0, λ m k. rw (i.0, ap (is_sign punct.Star) x.0 ∙ sign_yes punct.Star) (h.1 m k))

  -- a unary expression begins at the token
  abbrev Unary : ℕ → Type 0
  Unary i = (u : Spot) × (v : Spot) × (a : Expr) × (u.at ≡ i) × by.Exp tok fits 0 u v a

  first_unary : {l : ℕ} {s t : Spot} {a : Expr} → by.Exp tok fits l s t a → Unary s.at
  first_unary (by.one d) = first_unary d
  first_unary (by.binary p make d e i h) = first_unary d
  first_unary (by.prefix {s} {t} p make e i d) = (s, t, _, refl, by.prefix p make e i d)
  first_unary (by.plain {s} {t} {a} d) = (s, t, a, refl, by.plain d)

  -- a name with a star behind it is an operand of its own
  postfix_name : {s t : Spot} {a : Expr} → by.Postfix tok fits s t a → tok s.at ≡ Some kind.Name → tok (suc s.at) ≡ Some (kind.Punct punct.Star) → t.at ≡ suc s.at
  postfix_name (by.name i) n x = refl
  postfix_name (by.number z i) n x = refl
  postfix_name (by.null i) n x = refl
  postfix_name (by.paren (by.bracketed i d c)) n x = absurd (cc (i.0, n))
  postfix_name (by.call i (by.arguments o d c)) n x = absurd (cc (o.0, x))
  postfix_name (by.Postfix.malloc (by.Allocation.malloc i o k p d c e)) n x = absurd (cc (i.0, n))
  postfix_name (by.cast i b w d c e) n x = absurd (cc (i.0, n))
  postfix_name (by.field p make d e i m) n x = let h = postfix_name d n x in absurd (field_star p make e (sym (rw h at i.0) ∙ x))
    where
      field_star : (p : Punct) (make : by.FieldOf) → by.field_sign p ≡ Some make → Some (kind.Punct p) ≡ Some (kind.Punct punct.Star) → ⊥
      field_star punct.Star make e h = cc
      field_star p make e h = let q : p ≡ punct.Star = cc h in cc (ap by.field_sign q)
  postfix_name (by.index d i e c) n x = let h = postfix_name d n x in absurd (cc (rw h at i.0, x))

  behind_name : {l : ℕ} {s t : Spot} {a : Expr} → by.Exp tok fits l s t a → tok s.at ≡ Some kind.Name → tok (suc s.at) ≡ Some (kind.Punct punct.Star) → (t.at ≡ suc s.at) ⊎ Unary (suc (suc s.at))
  behind_name (by.one d) n x = behind_name d n x
  behind_name (by.binary {l} {s} {t} {u} p make d e i h) n x = go (behind_name d n x) (first_unary h)
    where
      go : (t.at ≡ suc s.at) ⊎ Unary (suc (suc s.at)) → Unary (suc t.at) → (u.at ≡ suc s.at) ⊎ Unary (suc (suc s.at))
      go (inl q) w = inr (rw q at w)
      go (inr w) _ = inr w
  behind_name (by.prefix p make e i d) n x = absurd (cc (i.0, n))
  behind_name (by.plain d) n x = inl (postfix_name d n x)

  pub casts_no : {l : ℕ} {s t : Spot} {a : Expr} → by.Exp tok fits l (opened s) t a → tok t.at ≡ Some (kind.Punct punct.Close) → Ends (λ m. of.casts tok fits m) s (got false s)
  unfolding of.casts of.casts_from of.closes pure
  casts_no {l} {s} {t} d c = go (begins_base (tok (suc s.at)) (first tok fits d))
    where
      starred : (t.at ≡ suc (suc s.at)) ⊎ Unary (suc (suc (suc s.at))) → base_at (tok (suc s.at)) ≡ an_alias → tok (suc (suc s.at)) ≡ Some (kind.Punct punct.Star) → Ends (λ m. of.casts tok fits m) s (got false s)
      starred (inl q) e x = absurd (cc (rw q at c, x))
      starred (inr (u, v, b, q, w)) e x = let g : Ends (λ m. of.closes tok fits m u.at) s (got false s) = closes_no s w in let h : Ends (λ m. of.closes tok fits m (suc (suc (suc s.at)))) s (got false s) = rw q at g in
          (suc h.0, more h.0 h.1)
        where
          more : (n : ℕ) → ((m : ℕ) → n ≤ m → of.closes tok fits m (suc (suc (suc s.at))) s ≡ got false s) → (m : ℕ) → suc n ≤ m → of.casts tok fits m s ≡ got false s
          more n h zero k = absurd (omega arith)
          more n h (suc m) k = rw (e, ap (is_sign punct.Star) x ∙ sign_yes punct.Star) (h m (omega arith))

      alias : base_at (tok (suc s.at)) ≡ an_alias → (b : Bool) → is_sign punct.Star (tok (suc (suc s.at))) ≡ b → Ends (λ m. of.casts tok fits m) s (got false s)
      alias e true x = let n : tok (suc s.at) ≡ Some kind.Name = rw e at (base_tells (tok (suc s.at))) in let y = is_sign_tells punct.Star (tok (suc (suc s.at))) x in starred (behind_name d n y) e y
      alias e false x = (0, λ m _. rw (e, x) refl)

      go : (base_at (tok (suc s.at)) ≡ an_alias) ⊎ (base_at (tok (suc s.at)) ≡ no_base) → Ends (λ m. of.casts tok fits m) s (got false s)
      go (inl e) = alias e (is_sign punct.Star (tok (suc (suc s.at)))) refl
      go (inr e) = (0, λ m _. rw e refl)
