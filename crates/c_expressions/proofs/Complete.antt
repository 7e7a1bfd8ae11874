-- What has a derivation is parsed so.
use Rattle.std.proofs.Common.{◌≡◌, ℕ, zero, suc, ◌<◌, Bool, true, false, ℤ, List, [], ◌∷◌, ◌++◌, Option, Some, None, if◌then◌else◌, refl, ap, ◌∙◌, arith}
use Rattle.cc_model.specs.declared.tokens.Kind.{Kind}
use Rattle.cc_model.specs.declared.tokens.Kind.TheVariants as kind
use Rattle.cc_model.specs.declared.tokens.Punct.{Punct}
use Rattle.cc_model.specs.declared.tokens.Punct.TheVariants as punct
use Rattle.cc_model.specs.declared.tokens.Keyword.TheVariants as keyword
use Rattle.cc_model.specs.declared.trees.Expr.{Expr}
use Rattle.cc_model.specs.declared.trees.Expr.TheVariants as tree
use Rattle.cc_model.specs.Spots.{Spot, opened, closed, passed, back, Next, Is, IsKey, IsName}
use Rattle.cc_model.specs.ReadExpressions.{Binary, Prefix, FieldOf, binary_sign, prefix_sign, field_sign, with_first}
use Rattle.cc_model.specs.ReadExpressions as by
use Rattle.c_expressions.specs.Descent.{Got, got, failed, spent, P, go_on, ◌>>=◌, ◌>>◌, pure, Ends, is_sign, binary_at, prefix_at, field_at, on_some, Start, a_name, a_number, a_null, a_malloc, a_paren, no_start, start_at}
use Rattle.c_expressions.specs.Descent as of
use Rattle.c_expressions.proofs.Rules.{ends_suc, ends_bind, ends_then, ends_pure, ends_once}
use Rattle.c_expressions.proofs.Tests.{sign_yes, binary_yes, prefix_yes, field_yes, take_yes, expect_yes, name_yes, close_yes}
use Rattle.c_expressions.proofs.First.{rank, Free, free_binary, free_field, free_square, free_paren, field_rank, binary_rank, postfix_prefix, not_close}
use Rattle.c_expressions.proofs.CompleteTypes.{allocated_done, cast_done, casts_yes, casts_no}

module _ (tok : ℕ → Option Kind) (fits : ℕ → ℕ → Bool) where
  tail_end : {s : Spot} (l first : ℕ) (a : Expr) → Free tok fits (suc l) s → Ends (λ m. of.tail tok fits m l first a) s (got a s)
  unfolding of.tail on_some pure
  tail_end {s} l first a f = ends_suc {s = s} (λ m. of.tail tok fits m l first a) (λ m. pure a) (λ m. rw (free_binary (suc l) (tok s.at) f) refl) (ends_pure a s)

  tail_more : {s t : Spot} {r : Got Expr} (l first : ℕ) (a b : Expr) (p : Punct) (make : Binary) →
      binary_sign p ≡ Some (suc l, make) → Is tok fits p s →
      Ends (λ m. of.chain tok fits m l) (opened s) (got b t) → Ends (λ m. of.tail tok fits m l first (make first s.at a b)) t r →
      Ends (λ m. of.tail tok fits m l first a) s r
  unfolding of.tail on_some
  tail_more {s} {t} {r} l first a b p make e i h k = ends_suc {s = s} (λ m. of.tail tok fits m l first a)
      (λ m. of.take tok fits opened >> (of.chain tok fits m l >>= λ b. of.tail tok fits m l first (make first s.at a b)))
      (λ m. rw (binary_yes p i.0 e) refl)
      (ends_then _ _ (take_yes tok fits s opened i.1) (ends_bind _ (λ m b. of.tail tok fits m l first (make first s.at a b)) h k))

  unary_sign : {s t : Spot} {a : Expr} (p : Punct) (make : Prefix) →
      prefix_sign p ≡ Some make → Is tok fits p s → Ends (λ m. of.unary tok fits m) (opened s) (got a t) →
      Ends (λ m. of.unary tok fits m) s (got (make s.at s.at a) t)
  unfolding of.unary on_some
  unary_sign {s} {t} {a} p make e i h = ends_suc {s = s} (λ m. of.unary tok fits m)
      (λ m. of.take tok fits opened >> (of.unary tok fits m >>= λ a. pure (make s.at s.at a)))
      (λ m. rw (prefix_yes p i.0 ∙ e) refl)
      (ends_then _ _ (take_yes tok fits s opened i.1) (ends_bind _ (λ m a. pure (make s.at s.at a)) h (ends_pure _ t)))

  unary_plain : (s : Spot) {r : Got Expr} → prefix_at (tok s.at) ≡ None → Ends (λ m. of.postfix tok fits m) s r → Ends (λ m. of.unary tok fits m) s r
  unfolding of.unary on_some
  unary_plain s e h = ends_suc {s = s} (λ m. of.unary tok fits m) (λ m. of.postfix tok fits m) (λ m. rw e refl) h

  -- ---- the chains

  -- what a derivation of the level gives: at 0 the answer, above 0 the answer of what goes on behind it
  abbrev pub Parsed : ℕ → Spot → Spot → Expr → Type 0
  Parsed zero s t a = Free tok fits zero t → Ends (λ m. of.unary tok fits m) s (got a t)
  Parsed (suc l) s t a = (r : Got Expr) → Free tok fits l t → Ends (λ m. of.tail tok fits m l s.at a) t r → Ends (λ m. of.chain tok fits m (suc l)) s r

  whole : (l : ℕ) (s t : Spot) (a : Expr) → Parsed l s t a → Free tok fits l t → Ends (λ m. of.chain tok fits m l) s (got a t)
  unfolding of.chain
  whole zero s t a h f = ends_suc {s = s} (λ m. of.chain tok fits m zero) (λ m. of.unary tok fits m) (λ m. refl) (h f)
  whole (suc l) s t a h f = h (got a t) (omega arith) (tail_end l s.at a f)

  chain_first : (l : ℕ) (s t : Spot) (a : Expr) → Parsed l s t a → Parsed (suc l) s t a
  unfolding of.chain
  chain_first l s t a h r f k = ends_suc {s = s} (λ m. of.chain tok fits m (suc l))
      (λ m. of.chain tok fits m l >>= λ a. of.tail tok fits m l s.at a) (λ m. refl)
      (ends_bind _ (λ m a. of.tail tok fits m l s.at a) (whole l s t a h f) k)

  chain_more : (l : ℕ) (s t u : Spot) (a b : Expr) (p : Punct) (make : Binary) →
      Parsed (suc l) s t a → binary_sign p ≡ Some (suc l, make) → Is tok fits p t → Parsed l (opened t) u b → Parsed (suc l) s u (make s.at t.at a b)
  chain_more l s t u a b p make h e i k r f g =
      h r (let q = binary_rank p l make e in rw i.0 q) (tail_more l s.at a b p make e i (whole l (opened t) u b k f) g)

  -- ---- behind a primary

  abbrev pub Posted : Spot → Spot → Expr → Type 0
  Posted s t a = (r : Got Expr) → is_sign punct.Open (tok t.at) ≡ false → Ends (λ m. of.more tok fits m s.at a) t r → Ends (λ m. of.postfix tok fits m) s r

  more_end : (s : Spot) (first : ℕ) (a : Expr) → Free tok fits 0 s → Ends (λ m. of.more tok fits m first a) s (got a s)
  unfolding of.more on_some pure
  more_end s first a f = ends_suc {s = s} (λ m. of.more tok fits m first a) (λ m. pure a) (λ m. rw (free_field (tok s.at) f, free_square (tok s.at) f) refl) (ends_pure a s)

  from_primary : (s t : Spot) (a : Expr) → Ends (λ m. of.primary tok fits m) s (got a t) → (r : Got Expr) →
      Ends (λ m. of.more tok fits m s.at a) t r → Ends (λ m. of.postfix tok fits m) s r
  unfolding of.postfix
  from_primary s t a h r k = ends_suc {s = s} (λ m. of.postfix tok fits m) (λ m. of.primary tok fits m >>= λ a. of.more tok fits m s.at a) (λ m. refl)
      (ends_bind _ (λ m a. of.more tok fits m s.at a) h k)

  from_start : (s t : Spot) (a : Expr) (q : Start) → start_at (tok s.at) ≡ q → Ends (λ m. of.primary_from tok fits m q) s (got a t) → Ends (λ m. of.primary tok fits m) s (got a t)
  unfolding of.primary
  from_start s t a q e h = ends_suc {s = s} (λ m. of.primary tok fits m) (λ m. of.primary_from tok fits m q) (λ m. rw e refl) h

  post_name : (s : Spot) → IsName tok fits s → Posted s (passed s) (tree.Name s.at s.at)
  unfolding start_at of.primary_from of.named pure
  post_name s i r f = from_primary s (passed s) _ (from_start s (passed s) _ a_name (ap start_at i.0)
      (ends_suc {s = s} (λ m. of.primary_from tok fits m a_name) (λ m. of.take tok fits passed >> of.named tok fits m s.at) (λ m. refl)
      (ends_then _ _ (take_yes tok fits s passed i.1)
      (ends_suc {s = passed s} (λ m. of.named tok fits m s.at) (λ m. pure (tree.Name s.at s.at)) (λ m. rw f refl) (ends_pure _ (passed s)))))) r

  -- '(' expr ')'
  brackets : (s t : Spot) (a : Expr) → Is tok fits punct.Open s → Ends (λ m. of.chain tok fits m 6) (opened s) (got a t) →
      Is tok fits punct.Close (back t s.level) → Ends (λ m. of.bracketed tok fits m) s (got a (closed t s.level))
  unfolding of.bracketed
  brackets s t a i h c = ends_suc {s = s} (λ m. of.bracketed tok fits m)
      (λ m. of.expect tok fits punct.Open opened >> (of.chain tok fits m 6 >>= λ a. of.close tok fits punct.Close s.level >> pure a)) (λ m. refl)
      (ends_then _ (λ m. of.chain tok fits m 6 >>= λ a. of.close tok fits punct.Close s.level >> pure a) (expect_yes tok fits s punct.Open opened i.0 i.1)
      (ends_bind _ (λ m a. of.close tok fits punct.Close s.level >> pure a) h
      (ends_then _ _ (close_yes tok fits t punct.Close s.level c.0 c.1) (ends_pure _ (closed t s.level)))))

  from_paren : (s t : Spot) (a : Expr) → Is tok fits punct.Open s → Ends (λ m. of.parens tok fits m) s (got a t) → Ends (λ m. of.primary tok fits m) s (got a t)
  unfolding start_at of.primary_from
  from_paren s t a i h = from_start s t a a_paren (ap start_at i.0) (ends_suc {s = s} (λ m. of.primary_from tok fits m a_paren) (λ m. of.parens tok fits m) (λ m. refl) h)

  post_paren : (s t : Spot) (a : Expr) → Is tok fits punct.Open s → Ends (λ m. of.casts tok fits m) s (got false s) → Ends (λ m. of.bracketed tok fits m) s (got a t) →
      Posted s t (with_first s.at a)
  unfolding of.parens of.inside
  post_paren s t a i n h r f = from_primary s t _ (from_paren s t _ i
      (ends_suc {s = s} (λ m. of.parens tok fits m) (λ m. of.casts tok fits m >>= λ c. if c then of.cast tok fits m else of.inside tok fits m) (λ m. refl)
      (ends_bind _ (λ m c. if c then of.cast tok fits m else of.inside tok fits m) n
      (ends_suc {s = s} (λ m. of.inside tok fits m) (λ m. of.bracketed tok fits m >>= λ a. pure (with_first s.at a)) (λ m. refl)
      (ends_bind _ (λ m a. pure (with_first s.at a)) h (ends_pure _ t)))))) r

  post_cast : (s t : Spot) (a : Expr) → Is tok fits punct.Open s → Ends (λ m. of.casts tok fits m) s (got true s) → Ends (λ m. of.cast tok fits m) s (got a t) → Posted s t a
  unfolding of.parens
  post_cast s t a i n h r f = from_primary s t _ (from_paren s t _ i
      (ends_suc {s = s} (λ m. of.parens tok fits m) (λ m. of.casts tok fits m >>= λ c. if c then of.cast tok fits m else of.inside tok fits m) (λ m. refl)
      (ends_bind _ (λ m c. if c then of.cast tok fits m else of.inside tok fits m) n h))) r

  post_malloc : (s t : Spot) (a : Expr) → IsKey tok fits keyword.Malloc s → Ends (λ m. of.allocated tok fits m s.at None) s (got a t) → Posted s t a
  unfolding start_at of.primary_from
  post_malloc s t a i h r f = from_primary s t _ (from_start s t _ a_malloc (ap start_at i.0)
      (ends_suc {s = s} (λ m. of.primary_from tok fits m a_malloc) (λ m. of.allocated tok fits m s.at None) (λ m. refl) h)) r

  post_number : (s : Spot) (z : ℤ) → Next tok fits (kind.Number z) s → Posted s (passed s) (tree.Number s.at s.at z)
  unfolding start_at of.primary_from
  post_number s z i r f = from_primary s (passed s) _ (from_start s (passed s) _ (a_number z) (ap start_at i.0)
      (ends_suc {s = s} (λ m. of.primary_from tok fits m (a_number z)) (λ m. of.take tok fits passed >> pure (tree.Number s.at s.at z)) (λ m. refl)
      (ends_then _ _ (take_yes tok fits s passed i.1) (ends_pure _ (passed s))))) r

  post_null : (s : Spot) → IsKey tok fits keyword.Null s → Posted s (passed s) (tree.Null s.at s.at)
  unfolding start_at of.primary_from
  post_null s i r f = from_primary s (passed s) _ (from_start s (passed s) _ a_null (ap start_at i.0)
      (ends_suc {s = s} (λ m. of.primary_from tok fits m a_null) (λ m. of.take tok fits passed >> pure (tree.Null s.at s.at)) (λ m. refl)
      (ends_then _ _ (take_yes tok fits s passed i.1) (ends_pure _ (passed s))))) r

  -- the arguments of a call with their parentheses
  argued : (s t : Spot) (l : List Expr) → Is tok fits punct.Open s → Ends (λ m. of.args tok fits m) (opened s) (got l t) →
      Is tok fits punct.Close (back t (suc s.level)) → Ends (λ m. of.arguments tok fits m) s (got l (closed t (suc s.level)))
  unfolding of.arguments
  argued s t l i h c = ends_suc {s = s} (λ m. of.arguments tok fits m)
      (λ m. of.expect tok fits punct.Open opened >> (of.args tok fits m >>= λ l. of.close tok fits punct.Close (suc s.level) >> pure l)) (λ m. refl)
      (ends_then _ (λ m. of.args tok fits m >>= λ l. of.close tok fits punct.Close (suc s.level) >> pure l) (expect_yes tok fits s punct.Open opened i.0 i.1)
      (ends_bind _ (λ m l. of.close tok fits punct.Close (suc s.level) >> pure l) h
      (ends_then _ _ (close_yes tok fits t punct.Close (suc s.level) c.0 c.1) (ends_pure _ (closed t (suc s.level))))))

  post_call : (s t : Spot) (l : List Expr) → IsName tok fits s → tok (suc s.at) ≡ Some (kind.Punct punct.Open) →
      Ends (λ m. of.arguments tok fits m) (passed s) (got l t) → Posted s t (tree.Call s.at s.at l)
  unfolding start_at of.primary_from of.named
  post_call s t l i o h r f = from_primary s t _ (from_start s t _ a_name (ap start_at i.0)
      (ends_suc {s = s} (λ m. of.primary_from tok fits m a_name) (λ m. of.take tok fits passed >> of.named tok fits m s.at) (λ m. refl)
      (ends_then _ _ (take_yes tok fits s passed i.1)
      (ends_suc {s = passed s} (λ m. of.named tok fits m s.at) (λ m. of.arguments tok fits m >>= λ l. pure (tree.Call s.at s.at l))
      (λ m. rw (ap (is_sign punct.Open) o ∙ sign_yes punct.Open) refl)
      (ends_bind _ (λ m l. pure (tree.Call s.at s.at l)) h (ends_pure _ t)))))) r

  post_field : (s t : Spot) (a : Expr) (p : Punct) (make : FieldOf) → Posted s t a →
      field_sign p ≡ Some make → Is tok fits p t → IsName tok fits (opened t) → Posted s (passed (opened t)) (make s.at t.at a (suc t.at))
  unfolding of.more on_some
  post_field s t a p make h e i n r f k = h r (ap (is_sign punct.Open) i.0 ∙ field_rank p make e)
      (ends_suc {s = t} (λ m. of.more tok fits m s.at a)
      (λ m. of.take tok fits opened >> (of.expect_name tok fits >> of.more tok fits m s.at (make s.at t.at a (suc t.at))))
      (λ m. rw (field_yes p i.0 ∙ e) refl)
      (ends_then _ _ (take_yes tok fits t opened i.1)
      (ends_then _ _ (name_yes tok fits (opened t) n.0 n.1) k)))

  post_index : (s t u : Spot) (a b : Expr) → Posted s t a → Is tok fits punct.OpenSquare t → Ends (λ m. of.chain tok fits m 6) (opened t) (got b u) →
      Is tok fits punct.CloseSquare (back u (suc t.level)) → Posted s (closed u (suc t.level)) (tree.Index s.at t.at a b)
  unfolding of.more on_some field_at is_sign
  post_index s t u a b h i d c r f k = h r (rw i.0 refl)
      (ends_suc {s = t} (λ m. of.more tok fits m s.at a)
      (λ m. of.take tok fits opened >> (of.chain tok fits m 6 >>= λ b. of.close tok fits punct.CloseSquare (suc t.level) >> of.more tok fits m s.at (tree.Index s.at t.at a b)))
      (λ m. rw i.0 refl)
      (ends_then _ _ (take_yes tok fits t opened i.1)
      (ends_bind _ (λ m b. of.close tok fits punct.CloseSquare (suc t.level) >> of.more tok fits m s.at (tree.Index s.at t.at a b)) d
      (ends_then _ _ (close_yes tok fits u punct.CloseSquare (suc t.level) c.0 c.1) k))))

  -- ---- arguments

  args_end : (s : Spot) (n : ℕ) (l : List Expr) → is_sign punct.Comma (tok s.at) ≡ false → Ends (λ m. of.args_more tok fits m n l) s (got l s)
  unfolding of.args_more pure
  args_end s n l e = ends_suc {s = s} (λ m. of.args_more tok fits m n l) (λ m. pure l) (λ m. rw e refl) (ends_pure l s)

  args_next : (s t : Spot) (n : ℕ) (l : List Expr) (a : Expr) (r : Got (List Expr)) → Is tok fits punct.Comma (back s n) →
      Ends (λ m. of.chain tok fits m 6) (closed s n) (got a t) → Ends (λ m. of.args_more tok fits m n (l ++ a ∷ [])) t r → Ends (λ m. of.args_more tok fits m n l) s r
  unfolding of.args_more
  args_next s t n l a r i h k = ends_suc {s = s} (λ m. of.args_more tok fits m n l)
      (λ m. of.close tok fits punct.Comma n >> (of.chain tok fits m 6 >>= λ a. of.args_more tok fits m n (l ++ a ∷ [])))
      (λ m. rw (ap (is_sign punct.Comma) i.0 ∙ sign_yes punct.Comma) refl)
      (ends_then _ _ (close_yes tok fits s punct.Comma n i.0 i.1) (ends_bind _ (λ m a. of.args_more tok fits m n (l ++ a ∷ [])) h k))

  args_none : (s : Spot) → is_sign punct.Close (tok s.at) ≡ true → Ends (λ m. of.args tok fits m) s (got [] s)
  unfolding of.args pure
  args_none s e = ends_suc {s = s} (λ m. of.args tok fits m) (λ m. pure []) (λ m. rw e refl) (ends_pure [] s)

  args_first : (s t : Spot) (a : Expr) (r : Got (List Expr)) → is_sign punct.Close (tok s.at) ≡ false →
      Ends (λ m. of.chain tok fits m 6) s (got a t) → Ends (λ m. of.args_more tok fits m s.level (a ∷ [])) t r → Ends (λ m. of.args tok fits m) s r
  unfolding of.args
  args_first s t a r e h k = ends_suc {s = s} (λ m. of.args tok fits m) (λ m. of.chain tok fits m 6 >>= λ a. of.args_more tok fits m s.level (a ∷ []))
      (λ m. rw e refl) (ends_bind _ (λ m a. of.args_more tok fits m s.level (a ∷ [])) h k)

  -- ---- the law

  close_free : (k : Option Kind) → k ≡ Some (kind.Punct punct.Close) → 6 < rank k
  unfolding rank
  close_free k e = rw e (omega arith)

  square_free : (k : Option Kind) → k ≡ Some (kind.Punct punct.CloseSquare) → 6 < rank k
  unfolding rank
  square_free k e = rw e (omega arith)

  comma_free : (k : Option Kind) → k ≡ Some (kind.Punct punct.Comma) → 6 < rank k
  unfolding rank
  comma_free k e = rw e (omega arith)

  no_comma : (k : Option Kind) → k ≡ Some (kind.Punct punct.Close) → is_sign punct.Comma k ≡ false
  unfolding is_sign
  no_comma k e = rw e refl

  mutual
    pub parsed : {l : ℕ} {s t : Spot} {a : Expr} → by.Exp tok fits l s t a → Parsed l s t a
    parsed (by.one {l} {s} {t} {a} d) = chain_first l s t a (parsed d)
    parsed (by.binary {l} {s} {t} {u} {a} {b} p make d e i h) = chain_more l s t u a b p make (parsed d) e i (parsed h)
    parsed (by.prefix {s} {t} {a} p make e i d) = λ f. unary_sign p make e i (parsed d f)
    parsed (by.plain {s} {t} {a} d) = λ f. unary_plain s (postfix_prefix tok fits d) (posted d (got a t) (free_paren (tok t.at) f) (more_end t s.at a f))

    pub posted : {s t : Spot} {a : Expr} → by.Postfix tok fits s t a → Posted s t a
    posted (by.name {s} i) = post_name s i
    posted (by.number {s} z i) = post_number s z i
    posted (by.null {s} i) = post_null s i
    posted (by.paren (by.bracketed {s} {t} {a} i d c)) = post_paren s (closed t s.level) a i (casts_no tok fits d c.0) (brackets s t a i (whole 6 (opened s) t a (parsed d) (close_free (tok t.at) c.0)) c)
    posted (by.call {s} {t} {l} i (by.arguments o d c)) = post_call s t l i o.0 (argumented (by.arguments o d c))
    posted (by.Postfix.malloc {s} {t} {ty} (by.Allocation.malloc i o k p d c e)) = post_malloc s t (tree.Malloc s.at s.at None ty) i (allocated_done tok fits s.at None (by.Allocation.malloc i o k p d c e))
    posted (by.cast {s} {t} {u} {v} {b} {n} {ty} i d x e c a) = post_cast s v _ i (casts_yes tok fits d x e c.0) (cast_done tok fits i d x e c a)
    posted (by.field {s} {t} {a} p make d e i n) = post_field s t a p make (posted d) e i n
    posted (by.index {s} {t} {u} {a} {i} d o e c) = post_index s t u a i (posted d) o (whole 6 (opened t) u i (parsed e) (square_free (tok u.at) c.0)) c

    pub argumented : {s t : Spot} {l : List Expr} → by.Arguments tok fits s t l → Ends (λ m. of.arguments tok fits m) s (got l t)
    argumented (by.arguments {s} {t} {l} i d c) = argued s t l i (listed d c.0) c

    pub listed : {s t : Spot} {l : List Expr} → by.Args tok fits s t l → tok t.at ≡ Some (kind.Punct punct.Close) → Ends (λ m. of.args tok fits m) s (got l t)
    listed (by.empty {s}) e = args_none s (ap (is_sign punct.Close) e ∙ sign_yes punct.Close)
    listed (by.some {s} {t} {l} d) e = some_listed d (got l t) (close_free (tok t.at) e) (args_end t s.level l (no_comma (tok t.at) e))

    pub some_listed : {s t : Spot} {l : List Expr} → by.SomeArgs tok fits s t l → (r : Got (List Expr)) → Free tok fits 6 t → Ends (λ m. of.args_more tok fits m s.level l) t r → Ends (λ m. of.args tok fits m) s r
    some_listed (by.first {s} {t} {a} d) r f k = args_first s t a r (not_close tok fits d) (whole 6 s t a (parsed d) f) k
    some_listed (by.next {s} {t} {u} {l} {a} d i e) r f k = some_listed d r (comma_free (tok t.at) i.0)
        (args_next t u s.level l a r i (whole 6 (closed t s.level) u a (parsed e) f) k)

  -- an expression is parsed where no token goes on behind it
  pub complete : (s t : Spot) (a : Expr) → by.Exp tok fits 6 s t a → Free tok fits 6 t → Ends (λ m. of.chain tok fits m 6) s (got a t)
  complete s t a d f = whole 6 s t a (parsed d) f

  pub unary_complete : (s t : Spot) (a : Expr) → by.Exp tok fits 0 s t a → Free tok fits 0 t → Ends (λ m. of.unary tok fits m) s (got a t)
  unary_complete s t a d f = parsed d f

  pub postfix_complete : (s t : Spot) (a : Expr) → by.Postfix tok fits s t a → Free tok fits 0 t → Ends (λ m. of.postfix tok fits m) s (got a t)
  postfix_complete s t a d f = posted d (got a t) (free_paren (tok t.at) f) (more_end t s.at a f)

  pub bracketed_complete : {s t : Spot} {a : Expr} → by.Bracketed tok fits s t a → Ends (λ m. of.bracketed tok fits m) s (got a t)
  bracketed_complete (by.bracketed {s} {t} {a} i d c) = brackets s t a i (complete (opened s) t a d (close_free (tok t.at) c.0)) c

  -- so tokens read as one expression at most, and it ends at one place
  pub unique : (s t u : Spot) (a b : Expr) → by.Exp tok fits 6 s t a → Free tok fits 6 t → by.Exp tok fits 6 s u b → Free tok fits 6 u → (a ≡ b) × (t ≡ u)
  unique s t u a b d f e g = let h : got a t ≡ got b u = ends_once (λ m. of.chain tok fits m 6) (complete s t a d f) (complete s u b e g) in (cc, cc)
