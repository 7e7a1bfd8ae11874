-- One law for each branch of the descent, whatever comes of its parts.
use Rattle.std.proofs.Common.{◌≡◌, ℕ, zero, suc, ◌-◌, ◌<◌, Bool, true, false, ℤ, List, [], ◌∷◌, ◌++◌, Option, Some, None, Result, Ok, Err, if◌then◌else◌, refl, ap, arith}
use Rattle.std.specs.Result.{IsErr, IsErrAnd}
use Rattle.cc_model.specs.declared.tokens.Kind.{Kind}
use Rattle.cc_model.specs.declared.tokens.Kind.TheVariants as kind
use Rattle.cc_model.specs.declared.tokens.Punct.TheVariants as punct
use Rattle.cc_model.specs.declared.tokens.Keyword.{Keyword}
use Rattle.cc_model.specs.declared.tokens.Keyword.TheVariants as keyword
use Rattle.cc_model.specs.declared.trees.Base.{Base}
use Rattle.cc_model.specs.declared.trees.Base.TheVariants as base
use Rattle.cc_model.specs.declared.trees.TypeName.{TypeName}
use Rattle.cc_model.specs.declared.trees.Expr.{Expr}
use Rattle.cc_model.specs.declared.trees.Expr.TheVariants as tree
use Rattle.cc_model.specs.Spots.{Spot, opened, passed}
use Rattle.cc_model.specs.ReadExpressions.{Binary, Prefix, FieldOf, with_first}
use Rattle.c_expressions.specs.declared.spot.Spot as code
use Rattle.c_expressions.specs.declared.fault.ParseFault.{ParseFault}
use Rattle.c_expressions.specs.declared.fault.ParseFault.TheVariants.{Syntax, TooDeep, NoMemory}
use Rattle.c_expressions.specs.declared.starts.Step.{Step}
use Rattle.c_expressions.specs.declared.starts.Step.TheVariants.{Field, Index}
use Rattle.c_expressions.specs.Descent.{Fault, bad, deep, Got, got, failed, spent, P, go_on, ◌>>=◌, ◌>>◌, pure, leave, wrong, Ends, binary_at, prefix_at, field_at, is_sign, on_some, Start, a_name, a_number, a_null, a_malloc, a_paren, no_start, start_at, BaseStart, an_int, a_struct, an_alias, no_base, base_at}
use Rattle.c_expressions.specs.Descent as of
use Rattle.c_expressions.specs.Shown.{place, Shows, ShowsFault, Steps, StepAt, TakesFault, field_maker}
use Rattle.c_expressions.proofs.Rules.{ends_suc, ends_pure, After, ends_go, takes_go}

-- an exit by `?`
pub exits : {A B : Type 0} (f : ℕ → P A) (g : ℕ → P B) (s t : Spot) (r : Result (B × code.Spot) ParseFault) (e : ParseFault) →
    (IsErr r × IsErrAnd r (λ x. x ≡ e)) → ((x : Fault) → Ends f s (failed x) → Ends g t (failed x)) → ShowsFault f s e → Shows g t r
exits f g s t (Ok x) e h k p = absurd h.1
exits f g s t (Err x) e h k p = rw h.1 (go e p)
  where
    go : (e : ParseFault) → ShowsFault f s e → ShowsFault g t e
    go (Syntax n) p = k (bad n) p
    go (TooDeep n) p = k (deep n) p
    go NoMemory p = tt

pub exits_take : {B : Type 0} (f : P (Unit {0})) (g : ℕ → P B) (s t : Spot) (r : Result (B × code.Spot) ParseFault) (e : ParseFault) →
    (IsErr r × IsErrAnd r (λ x. x ≡ e)) → ((x : Fault) → f s ≡ failed x → Ends g t (failed x)) → TakesFault (f s) e → Shows g t r
exits_take f g s t (Ok x) e h k p = absurd h.1
exits_take f g s t (Err x) e h k p = rw h.1 (go e p)
  where
    go : (e : ParseFault) → TakesFault (f s) e → ShowsFault g t e
    go (Syntax n) p = k (bad n) p
    go (TooDeep n) p = k (deep n) p
    go NoMemory p = tt

-- the same where a turn of a loop is left
pub exits_turn : {A B : Type 0} (f : ℕ → P A) (g : B → ℕ → P B) (b : B) (s t : Spot) (r : Result (B × code.Spot) ParseFault) (e : ParseFault) →
    (IsErr r × IsErrAnd r (λ x. x ≡ e)) → ((x : Fault) → Ends f s (failed x) → Ends (g b) t (failed x)) → ShowsFault f s e → Steps g b t r
exits_turn f g b s t (Ok x) e h k p = absurd h.1
exits_turn f g b s t (Err x) e h k p = rw h.1 (go e p)
  where
    go : (e : ParseFault) → ShowsFault f s e → ShowsFault (g b) t e
    go (Syntax n) p = k (bad n) p
    go (TooDeep n) p = k (deep n) p
    go NoMemory p = tt

-- a fault of a piece that only takes tokens
pub taken : (f : P (Unit {0})) (s : Spot) (e : ParseFault) → TakesFault (f s) e → ShowsFault (λ _. f) s e
taken f s (Syntax n) p = (0, λ _ _. p)
taken f s (TooDeep n) p = (0, λ _ _. p)
taken f s NoMemory p = tt

pub taken_now : (f : P (Unit {0})) (s : Spot) (q : Got (Unit {0})) → Ends (λ _. f) s q → f s ≡ q
taken_now f s q h = h.1 h.0 (omega arith)

-- a result of another piece
pub same_result : {A : Type 0} (f g : ℕ → P A) (s t : Spot) (r : Result (A × code.Spot) ParseFault) → ((q : Got A) → Ends f s q → Ends g t q) → Shows f s r → Shows g t r
same_result f g s t (Ok x) k p = k (got x.0 (place x.1)) p
same_result f g s t (Err (Syntax n)) k p = k (failed (bad n)) p
same_result f g s t (Err (TooDeep n)) k p = k (failed (deep n)) p
same_result f g s t (Err NoMemory) k p = tt

module _ (tok : ℕ → Option Kind) (fits : ℕ → ℕ → Bool) where
  pub chain_zero : (l : ℕ) (s : Spot) (r : Got Expr) → l ≡ 0 → Ends (λ m. of.unary tok fits m) s r → Ends (λ m. of.chain tok fits m l) s r
  unfolding of.chain
  chain_zero zero s r e h = ends_suc {s = s} (λ m. of.chain tok fits m zero) (λ m. of.unary tok fits m) (λ m. refl) h
  chain_zero (suc l) s r e h = absurd (omega arith)

  pub chain_suc : (l : ℕ) (s : Spot) (q r : Got Expr) → 0 < l → Ends (λ m. of.chain tok fits m (l - 1)) s q → After q (λ m a. of.tail tok fits m (l - 1) s.at a) r → Ends (λ m. of.chain tok fits m l) s r
  unfolding of.chain
  chain_suc zero s q r z h k = absurd (omega arith)
  chain_suc (suc l) s q r z h k = ends_suc {s = s} (λ m. of.chain tok fits m (suc l)) (λ m. of.chain tok fits m l >>= λ a. of.tail tok fits m l s.at a) (λ m. refl)
      (let e : suc l - 1 ≡ l = omega arith in ends_go q _ (λ m a. of.tail tok fits m l s.at a) (rw e at h) (rw e at k))

  pub tail_stop : (l first : ℕ) (s : Spot) (a : Expr) → 0 < l → binary_at l (tok s.at) ≡ None → Ends (λ m. of.tail tok fits m (l - 1) first a) s (got a s)
  unfolding of.tail on_some pure
  tail_stop l first s a z e = let up : suc (l - 1) ≡ l = omega arith in
      ends_suc {s = s} (λ m. of.tail tok fits m (l - 1) first a) (λ m. pure a) (λ m. rw (up, e) refl) (ends_pure a s)

  pub tail_go : (l first : ℕ) (s : Spot) (a : Expr) (make : Binary) (q : Got (Unit {0})) (r : Got Expr) → 0 < l → binary_at l (tok s.at) ≡ Some make → of.take tok fits opened s ≡ q →
      After q (λ m _. of.chain tok fits m (l - 1) >>= λ b. of.tail tok fits m (l - 1) first (make first s.at a b)) r → Ends (λ m. of.tail tok fits m (l - 1) first a) s r
  unfolding of.tail on_some
  tail_go l first s a make q r z e t h = let up : suc (l - 1) ≡ l = omega arith in ends_suc {s = s} (λ m. of.tail tok fits m (l - 1) first a)
      (λ m. of.take tok fits opened >> (of.chain tok fits m (l - 1) >>= λ b. of.tail tok fits m (l - 1) first (make first s.at a b))) (λ m. rw (up, e) refl)
      (takes_go q _ _ t h)

  pub unary_post : (s : Spot) (r : Got Expr) → prefix_at (tok s.at) ≡ None → Ends (λ m. of.postfix tok fits m) s r → Ends (λ m. of.unary tok fits m) s r
  unfolding of.unary on_some
  unary_post s r e h = ends_suc {s = s} (λ m. of.unary tok fits m) (λ m. of.postfix tok fits m) (λ m. rw e refl) h

  pub unary_go : (s : Spot) (make : Prefix) (q : Got (Unit {0})) (r : Got Expr) → prefix_at (tok s.at) ≡ Some make → of.take tok fits opened s ≡ q →
      After q (λ m _. of.unary tok fits m >>= λ a. pure (make s.at s.at a)) r → Ends (λ m. of.unary tok fits m) s r
  unfolding of.unary on_some
  unary_go s make q r e t h = ends_suc {s = s} (λ m. of.unary tok fits m)
      (λ m. of.take tok fits opened >> (of.unary tok fits m >>= λ a. pure (make s.at s.at a))) (λ m. rw e refl)
      (takes_go q _ _ t h)

  -- ---- postfix

  pub postfix_go : (s : Spot) (q r : Got Expr) → Ends (λ m. of.primary tok fits m) s q → After q (λ m a. of.more tok fits m s.at a) r → Ends (λ m. of.postfix tok fits m) s r
  unfolding of.postfix
  postfix_go s q r h k = ends_suc {s = s} (λ m. of.postfix tok fits m) (λ m. of.primary tok fits m >>= λ a. of.more tok fits m s.at a) (λ m. refl)
      (ends_go q _ (λ m a. of.more tok fits m s.at a) h k)

  pub more_stop : (first : ℕ) (s : Spot) (a : Expr) → field_at (tok s.at) ≡ None → is_sign punct.OpenSquare (tok s.at) ≡ false → Ends (λ m. of.more tok fits m first a) s (got a s)
  unfolding of.more on_some pure
  more_stop first s a e f = ends_suc {s = s} (λ m. of.more tok fits m first a) (λ m. pure a) (λ m. rw (e, f) refl) (ends_pure a s)

  pub more_field : (first : ℕ) (s : Spot) (a : Expr) (make : FieldOf) (q : Got (Unit {0})) (r : Got Expr) → field_at (tok s.at) ≡ Some make → of.take tok fits opened s ≡ q →
      After q (λ m _. of.expect_name tok fits >> of.more tok fits m first (make first s.at a (suc s.at))) r → Ends (λ m. of.more tok fits m first a) s r
  unfolding of.more on_some
  more_field first s a make q r e t h = ends_suc {s = s} (λ m. of.more tok fits m first a)
      (λ m. of.take tok fits opened >> (of.expect_name tok fits >> of.more tok fits m first (make first s.at a (suc s.at)))) (λ m. rw e refl) (takes_go q _ _ t h)

  pub more_index : (first : ℕ) (s : Spot) (a : Expr) (q : Got (Unit {0})) (r : Got Expr) → field_at (tok s.at) ≡ None → is_sign punct.OpenSquare (tok s.at) ≡ true → of.take tok fits opened s ≡ q →
      After q (λ m _. of.chain tok fits m 6 >>= λ i. of.close tok fits punct.CloseSquare (suc s.level) >> of.more tok fits m first (tree.Index first s.at a i)) r → Ends (λ m. of.more tok fits m first a) s r
  unfolding of.more on_some
  more_index first s a q r e f t h = ends_suc {s = s} (λ m. of.more tok fits m first a)
      (λ m. of.take tok fits opened >> (of.chain tok fits m 6 >>= λ i. of.close tok fits punct.CloseSquare (suc s.level) >> of.more tok fits m first (tree.Index first s.at a i))) (λ m. rw (e, f) refl) (takes_go q _ _ t h)

  -- ---- primary

  pub from_start : (s : Spot) (q : Start) (r : Got Expr) → start_at (tok s.at) ≡ q → Ends (λ m. of.primary_from tok fits m q) s r → Ends (λ m. of.primary tok fits m) s r
  unfolding of.primary
  from_start s q r e h = ends_suc {s = s} (λ m. of.primary tok fits m) (λ m. of.primary_from tok fits m q) (λ m. rw e refl) h

  pub from_name : (s : Spot) (q : Got (Unit {0})) (r : Got Expr) → tok s.at ≡ Some kind.Name → of.take tok fits passed s ≡ q → After q (λ m _. of.named tok fits m s.at) r → Ends (λ m. of.primary tok fits m) s r
  unfolding of.primary_from start_at
  from_name s q r e t h = from_start s a_name r (ap start_at e)
      (ends_suc {s = s} (λ m. of.primary_from tok fits m a_name) (λ m. of.take tok fits passed >> of.named tok fits m s.at) (λ m. refl) (takes_go q _ _ t h))

  pub from_number : (s : Spot) (z : ℤ) (q : Got (Unit {0})) (r : Got Expr) → tok s.at ≡ Some (kind.Number z) → of.take tok fits passed s ≡ q → After q (λ m _. pure (tree.Number s.at s.at z)) r → Ends (λ m. of.primary tok fits m) s r
  unfolding of.primary_from start_at
  from_number s z q r e t h = from_start s (a_number z) r (ap start_at e)
      (ends_suc {s = s} (λ m. of.primary_from tok fits m (a_number z)) (λ m. of.take tok fits passed >> pure (tree.Number s.at s.at z)) (λ m. refl) (takes_go q _ _ t h))

  pub from_null : (s : Spot) (q : Got (Unit {0})) (r : Got Expr) → tok s.at ≡ Some (kind.Key keyword.Null) → of.take tok fits passed s ≡ q → After q (λ m _. pure (tree.Null s.at s.at)) r → Ends (λ m. of.primary tok fits m) s r
  unfolding of.primary_from start_at
  from_null s q r e t h = from_start s a_null r (ap start_at e)
      (ends_suc {s = s} (λ m. of.primary_from tok fits m a_null) (λ m. of.take tok fits passed >> pure (tree.Null s.at s.at)) (λ m. refl) (takes_go q _ _ t h))

  pub from_malloc : (s : Spot) (r : Got Expr) → tok s.at ≡ Some (kind.Key keyword.Malloc) → Ends (λ m. of.allocated tok fits m s.at None) s r → Ends (λ m. of.primary tok fits m) s r
  unfolding of.primary_from start_at
  from_malloc s r e h = from_start s a_malloc r (ap start_at e) (ends_suc {s = s} (λ m. of.primary_from tok fits m a_malloc) (λ m. of.allocated tok fits m s.at None) (λ m. refl) h)

  pub from_paren : (s : Spot) (r : Got Expr) → tok s.at ≡ Some (kind.Punct punct.Open) → Ends (λ m. of.parens tok fits m) s r → Ends (λ m. of.primary tok fits m) s r
  unfolding of.primary_from start_at
  from_paren s r e h = from_start s a_paren r (ap start_at e) (ends_suc {s = s} (λ m. of.primary_from tok fits m a_paren) (λ m. of.parens tok fits m) (λ m. refl) h)

  pub from_other : (s : Spot) → start_at (tok s.at) ≡ no_start → Ends (λ m. of.primary tok fits m) s (failed (bad s.at))
  unfolding of.primary_from start_at wrong
  from_other s e = from_start s no_start (failed (bad s.at)) e (ends_suc {s = s} (λ m. of.primary_from tok fits m no_start) (λ m. wrong) (λ m. refl) (0, λ _ _. refl))

  -- ---- parentheses

  pub parens_cast : (s : Spot) (r : Got Expr) → Ends (λ m. of.casts tok fits m) s (got true s) → Ends (λ m. of.cast tok fits m) s r → Ends (λ m. of.parens tok fits m) s r
  unfolding of.parens
  parens_cast s r e h = ends_suc {s = s} (λ m. of.parens tok fits m) (λ m. of.casts tok fits m >>= λ c. if c then of.cast tok fits m else of.inside tok fits m) (λ m. refl)
      (ends_go (got true s) _ (λ m c. if c then of.cast tok fits m else of.inside tok fits m) e h)

  pub parens_inside : (s : Spot) (q r : Got Expr) → Ends (λ m. of.casts tok fits m) s (got false s) → Ends (λ m. of.bracketed tok fits m) s q → After q (λ m a. pure (with_first s.at a)) r → Ends (λ m. of.parens tok fits m) s r
  unfolding of.parens of.inside
  parens_inside s q r e h k = ends_suc {s = s} (λ m. of.parens tok fits m) (λ m. of.casts tok fits m >>= λ c. if c then of.cast tok fits m else of.inside tok fits m) (λ m. refl)
      (ends_go (got false s) _ (λ m c. if c then of.cast tok fits m else of.inside tok fits m) e
      (ends_suc {s = s} (λ m. of.inside tok fits m) (λ m. of.bracketed tok fits m >>= λ a. pure (with_first s.at a)) (λ m. refl) (ends_go q _ (λ m a. pure (with_first s.at a)) h k)))

  pub bracketed_go : (s : Spot) (q : Got (Unit {0})) (r : Got Expr) → of.expect tok fits punct.Open opened s ≡ q →
      After q (λ m _. of.chain tok fits m 6 >>= λ a. of.close tok fits punct.Close s.level >> pure a) r → Ends (λ m. of.bracketed tok fits m) s r
  unfolding of.bracketed
  bracketed_go s q r t h = ends_suc {s = s} (λ m. of.bracketed tok fits m)
      (λ m. of.expect tok fits punct.Open opened >> (of.chain tok fits m 6 >>= λ a. of.close tok fits punct.Close s.level >> pure a)) (λ m. refl) (takes_go q _ _ t h)

  -- ---- calls

  pub named_stop : (first : ℕ) (s : Spot) → is_sign punct.Open (tok s.at) ≡ false → Ends (λ m. of.named tok fits m first) s (got (tree.Name first first) s)
  unfolding of.named pure
  named_stop first s e = ends_suc {s = s} (λ m. of.named tok fits m first) (λ m. pure (tree.Name first first)) (λ m. rw e refl) (ends_pure _ s)

  pub named_go : (first : ℕ) (s : Spot) (q : Got (List Expr)) (r : Got Expr) → is_sign punct.Open (tok s.at) ≡ true → Ends (λ m. of.arguments tok fits m) s q →
      After q (λ m l. pure (tree.Call first first l)) r → Ends (λ m. of.named tok fits m first) s r
  unfolding of.named
  named_go first s q r e h k = ends_suc {s = s} (λ m. of.named tok fits m first) (λ m. of.arguments tok fits m >>= λ l. pure (tree.Call first first l)) (λ m. rw e refl)
      (ends_go q _ (λ m l. pure (tree.Call first first l)) h k)

  pub arguments_go : (s : Spot) (q : Got (Unit {0})) (r : Got (List Expr)) → of.expect tok fits punct.Open opened s ≡ q →
      After q (λ m _. of.args tok fits m >>= λ l. of.close tok fits punct.Close (suc s.level) >> pure l) r → Ends (λ m. of.arguments tok fits m) s r
  unfolding of.arguments
  arguments_go s q r t h = ends_suc {s = s} (λ m. of.arguments tok fits m)
      (λ m. of.expect tok fits punct.Open opened >> (of.args tok fits m >>= λ l. of.close tok fits punct.Close (suc s.level) >> pure l)) (λ m. refl) (takes_go q _ _ t h)

  pub args_none : (s : Spot) → is_sign punct.Close (tok s.at) ≡ true → Ends (λ m. of.args tok fits m) s (got [] s)
  unfolding of.args pure
  args_none s e = ends_suc {s = s} (λ m. of.args tok fits m) (λ m. pure []) (λ m. rw e refl) (ends_pure [] s)

  pub args_go : (s : Spot) (q : Got Expr) (r : Got (List Expr)) → is_sign punct.Close (tok s.at) ≡ false → Ends (λ m. of.chain tok fits m 6) s q →
      After q (λ m a. of.args_more tok fits m s.level (a ∷ [])) r → Ends (λ m. of.args tok fits m) s r
  unfolding of.args
  args_go s q r e h k = ends_suc {s = s} (λ m. of.args tok fits m) (λ m. of.chain tok fits m 6 >>= λ a. of.args_more tok fits m s.level (a ∷ [])) (λ m. rw e refl)
      (ends_go q _ (λ m a. of.args_more tok fits m s.level (a ∷ [])) h k)

  pub args_stop : (n : ℕ) (s : Spot) (l : List Expr) → is_sign punct.Comma (tok s.at) ≡ false → Ends (λ m. of.args_more tok fits m n l) s (got l s)
  unfolding of.args_more pure
  args_stop n s l e = ends_suc {s = s} (λ m. of.args_more tok fits m n l) (λ m. pure l) (λ m. rw e refl) (ends_pure l s)

  pub args_next : (n : ℕ) (s : Spot) (l : List Expr) (q : Got (Unit {0})) (r : Got (List Expr)) → is_sign punct.Comma (tok s.at) ≡ true → of.close tok fits punct.Comma n s ≡ q →
      After q (λ m _. of.chain tok fits m 6 >>= λ a. of.args_more tok fits m n (l ++ a ∷ [])) r → Ends (λ m. of.args_more tok fits m n l) s r
  unfolding of.args_more
  args_next n s l q r e t h = ends_suc {s = s} (λ m. of.args_more tok fits m n l)
      (λ m. of.close tok fits punct.Comma n >> (of.chain tok fits m 6 >>= λ a. of.args_more tok fits m n (l ++ a ∷ []))) (λ m. rw e refl) (takes_go q _ _ t h)

  pub step_deep : (st : Step) (first : ℕ) (s : Spot) (a : Expr) (x : Fault) → StepAt st (tok s.at) → of.take tok fits opened s ≡ failed x → Ends (λ m. of.more tok fits m first a) s (failed x)
  step_deep (Field p) first s a x e t = more_field first s a (field_maker p) (failed x) (failed x) e t refl
  step_deep Index first s a x e t = more_index first s a (failed x) (failed x) e.0 e.1 t refl

  -- ---- types

  pub base_int : (s : Spot) (q : Got (Unit {0})) (r : Got Base) → tok s.at ≡ Some (kind.Key keyword.Int) → of.take tok fits passed s ≡ q → After q (λ m _. pure base.Int) r → Ends (λ _. of.base_type tok fits) s r
  unfolding of.base_type of.base_from base_at
  base_int s q r e t h = rw e (takes_go q _ (λ m. pure base.Int) t h)

  pub base_struct : (s : Spot) (q : Got (Unit {0})) (r : Got Base) → tok s.at ≡ Some (kind.Key keyword.Struct) → of.take tok fits passed s ≡ q →
      After q (λ m _. of.expect_name tok fits >> pure (base.Struct (suc s.at))) r → Ends (λ _. of.base_type tok fits) s r
  unfolding of.base_type of.base_from base_at
  base_struct s q r e t h = rw e (takes_go q _ (λ m. of.expect_name tok fits >> pure (base.Struct (suc s.at))) t h)

  pub base_alias : (s : Spot) (q : Got (Unit {0})) (r : Got Base) → tok s.at ≡ Some kind.Name → of.take tok fits passed s ≡ q → After q (λ m _. pure (base.Alias s.at)) r → Ends (λ _. of.base_type tok fits) s r
  unfolding of.base_type of.base_from base_at
  base_alias s q r e t h = rw e (takes_go q _ (λ m. pure (base.Alias s.at)) t h)

  pub base_other : (s : Spot) → base_at (tok s.at) ≡ no_base → Ends (λ _. of.base_type tok fits) s (failed (bad s.at))
  unfolding of.base_type of.base_from wrong
  base_other s e = rw e (0, λ _ _. refl)

  pub stars_stop : (s : Spot) → is_sign punct.Star (tok s.at) ≡ false → Ends (λ m. of.stars tok fits m) s (got 0 s)
  unfolding of.stars pure
  stars_stop s e = ends_suc {s = s} (λ m. of.stars tok fits m) (λ m. pure 0) (λ m. rw e refl) (ends_pure 0 s)

  pub stars_go : (s : Spot) (q : Got (Unit {0})) (r : Got ℕ) → is_sign punct.Star (tok s.at) ≡ true → of.take tok fits opened s ≡ q → After q (λ m _. of.stars tok fits m >>= λ k. leave s.level (suc k)) r → Ends (λ m. of.stars tok fits m) s r
  unfolding of.stars
  stars_go s q r e t h = ends_suc {s = s} (λ m. of.stars tok fits m) (λ m. of.take tok fits opened >> (of.stars tok fits m >>= λ k. leave s.level (suc k))) (λ m. rw e refl) (takes_go q _ _ t h)

  pub type_go : (s : Spot) (q : Got Base) (r : Got TypeName) → Ends (λ _. of.base_type tok fits) s q → After q (λ m b. of.stars tok fits m >>= λ k. pure (record { base = b; stars = k })) r → Ends (λ m. of.type_name tok fits m) s r
  unfolding of.type_name
  type_go s q r h k = ends_go q (λ _. of.base_type tok fits) (λ m b. of.stars tok fits m >>= λ k. pure (record { base = b; stars = k })) h k

  -- a word, then f in parentheses
  pub worded_go : {A : Type 0} (w : Keyword) (f : ℕ → P A) (s : Spot) (q : Got (Unit {0})) (r : Got A) → of.expect_key tok fits w s ≡ q →
      After q (λ m _. of.expect tok fits punct.Open opened >> (f m >>= λ a. of.close tok fits punct.Close s.level >> pure a)) r → Ends (λ m. of.worded tok fits w (f m)) s r
  unfolding of.worded
  worded_go w f s q r t h = takes_go q _ (λ m. of.expect tok fits punct.Open opened >> (f m >>= λ a. of.close tok fits punct.Close s.level >> pure a)) t h

  pub allocated_go : (first : ℕ) (cast : Option TypeName) (s : Spot) (q : Got TypeName) (r : Got Expr) → Ends (λ m. of.allocation tok fits m) s q →
      After q (λ m ty. pure (tree.Malloc first s.at cast ty)) r → Ends (λ m. of.allocated tok fits m first cast) s r
  unfolding of.allocated
  allocated_go first cast s q r h k = ends_go q _ (λ m ty. pure (tree.Malloc first s.at cast ty)) h k

  pub cast_go : (s : Spot) (q : Got TypeName) (r : Got Expr) → Ends (λ m. of.cast_type tok fits m) s q → After q (λ m ty. of.allocated tok fits m s.at (Some ty)) r → Ends (λ m. of.cast tok fits m) s r
  unfolding of.cast
  cast_go s q r h k = ends_go q _ (λ m ty. of.allocated tok fits m s.at (Some ty)) h k

  pub closes_stop : (i : ℕ) (s : Spot) (b : Bool) → is_sign punct.Star (tok i) ≡ false → is_sign punct.Close (tok i) ≡ b → Ends (λ m. of.closes tok fits m i) s (got b s)
  unfolding of.closes pure
  closes_stop i s b e f = ends_suc {s = s} (λ m. of.closes tok fits m i) (λ m. pure b) (λ m. rw (e, f) refl) (ends_pure b s)

  pub closes_on : (i j : ℕ) (s : Spot) (r : Got Bool) → j ≡ suc i → is_sign punct.Star (tok i) ≡ true → Ends (λ m. of.closes tok fits m j) s r → Ends (λ m. of.closes tok fits m i) s r
  unfolding of.closes
  closes_on i j s r p e k = let h = rw p at k in ends_suc {s = s} (λ m. of.closes tok fits m i) (λ m. of.closes tok fits m (suc i)) (λ m. rw e refl) h

  pub cast_type_go : (s : Spot) (q : Got (Unit {0})) (r : Got TypeName) → of.expect tok fits punct.Open opened s ≡ q →
      After q (λ m _. of.base_type tok fits >>= λ b. of.expect tok fits punct.Star opened >> (of.stars tok fits m >>= λ k. of.close tok fits punct.Close s.level >> pure (record { base = b; stars = suc k }))) r →
      Ends (λ m. of.cast_type tok fits m) s r
  unfolding of.cast_type
  cast_type_go s q r t h = takes_go q _ (λ m. of.base_type tok fits >>= λ b. of.expect tok fits punct.Star opened >> (of.stars tok fits m >>= λ k. of.close tok fits punct.Close s.level >> pure (record { base = b; stars = suc k }))) t h

  pub casts_int : (s : Spot) (i : ℕ) → i ≡ suc s.at → tok i ≡ Some (kind.Key keyword.Int) → Ends (λ m. of.casts tok fits m) s (got true s)
  unfolding of.casts of.casts_from base_at pure
  casts_int s i p e = let f = rw p at e in (0, λ m _. rw f refl)

  pub casts_struct : (s : Spot) (i : ℕ) → i ≡ suc s.at → tok i ≡ Some (kind.Key keyword.Struct) → Ends (λ m. of.casts tok fits m) s (got true s)
  unfolding of.casts of.casts_from base_at pure
  casts_struct s i p e = let f = rw p at e in (0, λ m _. rw f refl)

  pub casts_name : (s : Spot) (i j : ℕ) (b : Bool) → i ≡ suc s.at → j ≡ suc (suc s.at) → tok i ≡ Some kind.Name → is_sign punct.Star (tok j) ≡ true → Ends (λ m. of.closes tok fits m j) s (got b s) →
      Ends (λ m. of.casts tok fits m) s (got b s)
  unfolding of.casts of.casts_from base_at
  casts_name s i j b p q e f h = let k = rw q at h in let u = rw p at e in let v = rw q at f in (k.0, λ m l. rw (u, v) (k.1 m l))

  pub casts_plain : (s : Spot) (i j : ℕ) → i ≡ suc s.at → j ≡ suc (suc s.at) → tok i ≡ Some kind.Name → is_sign punct.Star (tok j) ≡ false → Ends (λ m. of.casts tok fits m) s (got false s)
  unfolding of.casts of.casts_from base_at
  casts_plain s i j p q e f = let u = rw p at e in let v = rw q at f in (0, λ m _. rw (u, v) refl)

  pub casts_other : (s : Spot) (i : ℕ) → i ≡ suc s.at → base_at (tok i) ≡ no_base → Ends (λ m. of.casts tok fits m) s (got false s)
  unfolding of.casts of.casts_from pure
  casts_other s i p e = let u = rw p at e in (0, λ m _. rw u refl)
