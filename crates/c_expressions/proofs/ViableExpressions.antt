-- Where an expression meets a fault, the tokens before it begin an expression.
use Rattle.std.proofs.Common.{◌≡◌, ℕ, zero, suc, Bool, true, false, pos, List, [], ◌∷◌, ◌++◌, Option, Some, None, if◌then◌else◌, refl, ◌∙◌, arith}
use Rattle.cc_model.specs.declared.tokens.Kind.TheVariants as kind
use Rattle.cc_model.specs.declared.tokens.Punct.TheVariants as punct
use Rattle.cc_model.specs.declared.tokens.Keyword.{Keyword}
use Rattle.cc_model.specs.declared.tokens.Keyword.TheVariants as keyword
use Rattle.cc_model.specs.declared.trees.Base.{Base}
use Rattle.cc_model.specs.declared.trees.Base.TheVariants as base_tree
use Rattle.cc_model.specs.declared.trees.TypeName.{TypeName}
use Rattle.cc_model.specs.declared.trees.Expr.{Expr}
use Rattle.cc_model.specs.declared.trees.Expr.TheVariants as tree
use Rattle.cc_model.specs.Spots.{Spot, opened, passed}
use Rattle.cc_model.specs.ReadTypes.{BaseType, Stars, Typed}
use Rattle.cc_model.specs.ReadTypes as type
use Rattle.cc_model.specs.ReadExpressions.{Binary, Prefix, FieldOf, with_first}
use Rattle.cc_model.specs.ReadExpressions as by
use Rattle.c_expressions.specs.Descent.{Fault, bad, deep, Got, got, failed, spent, P, go_on, ◌>>=◌, ◌>>◌, pure, leave, wrong, out, is_sign, binary_at, prefix_at, field_at, on_some, Start, a_name, a_number, a_null, a_malloc, a_paren, no_start, start_at, BaseStart, an_int, a_struct, an_alias, no_base, base_at}
use Rattle.c_expressions.specs.Descent as of
use Rattle.c_expressions.proofs.Tests.{is_sign_tells, binary_tells, prefix_tells, field_tells, Starts, start_tells, Bases, base_tells}
use Rattle.c_expressions.proofs.Moved.{Tail, More, Rest, Named, with_tail, with_more, with_rest, with_named, base_on, stars_on, typed_on, allocation_on, exp_on, postfix_on, bracketed_on, arguments_on, args_on, tail_on, more_on, rest_on, named_on, base_moved, stars_moved, typed_moved, allocation_moved, exp_moved, postfix_moved, bracketed_moved, arguments_moved, args_moved, tail_moved, more_moved, rest_moved, named_moved}
use Rattle.c_expressions.proofs.Moved as rest
use Rattle.c_expressions.proofs.Viable.{Tokens, Fits, Piece, Verdict, Peeks, seq, token, open_token, pass_token, close_token, done, left, here, rule, put, put_here, put_before, fits_behind, verdict_bind, verdict_then, verdict_map, verdict_if, verdict_some, verdict_peek, open_verdict, pass_verdict, sign_verdict, word_verdict, name_verdict, close_verdict, done_verdict, left_verdict}

-- ---- types

unfoldable pub base : Piece Base
base = record {
  rel = λ tok fits s a t. BaseType tok fits s t a;
  on = λ tok fits s t a h. let x = base_on tok fits h in omega arith;
  moved = λ tok tok' fits fits' s t a e h. base_moved tok fits tok' fits' s.at t.at e h (omega arith) (omega arith);
  due = λ tok fits s free. (put tok s.at kind.Name, base_tree.Alias s.at, passed s, (λ i q. put_before tok s.at kind.Name i q), type.alias (put_here tok s.at kind.Name, free s.at s.level (omega arith)));
}

unfoldable pub stars : Piece ℕ
stars = record {
  rel = λ tok fits s a t. Stars tok fits s t a;
  on = λ tok fits s t a h. let x = stars_on tok fits h in omega arith;
  moved = λ tok tok' fits fits' s t a e h. stars_moved tok fits tok' fits' s.at t.at e h (omega arith) (omega arith);
  due = λ tok fits s free. (tok, 0, s, (λ i q. refl), type.none);
}

unfoldable pub typed_parts : Piece TypeName
typed_parts = seq base (λ b. seq stars (λ k. done (record { base = b; stars = k })))

pub typed_from : (tok : Tokens) (fits : Fits) (s t : Spot) (a : TypeName) → typed_parts.rel tok fits s a t → Typed tok fits s t a
unfolding typed_parts seq base stars done
typed_from tok fits s t a d = rw (d.3.3.0, d.3.3.1) (type.typed d.2 d.3.2)

unfoldable pub typed : Piece TypeName
typed = rule typed_parts (λ tok fits s a t. Typed tok fits s t a)
    (λ tok fits s t a h. let x = typed_on tok fits h in omega arith)
    (λ tok tok' fits fits' s t a e h. typed_moved tok fits tok' fits' s.at t.at e h (omega arith) (omega arith)) typed_from

-- behind the word, where n tokens are open behind the parentheses
unfoldable pub worded_rest : {A : Type 0} → Piece A → ℕ → Piece A
worded_rest F n = seq (open_token (kind.Punct punct.Open)) (λ _. seq F (λ a. seq (close_token punct.Close n) (λ _. done a)))

unfoldable pub worded : {A : Type 0} → Keyword → Piece A → Piece A
worded w F = here (λ s. seq (pass_token (kind.Key w)) (λ _. worded_rest F s.level))

unfoldable pub allocation_parts : Piece TypeName
allocation_parts = worded keyword.Malloc (worded keyword.Sizeof typed)

pub allocation_from : (tok : Tokens) (fits : Fits) (s t : Spot) (a : TypeName) → allocation_parts.rel tok fits s a t → by.Allocation tok fits s t a
unfolding allocation_parts worded worded_rest here seq open_token pass_token close_token token done typed rule
allocation_from tok fits s t a d =
    let i = d.3.3.2 in
    let e2 = rw d.2.1 at d.3.2.1 in
    let o = rw d.2.1 at d.3.2.0 in
    let k = rw e2 at i.2.0 in
    let f1 = rw e2 at i.2.1 in
    let p = rw f1 at i.3.2.0 in
    let f2 = rw f1 at i.3.2.1 in
    let ty = rw f2 at i.3.3.2 in
    let c = rw e2 at i.3.3.3.2.0 in
    let g1 = rw e2 at i.3.3.3.2.1 in
    let g = i.3.3.3.3.1 ∙ g1 in
    let c2 = rw g at d.3.3.3.2.0 in
    let h1 = rw g at d.3.3.3.2.1 in
    let h = d.3.3.3.3.1 ∙ h1 in
    rw (d.3.3.3.3.0, i.3.3.3.3.0, h) (by.Allocation.malloc d.2.0 o k p ty c c2)

unfoldable pub allocation : Piece TypeName
allocation = rule allocation_parts (λ tok fits s a t. by.Allocation tok fits s t a)
    (λ tok fits s t a h. let x = allocation_on tok fits h in omega arith)
    (λ tok tok' fits fits' s t a e h. allocation_moved tok fits tok' fits' s.at t.at e h (omega arith) (omega arith)) allocation_from

unfoldable pub allocated : ℕ → Option TypeName → Piece Expr
allocated f cast = here (λ s. seq allocation (λ ty. done (tree.Malloc f s.at cast ty)))

-- the parentheses of a cast behind the `(`, where n tokens are open behind them
unfoldable pub cast_rest : ℕ → Base → Piece TypeName
cast_rest n b = seq (open_token (kind.Punct punct.Star)) (λ _. seq stars (λ k. seq (close_token punct.Close n) (λ _. done (record { base = b; stars = suc k }))))

unfoldable pub cast_type : Piece TypeName
cast_type = here (λ s. seq (open_token (kind.Punct punct.Open)) (λ _. seq base (cast_rest s.level)))

unfoldable pub cast : Piece Expr
cast = here (λ s. seq cast_type (λ ty. allocated s.at (Some ty)))

pub cast_from : (tok : Tokens) (fits : Fits) (s t : Spot) (a : Expr) → cast.rel tok fits s a t → by.Postfix tok fits s t a
unfolding cast cast_type cast_rest allocated allocation here rule seq base stars open_token close_token token done
cast_from tok fits s t a d =
    let i = d.2 in
    let b = rw i.2.1 at i.3.2 in
    let y = i.3.3.2.0 in
    let st = rw i.3.3.2.1 at i.3.3.3.2 in
    let c = i.3.3.3.3.2.0 in
    let g = i.3.3.3.3.3.1 ∙ i.3.3.3.3.2.1 in
    let al = rw g at d.3.2 in
    let e = rw (g, i.3.3.3.3.3.0) at d.3.3.0 in
    rw (d.3.3.1, e) (by.cast i.2.0 b y st c al)

module _ (tok : Tokens) (fits : Fits) where
  base_from_verdict : (s : Spot) (q : BaseStart) → Bases q (tok s.at) → Verdict base tok fits s (of.base_from tok fits q s)
  unfolding of.base_from base seq pass_token token done wrong
  base_from_verdict s an_int e = verdict_map tok fits (seq (pass_token (kind.Key keyword.Int)) (λ _. done base_tree.Int)) base s _
      (λ tok' fits' a t d. rw (d.3.0, d.3.1, d.2.1) (type.int d.2.0))
      (verdict_then tok fits (pass_token (kind.Key keyword.Int)) (λ _. done base_tree.Int) s (of.take tok fits passed) _ (pass_verdict tok fits (kind.Key keyword.Int) s e) (λ t d. done_verdict tok fits base_tree.Int t))
  base_from_verdict s a_struct e = verdict_map tok fits (seq (pass_token (kind.Key keyword.Struct)) (λ _. seq (pass_token kind.Name) (λ _. done (base_tree.Struct (suc s.at))))) base s _
      (λ tok' fits' a t d. rw (d.3.3.0, d.3.3.1, d.3.2.1, d.2.1) (type.struct d.2.0 (rw d.2.1 at d.3.2.0)))
      (verdict_then tok fits (pass_token (kind.Key keyword.Struct)) (λ _. seq (pass_token kind.Name) (λ _. done (base_tree.Struct (suc s.at)))) s (of.take tok fits passed) _ (pass_verdict tok fits (kind.Key keyword.Struct) s e)
      (λ t d. verdict_then tok fits (pass_token kind.Name) (λ _. done (base_tree.Struct (suc s.at))) t (of.expect_name tok fits) _ (name_verdict tok fits t) (λ u r. done_verdict tok fits (base_tree.Struct (suc s.at)) u)))
  base_from_verdict s an_alias e = verdict_map tok fits (seq (pass_token kind.Name) (λ _. done (base_tree.Alias s.at))) base s _
      (λ tok' fits' a t d. rw (d.3.0, d.3.1, d.2.1) (type.alias d.2.0))
      (verdict_then tok fits (pass_token kind.Name) (λ _. done (base_tree.Alias s.at)) s (of.take tok fits passed) _ (pass_verdict tok fits kind.Name s e) (λ t d. done_verdict tok fits (base_tree.Alias s.at) t))
  base_from_verdict s no_base e = (
    (
      put tok s.at kind.Name,
      base_tree.Alias s.at,
      passed s,
      (λ i q. put_before tok s.at kind.Name i q),
      omega arith,
      type.alias (put_here tok s.at kind.Name, fits_behind fits (bad s.at) s.at s.level (omega arith)),
    ),
    omega arith,
  )

  pub base_verdict : (s : Spot) → Verdict base tok fits s (of.base_type tok fits s)
  unfolding of.base_type
  base_verdict s = base_from_verdict s (base_at (tok s.at)) (base_tells (tok s.at))

  pub stars_verdict : (n : ℕ) (s : Spot) → Verdict stars tok fits s (of.stars tok fits n s)
  unfolding of.stars out stars seq open_token token left
  stars_verdict zero s = tt
  stars_verdict (suc n) s = verdict_if tok fits stars s (is_sign punct.Star (tok s.at)) _ (got 0 s)
      (λ e. verdict_map tok fits (seq (open_token (kind.Punct punct.Star)) (λ _. seq stars (λ k. left s.level (suc k)))) stars s _
      (λ tok' fits' k t d. rw (d.3.3.0, d.3.3.1) (type.star d.2.0 (rw d.2.1 at d.3.2)))
      (verdict_then tok fits (open_token (kind.Punct punct.Star)) (λ _. seq stars (λ k. left s.level (suc k))) s (of.take tok fits opened) _ (open_verdict tok fits (kind.Punct punct.Star) s (is_sign_tells punct.Star (tok s.at) e))
      (λ t d. verdict_bind tok fits stars (λ k. left s.level (suc k)) t (of.stars tok fits n) _ (stars_verdict n t) (λ k u r. left_verdict tok fits s.level (suc k) u))))
      (λ _. type.none)

  pub typed_verdict : (n : ℕ) (s : Spot) → Verdict typed tok fits s (of.type_name tok fits n s)
  unfolding of.type_name typed typed_parts rule seq base stars done
  typed_verdict n s = verdict_map tok fits typed_parts typed s _ (λ tok' fits' a t d. rw (d.3.3.0, d.3.3.1) (type.typed d.2 d.3.2))
      (verdict_bind tok fits base (λ b. seq stars (λ k. done (record { base = b; stars = k }))) s (of.base_type tok fits) _ (base_verdict s)
      (λ b t r. verdict_bind tok fits stars (λ k. done (record { base = b; stars = k })) t (of.stars tok fits n) _ (stars_verdict n t) (λ k u q. done_verdict tok fits (record { base = b; stars = k }) u)))

  here_verdict : {A : Type 0} (S : Spot → Piece A) (s : Spot) (q : Got A) → Verdict (S s) tok fits s q → Verdict (here S) tok fits s q
  unfolding here
  here_verdict S s (got a t) h = h
  here_verdict S s (failed f) h = h
  here_verdict S s spent h = h

  rest_verdict_of : {A : Type 0} (F : Piece A) (f : P A) (n : ℕ) (s : Spot) → ((t : Spot) → Verdict F tok fits t (f t)) →
      Verdict (worded_rest F n) tok fits s ((of.expect tok fits punct.Open opened >> (f >>= λ a. of.close tok fits punct.Close n >> pure a)) s)
  unfolding worded_rest
  rest_verdict_of F f n s h =
      verdict_then tok fits (open_token (kind.Punct punct.Open)) (λ _. seq F (λ a. seq (close_token punct.Close n) (λ _. done a))) s (of.expect tok fits punct.Open opened) _ (sign_verdict tok fits punct.Open s) (λ t d.
      verdict_bind tok fits F (λ a. seq (close_token punct.Close n) (λ _. done a)) t f _ (h t) (λ a u r.
      verdict_then tok fits (close_token punct.Close n) (λ _. done a) u (of.close tok fits punct.Close n) _ (close_verdict tok fits punct.Close n u) (λ v q. done_verdict tok fits a v)))

  worded_verdict : {A : Type 0} (w : Keyword) (F : Piece A) (f : P A) (s : Spot) → ((t : Spot) → Verdict F tok fits t (f t)) → Verdict (worded w F) tok fits s (of.worded tok fits w f s)
  unfolding of.worded worded
  worded_verdict w F f s h = here_verdict (λ s. seq (pass_token (kind.Key w)) (λ _. worded_rest F s.level)) s _
      (verdict_then tok fits (pass_token (kind.Key w)) (λ _. worded_rest F s.level) s (of.expect_key tok fits w) _ (word_verdict tok fits w s) (λ t d. rest_verdict_of F f s.level t h))

  allocation_parts_verdict : (n : ℕ) (s : Spot) → Verdict allocation_parts tok fits s (of.allocation tok fits n s)
  unfolding of.allocation of.sized allocation_parts
  allocation_parts_verdict n s = worded_verdict keyword.Malloc (worded keyword.Sizeof typed) (of.sized tok fits n) s (λ t. worded_verdict keyword.Sizeof typed (of.type_name tok fits n) t (λ u. typed_verdict n u))

  pub allocation_verdict : (n : ℕ) (s : Spot) → Verdict allocation tok fits s (of.allocation tok fits n s)
  unfolding allocation rule
  allocation_verdict n s = verdict_map tok fits allocation_parts allocation s _ (λ tok' fits' a t d. allocation_from tok' fits' s t a d) (allocation_parts_verdict n s)

  pub allocated_verdict : (f : ℕ) (c : Option TypeName) (n : ℕ) (s : Spot) → Verdict (allocated f c) tok fits s (of.allocated tok fits n f c s)
  unfolding of.allocated allocated
  allocated_verdict f c n s = here_verdict (λ s. seq allocation (λ ty. done (tree.Malloc f s.at c ty))) s _
      (verdict_bind tok fits allocation (λ ty. done (tree.Malloc f s.at c ty)) s (of.allocation tok fits n) _ (allocation_verdict n s) (λ ty t d. done_verdict tok fits (tree.Malloc f s.at c ty) t))

  cast_rest_verdict : (k : ℕ) (b : Base) (n : ℕ) (s : Spot) →
      Verdict (cast_rest k b) tok fits s ((of.expect tok fits punct.Star opened >> (of.stars tok fits n >>= λ i. of.close tok fits punct.Close k >> pure (record { base = b; stars = suc i }))) s)
  unfolding cast_rest
  cast_rest_verdict k b n s =
      verdict_then tok fits (open_token (kind.Punct punct.Star)) (λ _. seq stars (λ i. seq (close_token punct.Close k) (λ _. done (record { base = b; stars = suc i })))) s (of.expect tok fits punct.Star opened) _ (sign_verdict tok fits punct.Star s) (λ t d.
      verdict_bind tok fits stars (λ i. seq (close_token punct.Close k) (λ _. done (record { base = b; stars = suc i }))) t (of.stars tok fits n) _ (stars_verdict n t) (λ i u r.
      verdict_then tok fits (close_token punct.Close k) (λ _. done (record { base = b; stars = suc i })) u (of.close tok fits punct.Close k) _ (close_verdict tok fits punct.Close k u) (λ v q. done_verdict tok fits (record { base = b; stars = suc i }) v)))

  cast_type_verdict : (n : ℕ) (s : Spot) → Verdict cast_type tok fits s (of.cast_type tok fits n s)
  unfolding of.cast_type cast_type
  cast_type_verdict n s = here_verdict (λ s. seq (open_token (kind.Punct punct.Open)) (λ _. seq base (cast_rest s.level))) s _
      (verdict_then tok fits (open_token (kind.Punct punct.Open)) (λ _. seq base (cast_rest s.level)) s (of.expect tok fits punct.Open opened) _ (sign_verdict tok fits punct.Open s) (λ t d.
      verdict_bind tok fits base (cast_rest s.level) t (of.base_type tok fits) _ (base_verdict t) (λ b u r. cast_rest_verdict s.level b n u)))

  pub cast_verdict : (n : ℕ) (s : Spot) → Verdict cast tok fits s (of.cast tok fits n s)
  unfolding of.cast cast
  cast_verdict n s = here_verdict (λ s. seq cast_type (λ ty. allocated s.at (Some ty))) s _
      (verdict_bind tok fits cast_type (λ ty. allocated s.at (Some ty)) s (of.cast_type tok fits n) _ (cast_type_verdict n s) (λ ty t d. allocated_verdict s.at (Some ty) n t))

  -- ---- looking ahead

  closes_peek : (n i : ℕ) (s : Spot) → Peeks s (of.closes tok fits n i s)
  unfolding of.closes out
  closes_peek zero i s = tt
  closes_peek (suc n) i s = go (is_sign punct.Star (tok i)) (closes_peek n (suc i) s)
    where
      go : (b : Bool) → Peeks s (of.closes tok fits n (suc i) s) → Peeks s (if b then of.closes tok fits n (suc i) s else got (is_sign punct.Close (tok i)) s)
      go true h = h
      go false h = refl

  casts_from_peek : (n : ℕ) (q : BaseStart) (s : Spot) → Peeks s (of.casts_from tok fits n q s)
  unfolding of.casts_from pure
  casts_from_peek n an_int s = refl
  casts_from_peek n a_struct s = refl
  casts_from_peek n an_alias s = go (is_sign punct.Star (tok (suc (suc s.at))))
    where
      go : (b : Bool) → Peeks s (if b then of.closes tok fits n (suc (suc s.at)) s else got false s)
      go true = closes_peek n (suc (suc s.at)) s
      go false = refl
  casts_from_peek n no_base s = refl

  pub casts_peek : (n : ℕ) (s : Spot) → Peeks s (of.casts tok fits n s)
  unfolding of.casts
  casts_peek n s = casts_from_peek n (base_at (tok (suc s.at))) s

-- ---- expressions

pub zero_at : (tok : Tokens) (fits : Fits) (s : Spot) (l : ℕ) → tok s.at ≡ Some (kind.Number (pos 0)) → fits s.at s.level ≡ true → by.Exp tok fits l s (passed s) (tree.Number s.at s.at (pos 0))
zero_at tok fits s zero e f = by.plain (by.number (pos 0) (e, f))
zero_at tok fits s (suc l) e f = by.one (zero_at tok fits s l e f)

-- an expression of the rank; its completion is 0
unfoldable pub chain : ℕ → Piece Expr
chain l = record {
  rel = λ tok fits s a t. by.Exp tok fits l s t a;
  on = λ tok fits s t a h. let x = exp_on tok fits h in omega arith;
  moved = λ tok tok' fits fits' s t a e h. exp_moved tok fits tok' fits' s.at t.at e h (omega arith) (omega arith);
  due = λ tok fits s free. (
    put tok s.at (kind.Number (pos 0)),
    tree.Number s.at s.at (pos 0),
    passed s,
    (λ i q. put_before tok s.at (kind.Number (pos 0)) i q),
    zero_at (put tok s.at (kind.Number (pos 0))) fits s l (put_here tok s.at (kind.Number (pos 0))) (free s.at s.level (omega arith)),
  );
}

unfoldable pub postfix : Piece Expr
postfix = record {
  rel = λ tok fits s a t. by.Postfix tok fits s t a;
  on = λ tok fits s t a h. let x = postfix_on tok fits h in omega arith;
  moved = λ tok tok' fits fits' s t a e h. postfix_moved tok fits tok' fits' s.at t.at e h (omega arith) (omega arith);
  due = λ tok fits s free. (
    put tok s.at (kind.Number (pos 0)),
    tree.Number s.at s.at (pos 0),
    passed s,
    (λ i q. put_before tok s.at (kind.Number (pos 0)) i q),
    by.number (pos 0) (put_here tok s.at (kind.Number (pos 0)), free s.at s.level (omega arith)),
  );
}

unfoldable pub tail : ℕ → ℕ → Expr → Piece Expr
tail l f a = record {
  rel = λ tok fits s b t. Tail tok fits l f a s t b;
  on = λ tok fits s t b h. tail_on tok fits h;
  moved = λ tok tok' fits fits' s t b e h. tail_moved tok fits tok' fits' s.at t.at e h (omega arith) (omega arith);
  due = λ tok fits s free. (tok, a, s, (λ i q. refl), rest.Tail.stop);
}

unfoldable pub more : ℕ → Expr → Piece Expr
more f a = record {
  rel = λ tok fits s b t. More tok fits f a s t b;
  on = λ tok fits s t b h. more_on tok fits h;
  moved = λ tok tok' fits fits' s t b e h. more_moved tok fits tok' fits' s.at t.at e h (omega arith) (omega arith);
  due = λ tok fits s free. (tok, a, s, (λ i q. refl), rest.More.stop);
}

unfoldable pub named : ℕ → Piece Expr
named f = record {
  rel = λ tok fits s b t. Named tok fits f s t b;
  on = λ tok fits s t b h. named_on tok fits h;
  moved = λ tok tok' fits fits' s t b e h. named_moved tok fits tok' fits' s.at t.at e h (omega arith) (omega arith);
  due = λ tok fits s free. (tok, tree.Name f f, s, (λ i q. refl), rest.Named.name);
}

unfoldable pub arguments_rest : ℕ → List Expr → Piece (List Expr)
arguments_rest n l = record {
  rel = λ tok fits s m t. Rest tok fits n l s t m;
  on = λ tok fits s t m h. rest_on tok fits h;
  moved = λ tok tok' fits fits' s t m e h. rest_moved tok fits tok' fits' s.at t.at e h (omega arith) (omega arith);
  due = λ tok fits s free. (tok, l, s, (λ i q. refl), rest.Rest.stop);
}

unfoldable pub args : Piece (List Expr)
args = record {
  rel = λ tok fits s m t. by.Args tok fits s t m;
  on = λ tok fits s t m h. args_on tok fits h;
  moved = λ tok tok' fits fits' s t m e h. args_moved tok fits tok' fits' s.at t.at e h (omega arith) (omega arith);
  due = λ tok fits s free. (tok, [], s, (λ i q. refl), by.empty);
}

-- F in parentheses, where `level s` tokens stay open
unfoldable pub in_parens : {A : Type 0} → Piece A → (Spot → ℕ) → Piece A
in_parens F level = here (λ s. worded_rest F (level s))

pub bracketed_from : (tok : Tokens) (fits : Fits) (s t : Spot) (a : Expr) → (in_parens (chain 6) (λ s. s.level)).rel tok fits s a t → by.Bracketed tok fits s t a
unfolding in_parens worded_rest here seq open_token close_token token done chain
bracketed_from tok fits s t a d = rw (d.3.3.3.0, d.3.3.3.1, d.3.3.2.1) (by.bracketed d.2.0 (rw d.2.1 at d.3.2) d.3.3.2.0)

unfoldable pub bracketed : Piece Expr
bracketed = rule (in_parens (chain 6) (λ s. s.level)) (λ tok fits s a t. by.Bracketed tok fits s t a)
    (λ tok fits s t a h. let x = bracketed_on tok fits h in omega arith)
    (λ tok tok' fits fits' s t a e h. bracketed_moved tok fits tok' fits' s.at t.at e h (omega arith) (omega arith)) bracketed_from

pub arguments_from : (tok : Tokens) (fits : Fits) (s t : Spot) (l : List Expr) → (in_parens args (λ s. suc s.level)).rel tok fits s l t → by.Arguments tok fits s t l
unfolding in_parens worded_rest here seq open_token close_token token done args
arguments_from tok fits s t l d = rw (d.3.3.3.0, d.3.3.3.1, d.3.3.2.1) (by.arguments d.2.0 (rw d.2.1 at d.3.2) d.3.3.2.0)

unfoldable pub arguments : Piece (List Expr)
arguments = rule (in_parens args (λ s. suc s.level)) (λ tok fits s l t. by.Arguments tok fits s t l)
    (λ tok fits s t l h. let x = arguments_on tok fits h in omega arith)
    (λ tok tok' fits fits' s t l e h. arguments_moved tok fits tok' fits' s.at t.at e h (omega arith) (omega arith)) arguments_from

module _ (tok : Tokens) (fits : Fits) where
  -- parentheses
  parens_verdict_of : {A : Type 0} (F : Piece A) (f : P A) (level : Spot → ℕ) (s : Spot) → ((t : Spot) → Verdict F tok fits t (f t)) →
      Verdict (in_parens F level) tok fits s ((of.expect tok fits punct.Open opened >> (f >>= λ a. of.close tok fits punct.Close (level s) >> pure a)) s)
  unfolding in_parens
  parens_verdict_of F f level s h = here_verdict tok fits (λ s. worded_rest F (level s)) s _ (rest_verdict_of tok fits F f (level s) s h)

  -- a cast is a postfix expression
  cast_postfix : (s : Spot) (q : Got Expr) → Verdict cast tok fits s q → Verdict postfix tok fits s q
  unfolding postfix
  cast_postfix s q h = verdict_map tok fits cast postfix s q (λ tok' fits' a t d. cast_from tok' fits' s t a d) h

  malloc_postfix : (s : Spot) (q : Got Expr) → Verdict (allocated s.at None) tok fits s q → Verdict postfix tok fits s q
  unfolding postfix allocated here seq allocation rule done
  malloc_postfix s q h = verdict_map tok fits (allocated s.at None) postfix s q (λ tok' fits' a t d. rw (d.3.0, d.3.1) (by.Postfix.malloc d.2)) h

  verdict_choice : (c : Bool) (f g : P Expr) (s : Spot) → Verdict postfix tok fits s (f s) → Verdict postfix tok fits s (g s) → Verdict postfix tok fits s ((if c then f else g) s)
  verdict_choice true f g s h k = h
  verdict_choice false f g s h k = k

  mutual
    unfolding of.chain of.tail of.unary of.postfix of.more of.primary of.primary_from of.parens of.inside of.bracketed of.arguments of.named of.args of.args_more out wrong seq open_token pass_token close_token token done chain postfix tail more named arguments_rest args bracketed arguments rule

    pub chain_verdict : (n l : ℕ) (s : Spot) → Verdict (chain l) tok fits s (of.chain tok fits n l s)
    chain_verdict zero l s = tt
    chain_verdict (suc n) zero s = unary_verdict n s
    chain_verdict (suc n) (suc l) s = verdict_map tok fits (seq (chain l) (λ a. tail l s.at a)) (chain (suc l)) s _ (λ tok' fits' b t d. with_tail tok' fits' (by.one d.2) d.3)
        (verdict_bind tok fits (chain l) (λ a. tail l s.at a) s (of.chain tok fits n l) _ (chain_verdict n l s) (λ a t r. tail_verdict n l s.at a t))

    pub tail_verdict : (n l f : ℕ) (a : Expr) (s : Spot) → Verdict (tail l f a) tok fits s (of.tail tok fits n l f a s)
    tail_verdict zero l f a s = tt
    tail_verdict (suc n) l f a s = verdict_some tok fits (tail l f a) s (binary_at (suc l) (tok s.at)) _ (got a s)
        (λ make e. let q = binary_tells (suc l) (tok s.at) make e in
        verdict_map tok fits (seq (open_token (kind.Punct q.0)) (λ _. seq (chain l) (λ b. tail l f (make f s.at a b)))) (tail l f a) s _
        (λ tok' fits' c u d. rest.Tail.sign q.0 make q.2 d.2.0 (rw d.2.1 at d.3.2) d.3.3)
        (verdict_then tok fits (open_token (kind.Punct q.0)) (λ _. seq (chain l) (λ b. tail l f (make f s.at a b))) s (of.take tok fits opened) _ (open_verdict tok fits (kind.Punct q.0) s q.1)
        (λ t d. verdict_bind tok fits (chain l) (λ b. tail l f (make f s.at a b)) t (of.chain tok fits n l) _ (chain_verdict n l t) (λ b u r. tail_verdict n l f (make f s.at a b) u))))
        (λ _. rest.Tail.stop)

    pub unary_verdict : (n : ℕ) (s : Spot) → Verdict (chain 0) tok fits s (of.unary tok fits n s)
    unary_verdict zero s = tt
    unary_verdict (suc n) s = verdict_some tok fits (chain 0) s (prefix_at (tok s.at)) _ (of.postfix tok fits n s)
        (λ make e. let q = prefix_tells (tok s.at) make e in
        verdict_map tok fits (seq (open_token (kind.Punct q.0)) (λ _. seq (chain 0) (λ a. done (make s.at s.at a)))) (chain 0) s _
        (λ tok' fits' c u d. rw (d.3.3.0, d.3.3.1) (by.prefix q.0 make q.2 d.2.0 (rw d.2.1 at d.3.2)))
        (verdict_then tok fits (open_token (kind.Punct q.0)) (λ _. seq (chain 0) (λ a. done (make s.at s.at a))) s (of.take tok fits opened) _ (open_verdict tok fits (kind.Punct q.0) s q.1)
        (λ t d. verdict_bind tok fits (chain 0) (λ a. done (make s.at s.at a)) t (of.unary tok fits n) _ (unary_verdict n t) (λ a u r. done_verdict tok fits (make s.at s.at a) u))))
        (λ _. verdict_map tok fits postfix (chain 0) s (of.postfix tok fits n s) (λ tok' fits' a t d. by.plain d) (postfix_verdict n s))

    pub postfix_verdict : (n : ℕ) (s : Spot) → Verdict postfix tok fits s (of.postfix tok fits n s)
    postfix_verdict zero s = tt
    postfix_verdict (suc n) s = verdict_map tok fits (seq postfix (λ a. more s.at a)) postfix s _ (λ tok' fits' b t d. with_more tok' fits' d.2 d.3)
        (verdict_bind tok fits postfix (λ a. more s.at a) s (of.primary tok fits n) _ (primary_verdict n s) (λ a t r. more_verdict n s.at a t))

    pub more_verdict : (n f : ℕ) (a : Expr) (s : Spot) → Verdict (more f a) tok fits s (of.more tok fits n f a s)
    more_verdict zero f a s = tt
    more_verdict (suc n) f a s = verdict_some tok fits (more f a) s (field_at (tok s.at)) _ _
        (λ make e. let q = field_tells (tok s.at) make e in
        verdict_map tok fits (seq (open_token (kind.Punct q.0)) (λ _. seq (pass_token kind.Name) (λ _. more f (make f s.at a (suc s.at))))) (more f a) s _
        (λ tok' fits' c u d. rest.More.field q.0 make q.2 d.2.0 (rw d.2.1 at d.3.2.0) (rw (d.3.2.1, d.2.1) at d.3.3))
        (verdict_then tok fits (open_token (kind.Punct q.0)) (λ _. seq (pass_token kind.Name) (λ _. more f (make f s.at a (suc s.at)))) s (of.take tok fits opened) _ (open_verdict tok fits (kind.Punct q.0) s q.1)
        (λ t d. verdict_then tok fits (pass_token kind.Name) (λ _. more f (make f s.at a (suc s.at))) t (of.expect_name tok fits) _ (name_verdict tok fits t) (λ u r. more_verdict n f (make f s.at a (suc s.at)) u))))
        (λ _. verdict_if tok fits (more f a) s (is_sign punct.OpenSquare (tok s.at)) _ (got a s)
        (λ e. verdict_map tok fits (seq (open_token (kind.Punct punct.OpenSquare)) (λ _. seq (chain 6) (λ i. seq (close_token punct.CloseSquare (suc s.level)) (λ _. more f (tree.Index f s.at a i))))) (more f a) s _
        (λ tok' fits' c u d. rest.More.index d.2.0 (rw d.2.1 at d.3.2) d.3.3.2.0 (rw d.3.3.2.1 at d.3.3.3))
        (verdict_then tok fits (open_token (kind.Punct punct.OpenSquare)) (λ _. seq (chain 6) (λ i. seq (close_token punct.CloseSquare (suc s.level)) (λ _. more f (tree.Index f s.at a i)))) s (of.take tok fits opened) _
        (open_verdict tok fits (kind.Punct punct.OpenSquare) s (is_sign_tells punct.OpenSquare (tok s.at) e))
        (λ t d. verdict_bind tok fits (chain 6) (λ i. seq (close_token punct.CloseSquare (suc s.level)) (λ _. more f (tree.Index f s.at a i))) t (of.chain tok fits n 6) _ (chain_verdict n 6 t)
        (λ i u r. verdict_then tok fits (close_token punct.CloseSquare (suc s.level)) (λ _. more f (tree.Index f s.at a i)) u (of.close tok fits punct.CloseSquare (suc s.level)) _ (close_verdict tok fits punct.CloseSquare (suc s.level) u)
        (λ v k. more_verdict n f (tree.Index f s.at a i) v)))))
        (λ _. rest.More.stop))

    pub primary_verdict : (n : ℕ) (s : Spot) → Verdict postfix tok fits s (of.primary tok fits n s)
    primary_verdict zero s = tt
    primary_verdict (suc n) s = start_verdict n s (start_at (tok s.at)) (start_tells (tok s.at))

    pub start_verdict : (n : ℕ) (s : Spot) (q : Start) → Starts q (tok s.at) → Verdict postfix tok fits s (of.primary_from tok fits n q s)
    start_verdict zero s q e = tt
    start_verdict (suc n) s a_name e = verdict_map tok fits (seq (pass_token kind.Name) (λ _. named s.at)) postfix s _ (λ tok' fits' a t d. with_named tok' fits' d.2.0 (rw d.2.1 at d.3))
        (verdict_then tok fits (pass_token kind.Name) (λ _. named s.at) s (of.take tok fits passed) _ (pass_verdict tok fits kind.Name s e) (λ t d. named_verdict n s.at t))
    start_verdict (suc n) s (a_number z) e = verdict_map tok fits (seq (pass_token (kind.Number z)) (λ _. done (tree.Number s.at s.at z))) postfix s _ (λ tok' fits' a t d. rw (d.3.0, d.3.1, d.2.1) (by.number z d.2.0))
        (verdict_then tok fits (pass_token (kind.Number z)) (λ _. done (tree.Number s.at s.at z)) s (of.take tok fits passed) _ (pass_verdict tok fits (kind.Number z) s e) (λ t d. done_verdict tok fits (tree.Number s.at s.at z) t))
    start_verdict (suc n) s a_null e = verdict_map tok fits (seq (pass_token (kind.Key keyword.Null)) (λ _. done (tree.Null s.at s.at))) postfix s _ (λ tok' fits' a t d. rw (d.3.0, d.3.1, d.2.1) (by.null d.2.0))
        (verdict_then tok fits (pass_token (kind.Key keyword.Null)) (λ _. done (tree.Null s.at s.at)) s (of.take tok fits passed) _ (pass_verdict tok fits (kind.Key keyword.Null) s e) (λ t d. done_verdict tok fits (tree.Null s.at s.at) t))
    start_verdict (suc n) s a_malloc e = malloc_postfix s (of.allocated tok fits n s.at None s) (allocated_verdict tok fits s.at None n s)
    start_verdict (suc n) s a_paren e = parens_verdict n s
    start_verdict (suc n) s no_start e = (
      (
        put tok s.at (kind.Number (pos 0)),
        tree.Number s.at s.at (pos 0),
        passed s,
        (λ i q. put_before tok s.at (kind.Number (pos 0)) i q),
        omega arith,
        by.number (pos 0) (put_here tok s.at (kind.Number (pos 0)), fits_behind fits (bad s.at) s.at s.level (omega arith)),
      ),
      omega arith,
    )

    pub parens_verdict : (n : ℕ) (s : Spot) → Verdict postfix tok fits s (of.parens tok fits n s)
    parens_verdict zero s = tt
    parens_verdict (suc n) s = verdict_peek tok fits postfix s (of.casts tok fits n) (λ c. if c then of.cast tok fits n else of.inside tok fits n) (casts_peek tok fits n s)
        (λ c. verdict_choice c (of.cast tok fits n) (of.inside tok fits n) s (cast_postfix s (of.cast tok fits n s) (cast_verdict tok fits n s)) (inside_verdict n s))

    pub inside_verdict : (n : ℕ) (s : Spot) → Verdict postfix tok fits s (of.inside tok fits n s)
    inside_verdict zero s = tt
    inside_verdict (suc n) s = verdict_map tok fits (seq bracketed (λ a. done (with_first s.at a))) postfix s _ (λ tok' fits' a t d. rw (d.3.0, d.3.1) (by.paren d.2))
        (verdict_bind tok fits bracketed (λ a. done (with_first s.at a)) s (of.bracketed tok fits n) _ (bracketed_verdict n s) (λ a t r. done_verdict tok fits (with_first s.at a) t))

    pub named_verdict : (n f : ℕ) (s : Spot) → Verdict (named f) tok fits s (of.named tok fits n f s)
    named_verdict zero f s = tt
    named_verdict (suc n) f s = verdict_if tok fits (named f) s (is_sign punct.Open (tok s.at)) _ (got (tree.Name f f) s)
        (λ e. verdict_map tok fits (seq arguments (λ l. done (tree.Call f f l))) (named f) s _ (λ tok' fits' a t d. rw (d.3.0, d.3.1) (rest.Named.call d.2))
        (verdict_bind tok fits arguments (λ l. done (tree.Call f f l)) s (of.arguments tok fits n) _ (arguments_verdict n s) (λ l t r. done_verdict tok fits (tree.Call f f l) t)))
        (λ _. rest.Named.name)

    pub bracketed_verdict : (n : ℕ) (s : Spot) → Verdict bracketed tok fits s (of.bracketed tok fits n s)
    bracketed_verdict zero s = tt
    bracketed_verdict (suc n) s = verdict_map tok fits (in_parens (chain 6) (λ s. s.level)) bracketed s _ (λ tok' fits' a t d. bracketed_from tok' fits' s t a d)
        (parens_verdict_of (chain 6) (of.chain tok fits n 6) (λ s. s.level) s (λ t. chain_verdict n 6 t))

    pub arguments_verdict : (n : ℕ) (s : Spot) → Verdict arguments tok fits s (of.arguments tok fits n s)
    arguments_verdict zero s = tt
    arguments_verdict (suc n) s = verdict_map tok fits (in_parens args (λ s. suc s.level)) arguments s _ (λ tok' fits' l t d. arguments_from tok' fits' s t l d)
        (parens_verdict_of args (of.args tok fits n) (λ s. suc s.level) s (λ t. args_verdict n t))

    pub args_verdict : (n : ℕ) (s : Spot) → Verdict args tok fits s (of.args tok fits n s)
    args_verdict zero s = tt
    args_verdict (suc n) s = verdict_if tok fits args s (is_sign punct.Close (tok s.at)) (got [] s) _
        (λ _. by.empty)
        (λ _. verdict_map tok fits (seq (chain 6) (λ a. arguments_rest s.level (a ∷ []))) args s _ (λ tok' fits' l t d. by.some (with_rest tok' fits' (by.first d.2) d.3))
        (verdict_bind tok fits (chain 6) (λ a. arguments_rest s.level (a ∷ [])) s (of.chain tok fits n 6) _ (chain_verdict n 6 s) (λ a t r. args_more_verdict n s.level (a ∷ []) t)))

    pub args_more_verdict : (n k : ℕ) (l : List Expr) (s : Spot) → Verdict (arguments_rest k l) tok fits s (of.args_more tok fits n k l s)
    args_more_verdict zero k l s = tt
    args_more_verdict (suc n) k l s = verdict_if tok fits (arguments_rest k l) s (is_sign punct.Comma (tok s.at)) _ (got l s)
        (λ _. verdict_map tok fits (seq (close_token punct.Comma k) (λ _. seq (chain 6) (λ a. arguments_rest k (l ++ a ∷ [])))) (arguments_rest k l) s _
        (λ tok' fits' m t d. rest.Rest.comma d.2.0 (rw d.2.1 at d.3.2) d.3.3)
        (verdict_then tok fits (close_token punct.Comma k) (λ _. seq (chain 6) (λ a. arguments_rest k (l ++ a ∷ []))) s (of.close tok fits punct.Comma k) _ (close_verdict tok fits punct.Comma k s)
        (λ t d. verdict_bind tok fits (chain 6) (λ a. arguments_rest k (l ++ a ∷ [])) t (of.chain tok fits n 6) _ (chain_verdict n 6 t) (λ a u r. args_more_verdict n k (l ++ a ∷ []) u))))
        (λ _. rest.Rest.stop)
