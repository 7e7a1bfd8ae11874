-- What is parsed reads as a statement.
use Rattle.std.proofs.Common.{◌≡◌, ℕ, zero, suc, Bool, true, false, ℤ, List, [], ◌∷◌, ◌++◌, Option, Some, None, if◌then◌else◌, refl, ap, subst}
use Rattle.cc_model.specs.declared.tokens.Kind.{Kind}
use Rattle.cc_model.specs.declared.tokens.Kind.TheVariants as kind
use Rattle.cc_model.specs.declared.tokens.Punct.{Punct}
use Rattle.cc_model.specs.declared.tokens.Punct.TheVariants as punct
use Rattle.cc_model.specs.declared.tokens.Keyword.TheVariants as keyword
use Rattle.cc_model.specs.declared.trees.Expr.{Expr, out-Expr}
use Rattle.cc_model.specs.declared.trees.Expr.TheVariants as tree
use Rattle.cc_model.specs.declared.trees.Expr.TheViews as views
use Rattle.cc_model.specs.declared.trees.Length.{Length}
use Rattle.cc_model.specs.declared.trees.Declarator.{Declarator}
use Rattle.cc_model.specs.declared.trees.Simple.{Simple}
use Rattle.cc_model.specs.declared.trees.Head.{Head}
use Rattle.cc_model.specs.declared.trees.Stmt.{Stmt}
use Rattle.cc_model.specs.declared.trees.Stmt.TheVariants as a_stmt
use Rattle.cc_model.specs.declared.trees.Part.{Part}
use Rattle.cc_model.specs.Spots.{Spot, opened, passed, back, closed, Next, Is, IsKey, IsName}
use Rattle.cc_model.specs.ReadExpressions as ex
use Rattle.cc_model.specs.ReadExpressions.{Exp, Postfix, FieldOf, field_sign}
use Rattle.cc_model.specs.ReadStatements as by
use Rattle.c_expressions.specs.Descent.{P, ◌>>=◌, ◌>>◌, go_on, leave, out, is_sign, is_key, is_name, prefix_at}
use Rattle.c_statements.specs.DescentStatements.{here, branch, given, number_at, assign_at, behind_at, call_of, args_of, is_left_out, begins_decl, SimpleStart, an_assert, an_assume, an_abort, a_crest_int, a_step, a_unary, step_or, simple_at, StmtStart, an_empty, a_block, an_if, a_while, a_do, a_for, a_return, a_break, a_continue, a_plain, stmt_at}
use Rattle.c_statements.specs.DescentStatements as st
use Rattle.c_statements.proofs.Pieces.{Made, made_bind, made_here, made_branch, made_given, made_pure, made_leave, made_wrong, made_many, then_take, then_name, then_close, then_sign, then_word}
use Rattle.c_expressions.proofs.Made.{made_map}
use Rattle.c_expressions.proofs.Tests.{is_sign_tells, is_key_tells, is_name_tells, prefix_yes}
use Rattle.c_expressions.proofs.ExprLaws.{base_sound, stars_sound, expr_sound, unary_sound, bracketed_sound}

-- ---- what the tests of tokens tell

pub number_tells : (k : Option Kind) (z : ℤ) → number_at k ≡ Some z → k ≡ Some (kind.Number z)
unfolding number_at
number_tells (Some (kind.Number y)) z e = cc
number_tells _ z e = cc

pub assign_tells : (k : Option Kind) (make : by.Assignment) → assign_at k ≡ Some make → (p : Punct) × (k ≡ Some (kind.Punct p)) × (by.assign_sign p ≡ Some make)
unfolding assign_at
assign_tells (Some (kind.Punct p)) make e = (p, refl, e)
assign_tells _ make e = cc

pub behind_tells : (o : Option ex.Prefix) (k : Option Kind) (make : by.Stepping) → behind_at o k ≡ Some make → (p : Punct) × (o ≡ None) × (k ≡ Some (kind.Punct p)) × (by.behind_sign p ≡ Some make)
unfolding behind_at
behind_tells None (Some (kind.Punct p)) make e = (p, refl, refl, e)
behind_tells _ _ make e = cc

pub call_tells : (b : Bool) (a : Expr) (l : List Expr) → call_of b a ≡ Some l → (b ≡ true) × (args_of (out-Expr a) ≡ Some l)
unfolding call_of
call_tells true a l e = (refl, e)
call_tells false a l e = cc

abbrev pub Simply : SimpleStart → Option Kind → Type 0
Simply an_assert k = k ≡ Some (kind.Key keyword.Assert)
Simply an_assume k = k ≡ Some (kind.Key keyword.Assume)
Simply an_abort k = k ≡ Some (kind.Key keyword.Abort)
Simply a_crest_int k = k ≡ Some (kind.Key keyword.CrestInt)
Simply (a_step make) k = (p : Punct) × (k ≡ Some (kind.Punct p)) × (by.before_sign p ≡ Some make)
Simply a_unary k = Unit {0}

step_tells : (p : Punct) (o : Option by.Stepping) → by.before_sign p ≡ o → Simply (step_or o) (Some (kind.Punct p))
unfolding step_or
step_tells p (Some make) e = (p, refl, e)
step_tells p None e = tt

pub simple_tells : (k : Option Kind) → Simply (simple_at k) k
unfolding simple_at
simple_tells (Some (kind.Key keyword.Assert)) = refl
simple_tells (Some (kind.Key keyword.Assume)) = refl
simple_tells (Some (kind.Key keyword.Abort)) = refl
simple_tells (Some (kind.Key keyword.CrestInt)) = refl
simple_tells (Some (kind.Punct p)) = step_tells p (by.before_sign p) refl
simple_tells _ = tt

abbrev pub Stated : StmtStart → Option Kind → Type 0
Stated an_empty k = k ≡ Some (kind.Punct punct.Semicolon)
Stated a_block k = Unit {0}
Stated an_if k = k ≡ Some (kind.Key keyword.If)
Stated a_while k = k ≡ Some (kind.Key keyword.While)
Stated a_do k = k ≡ Some (kind.Key keyword.Do)
Stated a_for k = k ≡ Some (kind.Key keyword.For)
Stated a_return k = k ≡ Some (kind.Key keyword.Return)
Stated a_break k = k ≡ Some (kind.Key keyword.Break)
Stated a_continue k = k ≡ Some (kind.Key keyword.Continue)
Stated a_plain k = Unit {0}

pub stmt_tells : (k : Option Kind) → Stated (stmt_at k) k
unfolding stmt_at
stmt_tells (Some (kind.Punct punct.Semicolon)) = refl
stmt_tells (Some (kind.Key keyword.If)) = refl
stmt_tells (Some (kind.Key keyword.While)) = refl
stmt_tells (Some (kind.Key keyword.Do)) = refl
stmt_tells (Some (kind.Key keyword.For)) = refl
stmt_tells (Some (kind.Key keyword.Return)) = refl
stmt_tells (Some (kind.Key keyword.Break)) = refl
stmt_tells (Some (kind.Key keyword.Continue)) = refl
stmt_tells _ = tt

then_leave : {B : Type 0} (Q : B → Spot → Type 0) (s : Spot) (n : ℕ) (k : P B) → Made Q (k (back s n)) → Made Q ((leave {A = Unit {0}} n tt >> k) s)
unfolding ◌>>◌ ◌>>=◌ go_on leave
then_leave Q s n k h = h

module _ (tok : ℕ → Option Kind) (fits : ℕ → ℕ → Bool) where
  lacking : (p : Punct) (b : Bool) → (if b then false else true) ≡ false → b ≡ true
  lacking p true e = refl
  lacking p false e = cc

  pub lacks_tells : (p : Punct) (s : Spot) → st.lacks tok fits p s ≡ false → tok s.at ≡ Some (kind.Punct p)
  unfolding st.lacks
  lacks_tells p s e = is_sign_tells p (tok s.at) (lacking p (is_sign p (tok s.at)) e)

  pub has_tells : (p : Punct) (s : Spot) → st.has tok fits p s ≡ true → tok s.at ≡ Some (kind.Punct p)
  unfolding st.has
  has_tells p s e = is_sign_tells p (tok s.at) e

  pub then_number : {B : Type 0} (Q : B → Spot → Type 0) (s : Spot) (k : ℤ → P B) → ((z : ℤ) → Next tok fits (kind.Number z) s → Made Q (k z (passed s))) → Made Q ((st.expect_number tok fits >>= k) s)
  unfolding st.expect_number
  then_number Q s k g = made_bind (λ z u. Next tok fits (kind.Number z) s × (u ≡ passed s)) Q s (st.expect_number tok fits) k
      (made_given _ s _ _ _ (λ z e. then_take tok fits _ s passed _ (λ f. made_pure _ (passed s) z ((number_tells (tok s.at) z e, f), refl))) (λ _. made_wrong _ s))
      (λ z u h. rw h.1 (g z h.0))

  -- ---- declarations

  lengthened : (n : ℕ) (s : Spot) → Made (λ l u. by.Lengths tok fits s u l × (st.lacks tok fits punct.OpenSquare u ≡ true)) (st.many tok fits (st.lacks tok fits punct.OpenSquare) (st.length tok fits) n [] s)
  unfolding st.length
  lengthened n s = made_many tok fits (λ l t. by.Lengths tok fits s t l) (st.lacks tok fits punct.OpenSquare) (st.length tok fits)
      (λ m l t d e. then_take tok fits _ t opened _ (λ f. made_here _ (opened t) _ (then_number _ (opened t) _ (λ z h.
      then_sign tok fits _ (passed (opened t)) punct.CloseSquare passed _ (λ c. made_pure _ (passed (passed (opened t))) _ (by.more z d (lacks_tells punct.OpenSquare t e, f) h c)))))) n [] s by.none

  pub declarator_made : (Q : Declarator → Spot → Type 0) (n level k x : ℕ) (s : Spot) →
      ((v : Spot) (l : List Length) → by.Lengths tok fits s v l → Q (record { stars = k; name = x; lengths = l }) (back v level)) → Made Q (st.declarator_from tok fits n level k x s)
  unfolding st.declarator_from
  declarator_made Q n level k x s g = made_bind _ Q s _ _ (lengthened n s) (λ l t h. made_leave Q t level _ (g t l h.0))

  pub declares_sound : (n : ℕ) (s : Spot) → Made (λ d t. by.Declares tok fits s t d) (st.declarator tok fits n s)
  unfolding st.declarator
  declares_sound n s = made_here _ s _ (made_bind _ _ s _ _ (stars_sound tok fits n s) (λ k t h. made_here _ t _ (then_name tok fits _ t _ (λ i.
      declarator_made _ n s.level k t.at (passed t) (λ v l q. by.declares h i q)))))

  pub commas_more_sound : {A : Type 0} (R : Spot → Spot → A → Type 0) (f : ℕ → P A) → ((n : ℕ) (s : Spot) → Made (λ a t. R s t a) (f n s)) →
      (n : ℕ) (l : List A) (s t : Spot) → by.Commas tok fits A R s t l → Made (λ l u. by.Commas tok fits A R s u l) (st.commas_more tok fits f n l t)
  unfolding st.commas_more st.comma_then
  commas_more_sound R f g n l s t d = made_map (λ l u. by.Commas tok fits _ R s u l × (st.lacks tok fits punct.Comma u ≡ true)) _ _ (λ l u h. h.0) (made_many tok fits (λ l t. by.Commas tok fits _ R s t l) (st.lacks tok fits punct.Comma) (st.comma_then tok fits f)
      (λ m l t q e. then_take tok fits _ t passed _ (λ h. made_map (λ a u. R (passed t) u a) _ (f m (passed t)) (λ a u r. by.next q (lacks_tells punct.Comma t e, h) r) (g m (passed t)))) n l t d)

  pub commas_sound : {A : Type 0} (R : Spot → Spot → A → Type 0) (f : ℕ → P A) → ((n : ℕ) (s : Spot) → Made (λ a t. R s t a) (f n s)) →
      (n : ℕ) (s : Spot) → Made (λ l u. by.Commas tok fits A R s u l) (st.commas tok fits f n s)
  unfolding st.commas
  commas_sound R f g n s = made_bind _ _ s (f n) _ (g n s) (λ a t h. commas_more_sound R f g n (a ∷ []) s t (by.first h))

  initialised_sound : (n : ℕ) (s : Spot) → Made (λ d t. by.Initialised tok fits s t d) (st.initialised tok fits n s)
  unfolding st.initialised st.starting
  initialised_sound n s = made_here _ s _ (made_bind _ _ s _ _ (declares_sound n s) (λ d t h. made_branch _ t _ _ _
      (λ e. made_here _ t _ (then_take tok fits _ t passed _ (λ f. made_bind _ _ (passed t) _ _ (expr_sound tok fits n (passed t)) (λ a u x. made_leave _ u s.level _ (by.starts h (has_tells punct.Assign t e, f) x)))))
      (λ _. made_pure _ t _ (by.plain h))))

  pub declaration_sound : (n : ℕ) (s : Spot) → Made (λ d t. by.Declaration tok fits s t d) (st.declaration tok fits n s)
  unfolding st.declaration
  declaration_sound n s = made_bind _ _ s _ _ (base_sound tok fits s) (λ b t h. made_bind _ _ t _ _ (commas_sound (by.Initialised tok fits) (λ m. st.initialised tok fits m) initialised_sound n t)
      (λ l u d. then_sign tok fits _ u punct.Semicolon passed _ (λ i. made_pure _ (passed u) _ (by.declaration h d i))))

  -- ---- simple statements

  pub exp_plain : {s t : Spot} {a : Expr} → Exp tok fits 0 s t a → prefix_at (tok s.at) ≡ None → Postfix tok fits s t a
  exp_plain (ex.prefix p make e i d) n = absurd (cc (prefix_yes p i.0, e, n))
  exp_plain (ex.plain d) n = d

  abbrev Calls : Spot → Spot → List Expr → Type 0
  Calls s t l = IsName tok fits s × ex.Arguments tok fits (passed s) t l

  field_none : (p : Punct) (make : FieldOf) (f x : ℕ) (a : Expr) (n : ℕ) → field_sign p ≡ Some make → args_of (out-Expr (make f x a n)) ≡ None
  unfolding args_of
  field_none punct.Dot make f x a n e = rw (made_dot) (ap args_of (views.outs-Dot f x a n))
    where
      made_dot : make ≡ tree.Dot
      made_dot = cc
  field_none punct.Arrow make f x a n e = rw (made_arrow) (ap args_of (views.outs-Arrow f x a n))
    where
      made_arrow : make ≡ tree.Arrow
      made_arrow = cc
  field_none _ make f x a n e = cc

  post_call : {s t : Spot} {a : Expr} (l : List Expr) → Postfix tok fits s t a → tok s.at ≡ Some kind.Name → args_of (out-Expr a) ≡ Some l → Calls s t l
  unfolding args_of
  post_call l (ex.name {s} i) n e = absurd (cc (ap args_of (views.outs-Name s.at s.at), e))
  post_call l (ex.number z i) n e = absurd (cc (i.0, n))
  post_call l (ex.null i) n e = absurd (cc (i.0, n))
  post_call l (ex.paren (ex.bracketed i d c)) n e = absurd (cc (i.0, n))
  post_call l (ex.call {s} {t} {l = k} i d) n e = let h : k ≡ l = cc (ap args_of (views.outs-Call s.at s.at k), e) in (i, subst (λ l. ex.Arguments tok fits (passed s) t l) h d)
  post_call l (ex.malloc (ex.malloc i o z p d c w)) n e = absurd (cc (i.0, n))
  post_call l (ex.cast i b x d c w) n e = absurd (cc (i.0, n))
  post_call l (ex.field {s} {t} {a} p make d w i m) n e = absurd (cc (field_none p make s.at t.at a (suc t.at) w, e))
  post_call l (ex.index {s} {t} {u} {a} {i = x} d i w c) n e = absurd (cc (ap args_of (views.outs-Index s.at t.at a x), e))

  pub exp_call : {s t : Spot} {a : Expr} (l : List Expr) → Exp tok fits 0 s t a → tok s.at ≡ Some kind.Name → args_of (out-Expr a) ≡ Some l → Calls s t l
  exp_call l (ex.prefix p make w i d) n e = absurd (cc (i.0, n))
  exp_call l (ex.plain d) n e = post_call l d n e

  behind_sound : (n : ℕ) (s t : Spot) (a : Expr) → Exp tok fits 0 s t a → Made (λ x u. by.SimpleStmt tok fits s u x) (st.behind_unary tok fits n s a (back t s.level))
  unfolding st.behind_unary st.assigned st.stepped st.called
  behind_sound n s t a d = made_given _ (back t s.level) _ _ _
      (λ make e. let q = assign_tells (tok t.at) make e in made_here _ (back t s.level) _ (then_take tok fits _ (back t s.level) passed _ (λ f.
      made_bind _ _ (closed t s.level) _ _ (expr_sound tok fits n (closed t s.level)) (λ b u x. made_leave _ u s.level _ (by.assign q.0 make d q.2 (q.1, f) x)))))
      (λ _. made_given _ (back t s.level) _ _ _
      (λ make e. let q = behind_tells (prefix_at (tok s.at)) (tok t.at) make e in made_here _ (back t s.level) _ (then_take tok fits _ (back t s.level) passed _ (λ f.
      made_pure _ (closed t s.level) _ (by.behind q.0 make (exp_plain d q.1) q.3 (q.2, f)))))
      (λ _. made_given _ (back t s.level) _ _ _
      (λ l e. let q = call_tells (is_name (tok s.at)) a l e in let c = exp_call l d (is_name_tells (tok s.at) q.0) q.1 in made_pure _ (back t s.level) _ (by.call c.0 c.1))
      (λ _. made_wrong _ (back t s.level))))

  simple_of_sound : (n : ℕ) (s : Spot) (q : SimpleStart) → Simply q (tok s.at) → Made (λ x u. by.SimpleStmt tok fits s u x) (st.simple_of tok fits n q s)
  unfolding st.simple_of st.unary_stmt
  simple_of_sound n s an_assert e = made_here _ s _ (then_take tok fits _ s passed _ (λ f. made_bind _ _ (passed s) _ _ (bracketed_sound tok fits n (passed s)) (λ a t h. made_pure _ t _ (by.assert (e, f) h))))
  simple_of_sound n s an_assume e = made_here _ s _ (then_take tok fits _ s passed _ (λ f. made_bind _ _ (passed s) _ _ (bracketed_sound tok fits n (passed s)) (λ a t h. made_pure _ t _ (by.assume (e, f) h))))
  simple_of_sound n s an_abort e = made_here _ s _ (then_take tok fits _ s passed _ (λ f. then_sign tok fits _ (passed s) punct.Open passed _ (λ o. then_sign tok fits _ (passed (passed s)) punct.Close passed _ (λ c.
      made_pure _ (passed (passed (passed s))) _ (by.abort (e, f) o c)))))
  simple_of_sound n s a_crest_int e = made_here _ s _ (then_take tok fits _ s passed _ (λ f. then_sign tok fits _ (passed s) punct.Open opened _ (λ o. made_bind _ _ (opened (passed s)) _ _ (unary_sound tok fits n (opened (passed s)))
      (λ a t h. then_close tok fits _ t punct.Close s.level _ (λ c. made_pure _ (closed t s.level) _ (by.crest_int (e, f) o h c))))))
  simple_of_sound n s (a_step make) e = made_here _ s _ (then_take tok fits _ s passed _ (λ f. made_bind _ _ (passed s) _ _ (unary_sound tok fits n (passed s))
      (λ a t h. made_leave _ t s.level _ (by.before e.0 make e.2 (e.1, f) h))))
  simple_of_sound n s a_unary e = made_here _ s _ (made_bind _ _ s _ _ (unary_sound tok fits n s) (λ a t h. then_leave _ t s.level _ (behind_sound n s t a h)))

  pub simple_sound : (n : ℕ) (s : Spot) → Made (λ x u. by.SimpleStmt tok fits s u x) (st.simple_stmt tok fits n s)
  unfolding st.simple_stmt
  simple_sound n s = made_here _ s _ (simple_of_sound n s (simple_at (tok s.at)) (simple_tells (tok s.at)))

  opt_expr_sound : (n : ℕ) (s : Spot) → Made (λ a t. by.OptExpr tok fits s t a) (st.opt_expr tok fits n s)
  unfolding st.opt_expr
  opt_expr_sound n s = made_branch _ s _ _ _ (λ _. made_pure _ s _ by.none) (λ _. made_here _ s _ (made_bind _ _ s _ _ (expr_sound tok fits n s) (λ a t h. made_leave _ t s.level _ (by.some h))))

  opt_simple_sound : (n : ℕ) (s : Spot) → Made (λ a t. by.OptSimple tok fits s t a) (st.opt_simple tok fits n s)
  unfolding st.opt_simple
  opt_simple_sound n s = made_branch _ s _ _ _ (λ _. made_pure _ s _ by.none) (λ _. made_bind _ _ s _ _ (simple_sound n s) (λ a t h. made_pure _ t _ (by.some h)))

  for_head_sound : (n : ℕ) (s : Spot) → Made (λ a t. by.ForHead tok fits s t a) (st.for_head tok fits n s)
  unfolding st.for_head st.head_decl st.head_simple
  for_head_sound n s = made_branch _ s _ _ _ (λ _. made_bind _ _ s _ _ (declaration_sound n s) (λ d t h. made_pure _ t _ (by.decl h)))
      (λ _. made_bind _ _ s _ _ (opt_simple_sound n s) (λ a t h. then_sign tok fits _ t punct.Semicolon passed _ (λ i. made_pure _ (passed t) _ (by.simple h i))))

  -- the parentheses of a `for`
  data Controls (s : Spot) : Spot → Head × Option Expr × Option Simple → Type 0 where
    controls : {t u v : Spot} {h : Head} {c : Option Expr} {p : Option Simple} → Is tok fits punct.Open s → by.ForHead tok fits (opened s) t h → by.OptExpr tok fits t u c →
        Is tok fits punct.Semicolon u → by.OptSimple tok fits (passed u) v p → Is tok fits punct.Close (back v s.level) → Controls s (closed v s.level) (h, c, p)

  for_control_sound : (n : ℕ) (s : Spot) → Made (λ a t. Controls s t a) (st.for_control tok fits n s)
  unfolding st.for_control
  for_control_sound n s = made_here _ s _ (then_sign tok fits _ s punct.Open opened _ (λ o. made_bind _ _ (opened s) _ _ (for_head_sound n (opened s)) (λ h t d. made_bind _ _ t _ _ (opt_expr_sound n t) (λ c u e.
      then_sign tok fits _ u punct.Semicolon passed _ (λ i. made_bind _ _ (passed u) _ _ (opt_simple_sound n (passed u)) (λ p v f. then_close tok fits _ v punct.Close s.level _ (λ k.
      made_pure _ (closed v s.level) _ (controls o d e i f k))))))))

  -- ---- statements

  -- a statement, and behind one that ends in an `if` without `else` stands no `else`
  abbrev pub Ended : Spot → Spot → Stmt → Type 0
  Ended s t a = (b : Bool) × by.Statement tok fits b s t a × (b ≡ true → is_key keyword.Else (tok t.at) ≡ false)

  pub not_short : {t u : Spot} {a : Stmt} (b : Bool) → by.Statement tok fits b t u a → (b ≡ true → is_key keyword.Else (tok u.at) ≡ false) → is_key keyword.Else (tok u.at) ≡ true → by.Statement tok fits false t u a
  not_short true d w e = absurd (cc (w refl, e))
  not_short false d w e = d

  for_made : {s t u : Spot} (x : Head × Option Expr × Option Simple) (a : Stmt) → IsKey tok fits keyword.For s → Controls (opened s) t x → Ended t u a → Ended s (back u s.level) (a_stmt.For s.at x.0 x.1 x.2 a)
  for_made x a i (controls o h c j p k) d = (d.0, by.for i o h c j p k d.1, d.2)

  mutual
    unfolding st.statement st.statement_of st.else_part st.block st.parts st.part st.part_decl out

    pub statement_sound : (n : ℕ) (s : Spot) → Made (λ a t. Ended s t a) (st.statement tok fits n s)
    statement_sound zero s = tt
    statement_sound (suc n) s = made_here _ s _ (of_sound n s (stmt_at (tok s.at)) (stmt_tells (tok s.at)))

    of_sound : (n : ℕ) (s : Spot) (q : StmtStart) → Stated q (tok s.at) → Made (λ a t. Ended s t a) (st.statement_of tok fits n q s)
    of_sound zero s q e = tt
    of_sound (suc n) s an_empty e = then_take tok fits _ s passed _ (λ f. made_pure _ (passed s) _ (false, by.empty (e, f), λ x. cc))
    of_sound (suc n) s a_block e = made_bind _ _ s _ _ (block_sound n s) (λ l t d. made_pure _ t _ (false, by.block d, λ x. cc))
    of_sound (suc n) s an_if e = made_here _ s _ (then_take tok fits _ s opened _ (λ f. made_bind _ _ (opened s) _ _ (bracketed_sound tok fits n (opened s)) (λ x t h.
        made_bind _ _ t _ _ (statement_sound n t) (λ a u d. else_sound n s t u x a (e, f) h d))))
    of_sound (suc n) s a_while e = made_here _ s _ (then_take tok fits _ s opened _ (λ f. made_bind _ _ (opened s) _ _ (bracketed_sound tok fits n (opened s)) (λ x t h.
        made_bind _ _ t _ _ (statement_sound n t) (λ a u d. made_leave _ u s.level _ (d.0, by.while (e, f) h d.1, d.2)))))
    of_sound (suc n) s a_do e = made_here _ s _ (then_take tok fits _ s opened _ (λ f. made_bind _ _ (opened s) _ _ (statement_sound n (opened s)) (λ a t d. then_word tok fits _ t keyword.While _ (λ w.
        made_bind _ _ (passed t) _ _ (bracketed_sound tok fits n (passed t)) (λ x u h. then_sign tok fits _ u punct.Semicolon passed _ (λ c. made_leave _ (passed u) s.level _ (false, by.do_while (e, f) d.1 w h c, λ x. cc)))))))
    of_sound (suc n) s a_for e = made_here _ s _ (then_take tok fits _ s opened _ (λ f. made_bind _ _ (opened s) _ _ (for_control_sound n (opened s)) (λ x t h.
        made_bind _ _ t _ _ (statement_sound n t) (λ a u d. made_leave _ u s.level _ (for_made x a (e, f) h d)))))
    of_sound (suc n) s a_return e = made_here _ s _ (then_take tok fits _ s passed _ (λ f. made_bind _ _ (passed s) _ _ (opt_expr_sound n (passed s)) (λ a t h.
        then_sign tok fits _ t punct.Semicolon passed _ (λ c. made_pure _ (passed t) _ (false, by.return (e, f) h c, λ x. cc)))))
    of_sound (suc n) s a_break e = made_here _ s _ (then_take tok fits _ s passed _ (λ f. then_sign tok fits _ (passed s) punct.Semicolon passed _ (λ c. made_pure _ (passed (passed s)) _ (false, by.break (e, f) c, λ x. cc))))
    of_sound (suc n) s a_continue e = made_here _ s _ (then_take tok fits _ s passed _ (λ f. then_sign tok fits _ (passed s) punct.Semicolon passed _ (λ c. made_pure _ (passed (passed s)) _ (false, by.continue (e, f) c, λ x. cc))))
    of_sound (suc n) s a_plain e = made_bind _ _ s _ _ (simple_sound n s) (λ a t h. then_sign tok fits _ t punct.Semicolon passed _ (λ c. made_pure _ (passed t) _ (false, by.simple h c, λ x. cc)))

    else_sound : (n : ℕ) (s t u : Spot) (e : Expr) (a : Stmt) → IsKey tok fits keyword.If s → ex.Bracketed tok fits (opened s) t e → Ended t u a → Made (λ a t. Ended s t a) (st.else_part tok fits n s e a u)
    else_sound zero s t u e a i h d = tt
    else_sound (suc n) s t u e a i h d = made_branch _ u _ _ _
        (λ x. then_take tok fits _ u opened _ (λ f. made_bind _ _ (opened u) _ _ (statement_sound n (opened u)) (λ c v k.
        made_leave _ v s.level _ (k.0, by.if_else i h (not_short d.0 d.1 d.2 x) (is_key_tells keyword.Else (tok u.at) x, f) k.1, k.2))))
        (λ x. made_leave _ u s.level _ (true, by.if_alone i h d.1, λ _. x))

    pub block_sound : (n : ℕ) (s : Spot) → Made (λ l t. by.Block tok fits s t l) (st.block tok fits n s)
    block_sound zero s = tt
    block_sound (suc n) s = made_here _ s _ (then_sign tok fits _ s punct.OpenBrace opened _ (λ i. made_bind _ _ (opened s) _ _ (parts_sound n [] (opened s) (opened s) by.none) (λ l t d.
        then_close tok fits _ t punct.CloseBrace s.level _ (λ c. made_pure _ (closed t s.level) _ (by.braces i d c)))))

    parts_sound : (n : ℕ) (l : List Part) (s t : Spot) → by.Parts tok fits s t l → Made (λ l u. by.Parts tok fits s u l) (st.parts tok fits n l t)
    parts_sound zero l s t d = tt
    parts_sound (suc n) l s t d = made_branch _ t _ _ _ (λ _. made_pure _ t _ d) (λ _. made_bind (λ a u. by.Parts tok fits s u (l ++ a ∷ [])) _ t _ _ (part_sound n l s t d) (λ a u h. parts_sound n (l ++ a ∷ []) s u h))

    part_sound : (n : ℕ) (l : List Part) (s t : Spot) → by.Parts tok fits s t l → Made (λ a u. by.Parts tok fits s u (l ++ a ∷ [])) (st.part tok fits n t)
    part_sound zero l s t d = tt
    part_sound (suc n) l s t d = made_branch _ t _ _ _ (λ _. made_bind _ _ t _ _ (declaration_sound n t) (λ x u h. made_pure _ u _ (by.decl d h)))
        (λ _. made_bind _ _ t _ _ (statement_sound n t) (λ a u h. made_pure _ u _ (by.stmt d h.1)))
