-- What reads as a statement is parsed so.
use Rattle.std.proofs.Common.{◌≡◌, ℕ, suc, Bool, true, false, ℤ, List, [], ◌∷◌, ◌++◌, Option, Some, None, if◌then◌else◌, refl, ap, ◌∙◌}
use Rattle.cc_model.specs.declared.tokens.Kind.{Kind}
use Rattle.cc_model.specs.declared.tokens.Kind.TheVariants as kind
use Rattle.cc_model.specs.declared.tokens.Punct.{Punct}
use Rattle.cc_model.specs.declared.tokens.Punct.TheVariants as punct
use Rattle.cc_model.specs.declared.tokens.Keyword.TheVariants as keyword
use Rattle.cc_model.specs.declared.trees.Expr.{Expr}
use Rattle.cc_model.specs.declared.trees.Expr.TheVariants as tree
use Rattle.cc_model.specs.declared.trees.Expr.TheViews as views
use Rattle.cc_model.specs.declared.trees.Length.{Length}
use Rattle.cc_model.specs.declared.trees.Declarator.{Declarator}
use Rattle.cc_model.specs.declared.trees.Declared.{Declared}
use Rattle.cc_model.specs.declared.trees.Decl.{Decl}
use Rattle.cc_model.specs.declared.trees.Simple.{Simple}
use Rattle.cc_model.specs.declared.trees.Head.{Head}
use Rattle.cc_model.specs.declared.trees.Stmt.{Stmt}
use Rattle.cc_model.specs.declared.trees.Stmt.TheVariants as a_stmt
use Rattle.cc_model.specs.declared.trees.Part.{Part}
use Rattle.cc_model.specs.declared.trees.Part.TheVariants as a_part
use Rattle.cc_model.specs.Spots.{Spot, opened, passed, back, closed, Next, Is, IsKey}
use Rattle.cc_model.specs.ReadExpressions as ex
use Rattle.cc_model.specs.ReadExpressions.{Exp}
use Rattle.cc_model.specs.ReadStatements as by
use Rattle.c_expressions.specs.Descent.{Got, got, P, ◌>>=◌, ◌>>◌, pure, leave, Ends, is_sign, is_key, is_name, prefix_at}
use Rattle.c_expressions.specs.Descent as of
use Rattle.c_statements.specs.DescentStatements.{here, branch, given, number_at, assign_at, behind_at, call_of, args_of, is_left_out, begins_decl, SimpleStart, an_assert, an_assume, an_abort, a_crest_int, a_step, a_unary, simple_at, StmtStart, an_empty, a_block, an_if, a_while, a_do, a_for, a_return, a_break, a_continue, a_plain, stmt_at}
use Rattle.c_statements.specs.DescentStatements as st
use Rattle.c_statements.proofs.Pieces.{ends_suc, ends_bind, ends_then, ends_base, ends_pure, ends_leave, leave_is, ends_here, ends_yes, ends_no, ends_some, ends_none, sign_yes, key_yes, take_yes, expect_yes, key_taken, name_taken, close_yes, many_stop, many_go}
use Rattle.c_expressions.proofs.ExprLaws.{free, base_complete, stars_complete, expr_complete, unary_complete, bracketed_complete}
use Rattle.c_statements.proofs.Firsts.{ender, ender_free, ender_assign, ender_no_assign, ender_no_step, free_star, free_square, name_free, assign_free, behind_free, behind_no_assign, before_starts, expr_unary, expr_not_semicolon, simple_plain, simple_there, foreign_brace, foreign_else, foreign_decl, decl_brace, decl_else, post_plain, exp_begins, simple_begins, decl_begins, stmt_native}

module _ (tok : ℕ → Option Kind) (fits : ℕ → ℕ → Bool) where
  pub lacks_no : (p : Punct) (s : Spot) → tok s.at ≡ Some (kind.Punct p) → st.lacks tok fits p s ≡ false
  unfolding st.lacks
  lacks_no p s i = ap (λ b. if b then false else true) (ap (is_sign p) i ∙ sign_yes p)

  pub lacks_yes : (p : Punct) (s : Spot) → is_sign p (tok s.at) ≡ false → st.lacks tok fits p s ≡ true
  unfolding st.lacks
  lacks_yes p s i = ap (λ b. if b then false else true) i

  pub has_yes : (p : Punct) (s : Spot) → tok s.at ≡ Some (kind.Punct p) → st.has tok fits p s ≡ true
  unfolding st.has
  has_yes p s i = ap (is_sign p) i ∙ sign_yes p

  pub has_no : (p : Punct) (s : Spot) → is_sign p (tok s.at) ≡ false → st.has tok fits p s ≡ false
  unfolding st.has
  has_no p s i = i

  -- ---- declarations

  pub number_yes : (s : Spot) (z : ℤ) → Next tok fits (kind.Number z) s → Ends (λ _. st.expect_number tok fits) s (got z (passed s))
  unfolding st.expect_number number_at
  number_yes s z i = ends_some _ z _ _ (ap number_at i.0) (ends_then _ _ (take_yes tok fits s passed i.1) (ends_pure z (passed s)))

  length_yes : (s : Spot) (z : ℤ) → Is tok fits punct.OpenSquare s → Next tok fits (kind.Number z) (opened s) → Is tok fits punct.CloseSquare (passed (opened s)) →
      Ends (λ m. st.length tok fits m) s (got (record { token = suc s.at; value = z }) (passed (passed (opened s))))
  unfolding st.length
  length_yes s z i n c = ends_then _ _ (take_yes tok fits s opened i.1) (ends_here _ (ends_bind _ _ (number_yes (opened s) z n)
      (ends_then _ _ (expect_yes tok fits (passed (opened s)) punct.CloseSquare passed c) (ends_pure _ (passed (passed (opened s)))))))

  abbrev Lengthening : List Length → ℕ → P (List Length)
  Lengthening l m = st.many tok fits (st.lacks tok fits punct.OpenSquare) (st.length tok fits) m l

  lengthened : {s t : Spot} {l : List Length} → by.Lengths tok fits s t l → (r : Got (List Length)) → Ends (Lengthening l) t r → Ends (Lengthening []) s r
  lengthened by.none r k = k
  lengthened (by.more {s} {t} {l} z d i n c) r k = lengthened d r
      (many_go tok fits (st.lacks tok fits punct.OpenSquare) (st.length tok fits) l (lacks_no punct.OpenSquare t i.0) (ends_bind _ _ (length_yes t z i n c) k))

  pub lengths_yes : {s t : Spot} {l : List Length} → by.Lengths tok fits s t l → free (tok t.at) ≡ true → (level k x : ℕ) →
      Ends (λ m. st.declarator_from tok fits m level k x) s (got (record { stars = k; name = x; lengths = l }) (back t level))
  unfolding st.declarator_from
  lengths_yes {s} {t} {l} d f level k x = ends_bind _ _
      (lengthened d (got l t) (many_stop tok fits (st.lacks tok fits punct.OpenSquare) (st.length tok fits) l (lacks_yes punct.OpenSquare t (free_square (tok t.at) f))))
      (ends_leave level _ t)

  pub declares_yes : {s t : Spot} {d : Declarator} → by.Declares tok fits s t d → free (tok t.at) ≡ true → Ends (λ m. st.declarator tok fits m) s (got d t)
  unfolding st.declarator
  declares_yes (by.declares {s} {t} {u} {n} {l} d i h) f = ends_here _ (ends_bind _ _ (stars_complete tok fits d (free_star (tok t.at) (name_free (tok t.at) i.0)))
      (ends_here _ (ends_then _ _ (name_taken tok fits t i) (lengths_yes h f s.level n t.at))))

  -- one or more with commas between them, where each is parsed
  pub listed : {A : Type 0} {R : Spot → Spot → A → Type 0} {s t : Spot} {l : List A} (f : ℕ → P A) →
      ((s t : Spot) (a : A) → R s t a → ender (tok t.at) ≡ true → Ends f s (got a t)) →
      (r : Got (List A)) (Z : Type 0) → ((t : Spot) (a : A) → R s t a → ender (tok t.at) ≡ true → Ends (λ m. st.commas_more tok fits f m (a ∷ [])) t r → Z) →
      by.Commas tok fits A R s t l → ender (tok t.at) ≡ true → Ends (λ m. st.commas_more tok fits f m l) t r → Z
  unfolding ender st.commas_more st.comma_then
  listed f g r Z z (by.first {s} {t} {a} d) w k = z t a d w k
  listed f g r Z z (by.next {s} {t} {u} {l} {a} d i e) w k = listed f g r Z z d (ap ender i.0)
      (many_go tok fits (st.lacks tok fits punct.Comma) (st.comma_then tok fits f) l (lacks_no punct.Comma t i.0)
      (ends_bind _ _ (ends_then _ _ (take_yes tok fits t passed i.1) (g (passed t) u a e w)) k))

  -- the list ends where no comma stands
  pub listing_ends : {A : Type 0} (f : ℕ → P A) (l : List A) (s : Spot) → is_sign punct.Comma (tok s.at) ≡ false → Ends (λ m. st.commas_more tok fits f m l) s (got l s)
  unfolding st.commas_more
  listing_ends f l s e = many_stop tok fits (st.lacks tok fits punct.Comma) (st.comma_then tok fits f) l (lacks_yes punct.Comma s e)

  pub commas_yes : {A : Type 0} {R : Spot → Spot → A → Type 0} {s t : Spot} {l : List A} (f : ℕ → P A) →
      ((s t : Spot) (a : A) → R s t a → ender (tok t.at) ≡ true → Ends f s (got a t)) →
      by.Commas tok fits A R s t l → ender (tok t.at) ≡ true → is_sign punct.Comma (tok t.at) ≡ false → Ends (λ m. st.commas tok fits f m) s (got l t)
  unfolding st.commas
  commas_yes {A} {R} {s} {t} {l} f g d w c = listed f g (got l t) (Ends (λ m. st.commas tok fits f m) s (got l t))
      (λ u a h v k. ends_bind f (λ m a. st.commas_more tok fits f m (a ∷ [])) (g s u a h v) k) d w (listing_ends f l t c)

  pub semicolon_ends : (k : Option Kind) → k ≡ Some (kind.Punct punct.Semicolon) → ender k ≡ true
  unfolding ender
  semicolon_ends k e = ap ender e

  pub close_ends : (k : Option Kind) → k ≡ Some (kind.Punct punct.Close) → ender k ≡ true
  unfolding ender
  close_ends k e = ap ender e

  pub semicolon_no_comma : (k : Option Kind) → k ≡ Some (kind.Punct punct.Semicolon) → is_sign punct.Comma k ≡ false
  unfolding is_sign
  semicolon_no_comma k e = ap (is_sign punct.Comma) e

  pub close_no_comma : (k : Option Kind) → k ≡ Some (kind.Punct punct.Close) → is_sign punct.Comma k ≡ false
  unfolding is_sign
  close_no_comma k e = ap (is_sign punct.Comma) e

  assign_is_free : (k : Option Kind) → k ≡ Some (kind.Punct punct.Assign) → free k ≡ true
  unfolding free
  assign_is_free k e = ap free e

  pub assigned_free : (k : Option Kind) → k ≡ Some (kind.Punct punct.Assign) → free k ≡ true
  assigned_free k e = assign_is_free k e

  initialised_yes : (s t : Spot) (d : Declared) → by.Initialised tok fits s t d → ender (tok t.at) ≡ true → Ends (λ m. st.initialised tok fits m) s (got d t)
  unfolding st.initialised st.starting
  initialised_yes s t d (by.plain h) w = ends_here _ (ends_bind _ _ (declares_yes h (ender_free (tok t.at) w))
      (ends_no _ _ _ (has_no punct.Assign t (ender_assign (tok t.at) w)) (ends_pure _ t)))
  initialised_yes _ v d (by.starts {s} {t} {u} h i e) w = ends_here _ (ends_bind _ _ (declares_yes h (assign_is_free (tok t.at) i.0))
      (ends_yes _ _ _ (has_yes punct.Assign t i.0) (ends_here _ (ends_then _ _ (take_yes tok fits t passed i.1)
      (ends_bind _ _ (expr_complete tok fits e (ender_free (tok u.at) w)) (ends_leave s.level _ u))))))

  pub declaration_yes : {s t : Spot} {d : Decl} → by.Declaration tok fits s t d → Ends (λ m. st.declaration tok fits m) s (got d t)
  unfolding st.declaration
  declaration_yes (by.declaration {s} {t} {u} {b} {l} d e i) = ends_base _ _ (base_complete tok fits d)
      (ends_bind _ _ (commas_yes (λ m. st.initialised tok fits m) initialised_yes e (semicolon_ends (tok u.at) i.0) (semicolon_no_comma (tok u.at) i.0))
      (ends_then _ _ (expect_yes tok fits u punct.Semicolon passed i) (ends_pure _ (passed u))))

  -- ---- simple statements

  assign_seen : {make : by.Assignment} (k : Option Kind) (p : Punct) → k ≡ Some (kind.Punct p) → by.assign_sign p ≡ Some make → assign_at k ≡ Some make
  unfolding assign_at
  assign_seen k p i e = ap assign_at i ∙ e

  assign_unseen : (k : Option Kind) (p : Punct) → k ≡ Some (kind.Punct p) → by.assign_sign p ≡ None → assign_at k ≡ None
  unfolding assign_at
  assign_unseen k p i e = ap assign_at i ∙ e

  behind_seen : {make : by.Stepping} (k : Option Kind) (p : Punct) (o : Option ex.Prefix) → o ≡ None → k ≡ Some (kind.Punct p) → by.behind_sign p ≡ Some make → behind_at o k ≡ Some make
  unfolding behind_at
  behind_seen k p o n i e = ap (λ o. behind_at o k) n ∙ (ap (behind_at None) i ∙ e)

  call_seen : (l : List Expr) (x : ℕ) (b : Bool) → b ≡ true → call_of b (tree.Call x x l) ≡ Some l
  unfolding call_of args_of
  call_seen l x b e = ap (λ b. call_of b (tree.Call x x l)) e ∙ ap args_of (views.outs-Call x x l)

  -- a unary expression, then what stands behind it
  unary_then : {s t : Spot} {a : Expr} {r : Got Simple} → Exp tok fits 0 s t a → free (tok t.at) ≡ true →
      Ends (λ m. st.behind_unary tok fits m s a) (back t s.level) r → Ends (λ m. st.simple_stmt tok fits m) s r
  unfolding st.simple_stmt st.simple_of st.unary_stmt
  unary_then {s} {t} {a} {r} d f k = ends_here _ (rw (expr_unary (tok s.at) (exp_begins tok fits d)) (ends_here _ (ends_bind _ _ (unary_complete tok fits d f)
      (ends_then _ _ (leave_is s.level tt t) k))))

  pub simple_yes : {s t : Spot} {a : Simple} → by.SimpleStmt tok fits s t a → ender (tok t.at) ≡ true → Ends (λ m. st.simple_stmt tok fits m) s (got a t)
  unfolding st.behind_unary st.assigned st.stepped st.called st.simple_stmt st.simple_of is_name simple_at
  simple_yes (by.assign {s} {t} {u} {a} {b} p make d e i x) w = unary_then d (ap free i.0 ∙ assign_free p make e)
      (ends_some _ make _ _ (assign_seen (tok t.at) p i.0 e) (ends_here _ (ends_then _ _ (take_yes tok fits (back t s.level) passed i.1)
      (ends_bind _ _ (expr_complete tok fits x (ender_free (tok u.at) w)) (ends_leave s.level _ u)))))
  simple_yes (by.behind {s} {t} {a} p make d e i) w = unary_then (ex.plain d) (ap free i.0 ∙ behind_free p make e)
      (ends_none _ _ _ (assign_unseen (tok t.at) p i.0 (behind_no_assign p make e))
      (ends_some _ make _ _ (behind_seen (tok t.at) p (prefix_at (tok s.at)) (post_plain tok fits d) i.0 e)
      (ends_here _ (ends_then _ _ (take_yes tok fits (back t s.level) passed i.1) (ends_pure _ (closed t s.level))))))
  simple_yes (by.before {s} {t} {a} p make e i d) w = ends_here _ (rw (ap simple_at i.0 ∙ before_starts p make e)
      (ends_here _ (ends_then _ _ (take_yes tok fits s passed i.1) (ends_bind _ _ (unary_complete tok fits d (ender_free (tok t.at) w)) (ends_leave s.level _ t)))))
  simple_yes (by.call {s} {t} {l} i d) w = unary_then (ex.plain (ex.call i d)) (ender_free (tok t.at) w)
      (ends_none _ _ _ (ender_no_assign (tok t.at) w) (ends_none _ _ _ (ender_no_step (prefix_at (tok s.at)) (tok t.at) w)
      (ends_some _ l _ _ (call_seen l s.at (is_name (tok s.at)) (name_seen (tok s.at) i.0)) (ends_pure _ (back t s.level)))))
    where
      name_seen : (k : Option Kind) → k ≡ Some kind.Name → is_name k ≡ true
      name_seen k e = ap is_name e
  simple_yes (by.assert {s} {t} {a} i d) w = ends_here _ (rw (ap simple_at i.0)
      (ends_here _ (ends_then _ _ (take_yes tok fits s passed i.1) (ends_bind _ _ (bracketed_complete tok fits d) (ends_pure _ t)))))
  simple_yes (by.assume {s} {t} {a} i d) w = ends_here _ (rw (ap simple_at i.0)
      (ends_here _ (ends_then _ _ (take_yes tok fits s passed i.1) (ends_bind _ _ (bracketed_complete tok fits d) (ends_pure _ t)))))
  simple_yes (by.abort {s} i o c) w = ends_here _ (rw (ap simple_at i.0)
      (ends_here _ (ends_then _ _ (take_yes tok fits s passed i.1) (ends_then _ _ (expect_yes tok fits (passed s) punct.Open passed o)
      (ends_then _ _ (expect_yes tok fits (passed (passed s)) punct.Close passed c) (ends_pure _ (passed (passed (passed s)))))))))
  simple_yes (by.crest_int {s} {t} {a} i o d c) w = ends_here _ (rw (ap simple_at i.0)
      (ends_here _ (ends_then _ _ (take_yes tok fits s passed i.1) (ends_then _ _ (expect_yes tok fits (passed s) punct.Open opened o)
      (ends_bind _ _ (unary_complete tok fits d (ender_free (tok t.at) (close_ends (tok t.at) c.0))) (ends_then _ _ (close_yes tok fits t punct.Close s.level c) (ends_pure _ (closed t s.level))))))))

  semicolon_left_out : (k : Option Kind) → k ≡ Some (kind.Punct punct.Semicolon) → is_left_out k ≡ true
  unfolding is_left_out
  semicolon_left_out k e = ap is_left_out e

  close_left_out : (k : Option Kind) → k ≡ Some (kind.Punct punct.Close) → is_left_out k ≡ true
  unfolding is_left_out
  close_left_out k e = ap is_left_out e

  opt_expr_yes : {s t : Spot} {a : Option Expr} → by.OptExpr tok fits s t a → Is tok fits punct.Semicolon t → Ends (λ m. st.opt_expr tok fits m) s (got a t)
  unfolding st.opt_expr
  opt_expr_yes (by.none {s}) i = ends_yes _ _ _ (has_yes punct.Semicolon s i.0) (ends_pure None s)
  opt_expr_yes (by.some {s} {t} {a} d) i = ends_no _ _ _ (has_no punct.Semicolon s (expr_not_semicolon (tok s.at) (exp_begins tok fits d)))
      (ends_here _ (ends_bind _ _ (expr_complete tok fits d (ender_free (tok t.at) (semicolon_ends (tok t.at) i.0))) (ends_leave s.level _ t)))

  opt_simple_yes : {s t : Spot} {a : Option Simple} → by.OptSimple tok fits s t a → is_left_out (tok t.at) ≡ true → ender (tok t.at) ≡ true → Ends (λ m. st.opt_simple tok fits m) s (got a t)
  unfolding st.opt_simple
  opt_simple_yes (by.none {s}) i w = ends_yes _ _ _ i (ends_pure None s)
  opt_simple_yes (by.some {s} {t} {a} d) i w = ends_no _ _ _ (simple_there (tok s.at) (simple_begins tok fits d)) (ends_bind _ _ (simple_yes d w) (ends_pure _ t))

  simple_foreign : {s t : Spot} {a : Simple} → by.SimpleStmt tok fits s t a → Is tok fits punct.Semicolon t → begins_decl (tok s.at) (tok (suc s.at)) ≡ false
  simple_foreign {s} d i = foreign_decl (tok s.at) (tok (suc s.at)) (stmt_native tok fits (by.simple d i))

  semicolon_foreign : (k next : Option Kind) → k ≡ Some (kind.Punct punct.Semicolon) → begins_decl k next ≡ false
  unfolding begins_decl
  semicolon_foreign k next e = ap (λ k. begins_decl k next) e

  for_head_yes : {s t : Spot} {h : Head} → by.ForHead tok fits s t h → Ends (λ m. st.for_head tok fits m) s (got h t)
  unfolding st.for_head st.head_decl st.head_simple st.starts_decl
  for_head_yes (by.decl {s} {t} d) = ends_yes _ _ _ (decl_begins tok fits d) (ends_bind _ _ (declaration_yes d) (ends_pure _ t))
  for_head_yes (by.simple {s} {t} by.none i) = ends_no _ _ _ (semicolon_foreign (tok s.at) (tok (suc s.at)) i.0)
      (ends_bind _ _ (opt_simple_yes by.none (semicolon_left_out (tok s.at) i.0) (semicolon_ends (tok s.at) i.0)) (ends_then _ _ (expect_yes tok fits s punct.Semicolon passed i) (ends_pure _ (passed s))))
  for_head_yes (by.simple {s} {t} (by.some d) i) = ends_no _ _ _ (simple_foreign d i)
      (ends_bind _ _ (opt_simple_yes (by.some d) (semicolon_left_out (tok t.at) i.0) (semicolon_ends (tok t.at) i.0)) (ends_then _ _ (expect_yes tok fits t punct.Semicolon passed i) (ends_pure _ (passed t))))

  for_control_yes : {s t u v : Spot} {h : Head} {c : Option Expr} {p : Option Simple} → Is tok fits punct.Open s → by.ForHead tok fits (opened s) t h → by.OptExpr tok fits t u c →
      Is tok fits punct.Semicolon u → by.OptSimple tok fits (passed u) v p → Is tok fits punct.Close (back v s.level) → Ends (λ m. st.for_control tok fits m) s (got (h, c, p) (closed v s.level))
  unfolding st.for_control
  for_control_yes {s} {t} {u} {v} i d e j f k = ends_here _ (ends_then _ _ (expect_yes tok fits s punct.Open opened i) (ends_bind _ _ (for_head_yes d) (ends_bind _ _ (opt_expr_yes e j)
      (ends_then _ _ (expect_yes tok fits u punct.Semicolon passed j) (ends_bind _ _ (opt_simple_yes f (close_left_out (tok v.at) k.0) (close_ends (tok v.at) k.0))
      (ends_then _ _ (close_yes tok fits v punct.Close s.level k) (ends_pure _ (closed v s.level))))))))

  -- ---- statements

  abbrev Of : StmtStart → Spot → Got Stmt → Type 0
  Of q s r = Ends (λ m. st.statement_of tok fits m q) s r

  pub by_start : (s : Spot) {r : Got Stmt} (q : StmtStart) → stmt_at (tok s.at) ≡ q → Of q s r → Ends (λ m. st.statement tok fits m) s r
  unfolding st.statement
  by_start s q e h = ends_suc {s = s} (λ m. st.statement tok fits m) (λ m. here (λ s. st.statement_of tok fits m (stmt_at (tok s.at)))) (λ m. refl) (ends_here _ (rw e h))

  key_else : (k : Option Kind) → k ≡ Some (kind.Key keyword.Else) → is_key keyword.Else k ≡ true
  key_else k e = ap (is_key keyword.Else) e ∙ key_yes keyword.Else

  while_no_else : (k : Option Kind) → k ≡ Some (kind.Key keyword.While) → is_key keyword.Else k ≡ false
  unfolding is_key
  while_no_else k e = ap (is_key keyword.Else) e

  brace_no_else : (k : Option Kind) → k ≡ Some (kind.Punct punct.CloseBrace) → is_key keyword.Else k ≡ false
  unfolding is_key
  brace_no_else k e = ap (is_key keyword.Else) e

  pub else_go : (s : Spot) {r : Got Stmt} (p : Spot) (e : Expr) (a : Stmt) → is_key keyword.Else (tok s.at) ≡ true →
      Ends (λ m. of.take tok fits opened >> (st.statement tok fits m >>= λ c. leave p.level (a_stmt.IfElse p.at e a c))) s r → Ends (λ m. st.else_part tok fits m p e a) s r
  unfolding st.else_part
  else_go s p e a i k = ends_suc {s = s} (λ m. st.else_part tok fits m p e a) (λ m. branch (λ t. is_key keyword.Else (tok t.at))
      (of.take tok fits opened >> (st.statement tok fits m >>= λ c. leave p.level (a_stmt.IfElse p.at e a c))) (leave p.level (a_stmt.If p.at e a))) (λ m. refl)
      (ends_yes _ _ _ i k)

  else_yes : {s : Spot} {r : Got Stmt} (p : Spot) (e : Expr) (a : Stmt) → IsKey tok fits keyword.Else s →
      Ends (λ m. st.statement tok fits m >>= λ c. leave p.level (a_stmt.IfElse p.at e a c)) (opened s) r → Ends (λ m. st.else_part tok fits m p e a) s r
  else_yes {s} p e a i k = else_go s p e a (key_else (tok s.at) i.0) (ends_then _ _ (take_yes tok fits s opened i.1) k)

  pub else_no : (s : Spot) (p : Spot) (e : Expr) (a : Stmt) → is_key keyword.Else (tok s.at) ≡ false → Ends (λ m. st.else_part tok fits m p e a) s (got (a_stmt.If p.at e a) (back s p.level))
  unfolding st.else_part
  else_no s p e a n = ends_suc {s = s} (λ m. st.else_part tok fits m p e a) (λ m. branch (λ t. is_key keyword.Else (tok t.at))
      (of.take tok fits opened >> (st.statement tok fits m >>= λ c. leave p.level (a_stmt.IfElse p.at e a c))) (leave p.level (a_stmt.If p.at e a))) (λ m. refl)
      (ends_no _ _ _ n (ends_leave p.level _ s))

  pub of_if : (s : Spot) {r : Got Stmt} → Ends (λ m. of.take tok fits opened >> (of.bracketed tok fits m >>= λ e. st.statement tok fits m >>= λ a. st.else_part tok fits m s e a)) s r → Of an_if s r
  unfolding st.statement_of
  of_if s h = ends_suc {s = s} (λ m. st.statement_of tok fits m an_if) (λ m. here (λ s. of.take tok fits opened >> (of.bracketed tok fits m >>= λ e. st.statement tok fits m >>= λ a. st.else_part tok fits m s e a))) (λ m. refl) (ends_here _ h)

  pub of_while : (s : Spot) {r : Got Stmt} → Ends (λ m. of.take tok fits opened >> (of.bracketed tok fits m >>= λ e. st.statement tok fits m >>= λ a. leave s.level (a_stmt.While s.at e a))) s r → Of a_while s r
  unfolding st.statement_of
  of_while s h = ends_suc {s = s} (λ m. st.statement_of tok fits m a_while) (λ m. here (λ s. of.take tok fits opened >> (of.bracketed tok fits m >>= λ e. st.statement tok fits m >>= λ a. leave s.level (a_stmt.While s.at e a)))) (λ m. refl) (ends_here _ h)

  pub of_do : (s : Spot) {r : Got Stmt} → Ends (λ m. of.take tok fits opened >> (st.statement tok fits m >>= λ a. of.expect_key tok fits keyword.While >>
      (of.bracketed tok fits m >>= λ e. of.expect tok fits punct.Semicolon passed >> leave s.level (a_stmt.Do s.at a e)))) s r → Of a_do s r
  unfolding st.statement_of
  of_do s h = ends_suc {s = s} (λ m. st.statement_of tok fits m a_do) (λ m. here (λ s. of.take tok fits opened >> (st.statement tok fits m >>= λ a. of.expect_key tok fits keyword.While >>
      (of.bracketed tok fits m >>= λ e. of.expect tok fits punct.Semicolon passed >> leave s.level (a_stmt.Do s.at a e))))) (λ m. refl) (ends_here _ h)

  pub of_for : (s : Spot) {r : Got Stmt} → Ends (λ m. of.take tok fits opened >> (st.for_control tok fits m >>= λ x. st.statement tok fits m >>= λ a. leave s.level (a_stmt.For s.at x.0 x.1 x.2 a))) s r → Of a_for s r
  unfolding st.statement_of
  of_for s h = ends_suc {s = s} (λ m. st.statement_of tok fits m a_for) (λ m. here (λ s. of.take tok fits opened >> (st.for_control tok fits m >>= λ x. st.statement tok fits m >>= λ a. leave s.level (a_stmt.For s.at x.0 x.1 x.2 a)))) (λ m. refl) (ends_here _ h)

  pub of_return : (s : Spot) {r : Got Stmt} → Ends (λ m. of.take tok fits passed >> (st.opt_expr tok fits m >>= λ a. of.expect tok fits punct.Semicolon passed >> pure (a_stmt.Return s.at a))) s r → Of a_return s r
  unfolding st.statement_of
  of_return s h = ends_suc {s = s} (λ m. st.statement_of tok fits m a_return) (λ m. here (λ s. of.take tok fits passed >> (st.opt_expr tok fits m >>= λ a. of.expect tok fits punct.Semicolon passed >> pure (a_stmt.Return s.at a)))) (λ m. refl) (ends_here _ h)

  pub of_break : (s : Spot) {r : Got Stmt} → Ends (λ m. of.take tok fits passed >> of.expect tok fits punct.Semicolon passed >> pure (a_stmt.Break s.at)) s r → Of a_break s r
  unfolding st.statement_of
  of_break s h = ends_suc {s = s} (λ m. st.statement_of tok fits m a_break) (λ m. here (λ s. of.take tok fits passed >> of.expect tok fits punct.Semicolon passed >> pure (a_stmt.Break s.at))) (λ m. refl) (ends_here _ h)

  pub of_continue : (s : Spot) {r : Got Stmt} → Ends (λ m. of.take tok fits passed >> of.expect tok fits punct.Semicolon passed >> pure (a_stmt.Continue s.at)) s r → Of a_continue s r
  unfolding st.statement_of
  of_continue s h = ends_suc {s = s} (λ m. st.statement_of tok fits m a_continue) (λ m. here (λ s. of.take tok fits passed >> of.expect tok fits punct.Semicolon passed >> pure (a_stmt.Continue s.at))) (λ m. refl) (ends_here _ h)

  pub of_empty : (s : Spot) {r : Got Stmt} → Ends (λ m. of.take tok fits passed >> pure a_stmt.Empty) s r → Of an_empty s r
  unfolding st.statement_of
  of_empty s h = ends_suc {s = s} (λ m. st.statement_of tok fits m an_empty) (λ m. of.take tok fits passed >> pure a_stmt.Empty) (λ m. refl) h

  pub of_block : (s : Spot) {r : Got Stmt} → Ends (λ m. st.block tok fits m >>= λ l. pure (a_stmt.Block l)) s r → Of a_block s r
  unfolding st.statement_of
  of_block s h = ends_suc {s = s} (λ m. st.statement_of tok fits m a_block) (λ m. st.block tok fits m >>= λ l. pure (a_stmt.Block l)) (λ m. refl) h

  pub of_plain : (s : Spot) {r : Got Stmt} → Ends (λ m. st.simple_stmt tok fits m >>= λ a. of.expect tok fits punct.Semicolon passed >> pure (a_stmt.Simple a)) s r → Of a_plain s r
  unfolding st.statement_of
  of_plain s h = ends_suc {s = s} (λ m. st.statement_of tok fits m a_plain) (λ m. st.simple_stmt tok fits m >>= λ a. of.expect tok fits punct.Semicolon passed >> pure (a_stmt.Simple a)) (λ m. refl) h

  pub block_go : (s : Spot) {r : Got (List Part)} → Ends (λ m. of.expect tok fits punct.OpenBrace opened >> (st.parts tok fits m [] >>= λ l. of.close tok fits punct.CloseBrace s.level >> pure l)) s r → Ends (λ m. st.block tok fits m) s r
  unfolding st.block
  block_go s h = ends_suc {s = s} (λ m. st.block tok fits m) (λ m. here (λ s. of.expect tok fits punct.OpenBrace opened >> (st.parts tok fits m [] >>= λ l. of.close tok fits punct.CloseBrace s.level >> pure l))) (λ m. refl) (ends_here _ h)

  pub parts_stop : {s : Spot} (l : List Part) → is_sign punct.CloseBrace (tok s.at) ≡ true → Ends (λ m. st.parts tok fits m l) s (got l s)
  unfolding st.parts st.has
  parts_stop {s} l e = ends_suc {s = s} (λ m. st.parts tok fits m l) (λ m. branch (st.has tok fits punct.CloseBrace) (pure l) (st.part tok fits m >>= λ a. st.parts tok fits m (l ++ a ∷ []))) (λ m. refl) (ends_yes _ _ _ e (ends_pure l s))

  pub parts_go : (s : Spot) {r : Got (List Part)} (l : List Part) → is_sign punct.CloseBrace (tok s.at) ≡ false → Ends (λ m. st.part tok fits m >>= λ a. st.parts tok fits m (l ++ a ∷ [])) s r → Ends (λ m. st.parts tok fits m l) s r
  unfolding st.parts st.has
  parts_go s l e h = ends_suc {s = s} (λ m. st.parts tok fits m l) (λ m. branch (st.has tok fits punct.CloseBrace) (pure l) (st.part tok fits m >>= λ a. st.parts tok fits m (l ++ a ∷ []))) (λ m. refl) (ends_no _ _ _ e h)

  pub part_go : (s : Spot) {r : Got Part} → Ends (λ m. branch (st.starts_decl tok fits) (st.part_decl tok fits m) (st.statement tok fits m >>= λ a. pure (a_part.Stmt a))) s r → Ends (λ m. st.part tok fits m) s r
  unfolding st.part
  part_go s h = ends_suc {s = s} (λ m. st.part tok fits m) (λ m. branch (st.starts_decl tok fits) (st.part_decl tok fits m) (st.statement tok fits m >>= λ a. pure (a_part.Stmt a))) (λ m. refl) h

  mutual
    unfolding stmt_at st.starts_decl st.part_decl

    pub statement_yes : {b : Bool} {s t : Spot} {a : Stmt} → by.Statement tok fits b s t a → (b ≡ true → is_key keyword.Else (tok t.at) ≡ false) → Ends (λ m. st.statement tok fits m) s (got a t)
    statement_yes (by.empty {s} i) w = by_start s an_empty (ap stmt_at i.0) (of_empty s (ends_then _ _ (take_yes tok fits s passed i.1) (ends_pure _ (passed s))))
    statement_yes (by.block {s} {t} d) w = by_start s a_block (block_starts d) (of_block s (ends_bind _ _ (block_yes d) (ends_pure _ t)))
    statement_yes (by.if_alone {s} {t} {u} {e} {b} {a} i d h) w = by_start s an_if (ap stmt_at i.0) (of_if s (ends_then _ _ (take_yes tok fits s opened i.1)
        (ends_bind _ _ (bracketed_complete tok fits d) (ends_bind _ _ (statement_yes h (λ _. w refl)) (else_no u s e a (w refl))))))
    statement_yes (by.if_else {s} {t} {u} {v} {e} {b} {a} {c} i d h j k) w = by_start s an_if (ap stmt_at i.0) (of_if s (ends_then _ _ (take_yes tok fits s opened i.1)
        (ends_bind _ _ (bracketed_complete tok fits d) (ends_bind _ _ (statement_yes h (λ e. cc)) (else_yes s e a j (ends_bind _ _ (statement_yes k w) (ends_leave s.level _ v)))))))
    statement_yes (by.while {s} {t} {u} i d h) w = by_start s a_while (ap stmt_at i.0) (of_while s (ends_then _ _ (take_yes tok fits s opened i.1)
        (ends_bind _ _ (bracketed_complete tok fits d) (ends_bind _ _ (statement_yes h w) (ends_leave s.level _ u)))))
    statement_yes (by.do_while {s} {t} {u} i h j d k) w = by_start s a_do (ap stmt_at i.0) (of_do s (ends_then _ _ (take_yes tok fits s opened i.1)
        (ends_bind _ _ (statement_yes h (λ _. while_no_else (tok t.at) j.0)) (ends_then _ _ (key_taken tok fits t keyword.While j)
        (ends_bind _ _ (bracketed_complete tok fits d) (ends_then _ _ (expect_yes tok fits u punct.Semicolon passed k) (ends_leave s.level _ (passed u))))))))
    statement_yes (by.for {s} {t} {u} {v} {w = x} i o h c j p k d) w = by_start s a_for (ap stmt_at i.0) (of_for s (ends_then _ _ (take_yes tok fits s opened i.1)
        (ends_bind _ _ (for_control_yes o h c j p k) (ends_bind _ _ (statement_yes d w) (ends_leave s.level _ x)))))
    statement_yes (by.return {s} {t} i d j) w = by_start s a_return (ap stmt_at i.0) (of_return s (ends_then _ _ (take_yes tok fits s passed i.1)
        (ends_bind _ _ (opt_expr_yes d j) (ends_then _ _ (expect_yes tok fits t punct.Semicolon passed j) (ends_pure _ (passed t))))))
    statement_yes (by.break {s} i j) w = by_start s a_break (ap stmt_at i.0) (of_break s (ends_then _ _ (take_yes tok fits s passed i.1)
        (ends_then _ _ (expect_yes tok fits (passed s) punct.Semicolon passed j) (ends_pure _ (passed (passed s))))))
    statement_yes (by.continue {s} i j) w = by_start s a_continue (ap stmt_at i.0) (of_continue s (ends_then _ _ (take_yes tok fits s passed i.1)
        (ends_then _ _ (expect_yes tok fits (passed s) punct.Semicolon passed j) (ends_pure _ (passed (passed s))))))
    statement_yes (by.simple {s} {t} d j) w = by_start s a_plain (simple_plain (tok s.at) (simple_begins tok fits d)) (of_plain s
        (ends_bind _ _ (simple_yes d (semicolon_ends (tok t.at) j.0)) (ends_then _ _ (expect_yes tok fits t punct.Semicolon passed j) (ends_pure _ (passed t)))))

    block_starts : {s t : Spot} {l : List Part} → by.Block tok fits s t l → stmt_at (tok s.at) ≡ a_block
    block_starts (by.braces i d c) = ap stmt_at i.0

    pub block_yes : {s t : Spot} {l : List Part} → by.Block tok fits s t l → Ends (λ m. st.block tok fits m) s (got l t)
    block_yes (by.braces {s} {t} {l} i d c) = block_go s (ends_then _ _ (expect_yes tok fits s punct.OpenBrace opened i)
        (ends_bind _ _ (parts_yes d (got l t) (brace_no_else (tok t.at) c.0) (parts_stop l (ap (is_sign punct.CloseBrace) c.0 ∙ sign_yes punct.CloseBrace)))
        (ends_then _ _ (close_yes tok fits t punct.CloseBrace s.level c) (ends_pure l (closed t s.level)))))

    parts_yes : {s t : Spot} {l : List Part} → by.Parts tok fits s t l → (r : Got (List Part)) → is_key keyword.Else (tok t.at) ≡ false →
        Ends (λ m. st.parts tok fits m l) t r → Ends (λ m. st.parts tok fits m []) s r
    parts_yes by.none r w k = k
    parts_yes (by.decl {s} {t} {u} {l} {d} h e) r w k = parts_yes h r (decl_else (tok t.at) (tok (suc t.at)) (decl_begins tok fits e))
        (parts_go t l (decl_brace (tok t.at) (tok (suc t.at)) (decl_begins tok fits e))
        (ends_bind _ _ (part_go t (ends_yes _ _ _ (decl_begins tok fits e) (ends_bind _ _ (declaration_yes e) (ends_pure _ u)))) k))
    parts_yes (by.stmt {s} {t} {u} {l} {b} {a} h e) r w k = parts_yes h r (foreign_else (tok t.at) (tok (suc t.at)) (stmt_native tok fits e))
        (parts_go t l (foreign_brace (tok t.at) (tok (suc t.at)) (stmt_native tok fits e))
        (ends_bind _ _ (part_go t (ends_no _ _ _ (foreign_decl (tok t.at) (tok (suc t.at)) (stmt_native tok fits e)) (ends_bind _ _ (statement_yes e (λ _. w)) (ends_pure _ u)))) k))
