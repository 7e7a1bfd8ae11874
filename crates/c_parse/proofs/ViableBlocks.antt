-- Where a statement or a block meets a fault, the tokens before it begin one.
use Rattle.std.proofs.Common.{◌≡◌, ℕ, Option, Some, None, refl}
use Rattle.cc_model.specs.declared.tokens.Kind.TheVariants as kind
use Rattle.cc_model.specs.declared.tokens.Punct.{Punct}
use Rattle.cc_model.specs.declared.tokens.Punct.TheVariants as punct
use Rattle.cc_model.specs.declared.tokens.Keyword.TheVariants as keyword
use Rattle.cc_model.specs.declared.trees.Expr.{Expr}
use Rattle.cc_model.specs.declared.trees.Simple.{Simple}
use Rattle.cc_model.specs.declared.trees.Simple.TheVariants as a_simple
use Rattle.cc_model.specs.declared.trees.Head.{Head}
use Rattle.cc_model.specs.declared.trees.Head.TheVariants as a_head
use Rattle.cc_model.specs.Spots.{Spot, opened, passed, back, closed}
use Rattle.cc_model.specs.ReadExpressions as ex
use Rattle.cc_model.specs.ReadStatements as by
use Rattle.c_expressions.specs.Descent.{Fault, bad, Got, got, failed, spent, P, go_on, ◌>>=◌, ◌>>◌, pure, leave, wrong, out, is_key, is_name, prefix_at, on_some}
use Rattle.c_expressions.specs.Descent as of
use Rattle.c_statements.specs.DescentStatements.{branch, given, assign_at, behind_at, call_of, is_left_out, SimpleStart, an_assert, an_assume, an_abort, a_crest_int, a_step, a_unary, simple_at, StmtStart, an_empty, a_block, an_if, a_while, a_do, a_for, a_return, a_break, a_continue, a_plain, stmt_at}
use Rattle.c_statements.specs.DescentStatements as st
use Rattle.c_expressions.proofs.Tests.{is_name_tells}
use Rattle.c_statements.proofs.StmtSound.{assign_tells, behind_tells, call_tells, Simply, simple_tells, exp_plain, exp_call}
use Rattle.c_expressions.proofs.Viable.{Tokens, Fits, Piece, Verdict, seq, done, left, here, rule, verdict_rest, verdict_bind, verdict_map, verdict_if, verdict_some, done_verdict, left_verdict}
use Rattle.c_expressions.proofs.ViableExpressions.{chain, postfix, bracketed, chain_verdict, unary_verdict, bracketed_verdict}
use Rattle.c_parse.proofs.FirmStatements.{Controls, controls, simple_firm, opt_expr_firm, opt_simple_firm, for_head_firm, controls_firm}
use Rattle.c_parse.proofs.Afters.{after, opens, passes, shuts, made, take_passes, sign_opens, sign_passes, close_shuts, take_shuts, missing_shuts, verdict_here, verdict_due, verdict_made}
use Rattle.c_parse.proofs.ViableStatements.{declaration, declaration_verdict}

-- ---- simple statements

unfoldable pub abort_parts : Spot → Piece Simple
abort_parts s = passes (kind.Key keyword.Abort) (passes (kind.Punct punct.Open) (passes (kind.Punct punct.Close) (done (a_simple.Abort s.at))))

pub abort_from : (tok : Tokens) (fits : Fits) (s t : Spot) (a : Simple) → (abort_parts s).rel tok fits s a t → by.SimpleStmt tok fits s t a
unfolding abort_parts passes after done
abort_from tok fits s t a d = rw (d.1.1.1.0, d.1.1.1.1) (by.abort d.0 d.1.0 d.1.1.0)

-- `abort()` in a completion
unfoldable pub simple : Piece Simple
simple = made by.SimpleStmt (λ tok fits s t a h. simple_firm h) abort_parts abort_from

unfoldable assert_parts : Spot → Piece Simple
assert_parts s = passes (kind.Key keyword.Assert) (seq bracketed (λ a. done (a_simple.Assert s.at a)))

assert_from : (tok : Tokens) (fits : Fits) (s t : Spot) (a : Simple) → (assert_parts s).rel tok fits s a t → simple.rel tok fits s a t
unfolding assert_parts simple made passes after seq bracketed rule done
assert_from tok fits s t a d = rw (d.1.3.0, d.1.3.1) (by.assert d.0 d.1.2)

unfoldable assume_parts : Spot → Piece Simple
assume_parts s = passes (kind.Key keyword.Assume) (seq bracketed (λ a. done (a_simple.Assume s.at a)))

assume_from : (tok : Tokens) (fits : Fits) (s t : Spot) (a : Simple) → (assume_parts s).rel tok fits s a t → simple.rel tok fits s a t
unfolding assume_parts simple made passes after seq bracketed rule done
assume_from tok fits s t a d = rw (d.1.3.0, d.1.3.1) (by.assume d.0 d.1.2)

unfoldable crest_parts : Spot → Piece Simple
crest_parts s = passes (kind.Key keyword.CrestInt) (opens (kind.Punct punct.Open) (seq (chain 0) (λ a. shuts punct.Close s.level (done (a_simple.CrestInt s.at a)))))

crest_from : (tok : Tokens) (fits : Fits) (s t : Spot) (a : Simple) → (crest_parts s).rel tok fits s a t → simple.rel tok fits s a t
unfolding crest_parts simple made passes opens shuts after seq chain done
crest_from tok fits s t a d = rw (d.1.1.3.1.0, d.1.1.3.1.1) (by.crest_int d.0 d.1.0 d.1.1.2 d.1.1.3.0)

unfoldable step_parts : Punct → by.Stepping → Spot → Piece Simple
step_parts p make s = passes (kind.Punct p) (seq (chain 0) (λ a. left s.level (make s.at a)))

step_from : (p : Punct) (make : by.Stepping) → by.before_sign p ≡ Some make → (tok : Tokens) (fits : Fits) (s t : Spot) (a : Simple) → (step_parts p make s).rel tok fits s a t → simple.rel tok fits s a t
unfolding step_parts simple made passes after seq chain left
step_from p make e tok fits s t a d = rw (d.1.3.0, d.1.3.1) (by.before p make e d.0 d.1.2)

-- behind the left side a of an assignment
unfoldable assign_rest : ℕ → Punct → by.Assignment → Expr → Piece Simple
assign_rest n p make a = here (λ t. shuts p n (seq (chain 6) (λ b. left n (make t.at a b))))

unfoldable assign_parts : Punct → by.Assignment → Spot → Piece Simple
assign_parts p make s = seq (chain 0) (assign_rest s.level p make)

assign_from : (p : Punct) (make : by.Assignment) → by.assign_sign p ≡ Some make → (tok : Tokens) (fits : Fits) (s t : Spot) (a : Simple) → (assign_parts p make s).rel tok fits s a t → simple.rel tok fits s a t
unfolding assign_parts assign_rest simple made here shuts after seq chain left
assign_from p make e tok fits s t a d = rw (d.3.1.3.0, d.3.1.3.1) (by.assign p make d.2 e d.3.0 d.3.1.2)

unfoldable behind_rest : ℕ → Punct → by.Stepping → Expr → Piece Simple
behind_rest n p make a = here (λ t. shuts p n (done (make t.at a)))

unfoldable behind_parts : Punct → by.Stepping → Spot → Piece Simple
behind_parts p make s = seq postfix (behind_rest s.level p make)

behind_from : (p : Punct) (make : by.Stepping) → by.behind_sign p ≡ Some make → (tok : Tokens) (fits : Fits) (s t : Spot) (a : Simple) → (behind_parts p make s).rel tok fits s a t → simple.rel tok fits s a t
unfolding behind_parts behind_rest simple made here shuts after seq postfix done
behind_from p make e tok fits s t a d = rw (d.3.1.0, d.3.1.1) (by.behind p make d.2 e d.3.0)

chain_of : (tok : Tokens) (fits : Fits) (l : ℕ) (s t : Spot) (a : Expr) → ex.Exp tok fits l s t a → (chain l).rel tok fits s a t
unfolding chain
chain_of tok fits l s t a d = d

of_chain : (tok : Tokens) (fits : Fits) (l : ℕ) (s t : Spot) (a : Expr) → (chain l).rel tok fits s a t → ex.Exp tok fits l s t a
unfolding chain
of_chain tok fits l s t a d = d

postfix_of : (tok : Tokens) (fits : Fits) (s t : Spot) (a : Expr) → ex.Postfix tok fits s t a → postfix.rel tok fits s a t
unfolding postfix
postfix_of tok fits s t a d = d

simple_rel : (tok : Tokens) (fits : Fits) (s t : Spot) (a : Simple) → by.SimpleStmt tok fits s t a → simple.rel tok fits s a t
unfolding simple made
simple_rel tok fits s t a d = d

module _ (tok : Tokens) (fits : Fits) where
  by_assign : (s t : Spot) (a : Expr) (p : Punct) (make : by.Assignment) (q : Got Simple) → ex.Exp tok fits 0 s t a → by.assign_sign p ≡ Some make →
      Verdict (assign_rest s.level p make a) tok fits t q → Verdict simple tok fits s q
  unfolding assign_parts
  by_assign s t a p make q d e v = verdict_map tok fits (assign_parts p make s) simple s q (λ tok' fits' x u r. assign_from p make e tok' fits' s u x r)
      (verdict_rest tok fits (chain 0) (assign_rest s.level p make) s t a q (chain_of tok fits 0 s t a d) v)

  by_behind : (s t : Spot) (a : Expr) (p : Punct) (make : by.Stepping) (q : Got Simple) → ex.Postfix tok fits s t a → by.behind_sign p ≡ Some make →
      Verdict (behind_rest s.level p make a) tok fits t q → Verdict simple tok fits s q
  unfolding behind_parts
  by_behind s t a p make q d e v = verdict_map tok fits (behind_parts p make s) simple s q (λ tok' fits' x u r. behind_from p make e tok' fits' s u x r)
      (verdict_rest tok fits postfix (behind_rest s.level p make) s t a q (postfix_of tok fits s t a d) v)

  missing_assign : (n : ℕ) (a : Expr) (t : Spot) → Verdict (assign_rest n punct.Assign a_simple.Assign a) tok fits t (failed (bad t.at))
  unfolding assign_rest
  missing_assign n a t = verdict_here tok fits (λ t. shuts punct.Assign n (seq (chain 6) (λ b. left n (a_simple.Assign t.at a b)))) t (failed (bad t.at))
      (missing_shuts tok fits punct.Assign n (seq (chain 6) (λ b. left n (a_simple.Assign t.at a b))) t)

  -- behind a unary expression, which begins at s; `= 0` in a completion
  behind_verdict : (n : ℕ) (s t : Spot) (a : Expr) → ex.Exp tok fits 0 s t a → Verdict simple tok fits s (st.behind_unary tok fits n s a (back t s.level))
  unfolding st.behind_unary st.assigned st.stepped st.called st.here given wrong pure assign_rest behind_rest
  behind_verdict n s t a d = verdict_some tok fits simple s (assign_at (tok t.at)) _ _
      (λ make e. let q = assign_tells (tok t.at) make e in by_assign s t a q.0 make _ d q.2 (verdict_here tok fits _ t _
      (take_shuts tok fits q.0 s.level _ t _ q.1 (verdict_bind tok fits (chain 6) _ (closed t s.level) (of.chain tok fits n 6) _ (chain_verdict tok fits n 6 (closed t s.level)) (λ b u r. left_verdict tok fits s.level _ u)))))
      (λ _. verdict_some tok fits simple s (behind_at (prefix_at (tok s.at)) (tok t.at)) _ _
      (λ make e. let q = behind_tells (prefix_at (tok s.at)) (tok t.at) make e in by_behind s t a q.0 make _ (exp_plain tok fits d q.1) q.3 (verdict_here tok fits _ t _
      (take_shuts tok fits q.0 s.level _ t _ q.2 (done_verdict tok fits _ (closed t s.level)))))
      (λ _. verdict_some tok fits simple s (call_of (is_name (tok s.at)) a) _ _
      (λ l e. let q = call_tells (is_name (tok s.at)) a l e in let c = exp_call tok fits l d (is_name_tells (tok s.at) q.0) q.1 in simple_rel tok fits s (back t s.level) (a_simple.Call s.at l) (by.call c.0 c.1))
      (λ _. by_assign s t a punct.Assign a_simple.Assign (failed (bad t.at)) d refl (missing_assign s.level a t))))

  unary_on : (n : ℕ) (s : Spot) (q : Got Expr) → Verdict (chain 0) tok fits s q → Verdict simple tok fits s (go_on q (λ a. leave {A = Unit {0}} s.level tt >> st.behind_unary tok fits n s a))
  unfolding go_on leave ◌>>◌ ◌>>=◌ assign_parts
  unary_on n s (got a t) d = behind_verdict n s t a (of_chain tok fits 0 s t a d)
  unary_on n s (failed f) h = verdict_map tok fits (assign_parts punct.Assign a_simple.Assign s) simple s (failed f) (λ tok' fits' x u r. assign_from punct.Assign a_simple.Assign refl tok' fits' s u x r)
      (verdict_due tok fits (chain 0) (assign_rest s.level punct.Assign a_simple.Assign) s f h)
  unary_on n s spent h = tt

  unary_stmt_verdict : (n : ℕ) (s : Spot) → Verdict simple tok fits s (st.unary_stmt tok fits n s)
  unfolding st.unary_stmt st.here ◌>>=◌
  unary_stmt_verdict n s = unary_on n s (of.unary tok fits n s) (unary_verdict tok fits n s)

  simple_of_verdict : (n : ℕ) (s : Spot) (q : SimpleStart) → Simply q (tok s.at) → Verdict simple tok fits s (st.simple_of tok fits n q s)
  unfolding st.simple_of st.here assert_parts assume_parts abort_parts crest_parts step_parts
  simple_of_verdict n s an_assert e = verdict_map tok fits (assert_parts s) simple s _ (λ tok' fits' a t d. assert_from tok' fits' s t a d)
      (take_passes tok fits (kind.Key keyword.Assert) _ s _ e (verdict_bind tok fits bracketed _ (passed s) (of.bracketed tok fits n) _ (bracketed_verdict tok fits n (passed s)) (λ a t r. done_verdict tok fits _ t)))
  simple_of_verdict n s an_assume e = verdict_map tok fits (assume_parts s) simple s _ (λ tok' fits' a t d. assume_from tok' fits' s t a d)
      (take_passes tok fits (kind.Key keyword.Assume) _ s _ e (verdict_bind tok fits bracketed _ (passed s) (of.bracketed tok fits n) _ (bracketed_verdict tok fits n (passed s)) (λ a t r. done_verdict tok fits _ t)))
  simple_of_verdict n s an_abort e = verdict_map tok fits (abort_parts s) simple s _ (λ tok' fits' a t d. simple_rel tok' fits' s t a (abort_from tok' fits' s t a d))
      (take_passes tok fits (kind.Key keyword.Abort) _ s _ e (sign_passes tok fits punct.Open _ (passed s) _ (sign_passes tok fits punct.Close _ (passed (passed s)) _ (done_verdict tok fits _ (passed (passed (passed s)))))))
  simple_of_verdict n s a_crest_int e = verdict_map tok fits (crest_parts s) simple s _ (λ tok' fits' a t d. crest_from tok' fits' s t a d)
      (take_passes tok fits (kind.Key keyword.CrestInt) _ s _ e (sign_opens tok fits punct.Open _ (passed s) _ (verdict_bind tok fits (chain 0) _ (opened (passed s)) (of.unary tok fits n) _ (unary_verdict tok fits n (opened (passed s)))
      (λ a t r. close_shuts tok fits punct.Close s.level _ t _ (done_verdict tok fits _ (closed t s.level))))))
  simple_of_verdict n s (a_step make) e = verdict_map tok fits (step_parts e.0 make s) simple s _ (λ tok' fits' a t d. step_from e.0 make e.2 tok' fits' s t a d)
      (take_passes tok fits (kind.Punct e.0) _ s _ e.1 (verdict_bind tok fits (chain 0) _ (passed s) (of.unary tok fits n) _ (unary_verdict tok fits n (passed s)) (λ a t r. left_verdict tok fits s.level _ t)))
  simple_of_verdict n s a_unary e = unary_stmt_verdict n s

  pub simple_verdict : (n : ℕ) (s : Spot) → Verdict simple tok fits s (st.simple_stmt tok fits n s)
  unfolding st.simple_stmt st.here
  simple_verdict n s = simple_of_verdict n s (simple_at (tok s.at)) (simple_tells (tok s.at))

-- ---- what may be left out

unfoldable pub opt_expr : Piece (Option Expr)
unfolding done
opt_expr = made by.OptExpr (λ tok fits s t a h. opt_expr_firm h) (λ _. done None) (λ tok fits s t a d. rw (d.0, d.1) by.none)

unfoldable some_expr : Spot → Piece (Option Expr)
some_expr s = seq (chain 6) (λ a. left s.level (Some a))

some_expr_from : (tok : Tokens) (fits : Fits) (s t : Spot) (a : Option Expr) → (some_expr s).rel tok fits s a t → opt_expr.rel tok fits s a t
unfolding some_expr opt_expr made seq chain left
some_expr_from tok fits s t a d = rw (d.3.0, d.3.1) (by.some d.2)

no_expr : (tok : Tokens) (fits : Fits) (s : Spot) → opt_expr.rel tok fits s None s
unfolding opt_expr made
no_expr tok fits s = by.none

unfoldable pub opt_simple : Piece (Option Simple)
unfolding done
opt_simple = made by.OptSimple (λ tok fits s t a h. opt_simple_firm h) (λ _. done None) (λ tok fits s t a d. rw (d.0, d.1) by.none)

unfoldable some_simple : Piece (Option Simple)
some_simple = seq simple (λ a. done (Some a))

some_simple_from : (tok : Tokens) (fits : Fits) (s t : Spot) (a : Option Simple) → some_simple.rel tok fits s a t → opt_simple.rel tok fits s a t
unfolding some_simple opt_simple simple made seq done
some_simple_from tok fits s t a d = rw (d.3.0, d.3.1) (by.some d.2)

no_simple : (tok : Tokens) (fits : Fits) (s : Spot) → opt_simple.rel tok fits s None s
unfolding opt_simple made
no_simple tok fits s = by.none

-- ---- the parentheses of a `for`

unfoldable pub head_parts : Piece Head
head_parts = seq opt_simple (λ a. passes (kind.Punct punct.Semicolon) (done (a_head.Simple a)))

pub head_from : (tok : Tokens) (fits : Fits) (s t : Spot) (a : Head) → head_parts.rel tok fits s a t → by.ForHead tok fits s t a
unfolding head_parts opt_simple made seq passes after done
head_from tok fits s t a d = rw (d.3.1.0, d.3.1.1) (by.simple d.2 d.3.0)

unfoldable pub for_head : Piece Head
for_head = made by.ForHead (λ tok fits s t a h. for_head_firm h) (λ _. head_parts) head_from

unfoldable head_decl : Piece Head
head_decl = seq declaration (λ d. done (a_head.Decl d))

head_decl_from : (tok : Tokens) (fits : Fits) (s t : Spot) (a : Head) → head_decl.rel tok fits s a t → for_head.rel tok fits s a t
unfolding head_decl for_head declaration made seq done
head_decl_from tok fits s t a d = rw (d.3.0, d.3.1) (by.decl d.2)

unfoldable pub controls_parts : Spot → Piece (Head × Option Expr × Option Simple)
controls_parts s = opens (kind.Punct punct.Open) (seq for_head (λ h. seq opt_expr (λ c. passes (kind.Punct punct.Semicolon) (seq opt_simple (λ p. shuts punct.Close s.level (done (h, c, p)))))))

pub controls_from : (tok : Tokens) (fits : Fits) (s t : Spot) (a : Head × Option Expr × Option Simple) → (controls_parts s).rel tok fits s a t → Controls tok fits s t a
unfolding controls_parts for_head opt_expr opt_simple made seq opens passes shuts after done
controls_from tok fits s t a d = rw (d.1.3.3.1.3.1.0, d.1.3.3.1.3.1.1) (controls d.0 d.1.2 d.1.3.2 d.1.3.3.0 d.1.3.3.1.2 d.1.3.3.1.3.0)

unfoldable pub control : Piece (Head × Option Expr × Option Simple)
control = made Controls (λ tok fits s t a h. controls_firm s t a h) controls_parts controls_from

module _ (tok : Tokens) (fits : Fits) where
  pub opt_expr_verdict : (n : ℕ) (s : Spot) → Verdict opt_expr tok fits s (st.opt_expr tok fits n s)
  unfolding st.opt_expr st.here branch pure some_expr
  opt_expr_verdict n s = verdict_if tok fits opt_expr s (st.has tok fits punct.Semicolon s) _ _ (λ _. no_expr tok fits s)
      (λ _. verdict_map tok fits (some_expr s) opt_expr s _ (λ tok' fits' a t d. some_expr_from tok' fits' s t a d)
      (verdict_bind tok fits (chain 6) _ s (of.chain tok fits n 6) _ (chain_verdict tok fits n 6 s) (λ a t r. left_verdict tok fits s.level _ t)))

  pub opt_simple_verdict : (n : ℕ) (s : Spot) → Verdict opt_simple tok fits s (st.opt_simple tok fits n s)
  unfolding st.opt_simple branch pure some_simple
  opt_simple_verdict n s = verdict_if tok fits opt_simple s (is_left_out (tok s.at)) _ _ (λ _. no_simple tok fits s)
      (λ _. verdict_map tok fits some_simple opt_simple s _ (λ tok' fits' a t d. some_simple_from tok' fits' s t a d)
      (verdict_bind tok fits simple _ s (st.simple_stmt tok fits n) _ (simple_verdict tok fits n s) (λ a t r. done_verdict tok fits _ t)))

  pub for_head_verdict : (n : ℕ) (s : Spot) → Verdict for_head tok fits s (st.for_head tok fits n s)
  unfolding st.for_head st.head_decl st.head_simple branch head_decl head_parts for_head
  for_head_verdict n s = verdict_if tok fits for_head s (st.starts_decl tok fits s) _ _
      (λ _. verdict_map tok fits head_decl for_head s _ (λ tok' fits' a t d. head_decl_from tok' fits' s t a d)
      (verdict_bind tok fits declaration _ s (st.declaration tok fits n) _ (declaration_verdict tok fits n s) (λ a t r. done_verdict tok fits _ t)))
      (λ _. verdict_made tok fits by.ForHead _ (λ _. head_parts) head_from s _
      (verdict_bind tok fits opt_simple _ s (st.opt_simple tok fits n) _ (opt_simple_verdict n s) (λ a t r. sign_passes tok fits punct.Semicolon _ t _ (done_verdict tok fits _ (passed t)))))

  pub control_verdict : (n : ℕ) (s : Spot) → Verdict control tok fits s (st.for_control tok fits n s)
  unfolding st.for_control st.here control controls_parts
  control_verdict n s = verdict_made tok fits Controls _ controls_parts controls_from s _
      (sign_opens tok fits punct.Open _ s _ (verdict_bind tok fits for_head _ (opened s) (st.for_head tok fits n) _ (for_head_verdict n (opened s))
      (λ h t r. verdict_bind tok fits opt_expr _ t (st.opt_expr tok fits n) _ (opt_expr_verdict n t)
      (λ c u q. sign_passes tok fits punct.Semicolon _ u _ (verdict_bind tok fits opt_simple _ (passed u) (st.opt_simple tok fits n) _ (opt_simple_verdict n (passed u))
      (λ p v w. close_shuts tok fits punct.Close s.level _ v _ (done_verdict tok fits _ (closed v s.level))))))))
