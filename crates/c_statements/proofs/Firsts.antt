-- The first tokens of expressions and statements, and what follows them.
use Rattle.std.proofs.Common.{◌≡◌, ℕ, suc, Bool, true, false, List, Option, Some, None, refl, ap, ◌∙◌, ◌⊎◌, inl, inr}
use Rattle.cc_model.specs.declared.tokens.Kind.{Kind}
use Rattle.cc_model.specs.declared.tokens.Kind.TheVariants as kind
use Rattle.cc_model.specs.declared.tokens.Punct.{Punct}
use Rattle.cc_model.specs.declared.tokens.Punct.TheVariants as punct
use Rattle.cc_model.specs.declared.tokens.Keyword.TheVariants as keyword
use Rattle.cc_model.specs.declared.trees.Expr.{Expr}
use Rattle.cc_model.specs.declared.trees.Simple.{Simple}
use Rattle.cc_model.specs.declared.trees.Stmt.{Stmt}
use Rattle.cc_model.specs.declared.trees.Part.{Part}
use Rattle.cc_model.specs.declared.trees.Decl.{Decl}
use Rattle.cc_model.specs.declared.trees.Declarator.{Declarator}
use Rattle.cc_model.specs.declared.trees.Declared.{Declared}
use Rattle.cc_model.specs.Spots.{Spot}
use Rattle.cc_model.specs.ReadTypes as ty
use Rattle.cc_model.specs.declared.trees.TypeName.{TypeName}
use Rattle.cc_model.specs.ReadTypes.{BaseType, Stars}
use Rattle.cc_model.specs.ReadExpressions as ex
use Rattle.cc_model.specs.ReadExpressions.{Exp, Postfix, Prefix, FieldOf, prefix_sign, field_sign}
use Rattle.cc_model.specs.ReadStatements as by
use Rattle.cc_model.specs.ReadStatements.{Assignment, Stepping, assign_sign, behind_sign, before_sign}
use Rattle.c_expressions.specs.Descent.{is_sign, is_key, is_name, prefix_at}
use Rattle.c_statements.specs.DescentStatements.{a_unary, a_plain, simple_at, stmt_at, is_declared, begins_decl, is_left_out, assign_at, behind_at, a_step, step_or}
use Rattle.c_expressions.proofs.ExprLaws.{free}

-- ---- what follows a list's element, or an expression

unfoldable pub ender : Option Kind → Bool
ender (Some (kind.Punct punct.Comma)) = true
ender (Some (kind.Punct punct.Semicolon)) = true
ender (Some (kind.Punct punct.Close)) = true
ender _ = false

pub ender_free : (k : Option Kind) → ender k ≡ true → free k ≡ true
unfolding ender free
ender_free (Some (kind.Punct punct.Comma)) e = refl
ender_free (Some (kind.Punct punct.Semicolon)) e = refl
ender_free (Some (kind.Punct punct.Close)) e = refl
ender_free _ e = cc

pub ender_assign : (k : Option Kind) → ender k ≡ true → is_sign punct.Assign k ≡ false
unfolding ender is_sign
ender_assign (Some (kind.Punct punct.Comma)) e = refl
ender_assign (Some (kind.Punct punct.Semicolon)) e = refl
ender_assign (Some (kind.Punct punct.Close)) e = refl
ender_assign _ e = cc

pub ender_name : (k : Option Kind) → ender k ≡ true → is_name k ≡ false
unfolding ender is_name
ender_name (Some (kind.Punct punct.Comma)) e = refl
ender_name (Some (kind.Punct punct.Semicolon)) e = refl
ender_name (Some (kind.Punct punct.Close)) e = refl
ender_name _ e = cc

pub ender_no_assign : (k : Option Kind) → ender k ≡ true → assign_at k ≡ None
unfolding ender assign_at
ender_no_assign (Some (kind.Punct punct.Comma)) e = refl
ender_no_assign (Some (kind.Punct punct.Semicolon)) e = refl
ender_no_assign (Some (kind.Punct punct.Close)) e = refl
ender_no_assign _ e = cc

pub ender_no_step : (o : Option Prefix) (k : Option Kind) → ender k ≡ true → behind_at o k ≡ None
unfolding ender behind_at
ender_no_step None (Some (kind.Punct punct.Comma)) e = refl
ender_no_step None (Some (kind.Punct punct.Semicolon)) e = refl
ender_no_step None (Some (kind.Punct punct.Close)) e = refl
ender_no_step (Some x) k e = refl
ender_no_step None _ e = cc

pub free_star : (k : Option Kind) → free k ≡ true → is_sign punct.Star k ≡ false
unfolding free is_sign
free_star (Some (kind.Punct punct.Star)) e = cc
free_star _ e = refl

pub free_square : (k : Option Kind) → free k ≡ true → is_sign punct.OpenSquare k ≡ false
unfolding free is_sign
free_square (Some (kind.Punct punct.OpenSquare)) e = cc
free_square _ e = refl

pub name_free : (k : Option Kind) → k ≡ Some kind.Name → free k ≡ true
unfolding free
name_free k e = ap free e

pub assign_free : (p : Punct) (make : Assignment) → assign_sign p ≡ Some make → free (Some (kind.Punct p)) ≡ true
unfolding free
assign_free punct.Assign make e = refl
assign_free punct.AddTo make e = refl
assign_free punct.SubFrom make e = refl
assign_free punct.MulBy make e = refl
assign_free punct.DivBy make e = refl
assign_free punct.RemBy make e = refl
assign_free _ make e = cc

pub behind_free : (p : Punct) (make : Stepping) → behind_sign p ≡ Some make → free (Some (kind.Punct p)) ≡ true
unfolding free
behind_free punct.Increase make e = refl
behind_free punct.Decrease make e = refl
behind_free _ make e = cc

pub behind_no_assign : (p : Punct) (make : Stepping) → behind_sign p ≡ Some make → assign_sign p ≡ None
behind_no_assign punct.Increase make e = refl
behind_no_assign punct.Decrease make e = refl
behind_no_assign _ make e = cc

pub before_starts : (p : Punct) (make : Stepping) → before_sign p ≡ Some make → simple_at (Some (kind.Punct p)) ≡ a_step make
unfolding simple_at step_or
before_starts p make e = ap step_or e

-- ---- the first token

unfoldable pub begins_expr : Option Kind → Bool
begins_expr (Some kind.Name) = true
begins_expr (Some (kind.Number z)) = true
begins_expr (Some (kind.Key keyword.Null)) = true
begins_expr (Some (kind.Key keyword.Malloc)) = true
begins_expr (Some (kind.Punct punct.Open)) = true
begins_expr (Some (kind.Punct punct.Dash)) = true
begins_expr (Some (kind.Punct punct.Bang)) = true
begins_expr (Some (kind.Punct punct.Star)) = true
begins_expr (Some (kind.Punct punct.Ampersand)) = true
begins_expr _ = false

prefix_begins : (p : Punct) (make : Prefix) → prefix_sign p ≡ Some make → begins_expr (Some (kind.Punct p)) ≡ true
unfolding begins_expr
prefix_begins punct.Dash make e = refl
prefix_begins punct.Bang make e = refl
prefix_begins punct.Star make e = refl
prefix_begins punct.Ampersand make e = refl
prefix_begins _ make e = cc

pub expr_unary : (k : Option Kind) → begins_expr k ≡ true → simple_at k ≡ a_unary
unfolding begins_expr simple_at step_or
expr_unary (Some kind.Name) e = refl
expr_unary (Some (kind.Number z)) e = refl
expr_unary (Some (kind.Key keyword.Null)) e = refl
expr_unary (Some (kind.Key keyword.Malloc)) e = refl
expr_unary (Some (kind.Punct punct.Open)) e = refl
expr_unary (Some (kind.Punct punct.Dash)) e = refl
expr_unary (Some (kind.Punct punct.Bang)) e = refl
expr_unary (Some (kind.Punct punct.Star)) e = refl
expr_unary (Some (kind.Punct punct.Ampersand)) e = refl
expr_unary _ e = cc

pub expr_not_semicolon : (k : Option Kind) → begins_expr k ≡ true → is_sign punct.Semicolon k ≡ false
unfolding begins_expr is_sign
expr_not_semicolon (Some (kind.Punct punct.Semicolon)) e = cc
expr_not_semicolon _ e = refl

-- a simple statement begins with a token that begins no other statement and is no `;`, `)`, `}` or `else`
unfoldable pub begins_simple : Option Kind → Bool
begins_simple (Some (kind.Key keyword.Assert)) = true
begins_simple (Some (kind.Key keyword.Assume)) = true
begins_simple (Some (kind.Key keyword.Abort)) = true
begins_simple (Some (kind.Key keyword.CrestInt)) = true
begins_simple (Some (kind.Punct punct.Increase)) = true
begins_simple (Some (kind.Punct punct.Decrease)) = true
begins_simple k = begins_expr k

pub expr_simple : (k : Option Kind) → begins_expr k ≡ true → begins_simple k ≡ true
unfolding begins_expr begins_simple
expr_simple (Some kind.Name) e = refl
expr_simple (Some (kind.Number z)) e = refl
expr_simple (Some (kind.Key keyword.Null)) e = refl
expr_simple (Some (kind.Key keyword.Malloc)) e = refl
expr_simple (Some (kind.Punct punct.Open)) e = refl
expr_simple (Some (kind.Punct punct.Dash)) e = refl
expr_simple (Some (kind.Punct punct.Bang)) e = refl
expr_simple (Some (kind.Punct punct.Star)) e = refl
expr_simple (Some (kind.Punct punct.Ampersand)) e = refl
expr_simple _ e = cc

before_simple : (p : Punct) (make : Stepping) → before_sign p ≡ Some make → begins_simple (Some (kind.Punct p)) ≡ true
unfolding begins_simple
before_simple punct.Increase make e = refl
before_simple punct.Decrease make e = refl
before_simple _ make e = cc

pub simple_plain : (k : Option Kind) → begins_simple k ≡ true → stmt_at k ≡ a_plain
unfolding begins_simple begins_expr stmt_at
simple_plain (Some (kind.Punct punct.Semicolon)) e = cc
simple_plain (Some (kind.Punct punct.OpenBrace)) e = cc
simple_plain (Some (kind.Key keyword.If)) e = cc
simple_plain (Some (kind.Key keyword.While)) e = cc
simple_plain (Some (kind.Key keyword.Do)) e = cc
simple_plain (Some (kind.Key keyword.For)) e = cc
simple_plain (Some (kind.Key keyword.Return)) e = cc
simple_plain (Some (kind.Key keyword.Break)) e = cc
simple_plain (Some (kind.Key keyword.Continue)) e = cc
simple_plain _ e = refl

pub simple_there : (k : Option Kind) → begins_simple k ≡ true → is_left_out k ≡ false
unfolding begins_simple begins_expr is_left_out
simple_there (Some (kind.Punct punct.Semicolon)) e = cc
simple_there (Some (kind.Punct punct.Close)) e = cc
simple_there _ e = refl

-- ---- statements and declarations apart

-- two tokens that begin no statement: a declaration's, `}` and `else`
unfoldable pub foreign : Option Kind → Option Kind → Bool
foreign (Some (kind.Punct punct.CloseBrace)) next = true
foreign (Some (kind.Key keyword.Else)) next = true
foreign k next = begins_decl k next

pub foreign_brace : (k next : Option Kind) → foreign k next ≡ false → is_sign punct.CloseBrace k ≡ false
unfolding foreign is_sign
foreign_brace (Some (kind.Punct punct.CloseBrace)) next e = cc
foreign_brace _ next e = refl

pub foreign_else : (k next : Option Kind) → foreign k next ≡ false → is_key keyword.Else k ≡ false
unfolding foreign is_key
foreign_else (Some (kind.Key keyword.Else)) next e = cc
foreign_else _ next e = refl

pub foreign_decl : (k next : Option Kind) → foreign k next ≡ false → begins_decl k next ≡ false
unfolding foreign begins_decl
foreign_decl (Some (kind.Punct punct.CloseBrace)) next e = cc
foreign_decl (Some (kind.Key keyword.Else)) next e = cc
foreign_decl _ next e = e

pub decl_brace : (k next : Option Kind) → begins_decl k next ≡ true → is_sign punct.CloseBrace k ≡ false
unfolding begins_decl is_sign
decl_brace (Some (kind.Punct punct.CloseBrace)) next e = cc
decl_brace _ next e = refl

pub decl_else : (k next : Option Kind) → begins_decl k next ≡ true → is_key keyword.Else k ≡ false
unfolding begins_decl is_key
decl_else (Some (kind.Key keyword.Else)) next e = cc
decl_else _ next e = refl

-- where a simple statement's first token is no name, or its second one begins no declaration
pub simple_native : (k next : Option Kind) → begins_simple k ≡ true → (k ≡ Some kind.Name → is_declared next ≡ false) → foreign k next ≡ false
unfolding begins_simple begins_expr foreign begins_decl
simple_native (Some (kind.Punct punct.CloseBrace)) next e f = cc
simple_native (Some (kind.Key keyword.Else)) next e f = cc
simple_native (Some (kind.Key keyword.Int)) next e f = cc
simple_native (Some (kind.Key keyword.Struct)) next e f = cc
simple_native (Some kind.Name) next e f = f refl
simple_native _ next e f = refl

field_apart : (p : Punct) (make : FieldOf) → field_sign p ≡ Some make → is_declared (Some (kind.Punct p)) ≡ false
unfolding is_declared
field_apart punct.Star make e = cc
field_apart _ make e = refl

pub assign_apart : (p : Punct) (make : Assignment) → assign_sign p ≡ Some make → is_declared (Some (kind.Punct p)) ≡ false
unfolding is_declared
assign_apart punct.Star make e = cc
assign_apart _ make e = refl

pub behind_apart : (p : Punct) (make : Stepping) → behind_sign p ≡ Some make → is_declared (Some (kind.Punct p)) ≡ false
unfolding is_declared
behind_apart punct.Star make e = cc
behind_apart _ make e = refl

prefix_no_name : (p : Punct) → Some (kind.Punct p) ≡ Some kind.Name → ⊥
prefix_no_name p e = cc

module _ (tok : ℕ → Option Kind) (fits : ℕ → ℕ → Bool) where
  bracket_opens : {s t : Spot} {a : Expr} → ex.Bracketed tok fits s t a → tok s.at ≡ Some (kind.Punct punct.Open)
  bracket_opens (ex.bracketed i d c) = i.0

  arguments_open : {s t : Spot} {l : List Expr} → ex.Arguments tok fits s t l → tok s.at ≡ Some (kind.Punct punct.Open)
  arguments_open (ex.arguments i d c) = i.0

  allocation_begins : {s t : Spot} {n : TypeName} → ex.Allocation tok fits s t n → tok s.at ≡ Some (kind.Key keyword.Malloc)
  allocation_begins (ex.malloc i o z p d c e) = i.0

  pub post_plain : {s t : Spot} {a : Expr} → Postfix tok fits s t a → prefix_at (tok s.at) ≡ None
  unfolding prefix_at
  post_plain (ex.name i) = ap prefix_at i.0
  post_plain (ex.number z i) = ap prefix_at i.0
  post_plain (ex.null i) = ap prefix_at i.0
  post_plain (ex.paren d) = ap prefix_at (bracket_opens d)
  post_plain (ex.call i d) = ap prefix_at i.0
  post_plain (ex.malloc d) = ap prefix_at (allocation_begins d)
  post_plain (ex.cast i b x d c e) = ap prefix_at i.0
  post_plain (ex.field p make d e i n) = post_plain d
  post_plain (ex.index d i e c) = post_plain d

  post_begins : {s t : Spot} {a : Expr} → Postfix tok fits s t a → begins_expr (tok s.at) ≡ true
  unfolding begins_expr
  post_begins (ex.name i) = ap begins_expr i.0
  post_begins (ex.number z i) = ap begins_expr i.0
  post_begins (ex.null i) = ap begins_expr i.0
  post_begins (ex.paren d) = ap begins_expr (bracket_opens d)
  post_begins (ex.call i d) = ap begins_expr i.0
  post_begins (ex.malloc d) = ap begins_expr (allocation_begins d)
  post_begins (ex.cast i b x d c e) = ap begins_expr i.0
  post_begins (ex.field p make d e i n) = post_begins d
  post_begins (ex.index d i e c) = post_begins d

  pub exp_begins : {l : ℕ} {s t : Spot} {a : Expr} → Exp tok fits l s t a → begins_expr (tok s.at) ≡ true
  exp_begins (ex.one d) = exp_begins d
  exp_begins (ex.binary p make d e i h) = exp_begins d
  exp_begins (ex.prefix p make e i d) = ap begins_expr i.0 ∙ prefix_begins p make e
  exp_begins (ex.plain d) = post_begins d

  -- a postfix expression that begins with a name is that name, or its second token begins no declaration
  abbrev pub Second : Spot → Spot → Type 0
  Second s t = (tok (suc s.at) ≡ tok t.at) ⊎ (is_declared (tok (suc s.at)) ≡ false)

  post_second : {s t : Spot} {a : Expr} → Postfix tok fits s t a → tok s.at ≡ Some kind.Name → Second s t
  unfolding is_declared
  post_second (ex.name i) n = inl refl
  post_second (ex.number z i) n = absurd (cc (i.0, n))
  post_second (ex.null i) n = absurd (cc (i.0, n))
  post_second (ex.paren d) n = absurd (cc (bracket_opens d, n))
  post_second (ex.call i d) n = inr (ap is_declared (arguments_open d))
  post_second (ex.malloc d) n = absurd (cc (allocation_begins d, n))
  post_second (ex.cast i b x d c e) n = absurd (cc (i.0, n))
  post_second (ex.field p make d e i m) n = elim (post_second d n) [ inl q ↦ inr (ap is_declared (q ∙ i.0) ∙ field_apart p make e) | inr q ↦ inr q ]
  post_second (ex.index d i e c) n = elim (post_second d n) [ inl q ↦ inr (ap is_declared (q ∙ i.0)) | inr q ↦ inr q ]

  exp_second : {s t : Spot} {a : Expr} → Exp tok fits 0 s t a → tok s.at ≡ Some kind.Name → Second s t
  exp_second (ex.prefix p make e i d) n = absurd (cc (i.0, n))
  exp_second (ex.plain d) n = post_second d n

  simple_second : {s t : Spot} {a : Simple} → by.SimpleStmt tok fits s t a → tok s.at ≡ Some kind.Name → is_declared (tok (suc s.at)) ≡ false
  unfolding is_declared
  simple_second (by.assign p make d e i x) n = elim (exp_second d n) [ inl q ↦ ap is_declared (q ∙ i.0) ∙ assign_apart p make e | inr q ↦ q ]
  simple_second (by.behind p make d e i) n = elim (post_second d n) [ inl q ↦ ap is_declared (q ∙ i.0) ∙ behind_apart p make e | inr q ↦ q ]
  simple_second (by.before p make e i d) n = absurd (cc (i.0, n))
  simple_second (by.call i d) n = ap is_declared (arguments_open d)
  simple_second (by.assert i d) n = absurd (cc (i.0, n))
  simple_second (by.assume i d) n = absurd (cc (i.0, n))
  simple_second (by.abort i o c) n = absurd (cc (i.0, n))
  simple_second (by.crest_int i o d c) n = absurd (cc (i.0, n))

  pub simple_begins : {s t : Spot} {a : Simple} → by.SimpleStmt tok fits s t a → begins_simple (tok s.at) ≡ true
  unfolding begins_simple begins_expr
  simple_begins (by.assign {s} p make d e i x) = expr_simple (tok s.at) (exp_begins d)
  simple_begins (by.behind {s} p make d e i) = expr_simple (tok s.at) (post_begins d)
  simple_begins (by.before p make e i d) = ap begins_simple i.0 ∙ before_simple p make e
  simple_begins (by.call i d) = ap begins_simple i.0
  simple_begins (by.assert i d) = ap begins_simple i.0
  simple_begins (by.assume i d) = ap begins_simple i.0
  simple_begins (by.abort i o c) = ap begins_simple i.0
  simple_begins (by.crest_int i o d c) = ap begins_simple i.0

  -- ---- declarations

  declares_first : {s t : Spot} {d : Declarator} → by.Declares tok fits s t d → is_declared (tok s.at) ≡ true
  unfolding is_declared
  declares_first (by.declares ty.none i l) = ap is_declared i.0
  declares_first (by.declares (ty.star j d) i l) = ap is_declared j.0

  initialised_first : {s t : Spot} {d : Declared} → by.Initialised tok fits s t d → is_declared (tok s.at) ≡ true
  initialised_first (by.plain d) = declares_first d
  initialised_first (by.starts d i e) = declares_first d

  commas_first : {s t : Spot} {l : List Declared} → by.Commas tok fits Declared (by.Initialised tok fits) s t l → is_declared (tok s.at) ≡ true
  commas_first (by.first d) = initialised_first d
  commas_first (by.next d i e) = commas_first d

  pub decl_begins : {s t : Spot} {d : Decl} → by.Declaration tok fits s t d → begins_decl (tok s.at) (tok (suc s.at)) ≡ true
  unfolding begins_decl
  decl_begins (by.declaration {s} (ty.int i) l e) = ap (λ k. begins_decl k (tok (suc s.at))) i.0
  decl_begins (by.declaration {s} (ty.struct i n) l e) = ap (λ k. begins_decl k (tok (suc s.at))) i.0
  decl_begins (by.declaration {s} (ty.alias i) l e) = ap (λ k. begins_decl k (tok (suc s.at))) i.0 ∙ commas_first l

  block_opens : {s t : Spot} {l : List Part} → by.Block tok fits s t l → tok s.at ≡ Some (kind.Punct punct.OpenBrace)
  block_opens (by.braces i d c) = i.0

  pub stmt_native : {b : Bool} {s t : Spot} {a : Stmt} → by.Statement tok fits b s t a → foreign (tok s.at) (tok (suc s.at)) ≡ false
  unfolding foreign begins_decl
  stmt_native (by.empty {s} i) = ap (λ k. foreign k (tok (suc s.at))) i.0
  stmt_native (by.block {s} d) = ap (λ k. foreign k (tok (suc s.at))) (block_opens d)
  stmt_native (by.if_alone {s} i e d) = ap (λ k. foreign k (tok (suc s.at))) i.0
  stmt_native (by.if_else {s} i e d j f) = ap (λ k. foreign k (tok (suc s.at))) i.0
  stmt_native (by.while {s} i e d) = ap (λ k. foreign k (tok (suc s.at))) i.0
  stmt_native (by.do_while {s} i d w e c) = ap (λ k. foreign k (tok (suc s.at))) i.0
  stmt_native (by.for {s} i o h c e p f d) = ap (λ k. foreign k (tok (suc s.at))) i.0
  stmt_native (by.return {s} i d e) = ap (λ k. foreign k (tok (suc s.at))) i.0
  stmt_native (by.break {s} i e) = ap (λ k. foreign k (tok (suc s.at))) i.0
  stmt_native (by.continue {s} i e) = ap (λ k. foreign k (tok (suc s.at))) i.0
  stmt_native (by.simple {s} d e) = simple_native (tok s.at) (tok (suc s.at)) (simple_begins d) (simple_second d)
