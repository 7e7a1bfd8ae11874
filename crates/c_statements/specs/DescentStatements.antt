-- The descent for declarators, declarations, statements and blocks.
use Rattle.std.specs.Prelude.{ℕ, zero, suc, Bool, true, false, ℤ, List, [], ◌∷◌, ◌++◌, Option, Some, None, if◌then◌else◌}
use Rattle.cc_model.specs.declared.tokens.Kind.{Kind}
use Rattle.cc_model.specs.declared.tokens.Kind.TheVariants as kind
use Rattle.cc_model.specs.declared.tokens.Punct.{Punct}
use Rattle.cc_model.specs.declared.tokens.Punct.TheVariants as punct
use Rattle.cc_model.specs.declared.tokens.Keyword.TheVariants as keyword
use Rattle.cc_model.specs.declared.trees.Expr.{Expr, out-Expr}
use Rattle.cc_model.specs.declared.trees.Expr.TheOpen.{Expr-F}
use Rattle.cc_model.specs.declared.trees.Expr.TheOpen as shape
use Rattle.cc_model.specs.declared.trees.Length.{Length}
use Rattle.cc_model.specs.declared.trees.Declarator.{Declarator}
use Rattle.cc_model.specs.declared.trees.Declared.{Declared}
use Rattle.cc_model.specs.declared.trees.Decl.{Decl}
use Rattle.cc_model.specs.declared.trees.Simple.{Simple}
use Rattle.cc_model.specs.declared.trees.Simple.TheVariants as a_simple
use Rattle.cc_model.specs.declared.trees.Head.{Head}
use Rattle.cc_model.specs.declared.trees.Head.TheVariants as a_head
use Rattle.cc_model.specs.declared.trees.Stmt.{Stmt}
use Rattle.cc_model.specs.declared.trees.Stmt.TheVariants as a_stmt
use Rattle.cc_model.specs.declared.trees.Part.{Part}
use Rattle.cc_model.specs.declared.trees.Part.TheVariants as a_part
use Rattle.cc_model.specs.Spots.{Spot, opened, passed}
use Rattle.cc_model.specs.ReadExpressions.{Prefix}
use Rattle.cc_model.specs.ReadStatements.{Assignment, Stepping, assign_sign, behind_sign, before_sign}
use Rattle.c_expressions.specs.Descent.{P, got, failed, bad, ◌>>=◌, ◌>>◌, pure, leave, out, wrong, is_sign, is_key, is_name, prefix_at, on_some}
use Rattle.c_expressions.specs.Descent as of

-- ---- pieces

-- f of the place that is reached
unfoldable pub here : {A : Type 0} → (Spot → P A) → P A
here f = λ s. f s s

-- a where the test holds of the place that is reached, else b
unfoldable pub branch : {A : Type 0} → (Spot → Bool) → P A → P A → P A
branch c a b = λ s. if c s then a s else b s

-- f of what stands at the place that is reached, b where nothing of the kind does
unfoldable pub given : {A B : Type 0} → (Spot → Option A) → (A → P B) → P B → P B
given o f b = λ s. on_some (o s) (λ a. f a s) (b s)

-- ---- what a token begins

unfoldable pub number_at : Option Kind → Option ℤ
number_at (Some (kind.Number z)) = Some z
number_at _ = None

-- the second token of a declaration that begins with a name
unfoldable pub is_declared : Option Kind → Bool
is_declared (Some kind.Name) = true
is_declared (Some (kind.Punct punct.Star)) = true
is_declared _ = false

-- whether two tokens begin a declaration
unfoldable pub begins_decl : Option Kind → Option Kind → Bool
begins_decl (Some (kind.Key keyword.Int)) next = true
begins_decl (Some (kind.Key keyword.Struct)) next = true
begins_decl (Some kind.Name) next = is_declared next
begins_decl _ next = false

unfoldable pub assign_at : Option Kind → Option Assignment
assign_at (Some (kind.Punct p)) = assign_sign p
assign_at _ = None

-- `++` or `--` behind an expression, where no prefix operator stands before it
unfoldable pub behind_at : Option Prefix → Option Kind → Option Stepping
behind_at None (Some (kind.Punct p)) = behind_sign p
behind_at _ _ = None

unfoldable pub args_of : Expr-F Expr → Option (List Expr)
args_of (shape.Call f x l) = Some l
args_of _ = None

-- the arguments of an expression that begins with a name and is a call
unfoldable pub call_of : Bool → Expr → Option (List Expr)
call_of true e = args_of (out-Expr e)
call_of false e = None

-- what begins a simple statement
pub data SimpleStart : Type 0 where
  an_assert : SimpleStart
  an_assume : SimpleStart
  an_abort : SimpleStart
  a_crest_int : SimpleStart
  a_step : (make : Stepping) → SimpleStart
  a_unary : SimpleStart

unfoldable pub step_or : Option Stepping → SimpleStart
step_or (Some make) = a_step make
step_or None = a_unary

unfoldable pub simple_at : Option Kind → SimpleStart
simple_at (Some (kind.Key keyword.Assert)) = an_assert
simple_at (Some (kind.Key keyword.Assume)) = an_assume
simple_at (Some (kind.Key keyword.Abort)) = an_abort
simple_at (Some (kind.Key keyword.CrestInt)) = a_crest_int
simple_at (Some (kind.Punct p)) = step_or (before_sign p)
simple_at _ = a_unary

-- whether no simple statement begins there, where one may be left out
unfoldable pub is_left_out : Option Kind → Bool
is_left_out (Some (kind.Punct punct.Semicolon)) = true
is_left_out (Some (kind.Punct punct.Close)) = true
is_left_out _ = false

-- what begins a statement
pub data StmtStart : Type 0 where
  an_empty : StmtStart
  a_block : StmtStart
  an_if : StmtStart
  a_while : StmtStart
  a_do : StmtStart
  a_for : StmtStart
  a_return : StmtStart
  a_break : StmtStart
  a_continue : StmtStart
  a_plain : StmtStart

unfoldable pub stmt_at : Option Kind → StmtStart
stmt_at (Some (kind.Punct punct.Semicolon)) = an_empty
stmt_at (Some (kind.Punct punct.OpenBrace)) = a_block
stmt_at (Some (kind.Key keyword.If)) = an_if
stmt_at (Some (kind.Key keyword.While)) = a_while
stmt_at (Some (kind.Key keyword.Do)) = a_do
stmt_at (Some (kind.Key keyword.For)) = a_for
stmt_at (Some (kind.Key keyword.Return)) = a_return
stmt_at (Some (kind.Key keyword.Break)) = a_break
stmt_at (Some (kind.Key keyword.Continue)) = a_continue
stmt_at _ = a_plain

module _ (tok : ℕ → Option Kind) (fits : ℕ → ℕ → Bool) where
  -- f again and again behind l, up to a place where the test holds
  unfoldable pub many : {A : Type 0} → (Spot → Bool) → (ℕ → P A) → ℕ → List A → P (List A)
  many stop f zero l = out
  many stop f (suc n) l = branch stop (pure l) (f n >>= λ a. many stop f n (l ++ a ∷ []))

  -- whether the next token is another sign, or there is none
  unfoldable pub lacks : Punct → Spot → Bool
  lacks p s = if is_sign p (tok s.at) then false else true

  unfoldable pub has : Punct → Spot → Bool
  has p s = is_sign p (tok s.at)

  unfoldable pub comma_then : {A : Type 0} → (ℕ → P A) → ℕ → P A
  comma_then f n = of.take tok fits passed >> f n

  -- the list goes on behind l, where a comma stands
  unfoldable pub commas_more : {A : Type 0} → (ℕ → P A) → ℕ → List A → P (List A)
  commas_more f n l = many (lacks punct.Comma) (comma_then f) n l

  unfoldable pub commas : {A : Type 0} → (ℕ → P A) → ℕ → P (List A)
  commas f n = f n >>= λ a. commas_more f n (a ∷ [])

  unfoldable pub expect_number : P ℤ
  expect_number = given (λ s. number_at (tok s.at)) (λ z. of.take tok fits passed >> pure z) wrong

  -- ---- declarations

  -- '[' NUMBER ']'
  unfoldable pub length : ℕ → P Length
  length n = of.take tok fits opened >> here (λ s. expect_number >>= λ z. of.expect tok fits punct.CloseSquare passed >> pure (record { token = s.at; value = z }))

  -- behind the name of a declarator, where `level` tokens stay open behind it
  unfoldable pub declarator_from : ℕ → ℕ → ℕ → ℕ → P Declarator
  declarator_from n level k x = many (lacks punct.OpenSquare) length n [] >>= λ l. leave level (record { stars = k; name = x; lengths = l })

  unfoldable pub declarator : ℕ → P Declarator
  declarator n = here (λ s. of.stars tok fits n >>= λ k. here (λ t. of.expect_name tok fits >> declarator_from n s.level k t.at))

  -- the initialiser of the declarator d
  unfoldable pub starting : ℕ → ℕ → Declarator → P Declared
  starting n level d = here (λ t. of.take tok fits passed >> (of.chain tok fits n 6 >>= λ a. leave level (record { declarator = d; initializer = Some (record { equals = t.at; value = a }) })))

  unfoldable pub initialised : ℕ → P Declared
  initialised n = here (λ s. declarator n >>= λ d. branch (has punct.Assign) (starting n s.level d) (pure (record { declarator = d; initializer = None })))

  unfoldable pub declaration : ℕ → P Decl
  declaration n = of.base_type tok fits >>= λ b. commas initialised n >>= λ l. of.expect tok fits punct.Semicolon passed >> pure (record { base = b; parts = l })

  -- ---- simple statements

  -- the right side of an assignment to a
  unfoldable pub assigned : ℕ → ℕ → Expr → Assignment → P Simple
  assigned n level a make = here (λ t. of.take tok fits passed >> (of.chain tok fits n 6 >>= λ b. leave level (make t.at a b)))

  unfoldable pub stepped : Expr → Stepping → P Simple
  stepped a make = here (λ t. of.take tok fits passed >> pure (make t.at a))

  -- a unary expression that began at s stands alone: it has to be a call
  unfoldable pub called : Spot → Expr → P Simple
  called s a = given (λ t. call_of (is_name (tok s.at)) a) (λ l. pure (a_simple.Call s.at l)) wrong

  -- behind a unary expression a, which began at s
  unfoldable pub behind_unary : ℕ → Spot → Expr → P Simple
  behind_unary n s a = given (λ t. assign_at (tok t.at)) (assigned n s.level a)
      (given (λ t. behind_at (prefix_at (tok s.at)) (tok t.at)) (stepped a) (called s a))

  unfoldable pub unary_stmt : ℕ → P Simple
  unary_stmt n = here (λ s. of.unary tok fits n >>= λ a. leave {A = Unit {0}} s.level tt >> behind_unary n s a)

  unfoldable pub simple_of : ℕ → SimpleStart → P Simple
  simple_of n an_assert = here (λ s. of.take tok fits passed >> (of.bracketed tok fits n >>= λ a. pure (a_simple.Assert s.at a)))
  simple_of n an_assume = here (λ s. of.take tok fits passed >> (of.bracketed tok fits n >>= λ a. pure (a_simple.Assume s.at a)))
  simple_of n an_abort = here (λ s. of.take tok fits passed >> of.expect tok fits punct.Open passed >> of.expect tok fits punct.Close passed >> pure (a_simple.Abort s.at))
  simple_of n a_crest_int = here (λ s. of.take tok fits passed >> of.expect tok fits punct.Open opened >>
      (of.unary tok fits n >>= λ a. of.close tok fits punct.Close s.level >> pure (a_simple.CrestInt s.at a)))
  simple_of n (a_step make) = here (λ s. of.take tok fits passed >> (of.unary tok fits n >>= λ a. leave s.level (make s.at a)))
  simple_of n a_unary = unary_stmt n

  unfoldable pub simple_stmt : ℕ → P Simple
  simple_stmt n = here (λ s. simple_of n (simple_at (tok s.at)))

  unfoldable pub opt_expr : ℕ → P (Option Expr)
  opt_expr n = branch (has punct.Semicolon) (pure None) (here (λ s. of.chain tok fits n 6 >>= λ a. leave s.level (Some a)))

  unfoldable pub opt_simple : ℕ → P (Option Simple)
  opt_simple n = branch (λ s. is_left_out (tok s.at)) (pure None) (simple_stmt n >>= λ a. pure (Some a))

  -- ---- statements

  unfoldable pub starts_decl : Spot → Bool
  starts_decl s = begins_decl (tok s.at) (tok (suc s.at))

  unfoldable pub head_decl : ℕ → P Head
  head_decl n = declaration n >>= λ d. pure (a_head.Decl d)

  unfoldable pub head_simple : ℕ → P Head
  head_simple n = opt_simple n >>= λ a. of.expect tok fits punct.Semicolon passed >> pure (a_head.Simple a)

  unfoldable pub for_head : ℕ → P Head
  for_head n = branch starts_decl (head_decl n) (head_simple n)

  -- what stands in the parentheses of a `for`
  unfoldable pub for_control : ℕ → P (Head × Option Expr × Option Simple)
  for_control n = here (λ s. of.expect tok fits punct.Open opened >> (for_head n >>= λ h. opt_expr n >>= λ c.
      of.expect tok fits punct.Semicolon passed >> (opt_simple n >>= λ p. of.close tok fits punct.Close s.level >> pure (h, c, p))))

  unfoldable pub part_decl : ℕ → P Part
  part_decl n = declaration n >>= λ d. pure (a_part.Decl d)

  unfoldable mutual
    pub statement : ℕ → P Stmt
    statement zero = out
    statement (suc n) = here (λ s. statement_of n (stmt_at (tok s.at)))

    pub statement_of : ℕ → StmtStart → P Stmt
    statement_of zero q = out
    statement_of (suc n) an_empty = of.take tok fits passed >> pure a_stmt.Empty
    statement_of (suc n) a_block = block n >>= λ l. pure (a_stmt.Block l)
    statement_of (suc n) an_if = here (λ s. of.take tok fits opened >> (of.bracketed tok fits n >>= λ e. statement n >>= λ a. else_part n s e a))
    statement_of (suc n) a_while = here (λ s. of.take tok fits opened >> (of.bracketed tok fits n >>= λ e. statement n >>= λ a. leave s.level (a_stmt.While s.at e a)))
    statement_of (suc n) a_do = here (λ s. of.take tok fits opened >> (statement n >>= λ a. of.expect_key tok fits keyword.While >>
        (of.bracketed tok fits n >>= λ e. of.expect tok fits punct.Semicolon passed >> leave s.level (a_stmt.Do s.at a e))))
    statement_of (suc n) a_for = here (λ s. of.take tok fits opened >> (for_control n >>= λ x. statement n >>= λ a. leave s.level (a_stmt.For s.at x.0 x.1 x.2 a)))
    statement_of (suc n) a_return = here (λ s. of.take tok fits passed >> (opt_expr n >>= λ a. of.expect tok fits punct.Semicolon passed >> pure (a_stmt.Return s.at a)))
    statement_of (suc n) a_break = here (λ s. of.take tok fits passed >> of.expect tok fits punct.Semicolon passed >> pure (a_stmt.Break s.at))
    statement_of (suc n) a_continue = here (λ s. of.take tok fits passed >> of.expect tok fits punct.Semicolon passed >> pure (a_stmt.Continue s.at))
    statement_of (suc n) a_plain = simple_stmt n >>= λ a. of.expect tok fits punct.Semicolon passed >> pure (a_stmt.Simple a)

    -- behind the branch a of an `if` on e, which began at s
    pub else_part : ℕ → Spot → Expr → Stmt → P Stmt
    else_part zero s e a = out
    else_part (suc n) s e a = branch (λ t. is_key keyword.Else (tok t.at))
        (of.take tok fits opened >> (statement n >>= λ c. leave s.level (a_stmt.IfElse s.at e a c)))
        (leave s.level (a_stmt.If s.at e a))

    pub block : ℕ → P (List Part)
    block zero = out
    block (suc n) = here (λ s. of.expect tok fits punct.OpenBrace opened >> (parts n [] >>= λ l. of.close tok fits punct.CloseBrace s.level >> pure l))

    -- declarations and statements behind l
    pub parts : ℕ → List Part → P (List Part)
    parts zero l = out
    parts (suc n) l = branch (has punct.CloseBrace) (pure l) (part n >>= λ a. parts n (l ++ a ∷ []))

    pub part : ℕ → P Part
    part zero = out
    part (suc n) = branch starts_decl (part_decl n) (statement n >>= λ a. pure (a_part.Stmt a))
