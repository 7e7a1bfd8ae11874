-- How tokens read as a declaration, a statement or a block: one case for each alternative of the grammar (C11 6.7 and 6.8).
-- Each of them ends at the level at which it begins. Levels are this project's own:
-- a bracket is open up to its closing one; `if`, `else`, `while`, `do` and `for` are open up to the end of their statement;
-- a comma, `=`, a compound sign, `++` and `--` are open nowhere.
use Rattle.std.specs.Prelude.{◌≡◌, ℕ, suc, Bool, true, false, ℤ, List, [], ◌∷◌, ◌++◌, Option, Some, None}
use Rattle.cc_model.specs.declared.tokens.Kind.{Kind}
use Rattle.cc_model.specs.declared.tokens.Kind.TheVariants as kind
use Rattle.cc_model.specs.declared.tokens.Punct.{Punct}
use Rattle.cc_model.specs.declared.tokens.Punct.TheVariants as punct
use Rattle.cc_model.specs.declared.tokens.Keyword.TheVariants as keyword
use Rattle.cc_model.specs.declared.trees.Base.{Base}
use Rattle.cc_model.specs.declared.trees.Expr.{Expr}
use Rattle.cc_model.specs.declared.trees.Length.{Length}
use Rattle.cc_model.specs.declared.trees.Declarator.{Declarator}
use Rattle.cc_model.specs.declared.trees.Declared.{Declared}
use Rattle.cc_model.specs.declared.trees.Decl.{Decl}
use Rattle.cc_model.specs.declared.trees.Simple.{Simple}
use Rattle.cc_model.specs.declared.trees.Simple.TheVariants as a_simple
use Rattle.cc_model.specs.declared.trees.Head.{Head}
use Rattle.cc_model.specs.declared.trees.Head.TheVariants as a_head
use Rattle.cc_model.specs.declared.trees.Stmt.{Stmt}
use Rattle.cc_model.specs.declared.trees.Stmt.TheVariants as a_stmt
use Rattle.cc_model.specs.declared.trees.Part.{Part}
use Rattle.cc_model.specs.declared.trees.Part.TheVariants as a_part
use Rattle.cc_model.specs.Spots.{Spot, opened, passed, back, closed, Next, Is, IsKey, IsName}
use Rattle.cc_model.specs.ReadTypes.{BaseType, Stars}
use Rattle.cc_model.specs.ReadExpressions.{Exp, Postfix, Bracketed, Arguments}

-- the tree of an assignment, from its operator's token
abbrev pub Assignment : Type 0
Assignment = ℕ → Expr → Expr → Simple

-- an assignment operator (C11 6.5.16)
abbrev pub assign_sign : Punct → Option Assignment
assign_sign punct.Assign = Some a_simple.Assign
assign_sign punct.AddTo = Some a_simple.AddTo
assign_sign punct.SubFrom = Some a_simple.SubFrom
assign_sign punct.MulBy = Some a_simple.MulBy
assign_sign punct.DivBy = Some a_simple.DivBy
assign_sign punct.RemBy = Some a_simple.RemBy
assign_sign _ = None

-- the tree of a step by one, from its sign's token
abbrev pub Stepping : Type 0
Stepping = ℕ → Expr → Simple

-- `++` and `--` behind a place (C11 6.5.2.4)
abbrev pub behind_sign : Punct → Option Stepping
behind_sign punct.Increase = Some a_simple.Increase
behind_sign punct.Decrease = Some a_simple.Decrease
behind_sign _ = None

-- `++` and `--` before a place (C11 6.5.3.1)
abbrev pub before_sign : Punct → Option Stepping
before_sign punct.Increase = Some a_simple.IncreaseFirst
before_sign punct.Decrease = Some a_simple.DecreaseFirst
before_sign _ = None

module _ (tok : ℕ → Option Kind) (fits : ℕ → ℕ → Bool) where
  -- x,+ : one or more with commas between them
  pub data Commas (A : Type 0) (R : Spot → Spot → A → Type 0) : Spot → Spot → List A → Type 0 where
    first : {s t : Spot} {a : A} → R s t a → Commas A R s t (a ∷ [])
    next : {s t u : Spot} {l : List A} {a : A} → Commas A R s t l → Is tok fits punct.Comma t → R (passed t) u a → Commas A R s u (l ++ a ∷ [])

  -- ('[' NUMBER ']')* (C11 6.7.6.2); each `[` stays open
  pub data Lengths : Spot → Spot → List Length → Type 0 where
    none : {s : Spot} → Lengths s s []
    more : {s t : Spot} {l : List Length} (z : ℤ) → Lengths s t l → Is tok fits punct.OpenSquare t →
        Next tok fits (kind.Number z) (opened t) → Is tok fits punct.CloseSquare (passed (opened t)) →
        Lengths s (passed (passed (opened t))) (l ++ record { token = suc t.at; value = z } ∷ [])

  -- declarator: '*'* NAME ('[' NUMBER ']')* (C11 6.7.6); its `[` are open up to its end
  pub data Declares : Spot → Spot → Declarator → Type 0 where
    declares : {s t u : Spot} {n : ℕ} {l : List Length} → Stars tok fits s t n → IsName tok fits t → Lengths (passed t) u l →
        Declares s (back u s.level) (record { stars = n; name = t.at; lengths = l })

  -- declarator ['=' expr] (C11 6.7.9)
  pub data Initialised : Spot → Spot → Declared → Type 0 where
    plain : {s t : Spot} {d : Declarator} → Declares s t d → Initialised s t (record { declarator = d; initializer = None })
    starts : {s t u : Spot} {d : Declarator} {a : Expr} → Declares s t d → Is tok fits punct.Assign t → Exp tok fits 6 (passed t) u a →
        Initialised s (back u s.level) (record { declarator = d; initializer = Some (record { equals = t.at; value = a }) })

  -- decl: type (declarator ['=' expr]),+ ';' (C11 6.7)
  pub data Declaration : Spot → Spot → Decl → Type 0 where
    declaration : {s t u : Spot} {b : Base} {l : List Declared} → BaseType tok fits s t b → Commas Declared Initialised t u l →
        Is tok fits punct.Semicolon u → Declaration s (passed u) (record { base = b; parts = l })

  -- simple: a statement of one expression without its `;` (C11 6.8.3)
  pub data SimpleStmt : Spot → Spot → Simple → Type 0 where
    -- unary ('=' | '+=' | '-=' | '*=' | '/=' | '%=') expr
    assign : {s t u : Spot} {a b : Expr} (p : Punct) (make : Assignment) → Exp tok fits 0 s t a → assign_sign p ≡ Some make →
        Is tok fits p (back t s.level) → Exp tok fits 6 (closed t s.level) u b → SimpleStmt s (back u s.level) (make t.at a b)
    -- postfix ('++' | '--')
    behind : {s t : Spot} {a : Expr} (p : Punct) (make : Stepping) → Postfix tok fits s t a → behind_sign p ≡ Some make →
        Is tok fits p (back t s.level) → SimpleStmt s (closed t s.level) (make t.at a)
    -- ('++' | '--') unary
    before : {s t : Spot} {a : Expr} (p : Punct) (make : Stepping) → before_sign p ≡ Some make → Is tok fits p s →
        Exp tok fits 0 (passed s) t a → SimpleStmt s (back t s.level) (make s.at a)
    -- NAME '(' [expr,+] ')' (C11 6.5.2.2)
    call : {s t : Spot} {l : List Expr} → IsName tok fits s → Arguments tok fits (passed s) t l →
        SimpleStmt s (back t s.level) (a_simple.Call s.at l)
    -- 'assert' '(' expr ')' | 'assume' '(' expr ')'
    assert : {s t : Spot} {a : Expr} → IsKey tok fits keyword.Assert s → Bracketed tok fits (passed s) t a → SimpleStmt s t (a_simple.Assert s.at a)
    assume : {s t : Spot} {a : Expr} → IsKey tok fits keyword.Assume s → Bracketed tok fits (passed s) t a → SimpleStmt s t (a_simple.Assume s.at a)
    -- 'abort' '(' ')'
    abort : {s : Spot} → IsKey tok fits keyword.Abort s → Is tok fits punct.Open (passed s) →
        Is tok fits punct.Close (passed (passed s)) → SimpleStmt s (passed (passed (passed s))) (a_simple.Abort s.at)
    -- 'CREST_int' '(' unary ')'
    crest_int : {s t : Spot} {a : Expr} → IsKey tok fits keyword.CrestInt s → Is tok fits punct.Open (passed s) →
        Exp tok fits 0 (opened (passed s)) t a → Is tok fits punct.Close (back t s.level) → SimpleStmt s (closed t s.level) (a_simple.CrestInt s.at a)

  -- [expr]
  pub data OptExpr : Spot → Spot → Option Expr → Type 0 where
    none : {s : Spot} → OptExpr s s None
    some : {s t : Spot} {a : Expr} → Exp tok fits 6 s t a → OptExpr s (back t s.level) (Some a)

  -- [simple]
  pub data OptSimple : Spot → Spot → Option Simple → Type 0 where
    none : {s : Spot} → OptSimple s s None
    some : {s t : Spot} {a : Simple} → SimpleStmt s t a → OptSimple s t (Some a)

  -- what stands before the first `;` of a `for`, with the `;`: decl | [simple] ';' (C11 6.8.5.3)
  pub data ForHead : Spot → Spot → Head → Type 0 where
    decl : {s t : Spot} {d : Decl} → Declaration s t d → ForHead s t (a_head.Decl d)
    simple : {s t : Spot} {a : Option Simple} → OptSimple s t a → Is tok fits punct.Semicolon t → ForHead s (passed t) (a_head.Simple a)

  mutual
    -- stmt (C11 6.8), and whether it ends in an `if` without `else`: an `else` behind it would belong to that `if` (C11 6.8.4.1)
    pub data Statement : Bool → Spot → Spot → Stmt → Type 0 where
      -- ';' (C11 6.8.3)
      empty : {s : Spot} → Is tok fits punct.Semicolon s → Statement false s (passed s) a_stmt.Empty
      block : {s t : Spot} {l : List Part} → Block s t l → Statement false s t (a_stmt.Block l)
      -- 'if' '(' expr ')' stmt ['else' stmt] (C11 6.8.4.1)
      if_alone : {s t u : Spot} {e : Expr} {b : Bool} {a : Stmt} → IsKey tok fits keyword.If s → Bracketed tok fits (opened s) t e →
          Statement b t u a → Statement true s (back u s.level) (a_stmt.If s.at e a)
      if_else : {s t u v : Spot} {e : Expr} {b : Bool} {a c : Stmt} → IsKey tok fits keyword.If s → Bracketed tok fits (opened s) t e →
          Statement false t u a → IsKey tok fits keyword.Else u → Statement b (opened u) v c → Statement b s (back v s.level) (a_stmt.IfElse s.at e a c)
      -- 'while' '(' expr ')' stmt (C11 6.8.5.1)
      while : {s t u : Spot} {e : Expr} {b : Bool} {a : Stmt} → IsKey tok fits keyword.While s → Bracketed tok fits (opened s) t e →
          Statement b t u a → Statement b s (back u s.level) (a_stmt.While s.at e a)
      -- 'do' stmt 'while' '(' expr ')' ';' (C11 6.8.5.2); its `while` is open nowhere
      do_while : {s t u : Spot} {e : Expr} {b : Bool} {a : Stmt} → IsKey tok fits keyword.Do s → Statement b (opened s) t a →
          IsKey tok fits keyword.While t → Bracketed tok fits (passed t) u e → Is tok fits punct.Semicolon u → Statement false s (closed u s.level) (a_stmt.Do s.at a e)
      -- 'for' '(' (decl | [simple] ';') [expr] ';' [simple] ')' stmt (C11 6.8.5.3)
      for : {s t u v w : Spot} {h : Head} {c : Option Expr} {p : Option Simple} {b : Bool} {a : Stmt} →
          IsKey tok fits keyword.For s → Is tok fits punct.Open (opened s) → ForHead (opened (opened s)) t h → OptExpr t u c →
          Is tok fits punct.Semicolon u → OptSimple (passed u) v p → Is tok fits punct.Close (back v (suc s.level)) →
          Statement b (closed v (suc s.level)) w a → Statement b s (back w s.level) (a_stmt.For s.at h c p a)
      -- 'return' [expr] ';' | 'break' ';' | 'continue' ';' (C11 6.8.6)
      return : {s t : Spot} {a : Option Expr} → IsKey tok fits keyword.Return s → OptExpr (passed s) t a → Is tok fits punct.Semicolon t →
          Statement false s (passed t) (a_stmt.Return s.at a)
      break : {s : Spot} → IsKey tok fits keyword.Break s → Is tok fits punct.Semicolon (passed s) → Statement false s (passed (passed s)) (a_stmt.Break s.at)
      continue : {s : Spot} → IsKey tok fits keyword.Continue s → Is tok fits punct.Semicolon (passed s) → Statement false s (passed (passed s)) (a_stmt.Continue s.at)
      -- simple ';'
      simple : {s t : Spot} {a : Simple} → SimpleStmt s t a → Is tok fits punct.Semicolon t → Statement false s (passed t) (a_stmt.Simple a)

    -- block: '{' (decl | stmt)* '}' (C11 6.8.2)
    pub data Block : Spot → Spot → List Part → Type 0 where
      braces : {s t : Spot} {l : List Part} → Is tok fits punct.OpenBrace s → Parts (opened s) t l →
          Is tok fits punct.CloseBrace (back t s.level) → Block s (closed t s.level) l

    -- (decl | stmt)*; NAME NAME and NAME `*` can only begin a declaration
    pub data Parts : Spot → Spot → List Part → Type 0 where
      none : {s : Spot} → Parts s s []
      decl : {s t u : Spot} {l : List Part} {d : Decl} → Parts s t l → Declaration t u d → Parts s u (l ++ a_part.Decl d ∷ [])
      stmt : {s t u : Spot} {l : List Part} {b : Bool} {a : Stmt} → Parts s t l → Statement b t u a → Parts s u (l ++ a_part.Stmt a ∷ [])
