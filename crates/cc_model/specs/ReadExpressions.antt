-- How tokens read as an expression: one case for each alternative of the grammar (C11 6.5.1 to 6.5.14).
-- An operator token stays open up to the end of the whole expression within its nearest brackets, a bracket up to its closing one (this project's own).
use Rattle.std.specs.Prelude.{◌≡◌, ℕ, suc, Bool, ℤ, List, [], ◌∷◌, ◌++◌, Option, Some, None}
use Rattle.cc_model.specs.declared.tokens.Kind.{Kind}
use Rattle.cc_model.specs.declared.tokens.Kind.TheVariants as kind
use Rattle.cc_model.specs.declared.tokens.Punct.{Punct}
use Rattle.cc_model.specs.declared.tokens.Punct.TheVariants as punct
use Rattle.cc_model.specs.declared.tokens.Keyword.TheVariants as keyword
use Rattle.cc_model.specs.declared.trees.Base.{Base}
use Rattle.cc_model.specs.declared.trees.TypeName.{TypeName}
use Rattle.cc_model.specs.declared.trees.Expr.{Expr, out-Expr, roll-Expr}
use Rattle.cc_model.specs.declared.trees.Expr.TheOpen.{Expr-F}
use Rattle.cc_model.specs.declared.trees.Expr.TheOpen as shape
use Rattle.cc_model.specs.declared.trees.Expr.TheVariants as tree
use Rattle.cc_model.specs.Spots.{Spot, opened, passed, back, closed, Next, Is, IsKey, IsName}
use Rattle.cc_model.specs.ReadTypes.{BaseType, Stars, Typed}

-- the tree of an operator with two operands, from its first token and the operator's token
abbrev pub Binary : Type 0
Binary = ℕ → ℕ → Expr → Expr → Expr

abbrev pub Prefix : Type 0
Prefix = ℕ → ℕ → Expr → Expr

-- the same with the field's name
abbrev pub FieldOf : Type 0
FieldOf = ℕ → ℕ → Expr → ℕ → Expr

-- a binary operator: its rank, 1 for the one that binds tightest, and its tree (C11 6.5.5, 6.5.6, 6.5.8, 6.5.9, 6.5.13, 6.5.14)
abbrev pub binary_sign : Punct → Option (ℕ × Binary)
binary_sign punct.Star = Some (1, tree.Product)
binary_sign punct.Slash = Some (1, tree.Quotient)
binary_sign punct.Percent = Some (1, tree.Remainder)
binary_sign punct.Plus = Some (2, tree.Sum)
binary_sign punct.Dash = Some (2, tree.Difference)
binary_sign punct.Less = Some (3, tree.Less)
binary_sign punct.Greater = Some (3, tree.Greater)
binary_sign punct.AtMost = Some (3, tree.AtMost)
binary_sign punct.AtLeast = Some (3, tree.AtLeast)
binary_sign punct.Equal = Some (4, tree.Equal)
binary_sign punct.Unequal = Some (4, tree.Unequal)
binary_sign punct.Both = Some (5, tree.And)
binary_sign punct.Either = Some (6, tree.Or)
binary_sign _ = None

-- a prefix operator (C11 6.5.3.2, 6.5.3.3)
abbrev pub prefix_sign : Punct → Option Prefix
prefix_sign punct.Dash = Some tree.Minus
prefix_sign punct.Bang = Some tree.Not
prefix_sign punct.Star = Some tree.Deref
prefix_sign punct.Ampersand = Some tree.Address
prefix_sign _ = None

-- the sign before a field's name (C11 6.5.2.3)
abbrev pub field_sign : Punct → Option FieldOf
field_sign punct.Dot = Some tree.Dot
field_sign punct.Arrow = Some tree.Arrow
field_sign _ = None

-- a node with another first token
abbrev pub first_of_shape : ℕ → Expr-F Expr → Expr-F Expr
first_of_shape f (shape.Or _ o a b) = shape.Or f o a b
first_of_shape f (shape.And _ o a b) = shape.And f o a b
first_of_shape f (shape.Equal _ o a b) = shape.Equal f o a b
first_of_shape f (shape.Unequal _ o a b) = shape.Unequal f o a b
first_of_shape f (shape.Less _ o a b) = shape.Less f o a b
first_of_shape f (shape.Greater _ o a b) = shape.Greater f o a b
first_of_shape f (shape.AtMost _ o a b) = shape.AtMost f o a b
first_of_shape f (shape.AtLeast _ o a b) = shape.AtLeast f o a b
first_of_shape f (shape.Sum _ o a b) = shape.Sum f o a b
first_of_shape f (shape.Difference _ o a b) = shape.Difference f o a b
first_of_shape f (shape.Product _ o a b) = shape.Product f o a b
first_of_shape f (shape.Quotient _ o a b) = shape.Quotient f o a b
first_of_shape f (shape.Remainder _ o a b) = shape.Remainder f o a b
first_of_shape f (shape.Minus _ o a) = shape.Minus f o a
first_of_shape f (shape.Not _ o a) = shape.Not f o a
first_of_shape f (shape.Deref _ o a) = shape.Deref f o a
first_of_shape f (shape.Address _ o a) = shape.Address f o a
first_of_shape f (shape.Dot _ o a n) = shape.Dot f o a n
first_of_shape f (shape.Arrow _ o a n) = shape.Arrow f o a n
first_of_shape f (shape.Index _ o a b) = shape.Index f o a b
first_of_shape f (shape.Name _ o) = shape.Name f o
first_of_shape f (shape.Number _ o z) = shape.Number f o z
first_of_shape f (shape.Null _ o) = shape.Null f o
first_of_shape f (shape.Call _ o l) = shape.Call f o l
first_of_shape f (shape.Malloc _ o c n) = shape.Malloc f o c n

-- a tree with another first token: an expression in parentheses begins with the outermost `(` of these
unfoldable pub with_first : ℕ → Expr → Expr
with_first f e = roll-Expr (first_of_shape f (out-Expr e))

module _ (tok : ℕ → Option Kind) (fits : ℕ → ℕ → Bool) where
  -- 'malloc' '(' 'sizeof' '(' type '*'* ')' ')' (C11 7.22.3.4, 6.5.3.4)
  pub data Allocation : Spot → Spot → TypeName → Type 0 where
    malloc : {s t : Spot} {ty : TypeName} → IsKey tok fits keyword.Malloc s → Is tok fits punct.Open (passed s) →
        IsKey tok fits keyword.Sizeof (opened (passed s)) → Is tok fits punct.Open (passed (opened (passed s))) →
        Typed tok fits (opened (passed (opened (passed s)))) t ty →
        Is tok fits punct.Close (back t (suc s.level)) → Is tok fits punct.Close (closed t s.level) → Allocation s (closed (closed t s.level) s.level) ty

  mutual
    -- the expressions by rank: 6 is expr, 5 and, 4 eq, 3 rel, 2 add, 1 mul, 0 unary
    pub data Exp : ℕ → Spot → Spot → Expr → Type 0 where
      one : {l : ℕ} {s t : Spot} {a : Expr} → Exp l s t a → Exp (suc l) s t a
      -- the operators of one rank group from the left (C11 6.5.5 to 6.5.14)
      binary : {l : ℕ} {s t u : Spot} {a b : Expr} (p : Punct) (make : Binary) →
          Exp (suc l) s t a → binary_sign p ≡ Some (suc l, make) → Is tok fits p t → Exp l (opened t) u b → Exp (suc l) s u (make s.at t.at a b)
      -- ('-' | '!' | '*' | '&') unary (C11 6.5.3)
      prefix : {s t : Spot} {a : Expr} (p : Punct) (make : Prefix) →
          prefix_sign p ≡ Some make → Is tok fits p s → Exp 0 (opened s) t a → Exp 0 s t (make s.at s.at a)
      plain : {s t : Spot} {a : Expr} → Postfix s t a → Exp 0 s t a

    -- a primary expression (C11 6.5.1), and what may stand behind it (C11 6.5.2)
    pub data Postfix : Spot → Spot → Expr → Type 0 where
      -- NAME | NUMBER | 'NULL' | '(' expr ')'
      name : {s : Spot} → IsName tok fits s → Postfix s (passed s) (tree.Name s.at s.at)
      number : {s : Spot} (z : ℤ) → Next tok fits (kind.Number z) s → Postfix s (passed s) (tree.Number s.at s.at z)
      null : {s : Spot} → IsKey tok fits keyword.Null s → Postfix s (passed s) (tree.Null s.at s.at)
      paren : {s t : Spot} {a : Expr} → Bracketed s t a → Postfix s t (with_first s.at a)
      -- NAME '(' [expr,+] ')' (C11 6.5.2.2)
      call : {s t : Spot} {l : List Expr} → IsName tok fits s → Arguments (passed s) t l → Postfix s t (tree.Call s.at s.at l)
      -- 'malloc' .., and ['(' type '*' '*'* ')'] 'malloc' .. (C11 6.5.4)
      malloc : {s t : Spot} {ty : TypeName} → Allocation s t ty → Postfix s t (tree.Malloc s.at s.at None ty)
      cast : {s t u v : Spot} {b : Base} {n : ℕ} {ty : TypeName} → Is tok fits punct.Open s → BaseType tok fits (opened s) t b →
          Is tok fits punct.Star t → Stars tok fits (opened t) u n → Is tok fits punct.Close (back u s.level) → Allocation (closed u s.level) v ty →
          Postfix s v (tree.Malloc s.at (suc u.at) (Some (record { base = b; stars = suc n })) ty)
      -- '.' NAME | '->' NAME (C11 6.5.2.3)
      field : {s t : Spot} {a : Expr} (p : Punct) (make : FieldOf) → Postfix s t a →
          field_sign p ≡ Some make → Is tok fits p t → IsName tok fits (opened t) → Postfix s (passed (opened t)) (make s.at t.at a (suc t.at))
      -- '[' expr ']' (C11 6.5.2.1); the `[` is an operator that stays open behind its `]`
      index : {s t u : Spot} {a i : Expr} → Postfix s t a → Is tok fits punct.OpenSquare t → Exp 6 (opened t) u i →
          Is tok fits punct.CloseSquare (back u (suc t.level)) → Postfix s (closed u (suc t.level)) (tree.Index s.at t.at a i)

    -- '(' expr ')', also of statements: what was open in it is open no more at the `)`
    pub data Bracketed : Spot → Spot → Expr → Type 0 where
      bracketed : {s t : Spot} {a : Expr} → Is tok fits punct.Open s → Exp 6 (opened s) t a →
          Is tok fits punct.Close (back t s.level) → Bracketed s (closed t s.level) a

    -- '(' [expr,+] ')' of a call: the `(` is an operator that stays open behind its `)`
    pub data Arguments : Spot → Spot → List Expr → Type 0 where
      arguments : {s t : Spot} {l : List Expr} → Is tok fits punct.Open s → Args (opened s) t l →
          Is tok fits punct.Close (back t (suc s.level)) → Arguments s (closed t (suc s.level)) l

    pub data Args : Spot → Spot → List Expr → Type 0 where
      empty : {s : Spot} → Args s s []
      some : {s t : Spot} {l : List Expr} → SomeArgs s t l → Args s t l

    -- each argument begins with the tokens open that are open at the first one
    pub data SomeArgs : Spot → Spot → List Expr → Type 0 where
      first : {s t : Spot} {a : Expr} → Exp 6 s t a → SomeArgs s t (a ∷ [])
      next : {s t u : Spot} {l : List Expr} {a : Expr} → SomeArgs s t l → Is tok fits punct.Comma (back t s.level) →
          Exp 6 (closed t s.level) u a → SomeArgs s u (l ++ a ∷ [])
