-- Recursive descent over the tokens: what each rule of the grammar gives, or the first fault.
use Rattle.std.specs.Prelude.{◌≡◌, ℕ, zero, suc, ◌≤◌, Bool, true, false, ℤ, List, [], ◌∷◌, ◌++◌, Option, Some, None, nat_eq, if◌then◌else◌}
use Rattle.cc_model.specs.declared.tokens.Kind.{Kind}
use Rattle.cc_model.specs.declared.tokens.Kind.TheVariants as kind
use Rattle.cc_model.specs.declared.tokens.Punct.{Punct}
use Rattle.cc_model.specs.declared.tokens.Punct.TheVariants as punct
use Rattle.cc_model.specs.declared.tokens.Keyword.{Keyword}
use Rattle.cc_model.specs.declared.tokens.Keyword.TheVariants as keyword
use Rattle.cc_model.specs.declared.trees.Base.{Base}
use Rattle.cc_model.specs.declared.trees.Base.TheVariants as base
use Rattle.cc_model.specs.declared.trees.TypeName.{TypeName}
use Rattle.cc_model.specs.declared.trees.Expr.{Expr}
use Rattle.cc_model.specs.declared.trees.Expr.TheVariants as tree
use Rattle.cc_model.specs.Spots.{Spot, opened, passed, back}
use Rattle.cc_model.specs.ReadExpressions.{Binary, Prefix, FieldOf, binary_sign, prefix_sign, field_sign, with_first}

-- bad: no rule takes the token there; deep: its level does not fit
pub data Fault : Type 0 where
  bad : (at : ℕ) → Fault
  deep : (at : ℕ) → Fault

-- what a piece of the descent gives: a value and where it ends, a fault, or no answer from so little fuel
pub data Got (A : Type 0) : Type 0 where
  got : (a : A) → (s : Spot) → Got A
  failed : (f : Fault) → Got A
  spent : Got A

abbrev pub P : Type 0 → Type 0
P A = Spot → Got A

infixr 20 ◌>>=◌
infixr 20 ◌>>◌
unfoldable pub go_on : {A B : Type 0} → Got A → (A → P B) → Got B
go_on (got a s) f = f a s
go_on (failed e) f = failed e
go_on spent f = spent

unfoldable pub ◌>>=◌ : {A B : Type 0} → P A → (A → P B) → P B
◌>>=◌ m f = λ s. go_on (m s) f

unfoldable pub ◌>>◌ : {A B : Type 0} → P A → P B → P B
◌>>◌ m k = m >>= λ _. k

unfoldable pub pure : {A : Type 0} → A → P A
pure a = λ s. got a s

-- the same, where all but the first n open tokens are open no more
unfoldable pub leave : {A : Type 0} → ℕ → A → P A
leave n a = λ s. got a (back s n)

unfoldable pub out : {A : Type 0} → P A
out = λ s. spent

unfoldable pub wrong : {A : Type 0} → P A
wrong = λ s. failed (bad s.at)

-- what f gives from enough fuel on
abbrev pub Ends : {A : Type 0} → (ℕ → P A) → Spot → Got A → Type 0
Ends f s r = (n : ℕ) × ((m : ℕ) → n ≤ m → f m s ≡ r)

-- numbers that tell signs apart
abbrev pub code : Punct → ℕ
code punct.OpenBrace = 0
code punct.CloseBrace = 1
code punct.Open = 2
code punct.Close = 3
code punct.OpenSquare = 4
code punct.CloseSquare = 5
code punct.Semicolon = 6
code punct.Comma = 7
code punct.Dot = 8
code punct.Arrow = 9
code punct.Star = 10
code punct.Ampersand = 11
code punct.Bang = 12
code punct.Plus = 13
code punct.Dash = 14
code punct.Slash = 15
code punct.Percent = 16
code punct.Less = 17
code punct.Greater = 18
code punct.AtMost = 19
code punct.AtLeast = 20
code punct.Equal = 21
code punct.Unequal = 22
code punct.Both = 23
code punct.Either = 24
code punct.Assign = 25
code punct.AddTo = 26
code punct.SubFrom = 27
code punct.MulBy = 28
code punct.DivBy = 29
code punct.RemBy = 30
code punct.Increase = 31
code punct.Decrease = 32

-- numbers that tell words apart
abbrev pub key_code : Keyword → ℕ
key_code keyword.Int = 0
key_code keyword.Struct = 1
key_code keyword.Typedef = 2
key_code keyword.Void = 3
key_code keyword.If = 4
key_code keyword.Else = 5
key_code keyword.While = 6
key_code keyword.Do = 7
key_code keyword.For = 8
key_code keyword.Return = 9
key_code keyword.Break = 10
key_code keyword.Continue = 11
key_code keyword.Sizeof = 12
key_code keyword.Null = 13
key_code keyword.Malloc = 14
key_code keyword.Assert = 15
key_code keyword.Assume = 16
key_code keyword.Abort = 17
key_code keyword.CrestInt = 18
key_code keyword.Auto = 19
key_code keyword.Case = 20
key_code keyword.Char = 21
key_code keyword.Const = 22
key_code keyword.Default = 23
key_code keyword.Double = 24
key_code keyword.Enum = 25
key_code keyword.Extern = 26
key_code keyword.Float = 27
key_code keyword.Goto = 28
key_code keyword.Inline = 29
key_code keyword.Long = 30
key_code keyword.Register = 31
key_code keyword.Restrict = 32
key_code keyword.Short = 33
key_code keyword.Signed = 34
key_code keyword.Static = 35
key_code keyword.Switch = 36
key_code keyword.Union = 37
key_code keyword.Unsigned = 38
key_code keyword.Volatile = 39
key_code keyword.Alignas = 40
key_code keyword.Alignof = 41
key_code keyword.Atomic = 42
key_code keyword.Bool = 43
key_code keyword.Complex = 44
key_code keyword.Generic = 45
key_code keyword.Imaginary = 46
key_code keyword.Noreturn = 47
key_code keyword.StaticAssert = 48
key_code keyword.ThreadLocal = 49

-- whether a token is the sign
unfoldable pub is_sign : Punct → Option Kind → Bool
is_sign p (Some (kind.Punct q)) = nat_eq (code p) (code q)
is_sign p _ = false

-- whether a token is the word
unfoldable pub is_key : Keyword → Option Kind → Bool
is_key p (Some (kind.Key q)) = nat_eq (key_code p) (key_code q)
is_key p _ = false

unfoldable pub is_name : Option Kind → Bool
is_name (Some kind.Name) = true
is_name _ = false

-- a binary operator of this rank
unfoldable pub of_rank : ℕ → Option (ℕ × Binary) → Option Binary
of_rank l (Some (n, make)) = if nat_eq n l then Some make else None
of_rank l None = None

unfoldable pub binary_at : ℕ → Option Kind → Option Binary
binary_at l (Some (kind.Punct p)) = of_rank l (binary_sign p)
binary_at l _ = None

unfoldable pub prefix_at : Option Kind → Option Prefix
prefix_at (Some (kind.Punct p)) = prefix_sign p
prefix_at _ = None

unfoldable pub field_at : Option Kind → Option FieldOf
field_at (Some (kind.Punct p)) = field_sign p
field_at _ = None

-- what begins a type
pub data BaseStart : Type 0 where
  an_int : BaseStart
  a_struct : BaseStart
  an_alias : BaseStart
  no_base : BaseStart

unfoldable pub base_at : Option Kind → BaseStart
base_at (Some (kind.Key keyword.Int)) = an_int
base_at (Some (kind.Key keyword.Struct)) = a_struct
base_at (Some kind.Name) = an_alias
base_at _ = no_base

-- what begins a primary expression
pub data Start : Type 0 where
  a_name : Start
  a_number : (z : ℤ) → Start
  a_null : Start
  a_malloc : Start
  a_paren : Start
  no_start : Start

unfoldable pub start_at : Option Kind → Start
start_at (Some kind.Name) = a_name
start_at (Some (kind.Number z)) = a_number z
start_at (Some (kind.Key keyword.Null)) = a_null
start_at (Some (kind.Key keyword.Malloc)) = a_malloc
start_at (Some (kind.Punct punct.Open)) = a_paren
start_at _ = no_start

unfoldable pub on_some : {A B : Type 0} → Option A → (A → B) → B → B
on_some (Some a) f b = f a
on_some None f b = b

module _ (tok : ℕ → Option Kind) (fits : ℕ → ℕ → Bool) where
  -- takes the next token, which goes on at next
  unfoldable pub take : (Spot → Spot) → P (Unit {0})
  take next = λ s. if fits s.at s.level then got tt (next s) else failed (deep s.at)

  unfoldable pub expect : Punct → (Spot → Spot) → P (Unit {0})
  expect p next = λ s. if is_sign p (tok s.at) then take next s else failed (bad s.at)

  unfoldable pub expect_key : Keyword → P (Unit {0})
  expect_key k = λ s. if is_key k (tok s.at) then take passed s else failed (bad s.at)

  unfoldable pub expect_name : P (Unit {0})
  expect_name = λ s. if is_name (tok s.at) then take passed s else failed (bad s.at)

  -- a closing bracket, a comma or a `;`, where n tokens are open
  unfoldable pub close : Punct → ℕ → P (Unit {0})
  close p n = λ s. expect p passed (back s n)

  -- ---- types

  unfoldable pub base_from : BaseStart → P Base
  base_from an_int = take passed >> pure base.Int
  base_from a_struct = λ s. (take passed >> expect_name >> pure (base.Struct (suc s.at))) s
  base_from an_alias = λ s. (take passed >> pure (base.Alias s.at)) s
  base_from no_base = wrong

  unfoldable pub base_type : P Base
  base_type = λ s. base_from (base_at (tok s.at)) s

  unfoldable pub stars : ℕ → P ℕ
  stars zero = out
  stars (suc n) = λ s. if is_sign punct.Star (tok s.at) then (do
    take opened
    k ← stars n
    leave s.level (suc k)) s else got 0 s

  unfoldable pub type_name : ℕ → P TypeName
  type_name n = do
    b ← base_type
    k ← stars n
    pure (record { base = b; stars = k })

  -- a word, then f in parentheses
  unfoldable pub worded : {A : Type 0} → Keyword → P A → P A
  worded k f = λ s. (do
    expect_key k
    expect punct.Open opened
    a ← f
    close punct.Close s.level
    pure a) s

  -- ---- malloc

  unfoldable pub sized : ℕ → P TypeName
  sized n = worded keyword.Sizeof (type_name n)

  unfoldable pub allocation : ℕ → P TypeName
  allocation n = worded keyword.Malloc (sized n)

  -- the expression that begins at first, with the type of its cast
  unfoldable pub allocated : ℕ → ℕ → Option TypeName → P Expr
  allocated n first cast = λ s. (do
    ty ← allocation n
    pure (tree.Malloc first s.at cast ty)) s

  -- the parentheses of a cast
  unfoldable pub cast_type : ℕ → P TypeName
  cast_type n = λ s. (do
    expect punct.Open opened
    b ← base_type
    expect punct.Star opened
    k ← stars n
    close punct.Close s.level
    pure (record { base = b; stars = suc k })) s

  unfoldable pub cast : ℕ → P Expr
  cast n = λ s. (do
    ty ← cast_type n
    allocated n s.at (Some ty)) s

  -- whether a `)` stands behind the stars from i on; nothing is taken
  unfoldable pub closes : ℕ → ℕ → P Bool
  closes zero i = out
  closes (suc n) i = λ s. if is_sign punct.Star (tok i) then closes n (suc i) s else got (is_sign punct.Close (tok i)) s

  unfoldable pub casts_from : ℕ → BaseStart → P Bool
  casts_from n an_int = pure true
  casts_from n a_struct = pure true
  casts_from n an_alias = λ s. if is_sign punct.Star (tok (suc (suc s.at))) then closes n (suc (suc s.at)) s else got false s
  casts_from n no_base = pure false

  -- whether the `(` there begins a cast; nothing is taken
  unfoldable pub casts : ℕ → P Bool
  casts n = λ s. casts_from n (base_at (tok (suc s.at))) s

  -- ---- expressions

  unfoldable mutual
    -- the expression of the rank: 6 is a whole one, 0 a unary one
    pub chain : ℕ → ℕ → P Expr
    chain zero l = out
    chain (suc n) zero = unary n
    chain (suc n) (suc l) = λ s. (do
      a ← chain n l
      tail n l s.at a) s

    -- goes on behind a, which begins at first
    pub tail : ℕ → ℕ → ℕ → Expr → P Expr
    tail zero l first a = out
    tail (suc n) l first a = λ s. on_some (binary_at (suc l) (tok s.at))
        (λ make. (do
          take opened
          b ← chain n l
          tail n l first (make first s.at a b)) s)
        (got a s)

    pub unary : ℕ → P Expr
    unary zero = out
    unary (suc n) = λ s. on_some (prefix_at (tok s.at))
        (λ make. (do
          take opened
          a ← unary n
          pure (make s.at s.at a)) s)
        (postfix n s)

    pub postfix : ℕ → P Expr
    postfix zero = out
    postfix (suc n) = λ s. (do
      a ← primary n
      more n s.at a) s

    -- fields and indices behind a, which begins at first
    pub more : ℕ → ℕ → Expr → P Expr
    more zero first a = out
    more (suc n) first a = λ s. on_some (field_at (tok s.at))
        (λ make. (do
          take opened
          expect_name
          more n first (make first s.at a (suc s.at))) s)
        (if is_sign punct.OpenSquare (tok s.at) then (do
          take opened
          i ← chain n 6
          close punct.CloseSquare (suc s.level)
          more n first (tree.Index first s.at a i)) s else got a s)

    pub primary : ℕ → P Expr
    primary zero = out
    primary (suc n) = λ s. primary_from n (start_at (tok s.at)) s

    pub primary_from : ℕ → Start → P Expr
    primary_from zero r = out
    primary_from (suc n) a_name = λ s. (take passed >> named n s.at) s
    primary_from (suc n) (a_number z) = λ s. (take passed >> pure (tree.Number s.at s.at z)) s
    primary_from (suc n) a_null = λ s. (take passed >> pure (tree.Null s.at s.at)) s
    primary_from (suc n) a_malloc = λ s. allocated n s.at None s
    primary_from (suc n) a_paren = parens n
    primary_from (suc n) no_start = wrong

    -- a cast, or an expression in parentheses
    pub parens : ℕ → P Expr
    parens zero = out
    parens (suc n) = λ s. (do
      c ← casts n
      if c then cast n else inside n) s

    pub inside : ℕ → P Expr
    inside zero = out
    inside (suc n) = λ s. (do
      a ← bracketed n
      pure (with_first s.at a)) s

    -- a name, or a call
    pub named : ℕ → ℕ → P Expr
    named zero first = out
    named (suc n) first = λ s. if is_sign punct.Open (tok s.at) then (do
      l ← arguments n
      pure (tree.Call first first l)) s else got (tree.Name first first) s

    -- '(' expr ')'
    pub bracketed : ℕ → P Expr
    bracketed zero = out
    bracketed (suc n) = λ s. (do
      expect punct.Open opened
      a ← chain n 6
      close punct.Close s.level
      pure a) s

    -- '(' [expr,+] ')' of a call
    pub arguments : ℕ → P (List Expr)
    arguments zero = out
    arguments (suc n) = λ s. (do
      expect punct.Open opened
      l ← args n
      close punct.Close (suc s.level)
      pure l) s

    pub args : ℕ → P (List Expr)
    args zero = out
    args (suc n) = λ s. if is_sign punct.Close (tok s.at) then got [] s else (do
      a ← chain n 6
      args_more n s.level (a ∷ [])) s

    -- the arguments behind l, each with `level` tokens open at its start
    pub args_more : ℕ → ℕ → List Expr → P (List Expr)
    args_more zero level l = out
    args_more (suc n) level l = λ s. if is_sign punct.Comma (tok s.at) then (do
      close punct.Comma level
      a ← chain n 6
      args_more n level (l ++ a ∷ [])) s else got l s
