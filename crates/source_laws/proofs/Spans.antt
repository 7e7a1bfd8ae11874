-- By the grammar, the tokens of an expression stand within its place, none twice.
use Rattle.std.proofs.Common.{◌≡◌, ℕ, suc, ◌≤◌, Bool, ℤ, List, [], ◌∷◌, ◌++◌, map, flat_map, Option, Some, None, refl, sym, ap, subst, ◌∙◌, arith}
use Rattle.cc_model.specs.declared.tokens.Kind.{Kind}
use Rattle.cc_model.specs.declared.tokens.Punct.{Punct}
use Rattle.cc_model.specs.declared.tokens.Punct.TheVariants as punct
use Rattle.cc_model.specs.declared.trees.Base.{Base}
use Rattle.cc_model.specs.declared.trees.TypeName.{TypeName}
use Rattle.cc_model.specs.declared.trees.Expr.{Expr, out-Expr, roll-Expr, map-Expr}
use Rattle.cc_model.specs.declared.trees.Expr.TheOpen.{Expr-F}
use Rattle.cc_model.specs.declared.trees.Expr.TheOpen as shape
use Rattle.cc_model.specs.declared.trees.Expr.TheVariants as tree
use Rattle.cc_model.specs.declared.trees.Expr.TheFolds.{fold_out-Expr, fold-roll-Expr}
use Rattle.cc_model.specs.Spots.{Spot}
use Rattle.cc_model.specs.ReadTypes as type
use Rattle.cc_model.specs.ReadExpressions as by
use Rattle.cc_model.specs.ReadExpressions.{Binary, Prefix, FieldOf, binary_sign, prefix_sign, field_sign, first_of_shape, with_first, Exp, Postfix, Bracketed, Arguments, Args, SomeArgs, Allocation}
use Rattle.cc_model.specs.CheckedProgram.{token_level, tokens_in}
use Rattle.source_laws.proofs.Counting.{times_append, Spans, spans_none, spans_one, spans_wider, spans_same, spans_both, spans_between, spans_last, spans_alone}

-- ---- the tokens of trees

-- the tokens of a node, over those of its parts
abbrev of_shape : Expr-F Expr → List ℕ
of_shape x = token_level (map-Expr Expr (List ℕ) tokens_in x)

of_roll : (x : Expr-F Expr) → tokens_in (roll-Expr x) ≡ of_shape x
of_roll x = fold-roll-Expr (List ℕ) token_level x

tokens_Or : (f t : ℕ) (a b : Expr) → tokens_in (tree.Or f t a b) ≡ t ∷ (tokens_in a ++ tokens_in b)
tokens_Or f t a b = ap tokens_in (sym (tree.rolls-Or f t a b)) ∙ of_roll (shape.Or f t a b)

tokens_And : (f t : ℕ) (a b : Expr) → tokens_in (tree.And f t a b) ≡ t ∷ (tokens_in a ++ tokens_in b)
tokens_And f t a b = ap tokens_in (sym (tree.rolls-And f t a b)) ∙ of_roll (shape.And f t a b)

tokens_Equal : (f t : ℕ) (a b : Expr) → tokens_in (tree.Equal f t a b) ≡ t ∷ (tokens_in a ++ tokens_in b)
tokens_Equal f t a b = ap tokens_in (sym (tree.rolls-Equal f t a b)) ∙ of_roll (shape.Equal f t a b)

tokens_Unequal : (f t : ℕ) (a b : Expr) → tokens_in (tree.Unequal f t a b) ≡ t ∷ (tokens_in a ++ tokens_in b)
tokens_Unequal f t a b = ap tokens_in (sym (tree.rolls-Unequal f t a b)) ∙ of_roll (shape.Unequal f t a b)

tokens_Less : (f t : ℕ) (a b : Expr) → tokens_in (tree.Less f t a b) ≡ t ∷ (tokens_in a ++ tokens_in b)
tokens_Less f t a b = ap tokens_in (sym (tree.rolls-Less f t a b)) ∙ of_roll (shape.Less f t a b)

tokens_Greater : (f t : ℕ) (a b : Expr) → tokens_in (tree.Greater f t a b) ≡ t ∷ (tokens_in a ++ tokens_in b)
tokens_Greater f t a b = ap tokens_in (sym (tree.rolls-Greater f t a b)) ∙ of_roll (shape.Greater f t a b)

tokens_AtMost : (f t : ℕ) (a b : Expr) → tokens_in (tree.AtMost f t a b) ≡ t ∷ (tokens_in a ++ tokens_in b)
tokens_AtMost f t a b = ap tokens_in (sym (tree.rolls-AtMost f t a b)) ∙ of_roll (shape.AtMost f t a b)

tokens_AtLeast : (f t : ℕ) (a b : Expr) → tokens_in (tree.AtLeast f t a b) ≡ t ∷ (tokens_in a ++ tokens_in b)
tokens_AtLeast f t a b = ap tokens_in (sym (tree.rolls-AtLeast f t a b)) ∙ of_roll (shape.AtLeast f t a b)

tokens_Sum : (f t : ℕ) (a b : Expr) → tokens_in (tree.Sum f t a b) ≡ t ∷ (tokens_in a ++ tokens_in b)
tokens_Sum f t a b = ap tokens_in (sym (tree.rolls-Sum f t a b)) ∙ of_roll (shape.Sum f t a b)

tokens_Difference : (f t : ℕ) (a b : Expr) → tokens_in (tree.Difference f t a b) ≡ t ∷ (tokens_in a ++ tokens_in b)
tokens_Difference f t a b = ap tokens_in (sym (tree.rolls-Difference f t a b)) ∙ of_roll (shape.Difference f t a b)

tokens_Product : (f t : ℕ) (a b : Expr) → tokens_in (tree.Product f t a b) ≡ t ∷ (tokens_in a ++ tokens_in b)
tokens_Product f t a b = ap tokens_in (sym (tree.rolls-Product f t a b)) ∙ of_roll (shape.Product f t a b)

tokens_Quotient : (f t : ℕ) (a b : Expr) → tokens_in (tree.Quotient f t a b) ≡ t ∷ (tokens_in a ++ tokens_in b)
tokens_Quotient f t a b = ap tokens_in (sym (tree.rolls-Quotient f t a b)) ∙ of_roll (shape.Quotient f t a b)

tokens_Remainder : (f t : ℕ) (a b : Expr) → tokens_in (tree.Remainder f t a b) ≡ t ∷ (tokens_in a ++ tokens_in b)
tokens_Remainder f t a b = ap tokens_in (sym (tree.rolls-Remainder f t a b)) ∙ of_roll (shape.Remainder f t a b)

tokens_Index : (f t : ℕ) (a b : Expr) → tokens_in (tree.Index f t a b) ≡ t ∷ (tokens_in a ++ tokens_in b)
tokens_Index f t a b = ap tokens_in (sym (tree.rolls-Index f t a b)) ∙ of_roll (shape.Index f t a b)

tokens_Minus : (f t : ℕ) (a : Expr) → tokens_in (tree.Minus f t a) ≡ t ∷ tokens_in a
tokens_Minus f t a = ap tokens_in (sym (tree.rolls-Minus f t a)) ∙ of_roll (shape.Minus f t a)

tokens_Not : (f t : ℕ) (a : Expr) → tokens_in (tree.Not f t a) ≡ t ∷ tokens_in a
tokens_Not f t a = ap tokens_in (sym (tree.rolls-Not f t a)) ∙ of_roll (shape.Not f t a)

tokens_Deref : (f t : ℕ) (a : Expr) → tokens_in (tree.Deref f t a) ≡ t ∷ tokens_in a
tokens_Deref f t a = ap tokens_in (sym (tree.rolls-Deref f t a)) ∙ of_roll (shape.Deref f t a)

tokens_Address : (f t : ℕ) (a : Expr) → tokens_in (tree.Address f t a) ≡ t ∷ tokens_in a
tokens_Address f t a = ap tokens_in (sym (tree.rolls-Address f t a)) ∙ of_roll (shape.Address f t a)

tokens_Dot : (f t : ℕ) (a : Expr) (n : ℕ) → tokens_in (tree.Dot f t a n) ≡ t ∷ tokens_in a
tokens_Dot f t a n = ap tokens_in (sym (tree.rolls-Dot f t a n)) ∙ of_roll (shape.Dot f t a n)

tokens_Arrow : (f t : ℕ) (a : Expr) (n : ℕ) → tokens_in (tree.Arrow f t a n) ≡ t ∷ tokens_in a
tokens_Arrow f t a n = ap tokens_in (sym (tree.rolls-Arrow f t a n)) ∙ of_roll (shape.Arrow f t a n)

tokens_Name : (f t : ℕ) → tokens_in (tree.Name f t) ≡ t ∷ []
tokens_Name f t = ap tokens_in (sym (tree.rolls-Name f t)) ∙ of_roll (shape.Name f t)

tokens_Number : (f t : ℕ) (z : ℤ) → tokens_in (tree.Number f t z) ≡ t ∷ []
tokens_Number f t z = ap tokens_in (sym (tree.rolls-Number f t z)) ∙ of_roll (shape.Number f t z)

tokens_Null : (f t : ℕ) → tokens_in (tree.Null f t) ≡ t ∷ []
tokens_Null f t = ap tokens_in (sym (tree.rolls-Null f t)) ∙ of_roll (shape.Null f t)

tokens_Malloc : (f t : ℕ) (c : Option TypeName) (m : TypeName) → tokens_in (tree.Malloc f t c m) ≡ t ∷ []
tokens_Malloc f t c m = ap tokens_in (sym (tree.rolls-Malloc f t c m)) ∙ of_roll (shape.Malloc f t c m)

flat_is : (l : List Expr) → flat_map (λ x. x) (map tokens_in l) ≡ flat_map tokens_in l
flat_is [] = refl
flat_is (e ∷ l) = ap (λ m. tokens_in e ++ m) (flat_is l)

tokens_Call : (f t : ℕ) (l : List Expr) → tokens_in (tree.Call f t l) ≡ t ∷ flat_map tokens_in l
tokens_Call f t l = ap tokens_in (sym (tree.rolls-Call f t l)) ∙ of_roll (shape.Call f t l) ∙ ap (λ m. t ∷ m) (flat_is l)

-- another first token is told by no token of the tree
first_same : (f : ℕ) (x : Expr-F Expr) → of_shape (first_of_shape f x) ≡ of_shape x
first_same f (shape.Or g t a b) = refl
first_same f (shape.And g t a b) = refl
first_same f (shape.Equal g t a b) = refl
first_same f (shape.Unequal g t a b) = refl
first_same f (shape.Less g t a b) = refl
first_same f (shape.Greater g t a b) = refl
first_same f (shape.AtMost g t a b) = refl
first_same f (shape.AtLeast g t a b) = refl
first_same f (shape.Sum g t a b) = refl
first_same f (shape.Difference g t a b) = refl
first_same f (shape.Product g t a b) = refl
first_same f (shape.Quotient g t a b) = refl
first_same f (shape.Remainder g t a b) = refl
first_same f (shape.Index g t a b) = refl
first_same f (shape.Minus g t a) = refl
first_same f (shape.Not g t a) = refl
first_same f (shape.Deref g t a) = refl
first_same f (shape.Address g t a) = refl
first_same f (shape.Dot g t a n) = refl
first_same f (shape.Arrow g t a n) = refl
first_same f (shape.Name g t) = refl
first_same f (shape.Number g t z) = refl
first_same f (shape.Null g t) = refl
first_same f (shape.Call g t l) = refl
first_same f (shape.Malloc g t c m) = refl

tokens_first : (f : ℕ) (e : Expr) → tokens_in (with_first f e) ≡ tokens_in e
unfolding with_first
tokens_first f e = of_roll (first_of_shape f (out-Expr e)) ∙ first_same f (out-Expr e) ∙ sym (fold_out-Expr (List ℕ) token_level e)

abbrev IsBinary : Option (ℕ × Binary) → Type 0
IsBinary None = Unit {0}
IsBinary (Some m) = (f t : ℕ) (a b : Expr) → tokens_in (m.1 f t a b) ≡ t ∷ (tokens_in a ++ tokens_in b)

abbrev IsPrefix : Option Prefix → Type 0
IsPrefix None = Unit {0}
IsPrefix (Some m) = (f t : ℕ) (a : Expr) → tokens_in (m f t a) ≡ t ∷ tokens_in a

abbrev IsField : Option FieldOf → Type 0
IsField None = Unit {0}
IsField (Some m) = (f t : ℕ) (a : Expr) (n : ℕ) → tokens_in (m f t a n) ≡ t ∷ tokens_in a

binary_tokens : (p : Punct) → IsBinary (binary_sign p)
binary_tokens punct.OpenBrace = tt
binary_tokens punct.CloseBrace = tt
binary_tokens punct.Open = tt
binary_tokens punct.Close = tt
binary_tokens punct.OpenSquare = tt
binary_tokens punct.CloseSquare = tt
binary_tokens punct.Semicolon = tt
binary_tokens punct.Comma = tt
binary_tokens punct.Dot = tt
binary_tokens punct.Arrow = tt
binary_tokens punct.Star = tokens_Product
binary_tokens punct.Ampersand = tt
binary_tokens punct.Bang = tt
binary_tokens punct.Plus = tokens_Sum
binary_tokens punct.Dash = tokens_Difference
binary_tokens punct.Slash = tokens_Quotient
binary_tokens punct.Percent = tokens_Remainder
binary_tokens punct.Less = tokens_Less
binary_tokens punct.Greater = tokens_Greater
binary_tokens punct.AtMost = tokens_AtMost
binary_tokens punct.AtLeast = tokens_AtLeast
binary_tokens punct.Equal = tokens_Equal
binary_tokens punct.Unequal = tokens_Unequal
binary_tokens punct.Both = tokens_And
binary_tokens punct.Either = tokens_Or
binary_tokens punct.Assign = tt
binary_tokens punct.AddTo = tt
binary_tokens punct.SubFrom = tt
binary_tokens punct.MulBy = tt
binary_tokens punct.DivBy = tt
binary_tokens punct.RemBy = tt
binary_tokens punct.Increase = tt
binary_tokens punct.Decrease = tt

prefix_tokens : (p : Punct) → IsPrefix (prefix_sign p)
prefix_tokens punct.OpenBrace = tt
prefix_tokens punct.CloseBrace = tt
prefix_tokens punct.Open = tt
prefix_tokens punct.Close = tt
prefix_tokens punct.OpenSquare = tt
prefix_tokens punct.CloseSquare = tt
prefix_tokens punct.Semicolon = tt
prefix_tokens punct.Comma = tt
prefix_tokens punct.Dot = tt
prefix_tokens punct.Arrow = tt
prefix_tokens punct.Star = tokens_Deref
prefix_tokens punct.Ampersand = tokens_Address
prefix_tokens punct.Bang = tokens_Not
prefix_tokens punct.Plus = tt
prefix_tokens punct.Dash = tokens_Minus
prefix_tokens punct.Slash = tt
prefix_tokens punct.Percent = tt
prefix_tokens punct.Less = tt
prefix_tokens punct.Greater = tt
prefix_tokens punct.AtMost = tt
prefix_tokens punct.AtLeast = tt
prefix_tokens punct.Equal = tt
prefix_tokens punct.Unequal = tt
prefix_tokens punct.Both = tt
prefix_tokens punct.Either = tt
prefix_tokens punct.Assign = tt
prefix_tokens punct.AddTo = tt
prefix_tokens punct.SubFrom = tt
prefix_tokens punct.MulBy = tt
prefix_tokens punct.DivBy = tt
prefix_tokens punct.RemBy = tt
prefix_tokens punct.Increase = tt
prefix_tokens punct.Decrease = tt

field_tokens : (p : Punct) → IsField (field_sign p)
field_tokens punct.OpenBrace = tt
field_tokens punct.CloseBrace = tt
field_tokens punct.Open = tt
field_tokens punct.Close = tt
field_tokens punct.OpenSquare = tt
field_tokens punct.CloseSquare = tt
field_tokens punct.Semicolon = tt
field_tokens punct.Comma = tt
field_tokens punct.Dot = tokens_Dot
field_tokens punct.Arrow = tokens_Arrow
field_tokens punct.Star = tt
field_tokens punct.Ampersand = tt
field_tokens punct.Bang = tt
field_tokens punct.Plus = tt
field_tokens punct.Dash = tt
field_tokens punct.Slash = tt
field_tokens punct.Percent = tt
field_tokens punct.Less = tt
field_tokens punct.Greater = tt
field_tokens punct.AtMost = tt
field_tokens punct.AtLeast = tt
field_tokens punct.Equal = tt
field_tokens punct.Unequal = tt
field_tokens punct.Both = tt
field_tokens punct.Either = tt
field_tokens punct.Assign = tt
field_tokens punct.AddTo = tt
field_tokens punct.SubFrom = tt
field_tokens punct.MulBy = tt
field_tokens punct.DivBy = tt
field_tokens punct.RemBy = tt
field_tokens punct.Increase = tt
field_tokens punct.Decrease = tt

-- ---- by the grammar

module _ (tok : ℕ → Option Kind) (fits : ℕ → ℕ → Bool) where
  pub base_on : {s t : Spot} {b : Base} → type.BaseType tok fits s t b → suc s.at ≤ t.at
  base_on (type.int i) = omega arith
  base_on (type.struct i j) = omega arith
  base_on (type.alias i) = omega arith

  pub stars_on : {s t : Spot} {n : ℕ} → type.Stars tok fits s t n → s.at ≤ t.at
  stars_on type.none = omega arith
  stars_on (type.star i h) = let e = stars_on h in omega (arith, e)

  pub typed_on : {s t : Spot} {n : TypeName} → type.Typed tok fits s t n → suc s.at ≤ t.at
  typed_on (type.typed b n) = let e = base_on b in let f = stars_on n in omega (arith, e, f)

  pub made_on : {s t : Spot} {n : TypeName} → Allocation tok fits s t n → suc s.at ≤ t.at
  made_on (by.malloc a b c d h e f) = let g = typed_on h in omega (arith, g)

  -- a place behind another, and the tokens between
  abbrev pub Between : Spot → Spot → List ℕ → Type 0
  Between s t l = (s.at ≤ t.at) × Spans s.at t.at l

  mutual
    pub exp_spans : {n : ℕ} {s t : Spot} {a : Expr} → Exp tok fits n s t a → Between s t (tokens_in a)
    exp_spans (by.one h) = exp_spans h
    exp_spans (by.binary {l = n} {s = s} {t = t} {u = u} {a = a} {b = b} p make h e i k) =
        let x = exp_spans h in let y = exp_spans k in let x0 = x.0 in let y0 = y.0 in
        let is : IsBinary (Some (suc n, make)) = subst IsBinary e (binary_tokens p) in
        (omega (arith, x0, y0), subst (Spans s.at u.at) (sym (is s.at t.at a b)) (spans_between s.at t.at u.at (tokens_in a) (tokens_in b) x0 y0 x.1 y.1))
    exp_spans (by.prefix {s = s} {t = t} {a = a} p make e i k) =
        let y = exp_spans k in let y0 = y.0 in
        let is : IsPrefix (Some make) = subst IsPrefix e (prefix_tokens p) in
        (omega (arith, y0), subst (Spans s.at t.at) (sym (is s.at s.at a)) (spans_between s.at s.at t.at [] (tokens_in a) (omega arith) y0 (spans_none s.at s.at) y.1))
    exp_spans (by.plain h) = postfix_spans h

    pub postfix_spans : {s t : Spot} {a : Expr} → Postfix tok fits s t a → Between s t (tokens_in a)
    postfix_spans (by.name {s = s} i) = (omega arith, subst (Spans s.at (suc s.at)) (sym (tokens_Name s.at s.at)) (spans_one s.at (suc s.at) s.at (omega arith) (omega arith)))
    postfix_spans (by.number {s = s} z i) = (omega arith, subst (Spans s.at (suc s.at)) (sym (tokens_Number s.at s.at z)) (spans_one s.at (suc s.at) s.at (omega arith) (omega arith)))
    postfix_spans (by.null {s = s} i) = (omega arith, subst (Spans s.at (suc s.at)) (sym (tokens_Null s.at s.at)) (spans_one s.at (suc s.at) s.at (omega arith) (omega arith)))
    postfix_spans (by.paren {s = s} {t = t} {a = a} h) = let x = bracketed_spans h in (x.0, subst (Spans s.at t.at) (sym (tokens_first s.at a)) x.1)
    postfix_spans (by.call {s = s} {t = t} {l = l} i h) = let x = arguments_spans h in let x0 = x.0 in
        (omega (arith, x0), subst (Spans s.at t.at) (sym (tokens_Call s.at s.at l)) (spans_between s.at s.at t.at [] (flat_map tokens_in l) (omega arith) x0 (spans_none s.at s.at) x.1))
    postfix_spans (by.malloc {s = s} {t = t} {ty = ty} h) = let x = made_on h in (omega (arith, x), subst (Spans s.at t.at) (sym (tokens_Malloc s.at s.at None ty)) (spans_one s.at t.at s.at (omega arith) (omega (arith, x))))
    postfix_spans (by.cast {s = s} {u = u} {v = v} {b = b} {n = n} {ty = ty} i c j k o h) =
        let x = made_on h in let y = base_on c in let z = stars_on k in
        (omega (arith, x, y, z), subst (Spans s.at v.at) (sym (tokens_Malloc s.at (suc u.at) (Some (record { base = b; stars = suc n })) ty)) (spans_one s.at v.at (suc u.at) (omega (arith, y, z)) (omega (arith, x))))
    postfix_spans (by.field {s = s} {t = t} {a = a} p make h e i j) =
        let x = postfix_spans h in let x0 = x.0 in
        let is : IsField (Some make) = subst IsField e (field_tokens p) in (
          omega (arith, x0),
          subst (Spans s.at (suc (suc t.at))) (sym (is s.at t.at a (suc t.at)))
              (spans_same s.at (suc (suc t.at)) (tokens_in a ++ (t.at ∷ [])) (t.at ∷ tokens_in a) (λ k. (let e = times_append k (tokens_in a) (t.at ∷ []) in omega (arith, e)))
              (spans_both s.at t.at t.at (suc (suc t.at)) (tokens_in a) (t.at ∷ []) x0 (omega arith) (omega arith) x.1 (spans_one t.at (suc (suc t.at)) t.at (omega arith) (omega arith)))),
        )
    postfix_spans (by.index {s = s} {t = t} {u = u} {a = a} {i = i} h j k o) =
        let x = postfix_spans h in let y = exp_spans k in let x0 = x.0 in let y0 = y.0 in (
          omega (arith, x0, y0),
          subst (Spans s.at (suc u.at)) (sym (tokens_Index s.at t.at a i)) (spans_between s.at t.at (suc u.at) (tokens_in a) (tokens_in i) x0 (omega (arith, y0)) x.1
              (spans_wider (suc t.at) u.at (suc t.at) (suc u.at) (tokens_in i) (omega arith) (omega arith) y.1)),
        )

    pub bracketed_spans : {s t : Spot} {a : Expr} → Bracketed tok fits s t a → Between s t (tokens_in a)
    bracketed_spans (by.bracketed {s = s} {t = t} {a = a} i h j) = let x = exp_spans h in let x0 = x.0 in
        (omega (arith, x0), spans_wider (suc s.at) t.at s.at (suc t.at) (tokens_in a) (omega arith) (omega arith) x.1)

    -- from behind the `(` on
    pub arguments_spans : {s t : Spot} {l : List Expr} → Arguments tok fits s t l → Between s t (flat_map tokens_in l)
    arguments_spans (by.arguments {s = s} {t = t} {l = l} i h j) = let x = args_spans h in let x0 = x.0 in
        (omega (arith, x0), spans_wider (suc s.at) t.at s.at (suc t.at) (flat_map tokens_in l) (omega arith) (omega arith) x.1)

    args_spans : {s t : Spot} {l : List Expr} → Args tok fits s t l → Between s t (flat_map tokens_in l)
    args_spans (by.empty {s = s}) = (omega arith, spans_none s.at s.at)
    args_spans (by.some h) = some_spans h

    some_spans : {s t : Spot} {l : List Expr} → SomeArgs tok fits s t l → Between s t (flat_map tokens_in l)
    some_spans (by.first {s = s} {t = t} {a = a} h) = let x = exp_spans h in
        (x.0, spans_alone s.at t.at (tokens_in a) x.1)
    some_spans (by.next {s = s} {t = t} {u = u} {l = l} {a = a} h i k) = let x = some_spans h in let y = exp_spans k in let x0 = x.0 in let y0 = y.0 in
        (omega (arith, x0, y0), spans_last tokens_in s.at t.at (suc t.at) u.at l a x0 (omega arith) y0 x.1 y.1)
