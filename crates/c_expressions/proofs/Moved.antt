-- A derivation looks at its own tokens alone, and goes forward.
use Rattle.std.proofs.Common.{◌≡◌, ℕ, suc, ◌≤◌, ◌<◌, Bool, true, List, [], ◌∷◌, ◌++◌, Option, Some, ◌∙◌, arith}
use Rattle.cc_model.specs.declared.tokens.Kind.{Kind}
use Rattle.cc_model.specs.declared.tokens.Punct.{Punct}
use Rattle.cc_model.specs.declared.tokens.Punct.TheVariants as punct
use Rattle.cc_model.specs.declared.trees.Base.{Base}
use Rattle.cc_model.specs.declared.trees.TypeName.{TypeName}
use Rattle.cc_model.specs.declared.trees.Expr.{Expr}
use Rattle.cc_model.specs.declared.trees.Expr.TheVariants as tree
use Rattle.cc_model.specs.Spots.{Spot, opened, closed, passed, back, Next, Is, IsName}
use Rattle.cc_model.specs.ReadTypes.{BaseType, Stars, Typed}
use Rattle.cc_model.specs.ReadTypes as type
use Rattle.cc_model.specs.ReadExpressions.{Binary, FieldOf, binary_sign, field_sign}
use Rattle.cc_model.specs.ReadExpressions as by

-- what stands behind an operand or a value, from left to right
module _ (tok : ℕ → Option Kind) (fits : ℕ → ℕ → Bool) where
  -- operators of the rank suc l with their right operands, behind a, which begins at first
  pub data Tail : ℕ → ℕ → Expr → Spot → Spot → Expr → Type 0 where
    stop : {l f : ℕ} {a : Expr} {s : Spot} → Tail l f a s s a
    sign : {l f : ℕ} {a b c : Expr} {s t u : Spot} (p : Punct) (make : Binary) → binary_sign p ≡ Some (suc l, make) → Is tok fits p s →
        by.Exp tok fits l (opened s) t b → Tail l f (make f s.at a b) t u c → Tail l f a s u c

  -- fields and indices behind a, which begins at first
  pub data More : ℕ → Expr → Spot → Spot → Expr → Type 0 where
    stop : {f : ℕ} {a : Expr} {s : Spot} → More f a s s a
    field : {f : ℕ} {a c : Expr} {s u : Spot} (p : Punct) (make : FieldOf) → field_sign p ≡ Some make → Is tok fits p s → IsName tok fits (opened s) →
        More f (make f s.at a (suc s.at)) (passed (opened s)) u c → More f a s u c
    index : {f : ℕ} {a i c : Expr} {s t u : Spot} → Is tok fits punct.OpenSquare s → by.Exp tok fits 6 (opened s) t i →
        Is tok fits punct.CloseSquare (back t (suc s.level)) → More f (tree.Index f s.at a i) (closed t (suc s.level)) u c → More f a s u c

  -- arguments behind the arguments l, where n tokens are open at each comma
  pub data Rest : ℕ → List Expr → Spot → Spot → List Expr → Type 0 where
    stop : {n : ℕ} {l : List Expr} {s : Spot} → Rest n l s s l
    comma : {n : ℕ} {l m : List Expr} {a : Expr} {s t u : Spot} → Is tok fits punct.Comma (back s n) → by.Exp tok fits 6 (closed s n) t a →
        Rest n (l ++ a ∷ []) t u m → Rest n l s u m

  -- what stands behind a name, which is the token first
  pub data Named : ℕ → Spot → Spot → Expr → Type 0 where
    name : {f : ℕ} {s : Spot} → Named f s s (tree.Name f f)
    call : {f : ℕ} {s t : Spot} {l : List Expr} → by.Arguments tok fits s t l → Named f s t (tree.Call f f l)

  pub with_tail : {l : ℕ} {s t u : Spot} {a b : Expr} → by.Exp tok fits (suc l) s t a → Tail l s.at a t u b → by.Exp tok fits (suc l) s u b
  with_tail d stop = d
  with_tail d (sign p make e i h k) = with_tail (by.binary p make d e i h) k

  pub with_more : {s t u : Spot} {a b : Expr} → by.Postfix tok fits s t a → More s.at a t u b → by.Postfix tok fits s u b
  with_more d stop = d
  with_more d (field p make e i n k) = with_more (by.field p make d e i n) k
  with_more d (index o h c k) = with_more (by.index d o h c) k

  pub with_rest : {s t u : Spot} {l m : List Expr} → by.SomeArgs tok fits s t l → Rest s.level l t u m → by.SomeArgs tok fits s u m
  with_rest d stop = d
  with_rest d (comma i h k) = with_rest (by.next d i h) k

  pub with_named : {s t : Spot} {a : Expr} → IsName tok fits s → Named s.at (passed s) t a → by.Postfix tok fits s t a
  with_named i name = by.name i
  with_named i (call d) = by.call i d

  -- ---- forward

  pub base_on : {s t : Spot} {b : Base} → BaseType tok fits s t b → s.at < t.at
  base_on (type.int i) = omega arith
  base_on (type.struct i j) = omega arith
  base_on (type.alias i) = omega arith

  pub stars_on : {s t : Spot} {n : ℕ} → Stars tok fits s t n → s.at ≤ t.at
  stars_on type.none = omega arith
  stars_on (type.star i d) = let x = stars_on d in omega arith

  pub typed_on : {s t : Spot} {ty : TypeName} → Typed tok fits s t ty → s.at < t.at
  typed_on (type.typed d e) = let x = base_on d in let y = stars_on e in omega arith

  pub allocation_on : {s t : Spot} {ty : TypeName} → by.Allocation tok fits s t ty → s.at < t.at
  allocation_on (by.Allocation.malloc i o k p d c e) = let x = typed_on d in omega arith

  mutual
    pub exp_on : {l : ℕ} {s t : Spot} {a : Expr} → by.Exp tok fits l s t a → s.at < t.at
    exp_on (by.one d) = exp_on d
    exp_on (by.binary p make d e i h) = let x = exp_on d in let y = exp_on h in omega arith
    exp_on (by.prefix p make e i d) = let x = exp_on d in omega arith
    exp_on (by.plain d) = postfix_on d

    pub postfix_on : {s t : Spot} {a : Expr} → by.Postfix tok fits s t a → s.at < t.at
    postfix_on (by.name i) = omega arith
    postfix_on (by.number z i) = omega arith
    postfix_on (by.null i) = omega arith
    postfix_on (by.paren d) = bracketed_on d
    postfix_on (by.call i d) = let x = arguments_on d in omega arith
    postfix_on (by.Postfix.malloc d) = allocation_on d
    postfix_on (by.cast i b x d c e) = let u = base_on b in let v = stars_on d in let w = allocation_on e in omega arith
    postfix_on (by.field p make d e i n) = let x = postfix_on d in omega arith
    postfix_on (by.index d o e c) = let x = postfix_on d in let y = exp_on e in omega arith

    pub bracketed_on : {s t : Spot} {a : Expr} → by.Bracketed tok fits s t a → s.at < t.at
    bracketed_on (by.bracketed i d c) = let x = exp_on d in omega arith

    pub arguments_on : {s t : Spot} {l : List Expr} → by.Arguments tok fits s t l → s.at < t.at
    arguments_on (by.arguments i d c) = let x = args_on d in omega arith

    pub args_on : {s t : Spot} {l : List Expr} → by.Args tok fits s t l → s.at ≤ t.at
    args_on by.empty = omega arith
    args_on (by.some d) = let x = some_on d in omega arith

    pub some_on : {s t : Spot} {l : List Expr} → by.SomeArgs tok fits s t l → s.at < t.at
    some_on (by.first d) = exp_on d
    some_on (by.next d i e) = let x = some_on d in let y = exp_on e in omega arith

  pub tail_on : {l f : ℕ} {a b : Expr} {s t : Spot} → Tail l f a s t b → s.at ≤ t.at
  tail_on stop = omega arith
  tail_on (sign p make e i h k) = let x = exp_on h in let y = tail_on k in omega arith

  pub more_on : {f : ℕ} {a b : Expr} {s t : Spot} → More f a s t b → s.at ≤ t.at
  more_on stop = omega arith
  more_on (field p make e i n k) = let y = more_on k in omega arith
  more_on (index o h c k) = let x = exp_on h in let y = more_on k in omega arith

  pub rest_on : {n : ℕ} {l m : List Expr} {s t : Spot} → Rest n l s t m → s.at ≤ t.at
  rest_on stop = omega arith
  rest_on (comma i h k) = let x = exp_on h in let y = rest_on k in omega arith

  pub named_on : {f : ℕ} {a : Expr} {s t : Spot} → Named f s t a → s.at ≤ t.at
  named_on name = omega arith
  named_on (call d) = let x = arguments_on d in omega arith

  -- ---- over the same tokens from low on, before high, where what fits there fits

  module _ (tok' : ℕ → Option Kind) (fits' : ℕ → ℕ → Bool) (low high : ℕ) (same : (i : ℕ) → low ≤ i → i < high → (tok' i ≡ tok i) × ((d : ℕ) → fits i d ≡ true → fits' i d ≡ true)) where
    pub moved : (k : Kind) (s : Spot) → Next tok fits k s → low ≤ s.at → s.at < high → Next tok' fits' k s
    moved k s i a b = ((same s.at a b).0 ∙ i.0, (same s.at a b).1 s.level i.1)

    pub base_moved : {s t : Spot} {b : Base} → BaseType tok fits s t b → low ≤ s.at → t.at ≤ high → BaseType tok' fits' s t b
    base_moved (type.int {s} i) p q = type.int (moved _ s i p (omega arith))
    base_moved (type.struct {s} i j) p q = type.struct (moved _ s i p (omega arith)) (moved _ (passed s) j (omega arith) (omega arith))
    base_moved (type.alias {s} i) p q = type.alias (moved _ s i p (omega arith))

    pub stars_moved : {s t : Spot} {n : ℕ} → Stars tok fits s t n → low ≤ s.at → t.at ≤ high → Stars tok' fits' s t n
    stars_moved type.none p q = type.none
    stars_moved (type.star {s} {t} i d) p q = let x = stars_on d in type.star (moved _ s i p (omega arith)) (stars_moved d (omega arith) q)

    pub typed_moved : {s t : Spot} {ty : TypeName} → Typed tok fits s t ty → low ≤ s.at → t.at ≤ high → Typed tok' fits' s t ty
    typed_moved (type.typed d e) p q = let x = base_on d in let y = stars_on e in type.typed (base_moved d p (omega arith)) (stars_moved e (omega arith) q)

    pub allocation_moved : {s t : Spot} {ty : TypeName} → by.Allocation tok fits s t ty → low ≤ s.at → t.at ≤ high → by.Allocation tok' fits' s t ty
    allocation_moved (by.Allocation.malloc {s} {t} i o k x d c e) p q = let y = typed_on d in
        by.Allocation.malloc (moved _ s i p (omega arith)) (moved _ (passed s) o (omega arith) (omega arith)) (moved _ (opened (passed s)) k (omega arith) (omega arith))
        (moved _ (passed (opened (passed s))) x (omega arith) (omega arith)) (typed_moved d (omega arith) (omega arith))
        (moved _ (back t (suc s.level)) c (omega arith) (omega arith)) (moved _ (closed t s.level) e (omega arith) (omega arith))

    mutual
      pub exp_moved : {l : ℕ} {s t : Spot} {a : Expr} → by.Exp tok fits l s t a → low ≤ s.at → t.at ≤ high → by.Exp tok' fits' l s t a
      exp_moved (by.one d) p q = by.one (exp_moved d p q)
      exp_moved (by.binary {s} {t} n make d e i h) p q = let x = exp_on d in let y = exp_on h in
          by.binary n make (exp_moved d p (omega arith)) e (moved _ t i (omega arith) (omega arith)) (exp_moved h (omega arith) q)
      exp_moved (by.prefix {s} n make e i d) p q = let x = exp_on d in by.prefix n make e (moved _ s i p (omega arith)) (exp_moved d (omega arith) q)
      exp_moved (by.plain d) p q = by.plain (postfix_moved d p q)

      pub postfix_moved : {s t : Spot} {a : Expr} → by.Postfix tok fits s t a → low ≤ s.at → t.at ≤ high → by.Postfix tok' fits' s t a
      postfix_moved (by.name {s} i) p q = by.name (moved _ s i p (omega arith))
      postfix_moved (by.number {s} z i) p q = by.number z (moved _ s i p (omega arith))
      postfix_moved (by.null {s} i) p q = by.null (moved _ s i p (omega arith))
      postfix_moved (by.paren d) p q = by.paren (bracketed_moved d p q)
      postfix_moved (by.call {s} i d) p q = let x = arguments_on d in by.call (moved _ s i p (omega arith)) (arguments_moved d (omega arith) q)
      postfix_moved (by.Postfix.malloc d) p q = by.Postfix.malloc (allocation_moved d p q)
      postfix_moved (by.cast {s} {t} {u} i b y d c e) p q = let f = base_on b in let g = stars_on d in let h = allocation_on e in
          by.cast (moved _ s i p (omega arith)) (base_moved b (omega arith) (omega arith)) (moved _ t y (omega arith) (omega arith)) (stars_moved d (omega arith) (omega arith))
          (moved _ (back u s.level) c (omega arith) (omega arith)) (allocation_moved e (omega arith) q)
      postfix_moved (by.field {s} {t} n make d e i m) p q = let x = postfix_on d in
          by.field n make (postfix_moved d p (omega arith)) e (moved _ t i (omega arith) (omega arith)) (moved _ (opened t) m (omega arith) (omega arith))
      postfix_moved (by.index {s} {t} {u} d o e c) p q = let x = postfix_on d in let y = exp_on e in
          by.index (postfix_moved d p (omega arith)) (moved _ t o (omega arith) (omega arith)) (exp_moved e (omega arith) (omega arith)) (moved _ (back u (suc t.level)) c (omega arith) (omega arith))

      pub bracketed_moved : {s t : Spot} {a : Expr} → by.Bracketed tok fits s t a → low ≤ s.at → t.at ≤ high → by.Bracketed tok' fits' s t a
      bracketed_moved (by.bracketed {s} {t} i d c) p q = let x = exp_on d in
          by.bracketed (moved _ s i p (omega arith)) (exp_moved d (omega arith) (omega arith)) (moved _ (back t s.level) c (omega arith) (omega arith))

      pub arguments_moved : {s t : Spot} {l : List Expr} → by.Arguments tok fits s t l → low ≤ s.at → t.at ≤ high → by.Arguments tok' fits' s t l
      arguments_moved (by.arguments {s} {t} i d c) p q = let x = args_on d in
          by.arguments (moved _ s i p (omega arith)) (args_moved d (omega arith) (omega arith)) (moved _ (back t (suc s.level)) c (omega arith) (omega arith))

      pub args_moved : {s t : Spot} {l : List Expr} → by.Args tok fits s t l → low ≤ s.at → t.at ≤ high → by.Args tok' fits' s t l
      args_moved by.empty p q = by.empty
      args_moved (by.some d) p q = by.some (some_moved d p q)

      pub some_moved : {s t : Spot} {l : List Expr} → by.SomeArgs tok fits s t l → low ≤ s.at → t.at ≤ high → by.SomeArgs tok' fits' s t l
      some_moved (by.first d) p q = by.first (exp_moved d p q)
      some_moved (by.next {s} {t} d i e) p q = let x = some_on d in let y = exp_on e in
          by.next (some_moved d p (omega arith)) (moved _ (back t s.level) i (omega arith) (omega arith)) (exp_moved e (omega arith) q)

-- the same of what stands behind
module _ (tok : ℕ → Option Kind) (fits : ℕ → ℕ → Bool) (tok' : ℕ → Option Kind) (fits' : ℕ → ℕ → Bool) (low high : ℕ)
    (same : (i : ℕ) → low ≤ i → i < high → (tok' i ≡ tok i) × ((d : ℕ) → fits i d ≡ true → fits' i d ≡ true)) where
  pub tail_moved : {l f : ℕ} {a b : Expr} {s t : Spot} → Tail tok fits l f a s t b → low ≤ s.at → t.at ≤ high → Tail tok' fits' l f a s t b
  tail_moved stop p q = stop
  tail_moved (sign {s} {t} n make e i h k) p q = let x = exp_on tok fits h in let y = tail_on tok fits k in
      sign n make e (moved tok fits tok' fits' low high same _ s i p (omega arith)) (exp_moved tok fits tok' fits' low high same h (omega arith) (omega arith)) (tail_moved k (omega arith) q)

  pub more_moved : {f : ℕ} {a b : Expr} {s t : Spot} → More tok fits f a s t b → low ≤ s.at → t.at ≤ high → More tok' fits' f a s t b
  more_moved stop p q = stop
  more_moved (field {s} n make e i m k) p q = let y = more_on tok fits k in
      field n make e (moved tok fits tok' fits' low high same _ s i p (omega arith)) (moved tok fits tok' fits' low high same _ (opened s) m (omega arith) (omega arith)) (more_moved k (omega arith) q)
  more_moved (index {s} {t} o h c k) p q = let x = exp_on tok fits h in let y = more_on tok fits k in
      index (moved tok fits tok' fits' low high same _ s o p (omega arith)) (exp_moved tok fits tok' fits' low high same h (omega arith) (omega arith))
      (moved tok fits tok' fits' low high same _ (back t (suc s.level)) c (omega arith) (omega arith)) (more_moved k (omega arith) q)

  pub rest_moved : {n : ℕ} {l m : List Expr} {s t : Spot} → Rest tok fits n l s t m → low ≤ s.at → t.at ≤ high → Rest tok' fits' n l s t m
  rest_moved stop p q = stop
  rest_moved (comma {n} {s} {t} i h k) p q = let x = exp_on tok fits h in let y = rest_on tok fits k in
      comma (moved tok fits tok' fits' low high same _ (back s n) i p (omega arith)) (exp_moved tok fits tok' fits' low high same h (omega arith) (omega arith)) (rest_moved k (omega arith) q)

  pub named_moved : {f : ℕ} {a : Expr} {s t : Spot} → Named tok fits f s t a → low ≤ s.at → t.at ≤ high → Named tok' fits' f s t a
  named_moved name p q = name
  named_moved (call d) p q = call (arguments_moved tok fits tok' fits' low high same d p q)
