-- A derivation goes forward, finds a token at each place, and looks at these tokens alone.
use Rattle.std.proofs.Common.{◌≡◌, ℕ, suc, ◌≤◌, ◌<◌, Bool, true, false, List, Some, nat_lt, refl, ◌∙◌, arith}
use Rattle.std.proofs.lemmas.Bool.Decides.{nat_tests}
use Rattle.cc_model.specs.declared.tokens.Kind.{Kind}
use Rattle.cc_model.specs.declared.trees.Base.{Base}
use Rattle.cc_model.specs.declared.trees.TypeName.{TypeName}
use Rattle.cc_model.specs.declared.trees.Expr.{Expr}
use Rattle.cc_model.specs.Spots.{Spot, Next}
use Rattle.cc_model.specs.ReadTypes.{BaseType, Stars, Typed}
use Rattle.cc_model.specs.ReadTypes as type
use Rattle.cc_model.specs.ReadExpressions as by
use Rattle.c_expressions.proofs.Viable.{Tokens, Fits, Same}

-- each place from low on, before high, has a token
abbrev pub Filled : Tokens → ℕ → ℕ → Type 0
Filled tok low high = (i : ℕ) → low ≤ i → i < high → (k : Kind) × (tok i ≡ Some k)

-- what R says of the tokens from low on, before high, holds of any tokens that are the same there
pub record Firm (tok : Tokens) (fits : Fits) (low high : ℕ) (R : Tokens → Fits → Type 0) : Type 0 where
  pub on : low ≤ high
  pub filled : Filled tok low high
  pub moved : (tok' : Tokens) (fits' : Fits) → Same tok fits tok' fits' low high → R tok' fits'

pub filled_join : (tok : Tokens) (n m k : ℕ) → Filled tok n m → Filled tok m k → Filled tok n k
filled_join tok n m k f g i a b = go (nat_lt i m) refl
  where
    go : (c : Bool) → nat_lt i m ≡ c → (k : Kind) × (tok i ≡ Some k)
    go true e = f i a (grind (arith, nat_tests))
    go false e = g i (grind (arith, nat_tests)) b

module _ {tok : Tokens} {fits : Fits} where
  -- the next token
  pub firm_next : {s : Spot} {k : Kind} → Next tok fits k s → Firm tok fits s.at (suc s.at) (λ tok' fits'. Next tok' fits' k s)
  firm_next {s} {k} i = record {
    on = omega arith;
    filled = λ j a b. let q : j ≡ s.at = omega arith in (k, rw q i.0);
    moved = λ tok' fits' same. let x = same s.at (omega arith) (omega arith) in (x.0 ∙ i.0, x.1 s.level i.1);
  }

  pub firm_none : {n : ℕ} {R : Tokens → Fits → Type 0} → ((tok' : Tokens) (fits' : Fits) → R tok' fits') → Firm tok fits n n R
  firm_none f = record {
    on = omega arith;
    filled = λ j a b. absurd (omega arith);
    moved = λ tok' fits' same. f tok' fits';
  }

  pub firm_map : {n m : ℕ} {A B : Tokens → Fits → Type 0} → Firm tok fits n m A → ((tok' : Tokens) (fits' : Fits) → A tok' fits' → B tok' fits') → Firm tok fits n m B
  firm_map x f = record {
    on = x.on;
    filled = x.filled;
    moved = λ tok' fits' same. f tok' fits' (x.moved tok' fits' same);
  }

  -- two parts, one behind the other, and more of them
  pub firm2 : {n m k : ℕ} {A B C : Tokens → Fits → Type 0} → Firm tok fits n m A → Firm tok fits m k B →
      ((tok' : Tokens) (fits' : Fits) → A tok' fits' → B tok' fits' → C tok' fits') → Firm tok fits n k C
  firm2 {n} {m} {k} x y f = record {
    on = let a = x.on in let b = y.on in omega arith;
    filled = filled_join tok n m k x.filled y.filled;
    moved = λ tok' fits' same. let a = x.on in let b = y.on in
        f tok' fits' (x.moved tok' fits' (λ i p q. same i p (omega arith))) (y.moved tok' fits' (λ i p q. same i (omega arith) q));
  }

  pub firm3 : {n0 n1 n2 n3 : ℕ} {A B C Z : Tokens → Fits → Type 0} → Firm tok fits n0 n1 A → Firm tok fits n1 n2 B → Firm tok fits n2 n3 C →
      ((tok' : Tokens) (fits' : Fits) → A tok' fits' → B tok' fits' → C tok' fits' → Z tok' fits') → Firm tok fits n0 n3 Z
  firm3 {B = B} {C = C} x0 x1 x2 f = firm2 x0 (firm2 {C = λ tok' fits'. B tok' fits' × C tok' fits'} x1 x2 (λ tok' fits' b c. (b, c))) (λ tok' fits' a p. f tok' fits' a p.0 p.1)

  pub firm4 : {n0 n1 n2 n3 n4 : ℕ} {A B C D Z : Tokens → Fits → Type 0} → Firm tok fits n0 n1 A → Firm tok fits n1 n2 B → Firm tok fits n2 n3 C → Firm tok fits n3 n4 D →
      ((tok' : Tokens) (fits' : Fits) → A tok' fits' → B tok' fits' → C tok' fits' → D tok' fits' → Z tok' fits') → Firm tok fits n0 n4 Z
  firm4 {B = B} {C = C} {D = D} x0 x1 x2 x3 f = firm2 x0 (firm3 {Z = λ tok' fits'. B tok' fits' × C tok' fits' × D tok' fits'} x1 x2 x3 (λ tok' fits' b c d. (b, c, d))) (λ tok' fits' a p. f tok' fits' a p.0 p.1 p.2)

  pub firm5 : {n0 n1 n2 n3 n4 n5 : ℕ} {A B C D E Z : Tokens → Fits → Type 0} → Firm tok fits n0 n1 A → Firm tok fits n1 n2 B → Firm tok fits n2 n3 C → Firm tok fits n3 n4 D → Firm tok fits n4 n5 E →
      ((tok' : Tokens) (fits' : Fits) → A tok' fits' → B tok' fits' → C tok' fits' → D tok' fits' → E tok' fits' → Z tok' fits') → Firm tok fits n0 n5 Z
  firm5 {B = B} {C = C} {D = D} {E = E} x0 x1 x2 x3 x4 f = firm2 x0 (firm4 {Z = λ tok' fits'. B tok' fits' × C tok' fits' × D tok' fits' × E tok' fits'} x1 x2 x3 x4 (λ tok' fits' b c d e. (b, c, d, e))) (λ tok' fits' a p. f tok' fits' a p.0 p.1 p.2 p.3)

  pub firm6 : {n0 n1 n2 n3 n4 n5 n6 : ℕ} {A B C D E F Z : Tokens → Fits → Type 0} → Firm tok fits n0 n1 A → Firm tok fits n1 n2 B → Firm tok fits n2 n3 C → Firm tok fits n3 n4 D → Firm tok fits n4 n5 E → Firm tok fits n5 n6 F →
      ((tok' : Tokens) (fits' : Fits) → A tok' fits' → B tok' fits' → C tok' fits' → D tok' fits' → E tok' fits' → F tok' fits' → Z tok' fits') → Firm tok fits n0 n6 Z
  firm6 {B = B} {C = C} {D = D} {E = E} {F = F} x0 x1 x2 x3 x4 x5 f = firm2 x0 (firm5 {Z = λ tok' fits'. B tok' fits' × C tok' fits' × D tok' fits' × E tok' fits' × F tok' fits'} x1 x2 x3 x4 x5 (λ tok' fits' b c d e f. (b, c, d, e, f))) (λ tok' fits' a p. f tok' fits' a p.0 p.1 p.2 p.3 p.4)

  pub firm7 : {n0 n1 n2 n3 n4 n5 n6 n7 : ℕ} {A B C D E F G Z : Tokens → Fits → Type 0} → Firm tok fits n0 n1 A → Firm tok fits n1 n2 B → Firm tok fits n2 n3 C → Firm tok fits n3 n4 D → Firm tok fits n4 n5 E → Firm tok fits n5 n6 F → Firm tok fits n6 n7 G →
      ((tok' : Tokens) (fits' : Fits) → A tok' fits' → B tok' fits' → C tok' fits' → D tok' fits' → E tok' fits' → F tok' fits' → G tok' fits' → Z tok' fits') → Firm tok fits n0 n7 Z
  firm7 {B = B} {C = C} {D = D} {E = E} {F = F} {G = G} x0 x1 x2 x3 x4 x5 x6 f = firm2 x0 (firm6 {Z = λ tok' fits'. B tok' fits' × C tok' fits' × D tok' fits' × E tok' fits' × F tok' fits' × G tok' fits'} x1 x2 x3 x4 x5 x6 (λ tok' fits' b c d e f g. (b, c, d, e, f, g))) (λ tok' fits' a p. f tok' fits' a p.0 p.1 p.2 p.3 p.4 p.5)

  pub firm8 : {n0 n1 n2 n3 n4 n5 n6 n7 n8 : ℕ} {A B C D E F G H Z : Tokens → Fits → Type 0} → Firm tok fits n0 n1 A → Firm tok fits n1 n2 B → Firm tok fits n2 n3 C → Firm tok fits n3 n4 D → Firm tok fits n4 n5 E → Firm tok fits n5 n6 F → Firm tok fits n6 n7 G → Firm tok fits n7 n8 H →
      ((tok' : Tokens) (fits' : Fits) → A tok' fits' → B tok' fits' → C tok' fits' → D tok' fits' → E tok' fits' → F tok' fits' → G tok' fits' → H tok' fits' → Z tok' fits') → Firm tok fits n0 n8 Z
  firm8 {B = B} {C = C} {D = D} {E = E} {F = F} {G = G} {H = H} x0 x1 x2 x3 x4 x5 x6 x7 f = firm2 x0 (firm7 {Z = λ tok' fits'. B tok' fits' × C tok' fits' × D tok' fits' × E tok' fits' × F tok' fits' × G tok' fits' × H tok' fits'} x1 x2 x3 x4 x5 x6 x7 (λ tok' fits' b c d e f g h. (b, c, d, e, f, g, h))) (λ tok' fits' a p. f tok' fits' a p.0 p.1 p.2 p.3 p.4 p.5 p.6)

  -- ---- types

  pub base_firm : {s t : Spot} {b : Base} → BaseType tok fits s t b → Firm tok fits s.at t.at (λ tok' fits'. BaseType tok' fits' s t b)
  base_firm (type.int i) = firm_map (firm_next i) (λ tok' fits' i. type.int i)
  base_firm (type.struct i j) = firm2 (firm_next i) (firm_next j) (λ tok' fits' i j. type.struct i j)
  base_firm (type.alias i) = firm_map (firm_next i) (λ tok' fits' i. type.alias i)

  pub stars_firm : {s t : Spot} {n : ℕ} → Stars tok fits s t n → Firm tok fits s.at t.at (λ tok' fits'. Stars tok' fits' s t n)
  stars_firm type.none = firm_none (λ tok' fits'. type.none)
  stars_firm (type.star i d) = firm2 (firm_next i) (stars_firm d) (λ tok' fits' i d. type.star i d)

  pub typed_firm : {s t : Spot} {ty : TypeName} → Typed tok fits s t ty → Firm tok fits s.at t.at (λ tok' fits'. Typed tok' fits' s t ty)
  typed_firm (type.typed d e) = firm2 (base_firm d) (stars_firm e) (λ tok' fits' d e. type.typed d e)

  -- ---- expressions

  pub allocation_firm : {s t : Spot} {ty : TypeName} → by.Allocation tok fits s t ty → Firm tok fits s.at t.at (λ tok' fits'. by.Allocation tok' fits' s t ty)
  allocation_firm (by.Allocation.malloc i o k p d c e) = firm7 (firm_next i) (firm_next o) (firm_next k) (firm_next p) (typed_firm d) (firm_next c) (firm_next e)
      (λ tok' fits' i o k p d c e. by.Allocation.malloc i o k p d c e)

  mutual
    pub exp_firm : {l : ℕ} {s t : Spot} {a : Expr} → by.Exp tok fits l s t a → Firm tok fits s.at t.at (λ tok' fits'. by.Exp tok' fits' l s t a)
    exp_firm (by.one d) = firm_map (exp_firm d) (λ tok' fits' d. by.one d)
    exp_firm (by.binary p make d e i h) = firm3 (exp_firm d) (firm_next i) (exp_firm h) (λ tok' fits' d i h. by.binary p make d e i h)
    exp_firm (by.prefix p make e i d) = firm2 (firm_next i) (exp_firm d) (λ tok' fits' i d. by.prefix p make e i d)
    exp_firm (by.plain d) = firm_map (postfix_firm d) (λ tok' fits' d. by.plain d)

    pub postfix_firm : {s t : Spot} {a : Expr} → by.Postfix tok fits s t a → Firm tok fits s.at t.at (λ tok' fits'. by.Postfix tok' fits' s t a)
    postfix_firm (by.name i) = firm_map (firm_next i) (λ tok' fits' i. by.name i)
    postfix_firm (by.number z i) = firm_map (firm_next i) (λ tok' fits' i. by.number z i)
    postfix_firm (by.null i) = firm_map (firm_next i) (λ tok' fits' i. by.null i)
    postfix_firm (by.paren d) = firm_map (bracketed_firm d) (λ tok' fits' d. by.paren d)
    postfix_firm (by.call i d) = firm2 (firm_next i) (arguments_firm d) (λ tok' fits' i d. by.call i d)
    postfix_firm (by.Postfix.malloc d) = firm_map (allocation_firm d) (λ tok' fits' d. by.Postfix.malloc d)
    postfix_firm (by.cast i b y d c e) = firm6 (firm_next i) (base_firm b) (firm_next y) (stars_firm d) (firm_next c) (allocation_firm e) (λ tok' fits' i b y d c e. by.cast i b y d c e)
    postfix_firm (by.field p make d e i n) = firm3 (postfix_firm d) (firm_next i) (firm_next n) (λ tok' fits' d i n. by.field p make d e i n)
    postfix_firm (by.index d o e c) = firm4 (postfix_firm d) (firm_next o) (exp_firm e) (firm_next c) (λ tok' fits' d o e c. by.index d o e c)

    pub bracketed_firm : {s t : Spot} {a : Expr} → by.Bracketed tok fits s t a → Firm tok fits s.at t.at (λ tok' fits'. by.Bracketed tok' fits' s t a)
    bracketed_firm (by.bracketed i d c) = firm3 (firm_next i) (exp_firm d) (firm_next c) (λ tok' fits' i d c. by.bracketed i d c)

    pub arguments_firm : {s t : Spot} {l : List Expr} → by.Arguments tok fits s t l → Firm tok fits s.at t.at (λ tok' fits'. by.Arguments tok' fits' s t l)
    arguments_firm (by.arguments i d c) = firm3 (firm_next i) (args_firm d) (firm_next c) (λ tok' fits' i d c. by.arguments i d c)

    pub args_firm : {s t : Spot} {l : List Expr} → by.Args tok fits s t l → Firm tok fits s.at t.at (λ tok' fits'. by.Args tok' fits' s t l)
    args_firm by.empty = firm_none (λ tok' fits'. by.empty)
    args_firm (by.some d) = firm_map (some_firm d) (λ tok' fits' d. by.some d)

    pub some_firm : {s t : Spot} {l : List Expr} → by.SomeArgs tok fits s t l → Firm tok fits s.at t.at (λ tok' fits'. by.SomeArgs tok' fits' s t l)
    some_firm (by.first d) = firm_map (exp_firm d) (λ tok' fits' d. by.first d)
    some_firm (by.next d i e) = firm3 (some_firm d) (firm_next i) (exp_firm e) (λ tok' fits' d i e. by.next d i e)
