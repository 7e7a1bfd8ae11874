-- Which tokens begin an expression, and which go on behind one.
use Rattle.std.proofs.Common.{◌≡◌, ◌⊎◌, inl, inr, ℕ, suc, ◌<◌, Bool, true, false, Option, Some, None, if◌then◌else◌, refl, ap, ◌∙◌, arith, ne_eqb}
use Rattle.cc_model.specs.declared.tokens.Kind.{Kind}
use Rattle.cc_model.specs.declared.tokens.Kind.TheVariants as kind
use Rattle.cc_model.specs.declared.tokens.Punct.{Punct}
use Rattle.cc_model.specs.declared.tokens.Punct.TheVariants as punct
use Rattle.cc_model.specs.declared.tokens.Keyword.TheVariants as keyword
use Rattle.cc_model.specs.declared.trees.Expr.{Expr}
use Rattle.cc_model.specs.Spots.{Spot}
use Rattle.cc_model.specs.ReadExpressions.{Binary, Prefix, FieldOf, binary_sign, prefix_sign, field_sign}
use Rattle.cc_model.specs.ReadExpressions as by
use Rattle.c_expressions.specs.Descent.{is_sign, of_rank, binary_at, prefix_at, field_at, base_at, an_alias, no_base}

-- the rank from which on a token goes on behind an expression: 0 for what binds tightest, 7 for what goes on nowhere
abbrev pub rank_of : Option (ℕ × Binary) → ℕ
rank_of (Some (n, make)) = n
rank_of None = 7

abbrev pub sign_rank : Punct → ℕ
sign_rank punct.Open = 0
sign_rank punct.OpenSquare = 0
sign_rank punct.Dot = 0
sign_rank punct.Arrow = 0
sign_rank p = rank_of (binary_sign p)

unfoldable pub rank : Option Kind → ℕ
rank (Some (kind.Punct p)) = sign_rank p
rank _ = 7

pub no_binary : (l : ℕ) (o : Option (ℕ × Binary)) → l < rank_of o → of_rank l o ≡ None
unfolding of_rank
no_binary l (Some (n, make)) h = ap (λ b. if b then Some make else None) (ne_eqb n l (λ e. omega arith))
no_binary l None h = refl

pub free_sign : (l : ℕ) (p : Punct) → l < sign_rank p → of_rank l (binary_sign p) ≡ None
unfolding of_rank
free_sign l punct.Open h = refl
free_sign l punct.OpenSquare h = refl
free_sign l punct.Dot h = refl
free_sign l punct.Arrow h = refl
free_sign l p h = no_binary l (binary_sign p) h

pub free_binary : (l : ℕ) (k : Option Kind) → l < rank k → binary_at l k ≡ None
unfolding binary_at rank
free_binary l (Some (kind.Punct p)) h = free_sign l p h
free_binary l _ h = refl

pub free_field : (k : Option Kind) → 0 < rank k → field_at k ≡ None
unfolding field_at rank
free_field (Some (kind.Punct punct.Dot)) h = absurd (omega arith)
free_field (Some (kind.Punct punct.Arrow)) h = absurd (omega arith)
free_field _ h = refl

pub free_square : (k : Option Kind) → 0 < rank k → is_sign punct.OpenSquare k ≡ false
unfolding is_sign rank
free_square (Some (kind.Punct punct.OpenSquare)) h = absurd (omega arith)
free_square _ h = refl

pub free_paren : (k : Option Kind) → 0 < rank k → is_sign punct.Open k ≡ false
unfolding is_sign rank
free_paren (Some (kind.Punct punct.Open)) h = absurd (omega arith)
free_paren _ h = refl

pub field_rank : (p : Punct) (make : FieldOf) → field_sign p ≡ Some make → is_sign punct.Open (Some (kind.Punct p)) ≡ false
unfolding is_sign
field_rank punct.Open make e = cc
field_rank _ make e = refl

pub binary_rank : (p : Punct) (l : ℕ) (make : Binary) → binary_sign p ≡ Some (suc l, make) → l < rank (Some (kind.Punct p))
unfolding rank
binary_rank punct.Open l make e = cc
binary_rank punct.OpenSquare l make e = cc
binary_rank punct.Dot l make e = cc
binary_rank punct.Arrow l make e = cc
binary_rank p l make e = let r : rank_of (binary_sign p) ≡ suc l = ap rank_of e in omega arith

-- ---- the first token

-- whether a token begins a postfix expression
unfoldable pub begins_postfix : Option Kind → Bool
begins_postfix (Some kind.Name) = true
begins_postfix (Some (kind.Number z)) = true
begins_postfix (Some (kind.Key keyword.Null)) = true
begins_postfix (Some (kind.Key keyword.Malloc)) = true
begins_postfix (Some (kind.Punct punct.Open)) = true
begins_postfix _ = false

-- whether a token begins an expression
unfoldable pub begins : Option Kind → Bool
begins (Some (kind.Punct punct.Dash)) = true
begins (Some (kind.Punct punct.Bang)) = true
begins (Some (kind.Punct punct.Star)) = true
begins (Some (kind.Punct punct.Ampersand)) = true
begins k = begins_postfix k

prefix_begins : (p : Punct) (make : Prefix) → prefix_sign p ≡ Some make → begins (Some (kind.Punct p)) ≡ true
unfolding begins begins_postfix
prefix_begins punct.Dash make e = refl
prefix_begins punct.Bang make e = refl
prefix_begins punct.Star make e = refl
prefix_begins punct.Ampersand make e = refl
prefix_begins punct.Open make e = refl
prefix_begins _ make e = cc

postfix_plain : (k : Option Kind) → begins_postfix k ≡ true → prefix_at k ≡ None
unfolding begins_postfix prefix_at
postfix_plain (Some kind.Name) e = refl
postfix_plain (Some (kind.Number z)) e = refl
postfix_plain (Some (kind.Key w)) e = refl
postfix_plain (Some (kind.Punct punct.Open)) e = refl
postfix_plain (Some (kind.Punct _)) e = cc
postfix_plain None e = cc

postfix_wide : (k : Option Kind) → begins_postfix k ≡ true → begins k ≡ true
unfolding begins_postfix begins
postfix_wide (Some (kind.Punct punct.Dash)) e = refl
postfix_wide (Some (kind.Punct punct.Bang)) e = refl
postfix_wide (Some (kind.Punct punct.Star)) e = refl
postfix_wide (Some (kind.Punct punct.Ampersand)) e = refl
postfix_wide k e = e

begins_no_close : (k : Option Kind) → begins k ≡ true → is_sign punct.Close k ≡ false
unfolding begins begins_postfix is_sign
begins_no_close (Some (kind.Punct punct.Close)) e = cc
begins_no_close _ e = refl

postfix_no_star : (k : Option Kind) → begins_postfix k ≡ true → is_sign punct.Star k ≡ false
unfolding begins_postfix is_sign
postfix_no_star (Some (kind.Punct punct.Star)) e = cc
postfix_no_star _ e = refl

-- an expression that begins with what begins a type begins with a name
pub begins_base : (k : Option Kind) → begins k ≡ true → (base_at k ≡ an_alias) ⊎ (base_at k ≡ no_base)
unfolding begins begins_postfix base_at
begins_base (Some kind.Name) e = inl refl
begins_base (Some (kind.Key keyword.Int)) e = cc
begins_base (Some (kind.Key keyword.Struct)) e = cc
begins_base _ e = inr refl

module _ (tok : ℕ → Option Kind) (fits : ℕ → ℕ → Bool) where
  -- the token there goes on no expression of the rank
  abbrev pub Free : ℕ → Spot → Type 0
  Free l s = l < rank (tok s.at)

  pub postfix_first : {s t : Spot} {a : Expr} → by.Postfix tok fits s t a → begins_postfix (tok s.at) ≡ true
  unfolding begins_postfix
  postfix_first (by.name i) = ap begins_postfix i.0
  postfix_first (by.number z i) = ap begins_postfix i.0
  postfix_first (by.null i) = ap begins_postfix i.0
  postfix_first (by.paren (by.bracketed i d c)) = ap begins_postfix i.0
  postfix_first (by.call i d) = ap begins_postfix i.0
  postfix_first (by.Postfix.malloc (by.Allocation.malloc i o k p d c e)) = ap begins_postfix i.0
  postfix_first (by.cast i b x d c e) = ap begins_postfix i.0
  postfix_first (by.field p make d e i n) = postfix_first d
  postfix_first (by.index d i e c) = postfix_first d

  -- an expression begins with one of the tokens that `begins` names
  pub first : {l : ℕ} {s t : Spot} {a : Expr} → by.Exp tok fits l s t a → begins (tok s.at) ≡ true
  first (by.one d) = first d
  first (by.binary p make d e i h) = first d
  first (by.prefix p make e i d) = ap begins i.0 ∙ prefix_begins p make e
  first (by.plain {s} d) = postfix_wide (tok s.at) (postfix_first d)

  pub postfix_prefix : {s t : Spot} {a : Expr} → by.Postfix tok fits s t a → prefix_at (tok s.at) ≡ None
  postfix_prefix {s} d = postfix_plain (tok s.at) (postfix_first d)

  pub postfix_star : {s t : Spot} {a : Expr} → by.Postfix tok fits s t a → is_sign punct.Star (tok s.at) ≡ false
  postfix_star {s} d = postfix_no_star (tok s.at) (postfix_first d)

  pub not_close : {l : ℕ} {s t : Spot} {a : Expr} → by.Exp tok fits l s t a → is_sign punct.Close (tok s.at) ≡ false
  not_close {l} {s} d = begins_no_close (tok s.at) (first d)
