-- What the tests of tokens tell, and where they say yes.
use Rattle.std.proofs.Common.{◌≡◌, ℕ, suc, Bool, true, false, List, [], ◌∷◌, Option, Some, None, nat_eq, slice_get, if◌then◌else◌, refl, sym, ap, ◌∙◌, eq-eqb, eqb-true}
use Rattle.cc_model.specs.declared.tokens.Kind.{Kind}
use Rattle.cc_model.specs.declared.tokens.Kind.TheVariants as kind
use Rattle.cc_model.specs.declared.tokens.Punct.{Punct}
use Rattle.cc_model.specs.declared.tokens.Punct.TheVariants as punct
use Rattle.cc_model.specs.declared.tokens.Keyword.{Keyword}
use Rattle.cc_model.specs.declared.tokens.Keyword.TheVariants as keyword
use Rattle.cc_model.specs.Spots.{Spot, passed, back}
use Rattle.cc_model.specs.ReadExpressions.{Binary, Prefix, FieldOf, binary_sign, prefix_sign, field_sign}
use Rattle.c_expressions.specs.Descent.{bad, deep, Got, got, failed, code, key_code, is_sign, is_key, is_name, of_rank, binary_at, prefix_at, field_at, Start, a_name, a_number, a_null, a_malloc, a_paren, no_start, start_at, BaseStart, an_int, a_struct, an_alias, no_base, base_at}
use Rattle.c_expressions.specs.Descent as of

-- ---- where they say yes

pub sign_yes : (p : Punct) → is_sign p (Some (kind.Punct p)) ≡ true
unfolding is_sign
sign_yes p = eq-eqb (code p) (code p) refl

pub key_yes : (p : Keyword) → is_key p (Some (kind.Key p)) ≡ true
unfolding is_key
key_yes p = eq-eqb (key_code p) (key_code p) refl

pub rank_yes : (l : ℕ) (make : Binary) → of_rank l (Some (l, make)) ≡ Some make
unfolding of_rank
rank_yes l make = ap (λ b. if b then Some make else None) (eq-eqb l l refl)

pub binary_yes : {l : ℕ} {make : Binary} {k : Option Kind} (p : Punct) → k ≡ Some (kind.Punct p) → binary_sign p ≡ Some (l, make) → binary_at l k ≡ Some make
unfolding binary_at
binary_yes {l} {make} p e b = ap (binary_at l) e ∙ ap (of_rank l) b ∙ rank_yes l make

pub prefix_yes : {k : Option Kind} (p : Punct) → k ≡ Some (kind.Punct p) → prefix_at k ≡ prefix_sign p
unfolding prefix_at
prefix_yes p e = ap prefix_at e

pub field_yes : {k : Option Kind} (p : Punct) → k ≡ Some (kind.Punct p) → field_at k ≡ field_sign p
unfolding field_at
field_yes p e = ap field_at e

-- ---- what the tests of tokens tell

abbrev signs : List Punct
signs = punct.OpenBrace ∷ punct.CloseBrace ∷ punct.Open ∷ punct.Close ∷ punct.OpenSquare ∷ punct.CloseSquare ∷ punct.Semicolon ∷ punct.Comma ∷ punct.Dot ∷ punct.Arrow ∷ punct.Star ∷ punct.Ampersand ∷ punct.Bang ∷ punct.Plus ∷ punct.Dash ∷ punct.Slash ∷ punct.Percent ∷ punct.Less ∷ punct.Greater ∷ punct.AtMost ∷ punct.AtLeast ∷ punct.Equal ∷ punct.Unequal ∷ punct.Both ∷ punct.Either ∷ punct.Assign ∷ punct.AddTo ∷ punct.SubFrom ∷ punct.MulBy ∷ punct.DivBy ∷ punct.RemBy ∷ punct.Increase ∷ punct.Decrease ∷ []

sign_at : (p : Punct) → slice_get signs (code p) ≡ Some p
sign_at punct.OpenBrace = refl
sign_at _ = refl

code_one : (p q : Punct) → code p ≡ code q → p ≡ q
code_one p q e = let h : Some p ≡ Some q = sym (sign_at p) ∙ ap (slice_get signs) e ∙ sign_at q in cc

pub is_sign_tells : (p : Punct) (k : Option Kind) → is_sign p k ≡ true → k ≡ Some (kind.Punct p)
unfolding is_sign
is_sign_tells p (Some (kind.Punct q)) e = ap (λ x. Some (kind.Punct x)) (sym (code_one p q (eqb-true (code p) (code q) e)))
is_sign_tells p (Some kind.Name) e = cc
is_sign_tells p (Some (kind.Number z)) e = cc
is_sign_tells p (Some (kind.Key w)) e = cc
is_sign_tells p None e = cc

pub is_name_tells : (k : Option Kind) → is_name k ≡ true → k ≡ Some kind.Name
unfolding is_name
is_name_tells (Some kind.Name) e = refl
is_name_tells (Some (kind.Punct q)) e = cc
is_name_tells (Some (kind.Number z)) e = cc
is_name_tells (Some (kind.Key w)) e = cc
is_name_tells None e = cc

pub of_rank_tells : (l : ℕ) (o : Option (ℕ × Binary)) (make : Binary) → of_rank l o ≡ Some make → o ≡ Some (l, make)
unfolding of_rank
of_rank_tells l (Some (n, m)) make e = go (nat_eq n l) refl e
  where
    go : (b : Bool) → nat_eq n l ≡ b → (if b then Some m else None) ≡ Some make → ◌≡◌ {A = Option (ℕ × Binary)} (Some (n, m)) (Some (l, make))
    go true h q = let r : n ≡ l = eqb-true n l h in cc
    go false h q = cc
of_rank_tells l None make e = cc

abbrev words : List Keyword
words = keyword.Int ∷ keyword.Struct ∷ keyword.Typedef ∷ keyword.Void ∷ keyword.If ∷ keyword.Else ∷ keyword.While ∷ keyword.Do ∷ keyword.For ∷ keyword.Return ∷ keyword.Break ∷ keyword.Continue ∷ keyword.Sizeof ∷ keyword.Null ∷ keyword.Malloc ∷ keyword.Assert ∷ keyword.Assume ∷ keyword.Abort ∷ keyword.CrestInt ∷ keyword.Auto ∷ keyword.Case ∷ keyword.Char ∷ keyword.Const ∷ keyword.Default ∷ keyword.Double ∷ keyword.Enum ∷ keyword.Extern ∷ keyword.Float ∷ keyword.Goto ∷ keyword.Inline ∷ keyword.Long ∷ keyword.Register ∷ keyword.Restrict ∷ keyword.Short ∷ keyword.Signed ∷ keyword.Static ∷ keyword.Switch ∷ keyword.Union ∷ keyword.Unsigned ∷ keyword.Volatile ∷ keyword.Alignas ∷ keyword.Alignof ∷ keyword.Atomic ∷ keyword.Bool ∷ keyword.Complex ∷ keyword.Generic ∷ keyword.Imaginary ∷ keyword.Noreturn ∷ keyword.StaticAssert ∷ keyword.ThreadLocal ∷ []

word_at : (p : Keyword) → slice_get words (key_code p) ≡ Some p
word_at keyword.Int = refl
word_at _ = refl

key_code_one : (p q : Keyword) → key_code p ≡ key_code q → p ≡ q
key_code_one p q e = let h : Some p ≡ Some q = sym (word_at p) ∙ ap (slice_get words) e ∙ word_at q in cc

pub is_key_tells : (p : Keyword) (k : Option Kind) → is_key p k ≡ true → k ≡ Some (kind.Key p)
unfolding is_key
is_key_tells p (Some (kind.Key q)) e = ap (λ x. Some (kind.Key x)) (sym (key_code_one p q (eqb-true (key_code p) (key_code q) e)))
is_key_tells p (Some kind.Name) e = cc
is_key_tells p (Some (kind.Number z)) e = cc
is_key_tells p (Some (kind.Punct w)) e = cc
is_key_tells p None e = cc

abbrev pub Signs : {A : Type 0} → Option Kind → (Punct → A) → A → Type 0
Signs k f x = (p : Punct) × (k ≡ Some (kind.Punct p)) × (f p ≡ x)

pub binary_tells : (l : ℕ) (k : Option Kind) (make : Binary) → binary_at l k ≡ Some make → Signs k binary_sign (Some (l, make))
unfolding binary_at
binary_tells l (Some (kind.Punct p)) make e = (p, refl, of_rank_tells l (binary_sign p) make e)
binary_tells l (Some kind.Name) make e = cc
binary_tells l (Some (kind.Number z)) make e = cc
binary_tells l (Some (kind.Key w)) make e = cc
binary_tells l None make e = cc

pub prefix_tells : (k : Option Kind) (make : Prefix) → prefix_at k ≡ Some make → Signs k prefix_sign (Some make)
unfolding prefix_at
prefix_tells (Some (kind.Punct p)) make e = (p, refl, e)
prefix_tells (Some kind.Name) make e = cc
prefix_tells (Some (kind.Number z)) make e = cc
prefix_tells (Some (kind.Key w)) make e = cc
prefix_tells None make e = cc

pub field_tells : (k : Option Kind) (make : FieldOf) → field_at k ≡ Some make → Signs k field_sign (Some make)
unfolding field_at
field_tells (Some (kind.Punct p)) make e = (p, refl, e)
field_tells (Some kind.Name) make e = cc
field_tells (Some (kind.Number z)) make e = cc
field_tells (Some (kind.Key w)) make e = cc
field_tells None make e = cc

-- the tokens that begin a primary expression
abbrev pub Starts : Start → Option Kind → Type 0
Starts a_name k = k ≡ Some kind.Name
Starts (a_number z) k = k ≡ Some (kind.Number z)
Starts a_null k = k ≡ Some (kind.Key keyword.Null)
Starts a_malloc k = k ≡ Some (kind.Key keyword.Malloc)
Starts a_paren k = k ≡ Some (kind.Punct punct.Open)
Starts no_start k = Unit {0}

pub start_tells : (k : Option Kind) → Starts (start_at k) k
unfolding start_at
start_tells (Some kind.Name) = refl
start_tells (Some (kind.Number z)) = refl
start_tells (Some (kind.Key keyword.Null)) = refl
start_tells (Some (kind.Key keyword.Malloc)) = refl
start_tells (Some (kind.Punct punct.Open)) = refl
start_tells _ = tt

-- the tokens that begin a type
abbrev pub Bases : BaseStart → Option Kind → Type 0
Bases an_int k = k ≡ Some (kind.Key keyword.Int)
Bases a_struct k = k ≡ Some (kind.Key keyword.Struct)
Bases an_alias k = k ≡ Some kind.Name
Bases no_base k = Unit {0}

pub base_tells : (k : Option Kind) → Bases (base_at k) k
unfolding base_at
base_tells (Some (kind.Key keyword.Int)) = refl
base_tells (Some (kind.Key keyword.Struct)) = refl
base_tells (Some kind.Name) = refl
base_tells _ = tt

module _ (tok : ℕ → Option Kind) (fits : ℕ → ℕ → Bool) where
  pub take_yes : (s : Spot) (next : Spot → Spot) → fits s.at s.level ≡ true → of.take tok fits next s ≡ got tt (next s)
  unfolding of.take
  take_yes s next e = ap (λ b. if b then got tt (next s) else failed (deep s.at)) e

  pub expect_yes : (s : Spot) (p : Punct) (next : Spot → Spot) → tok s.at ≡ Some (kind.Punct p) → fits s.at s.level ≡ true → of.expect tok fits p next s ≡ got tt (next s)
  unfolding of.expect
  expect_yes s p next e f =
      ap (λ b. if b then of.take tok fits next s else failed (bad s.at)) (ap (is_sign p) e ∙ sign_yes p) ∙ take_yes s next f

  pub name_yes : (s : Spot) → tok s.at ≡ Some kind.Name → fits s.at s.level ≡ true → of.expect_name tok fits s ≡ got tt (passed s)
  unfolding of.expect_name is_name
  name_yes s e f = ap (λ b. if b then of.take tok fits passed s else failed (bad s.at)) (ap is_name e) ∙ take_yes s passed f

  pub word_yes : (s : Spot) (k : Keyword) → tok s.at ≡ Some (kind.Key k) → fits s.at s.level ≡ true → of.expect_key tok fits k s ≡ got tt (passed s)
  unfolding of.expect_key
  word_yes s k e f = ap (λ b. if b then of.take tok fits passed s else failed (bad s.at)) (ap (is_key k) e ∙ key_yes k) ∙ take_yes s passed f

  pub close_yes : (s : Spot) (p : Punct) (n : ℕ) → tok s.at ≡ Some (kind.Punct p) → fits s.at n ≡ true → of.close tok fits p n s ≡ got tt (record { at = suc s.at; level = n })
  unfolding of.close
  close_yes s p n e f = expect_yes (back s n) p passed e f
