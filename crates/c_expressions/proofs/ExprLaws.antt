-- What the laws of statements need of types and expressions.
use Rattle.std.proofs.Common.{◌≡◌, ℕ, ◌<◌, Bool, true, false, Option, Some, arith}
use Rattle.cc_model.specs.declared.tokens.Kind.{Kind}
use Rattle.cc_model.specs.declared.tokens.Kind.TheVariants as kind
use Rattle.cc_model.specs.declared.tokens.Punct.TheVariants as punct
use Rattle.cc_model.specs.declared.trees.Base.{Base}
use Rattle.cc_model.specs.declared.trees.TypeName.{TypeName}
use Rattle.cc_model.specs.declared.trees.Expr.{Expr}
use Rattle.cc_model.specs.Spots.{Spot}
use Rattle.cc_model.specs.ReadTypes.{BaseType, Stars, Typed}
use Rattle.cc_model.specs.ReadExpressions.{Exp, Bracketed}
use Rattle.c_expressions.specs.Descent.{got, Ends, is_sign}
use Rattle.c_expressions.specs.Descent as of
use Rattle.c_expressions.proofs.Made.{Made}
use Rattle.c_expressions.proofs.First.{rank}
use Rattle.c_expressions.proofs.CompleteTypes.{base_done, stars_done, type_done}
use Rattle.c_expressions.proofs.Complete.{complete, unary_complete as unary_done, bracketed_complete as bracketed_done}
use Rattle.c_expressions.proofs.Sound.{base_made, stars_made, type_made, sound_chain, sound_unary, sound_bracketed}

-- whether an expression goes on nowhere at the token
unfoldable pub free : Option Kind → Bool
free (Some (kind.Punct punct.Open)) = false
free (Some (kind.Punct punct.OpenSquare)) = false
free (Some (kind.Punct punct.Dot)) = false
free (Some (kind.Punct punct.Arrow)) = false
free (Some (kind.Punct punct.Star)) = false
free (Some (kind.Punct punct.Slash)) = false
free (Some (kind.Punct punct.Percent)) = false
free (Some (kind.Punct punct.Plus)) = false
free (Some (kind.Punct punct.Dash)) = false
free (Some (kind.Punct punct.Less)) = false
free (Some (kind.Punct punct.Greater)) = false
free (Some (kind.Punct punct.AtMost)) = false
free (Some (kind.Punct punct.AtLeast)) = false
free (Some (kind.Punct punct.Equal)) = false
free (Some (kind.Punct punct.Unequal)) = false
free (Some (kind.Punct punct.Both)) = false
free (Some (kind.Punct punct.Either)) = false
free _ = true

free_rank : (k : Option Kind) → free k ≡ true → 6 < rank k
unfolding free rank
free_rank (Some (kind.Punct punct.Open)) e = cc
free_rank (Some (kind.Punct punct.OpenSquare)) e = cc
free_rank (Some (kind.Punct punct.Dot)) e = cc
free_rank (Some (kind.Punct punct.Arrow)) e = cc
free_rank (Some (kind.Punct punct.Star)) e = cc
free_rank (Some (kind.Punct punct.Slash)) e = cc
free_rank (Some (kind.Punct punct.Percent)) e = cc
free_rank (Some (kind.Punct punct.Plus)) e = cc
free_rank (Some (kind.Punct punct.Dash)) e = cc
free_rank (Some (kind.Punct punct.Less)) e = cc
free_rank (Some (kind.Punct punct.Greater)) e = cc
free_rank (Some (kind.Punct punct.AtMost)) e = cc
free_rank (Some (kind.Punct punct.AtLeast)) e = cc
free_rank (Some (kind.Punct punct.Equal)) e = cc
free_rank (Some (kind.Punct punct.Unequal)) e = cc
free_rank (Some (kind.Punct punct.Both)) e = cc
free_rank (Some (kind.Punct punct.Either)) e = cc
free_rank _ e = omega arith

module _ (tok : ℕ → Option Kind) (fits : ℕ → ℕ → Bool) where
  pub base_complete : {s t : Spot} {b : Base} → BaseType tok fits s t b → of.base_type tok fits s ≡ got b t
  base_complete d = base_done tok fits d

  pub base_sound : (s : Spot) → Made (λ b t. BaseType tok fits s t b) (of.base_type tok fits s)
  base_sound s = base_made tok fits s

  pub stars_complete : {s t : Spot} {k : ℕ} → Stars tok fits s t k → is_sign punct.Star (tok t.at) ≡ false → Ends (λ m. of.stars tok fits m) s (got k t)
  stars_complete d e = stars_done tok fits d e

  pub stars_sound : (n : ℕ) (s : Spot) → Made (λ k t. Stars tok fits s t k) (of.stars tok fits n s)
  stars_sound n s = stars_made tok fits n s

  pub type_complete : {s t : Spot} {r : TypeName} → Typed tok fits s t r → is_sign punct.Star (tok t.at) ≡ false → Ends (λ m. of.type_name tok fits m) s (got r t)
  type_complete d e = type_done tok fits d e

  pub type_sound : (n : ℕ) (s : Spot) → Made (λ r t. Typed tok fits s t r) (of.type_name tok fits n s)
  type_sound n s = type_made tok fits n s

  pub expr_complete : {s t : Spot} {a : Expr} → Exp tok fits 6 s t a → free (tok t.at) ≡ true → Ends (λ m. of.chain tok fits m 6) s (got a t)
  expr_complete {s} {t} {a} d e = complete tok fits s t a d (free_rank (tok t.at) e)

  pub expr_sound : (n : ℕ) (s : Spot) → Made (λ a t. Exp tok fits 6 s t a) (of.chain tok fits n 6 s)
  expr_sound n s = sound_chain tok fits n 6 s

  pub unary_complete : {s t : Spot} {a : Expr} → Exp tok fits 0 s t a → free (tok t.at) ≡ true → Ends (λ m. of.unary tok fits m) s (got a t)
  unary_complete {s} {t} {a} d e = unary_done tok fits s t a d (let h = free_rank (tok t.at) e in omega arith)

  pub unary_sound : (n : ℕ) (s : Spot) → Made (λ a t. Exp tok fits 0 s t a) (of.unary tok fits n s)
  unary_sound n s = sound_unary tok fits n s

  pub bracketed_complete : {s t : Spot} {a : Expr} → Bracketed tok fits s t a → Ends (λ m. of.bracketed tok fits m) s (got a t)
  bracketed_complete d = bracketed_done tok fits d

  pub bracketed_sound : (n : ℕ) (s : Spot) → Made (λ a t. Bracketed tok fits s t a) (of.bracketed tok fits n s)
  bracketed_sound n s = sound_bracketed tok fits n s
