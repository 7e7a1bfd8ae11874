-- How tokens read as the name of a type, with the stars behind it (C11 6.7.2, 6.7.6.1, 6.7.7).
use Rattle.std.specs.Prelude.{ℕ, suc, Bool, Option}
use Rattle.cc_model.specs.declared.tokens.Kind.{Kind}
use Rattle.cc_model.specs.declared.tokens.Punct.TheVariants as punct
use Rattle.cc_model.specs.declared.tokens.Keyword.TheVariants as keyword
use Rattle.cc_model.specs.declared.trees.Base.{Base}
use Rattle.cc_model.specs.declared.trees.Base.TheVariants as base
use Rattle.cc_model.specs.declared.trees.TypeName.{TypeName}
use Rattle.cc_model.specs.Spots.{Spot, opened, passed, back, Is, IsKey, IsName}

module _ (tok : ℕ → Option Kind) (fits : ℕ → ℕ → Bool) where
  -- type: 'int' | 'struct' NAME | NAME (C11 6.7.2, 6.7.2.1, 6.7.8)
  pub data BaseType : Spot → Spot → Base → Type 0 where
    int : {s : Spot} → IsKey tok fits keyword.Int s → BaseType s (passed s) base.Int
    struct : {s : Spot} → IsKey tok fits keyword.Struct s → IsName tok fits (passed s) → BaseType s (passed (passed s)) (base.Struct (suc s.at))
    alias : {s : Spot} → IsName tok fits s → BaseType s (passed s) (base.Alias s.at)

  -- stars: '*'* (C11 6.7.6.1); each is open at the stars that directly follow it, and nowhere else (this project's own)
  pub data Stars : Spot → Spot → ℕ → Type 0 where
    none : {s : Spot} → Stars s s 0
    star : {s t : Spot} {n : ℕ} → Is tok fits punct.Star s → Stars (opened s) t n → Stars s (back t s.level) (suc n)

  -- type '*'*
  pub data Typed : Spot → Spot → TypeName → Type 0 where
    typed : {s t u : Spot} {b : Base} {n : ℕ} → BaseType s t b → Stars t u n → Typed s u (record { base = b; stars = n })
