-- Places between the tokens of a file, and which token stands there.
-- The level of a token is the number of tokens before it that are open there. Levels, and their bound, are this project's own.
use Rattle.std.specs.Prelude.{◌≡◌, ℕ, suc, Bool, true, List, Option, Some, None, slice_get, nat_le}
use Rattle.cc_model.specs.declared.tokens.Token.{Token}
use Rattle.cc_model.specs.declared.tokens.Kind.{Kind}
use Rattle.cc_model.specs.declared.tokens.Kind.TheVariants as kind
use Rattle.cc_model.specs.declared.tokens.Punct.{Punct}
use Rattle.cc_model.specs.declared.tokens.Keyword.{Keyword}

-- a place between two tokens: the index of the next one, and how many of those before it are open there
pub record Spot : Type 0 where
  pub at : ℕ
  pub level : ℕ

-- before the first token nothing is open
abbrev pub start : Spot
start = record { at = 0; level = 0 }

-- behind the next token, which stays open: an opening bracket up to its closing one, an operator up to the end of its whole expression
abbrev pub opened : Spot → Spot
opened s = record { at = suc s.at; level = suc s.level }

-- behind the next token, which does not stay open
abbrev pub passed : Spot → Spot
passed s = record { at = suc s.at; level = s.level }

-- the same place, where all but the first n open tokens are open no more
abbrev pub back : Spot → ℕ → Spot
back s n = record { at = s.at; level = n }

-- behind a bracket that closes, or a `;`, where n tokens stay open
abbrev pub closed : Spot → ℕ → Spot
closed s n = record { at = suc s.at; level = n }

-- over the kinds of the tokens by their index, where each token's index and level fit
module _ (tok : ℕ → Option Kind) (fits : ℕ → ℕ → Bool) where
  -- the next token is of the kind, and its level fits
  abbrev pub Next : Kind → Spot → Type 0
  Next k s = (tok s.at ≡ Some k) × (fits s.at s.level ≡ true)

  abbrev pub Is : Punct → Spot → Type 0
  Is p s = Next (kind.Punct p) s

  abbrev pub IsKey : Keyword → Spot → Type 0
  IsKey k s = Next (kind.Key k) s

  abbrev pub IsName : Spot → Type 0
  IsName s = Next kind.Name s

abbrev pub kind_of : Option Token → Option Kind
kind_of (Some t) = Some t.kind
kind_of None = None

-- the kind of the token of this index, where there is one
abbrev pub kind_at : List Token → ℕ → Option Kind
kind_at tokens i = kind_of (slice_get tokens i)

-- a token's level is at most 200
abbrev pub shallow : ℕ → ℕ → Bool
shallow i level = nat_le level 200
