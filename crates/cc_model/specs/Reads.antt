-- Which tokens are a program (C11 6.9). The bound on levels is this project's own.
use Rattle.std.specs.Prelude.{◌≡◌, ℕ, Bool, List, None}
use Rattle.cc_model.specs.declared.tokens.Token.{Token}
use Rattle.cc_model.specs.declared.trees.Program.{Program}
pub use Rattle.cc_model.specs.Spots.{Spot, start, kind_at, shallow}
use Rattle.cc_model.specs.ReadItems.{Items}

-- all of the tokens read as the program, and each token's index and level fit
pub record Reads (fits : ℕ → ℕ → Bool) (tokens : List Token) (program : Program) : Type 0 where
  pub end : Spot
  pub items : Items (kind_at tokens) fits start end program.items
  pub all : kind_at tokens end.at ≡ None

-- the tokens are accepted as the program: no token's level is above 200
abbrev pub Accepts : List Token → Program → Type 0
Accepts tokens program = Reads shallow tokens program
