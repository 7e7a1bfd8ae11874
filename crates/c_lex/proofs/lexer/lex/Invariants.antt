use Rattle.std.proofs.Common.{ℕ, List, length, ◌-◌, ◌≤◌}
use Rattle.std.specs.List.{All}
use Rattle.cc_model.specs.declared.tokens.Token.{Token}
use Rattle.c_lex.specs.Positions.{IsPlace}
use Rattle.c_lex.specs.declared.places.Place.{Place}
use Rattle.c_lex.proofs.Runs.{SoFar, Lies}
use Rattle.c_lex.proofs.lexer.lex.Given as goal

pub record Lexed (source : List ℕ) (tokens : List Token) (place : Place) : Type 0 where
  pub place_is : IsPlace source place
  pub so_far : SoFar source tokens place.at
  pub few : length tokens ≤ place.at
  pub lies : All (Lies (length source)) tokens

abbrev pub invariant-loop-place : goal.invariant-loop-place
invariant-loop-place l = Lexed l.source l.tokens.items l.place

abbrev pub decreases-loop-place : goal.decreases-loop-place
decreases-loop-place l = length l.source - l.place.at
