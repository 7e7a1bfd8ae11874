-- A place of the code in a source.
use Rattle.std.specs.Prelude.{◌≡◌, ◌≤◌, ℕ, List, length}
use Rattle.cc_model.specs.Lexical as of
use Rattle.c_lex.specs.declared.places.Place.{Place}

-- the line and the column are those of the offset, and the flag says that there are only blanks before it on its line
pub record IsPlace (source : List ℕ) (place : Place) : Type 0 where
  pub within : place.at ≤ length source
  pub line : place.line ≡ of.line_at source place.at
  pub col : place.col ≡ of.col_at source place.at
  pub first : place.is_first ≡ of.is_first_on_line source place.at
