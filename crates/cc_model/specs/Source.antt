-- What a source is: a program with the tested function.
use Rattle.std.specs.Prelude.{ℕ, ◌≡◌, List, [], length, Option, Some, None, Ok, slice_get}
use Rattle.cc_model.specs.declared.tokens.Token.{Token}
use Rattle.cc_model.specs.declared.checked.Checked.{Checked}
use Rattle.cc_model.specs.Core.{Program}
use Rattle.cc_model.specs.Lexical.{tokens_of, line_at, text_of}
use Rattle.cc_model.specs.Reads.{Accepts}
use Rattle.cc_model.specs.CheckedProgram.{IsChecked, core_of}

-- ---- names and lines

abbrev pub line_or_zero : Option Token → ℕ
line_or_zero (Some t) = t.line
line_or_zero None = 0

-- the line of a token
abbrev pub line_of : List Token → ℕ → ℕ
line_of tokens at = line_or_zero (slice_get tokens at)

abbrev pub line_or_end : List ℕ → Option Token → ℕ
line_or_end bytes (Some t) = t.line
line_or_end bytes None = line_at bytes (length bytes)

-- the line of a token, or of the source's end where there is no such token
abbrev pub place_line : List ℕ → List Token → ℕ → ℕ
place_line bytes tokens place = line_or_end bytes (slice_get tokens place)

abbrev pub text_or_none : List ℕ → Option Token → List ℕ
text_or_none bytes (Some t) = text_of bytes t
text_or_none bytes None = []

-- the text of a token
abbrev pub text_at : List ℕ → List Token → ℕ → List ℕ
text_at bytes tokens at = text_or_none bytes (slice_get tokens at)

-- ---- the program

-- the bytes are the source of the program, whose tested function has this name: they are tokens, which read as a program that is
-- well typed and has such a function, and its names, types and sites are resolved
pub record IsProgram (bytes entry : List ℕ) (p : Program) : Type 0 where
  pub tokens : List Token
  pub checked : Checked
  pub lexed : tokens_of bytes ≡ Ok tokens
  pub read : Accepts tokens checked.program
  pub right : IsChecked (text_at bytes tokens) tokens entry checked
  pub core : p ≡ core_of checked
