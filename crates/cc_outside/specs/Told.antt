-- Bytes that a sink may tell or not.
use Rattle.std.specs.Prelude.{◌≡◌, ℕ, List, ◌++◌, Option, None, Some}
use Rattle.cc_outside.specs.Prefix.{IsFirstPart}

-- the bytes written once a piece is appended to them, where they are told; this project's own
abbrev pub appended : Option (List ℕ) → List ℕ → Option (List ℕ)
appended None piece = None
appended (Some bytes) piece = Some (bytes ++ piece)

-- a first part of the piece was appended to the bytes written; this project's own
pub record WritesPart (old new : Option (List ℕ)) (piece : List ℕ) : Type 0 where
  pub part : List ℕ
  pub first : IsFirstPart part piece
  pub written : new ≡ appended old part
