-- Values of the code, as those of the definition.
use Rattle.std.specs.Prelude.{List, [], ◌∷◌, Option, Some, None}
use Rattle.cc_model.specs.Lexical as of
use Rattle.c_lex.specs.declared.pieces.Piece.{Piece}

abbrev pub view : Piece → of.Piece
view p = record { kind = p.kind; len = p.len }

-- one, or none
abbrev pub listed : {A : Type 0} → Option A → List A
listed None = []
listed (Some x) = x ∷ []
