-- The sources that are refused, and what is said then. The texts and their order are this project's own.
use Rattle.std.specs.Prelude.{ℕ, ◌≡◌, false, List, ◌++◌, Ok, Err, codes}
use Rattle.std.specs.Fmt.{decimal}
use Rattle.cc_model.specs.declared.tokens.Token.{Token}
use Rattle.cc_model.specs.declared.typing.Wrong.{Wrong}
use Rattle.cc_model.specs.declared.typing.Wrong.TheVariants.{Unknown, Twice, Mismatch, TooLarge}
use Rattle.cc_model.specs.declared.trees.Program as source_program
use Rattle.cc_model.specs.Lexical.{LexicalFault, bad_byte, bad_number, open_comment, bad_directive, tokens_of, line_at}
use Rattle.cc_model.specs.Reads.{Accepts}
use Rattle.cc_model.specs.Faults.{Found, WellTyped, IsFirst, has_entry}
use Rattle.cc_model.specs.Source.{text_at, place_line}
use Rattle.c_parse.specs.Places.{IsSyntax, IsDeep}

abbrev pub offset_of : LexicalFault → ℕ
offset_of (bad_byte at) = at
offset_of (bad_number at) = at
offset_of (open_comment at) = at
offset_of (bad_directive at) = at

abbrev pub what_of : LexicalFault → List ℕ
what_of (bad_byte at) = codes "bad byte"
what_of (bad_number at) = codes "bad number"
what_of (open_comment at) = codes "open comment"
what_of (bad_directive at) = codes "bad directive"

-- source LINE: WHAT
abbrev pub source_text : ℕ → List ℕ → List ℕ
source_text line what = codes "source " ++ decimal line ++ codes ": " ++ what

-- what is wrong with a name, a declaration, a type or a size
abbrev pub wrong_text : Wrong → List ℕ
wrong_text Unknown = codes "unknown name"
wrong_text Twice = codes "declared twice"
wrong_text Mismatch = codes "type"
wrong_text TooLarge = codes "too large"

-- no entry NAME
abbrev pub no_entry_text : List ℕ → List ℕ
no_entry_text name = codes "no entry " ++ name

-- the bytes are refused with this text, for a tested function of this name: the first that applies in this order
pub data Refuses (bytes entry : List ℕ) : List ℕ → Type 0 where
  -- a byte, number, comment or directive is bad
  lexical : (fault : LexicalFault) → tokens_of bytes ≡ Err fault → Refuses bytes entry (source_text (line_at bytes (offset_of fault)) (what_of fault))
  -- the tokens are no program, and cease at this place to begin one
  syntax : (tokens : List Token) → (place : ℕ) → tokens_of bytes ≡ Ok tokens → ((tree : source_program.Program) → Accepts tokens tree → ⊥) →
      IsSyntax tokens place → Refuses bytes entry (source_text (place_line bytes tokens place) (codes "syntax"))
  -- or begin one in which the token at this place is the first whose level is too high
  too_deep : (tokens : List Token) → (place : ℕ) → tokens_of bytes ≡ Ok tokens → ((tree : source_program.Program) → Accepts tokens tree → ⊥) →
      IsDeep tokens place → Refuses bytes entry (source_text (place_line bytes tokens place) (codes "too deep"))
  -- a name, a declaration, a type or a size is wrong: the first fault is said
  fault : (tokens : List Token) → (tree : source_program.Program) → (f : Found) → tokens_of bytes ≡ Ok tokens → Accepts tokens tree →
      IsFirst (text_at bytes tokens) tree.items f → Refuses bytes entry (source_text (place_line bytes tokens f.token) (wrong_text f.what))
  -- nothing is wrong, and no function with a body has the name
  no_entry : (tokens : List Token) → (tree : source_program.Program) → tokens_of bytes ≡ Ok tokens → Accepts tokens tree →
      WellTyped (text_at bytes tokens) tree.items → has_entry (text_at bytes tokens) tree.items entry ≡ false → Refuses bytes entry (no_entry_text entry)
