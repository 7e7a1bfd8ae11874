-- The tokens of a source: what stands at the front of its rest, one piece behind the other (C11 5.1.1.2 and 6.4).
use Rattle.std.specs.Prelude.{ℕ, zero, suc, ◌+◌, ◌*◌, ◌-◌, pos, Bool, not, ◌&&◌, ◌||◌, List, [], ◌∷◌, ◌++◌, length, take, drop, Option, Some, None, unwrap_or, option_map, Result, Ok, Err, nat_eq, nat_lt, nat_le, ◌==◌, if◌then◌else◌, slice_index, slice_range, codes, fold, count_by}
use Rattle.std.specs.List.{starts_with, prefix_len, suffix_len, position_or_len, take_while, before_first, after_first, after_last, list_all, find}
use Rattle.std.specs.Option.{ok_or}
use Rattle.std.specs.Str.{bytes_eq}
use Rattle.cc_model.specs.declared.tokens.Token.{Token}
use Rattle.cc_model.specs.declared.tokens.Kind.{Kind}
use Rattle.cc_model.specs.declared.tokens.Kind.TheVariants as kind
use Rattle.cc_model.specs.declared.tokens.Keyword.{Keyword}
use Rattle.cc_model.specs.declared.tokens.Keyword.TheVariants as key
use Rattle.cc_model.specs.declared.tokens.Punct.{Punct}
use Rattle.cc_model.specs.declared.tokens.Punct.TheVariants as sign

-- a fault, at the offset of its first byte
pub data LexicalFault : Type 0 where
  bad_byte : (at : ℕ) → LexicalFault
  bad_number : (at : ℕ) → LexicalFault
  open_comment : (at : ℕ) → LexicalFault
  bad_directive : (at : ℕ) → LexicalFault

-- line feed ends a line (5.2.1)
unfoldable pub is_newline : ℕ → Bool
is_newline b = b == 10

-- space, tab, newline, vertical tab, form feed (6.4), and carriage return (this project's own)
unfoldable pub is_blank : ℕ → Bool
is_blank b = b == 32 || (nat_le 9 b && nat_le b 13)

-- 0 to 9 (5.2.1)
unfoldable pub is_digit : ℕ → Bool
is_digit b = nat_le 48 b && nat_le b 57

-- A to Z, a to z and _ (6.4.2.1)
unfoldable pub is_letter : ℕ → Bool
is_letter b = (nat_le 65 b && nat_le b 90) || (nat_le 97 b && nat_le b 122) || b == 95

-- what a name goes on with (6.4.2.1)
unfoldable pub is_name_byte : ℕ → Bool
is_name_byte b = is_letter b || is_digit b

-- the line of an offset: 1 plus the newlines before it (this project's own)
unfoldable pub line_at : List ℕ → ℕ → ℕ
line_at source at = 1 + count_by is_newline (take at source)

-- its column: 1 plus the bytes since the last newline (this project's own)
unfoldable pub col_at : List ℕ → ℕ → ℕ
col_at source at = 1 + suffix_len (λ b. not (is_newline b)) (take at source)

-- all bytes before the offset on its line are blanks
unfoldable pub is_first_on_line : List ℕ → ℕ → Bool
is_first_on_line source at = list_all is_blank (after_last is_newline (take at source))

-- a token's text: the source from its start to its end (this project's own)
unfoldable pub text_of : List ℕ → Token → List ℕ
text_of source t = slice_range source t.start t.«end»

-- the bytes begin with the text
unfoldable pub begins : List ℕ → List ℕ → Bool
begins bytes text = starts_with nat_eq bytes text

-- The words that are no names: those that the grammar uses, and the other keywords of C11 (6.4.1). NULL and the calls among them are
-- words too (this project's own).
unfoldable pub words : List (List ℕ × Keyword)
words =
    (codes "int", key.Int) ∷ (codes "struct", key.Struct) ∷ (codes "typedef", key.Typedef) ∷ (codes "void", key.Void)
    ∷ (codes "if", key.If) ∷ (codes "else", key.Else) ∷ (codes "while", key.While) ∷ (codes "do", key.Do)
    ∷ (codes "for", key.For) ∷ (codes "return", key.Return) ∷ (codes "break", key.Break) ∷ (codes "continue", key.Continue)
    ∷ (codes "sizeof", key.Sizeof) ∷ (codes "NULL", key.Null) ∷ (codes "malloc", key.Malloc) ∷ (codes "assert", key.Assert)
    ∷ (codes "assume", key.Assume) ∷ (codes "abort", key.Abort) ∷ (codes "CREST_int", key.CrestInt)
    ∷ (codes "auto", key.Auto) ∷ (codes "case", key.Case) ∷ (codes "char", key.Char) ∷ (codes "const", key.Const)
    ∷ (codes "default", key.Default) ∷ (codes "double", key.Double) ∷ (codes "enum", key.Enum) ∷ (codes "extern", key.Extern)
    ∷ (codes "float", key.Float) ∷ (codes "goto", key.Goto) ∷ (codes "inline", key.Inline) ∷ (codes "long", key.Long)
    ∷ (codes "register", key.Register) ∷ (codes "restrict", key.Restrict) ∷ (codes "short", key.Short) ∷ (codes "signed", key.Signed)
    ∷ (codes "static", key.Static) ∷ (codes "switch", key.Switch) ∷ (codes "union", key.Union) ∷ (codes "unsigned", key.Unsigned)
    ∷ (codes "volatile", key.Volatile) ∷ (codes "_Alignas", key.Alignas) ∷ (codes "_Alignof", key.Alignof)
    ∷ (codes "_Atomic", key.Atomic) ∷ (codes "_Bool", key.Bool) ∷ (codes "_Complex", key.Complex) ∷ (codes "_Generic", key.Generic)
    ∷ (codes "_Imaginary", key.Imaginary) ∷ (codes "_Noreturn", key.Noreturn) ∷ (codes "_Static_assert", key.StaticAssert)
    ∷ (codes "_Thread_local", key.ThreadLocal) ∷ []

-- what a table has at a text
unfoldable pub entry : {A : Type 0} → List (List ℕ × A) → List ℕ → Option A
entry table text = option_map (λ e. e.1) (find (λ e. bytes_eq text e.0) table)

-- the signs (6.4.6)
unfoldable pub signs : List (List ℕ × Punct)
signs =
    (codes "->", sign.Arrow) ∷ (codes "<=", sign.AtMost) ∷ (codes ">=", sign.AtLeast) ∷ (codes "==", sign.Equal)
    ∷ (codes "!=", sign.Unequal) ∷ (codes "&&", sign.Both) ∷ (codes "||", sign.Either) ∷ (codes "+=", sign.AddTo)
    ∷ (codes "-=", sign.SubFrom) ∷ (codes "*=", sign.MulBy) ∷ (codes "/=", sign.DivBy) ∷ (codes "%=", sign.RemBy)
    ∷ (codes "++", sign.Increase) ∷ (codes "--", sign.Decrease)
    ∷ (codes "{", sign.OpenBrace) ∷ (codes "}", sign.CloseBrace) ∷ (codes "(", sign.Open) ∷ (codes ")", sign.Close)
    ∷ (codes "[", sign.OpenSquare) ∷ (codes "]", sign.CloseSquare) ∷ (codes ";", sign.Semicolon) ∷ (codes ",", sign.Comma)
    ∷ (codes ".", sign.Dot) ∷ (codes "*", sign.Star) ∷ (codes "&", sign.Ampersand) ∷ (codes "!", sign.Bang)
    ∷ (codes "+", sign.Plus) ∷ (codes "-", sign.Dash) ∷ (codes "/", sign.Slash) ∷ (codes "%", sign.Percent)
    ∷ (codes "<", sign.Less) ∷ (codes ">", sign.Greater) ∷ (codes "=", sign.Assign) ∷ []

-- the longer of two signs, where there are two
unfoldable pub longer : List ℕ × Punct → Option (List ℕ × Punct) → List ℕ × Punct
longer s None = s
longer s (Some t) = if nat_lt (length s.0) (length t.0) then t else s

-- the longest sign of a table that the bytes begin with (6.4, paragraph 4)
unfoldable pub longest : List (List ℕ × Punct) → List ℕ → Option (List ℕ × Punct)
longest [] bytes = None
longest (s ∷ table) bytes = if begins bytes s.0 then Some (longer s (longest table bytes)) else longest table bytes

-- what stands at the front of the rest: a token of this kind, or what only separates tokens; and its length in bytes
pub record Piece : Type 0 where
  pub kind : Option Kind
  pub len : ℕ

-- what only separates tokens
unfoldable pub gap : ℕ → Piece
gap n = record { kind = None; len = n }

-- a token
unfoldable pub lexeme : Kind → ℕ → Piece
lexeme k n = record { kind = Some k; len = n }

-- a name, or a word of the table (6.4.1, 6.4.2)
unfoldable pub word_of : List ℕ → Piece
word_of text = lexeme (unwrap_or (option_map kind.Key (entry words text)) kind.Name) (length text)

-- the value of decimal digits (6.4.4.1)
unfoldable pub value_of : List ℕ → ℕ
value_of digits = fold (λ value digit. 10 * value + (digit - 48)) 0 digits

-- 0, or digits that begin with no 0 (octal and suffixes are left out: this project's own)
unfoldable pub is_decimal : List ℕ → Bool
is_decimal text = list_all is_digit text && (bytes_eq text (codes "0") || not (begins text (codes "0")))

-- a decimal of a value that an int has
unfoldable pub is_number : List ℕ → Bool
is_number text = is_decimal text && nat_le (value_of text) 2147483647

-- the run of name bytes that begins with a digit is a number, or a fault (6.4.8)
unfoldable pub number_of : ℕ → List ℕ → Result Piece LexicalFault
number_of at text = if is_number text then Ok (lexeme (kind.Number (pos (value_of text))) (length text)) else Err (bad_number at)

-- how many bytes stand before the next */
unfoldable pub before_close : List ℕ → Option ℕ
before_close [] = None
before_close (b ∷ bytes) = if begins (b ∷ bytes) (codes "*/") then Some 0 else option_map suc (before_close bytes)

-- a comment ends with the first */ behind its /* (6.4.9)
unfoldable pub comment_of : ℕ → List ℕ → Result Piece LexicalFault
comment_of at bytes = ok_or (option_map (λ n. gap (2 + n + 2)) (before_close (drop 2 bytes))) (open_comment at)

-- the bytes without the blanks at their front
unfoldable pub skip_blanks : List ℕ → List ℕ
skip_blanks bytes = drop (prefix_len is_blank bytes) bytes

-- the mark stands in the bytes, and behind the first one only blanks (this project's own)
unfoldable pub closes : ℕ → List ℕ → Bool
closes mark bytes = nat_lt (position_or_len (λ b. b == mark) bytes) (length bytes) && list_all is_blank (after_first (λ b. b == mark) bytes)

-- a header's name in < and >, or in two quotes, and blanks (6.4.7); 62 is >, 34 is "
unfoldable pub is_header : List ℕ → Bool
is_header bytes = if begins bytes (codes "<") then closes 62 (drop 1 bytes) else (begins bytes (codes "\"") && closes 34 (drop 1 bytes))

-- a line from its # on is an include (6.10.2)
unfoldable pub is_include : List ℕ → Bool
is_include line = let word = skip_blanks (drop 1 line) in begins word (codes "include") && is_header (skip_blanks (drop 7 word))

-- a directive ends before the newline, and only includes are passed over (this project's own)
unfoldable pub directive_of : ℕ → List ℕ → Result Piece LexicalFault
directive_of at line = if is_include line then Ok (gap (length line)) else Err (bad_directive at)

-- the bytes up to the next newline
unfoldable pub line_of : List ℕ → List ℕ
line_of bytes = before_first is_newline bytes

-- the longest sign, or a byte that begins no token
unfoldable pub sign_of : ℕ → List ℕ → Result Piece LexicalFault
sign_of at bytes = ok_or (option_map (λ s. lexeme (kind.Punct s.1) (length s.0)) (longest signs bytes)) (bad_byte at)

-- What stands at the front of bytes, which go from the offset at on: blanks, a directive (35 is #), a number, a name or word, a comment or
-- a sign (6.4). first says that there are only blanks before them on their line.
unfoldable pub piece_of : Bool → ℕ → List ℕ → Result Piece LexicalFault
piece_of first at bytes =
    let b = slice_index bytes 0 in
    if is_blank b then Ok (gap (prefix_len is_blank bytes)) else (
    if b == 35 then (if first then directive_of at (line_of bytes) else Err (bad_byte at)) else (
    if is_digit b then number_of at (take_while is_name_byte bytes) else (
    if is_letter b then Ok (word_of (take_while is_name_byte bytes)) else (
    if begins bytes (codes "//") then Ok (gap (length (line_of bytes))) else (
    if begins bytes (codes "/*") then comment_of at bytes else
    sign_of at bytes)))))

-- what stands at an offset of a source
unfoldable pub piece_at : List ℕ → ℕ → Result Piece LexicalFault
piece_at source at = piece_of (is_first_on_line source at) at (drop at source)

-- the token of a piece that begins at an offset, if it has one
unfoldable pub token_at : List ℕ → ℕ → Piece → List Token
token_at source at piece = elim piece.kind [
  | None ↦ []
  | Some k ↦ record { kind = k; start = at; «end» = at + piece.len; line = line_at source at; col = col_at source at } ∷ []
]

-- one reading behind the other, up to the first fault
infixl 10 ◌>>=◌
unfoldable pub ◌>>=◌ : {A B : Type 0} → Result A LexicalFault → (A → Result B LexicalFault) → Result B LexicalFault
(Ok x) >>= f = f x
(Err e) >>= f = Err e

-- The tokens from an offset on, or the first fault. The bound is the number of bytes left, or more.
unfoldable pub tokens_from : ℕ → List ℕ → ℕ → Result (List Token) LexicalFault
tokens_from zero source at = Ok []
tokens_from (suc left) source at =
    if nat_lt at (length source) then (do
      piece ← piece_at source at
      tokens ← tokens_from left source (at + piece.len)
      Ok (token_at source at piece ++ tokens))
    else Ok []

-- the tokens of a source, or its fault of least offset
unfoldable pub tokens_of : List ℕ → Result (List Token) LexicalFault
tokens_of source = tokens_from (length source) source 0
