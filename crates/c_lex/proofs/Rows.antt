-- Small sources, by computation.
use Rattle.std.proofs.Common.{◌≡◌, ℕ, pos, [], ◌∷◌, Ok, Err, refl}
use lib.Chars.{codes}
use Rattle.cc_model.specs.declared.tokens.Token.{Token}
use Rattle.cc_model.specs.declared.tokens.Kind.{Kind}
use Rattle.cc_model.specs.declared.tokens.Kind.TheVariants.{Name, Number, Key, Punct}
use Rattle.cc_model.specs.declared.tokens.Keyword.TheVariants as key
use Rattle.cc_model.specs.declared.tokens.Punct.TheVariants as sign
use Rattle.cc_model.specs.Lexical.{LexicalFault, bad_byte, bad_number, open_comment, bad_directive, tokens_of, line_at, col_at, text_of}
use Rattle.cc_model.specs.Lexical as of
use Rattle.cc_model.specs.Lexical.{◌>>=◌}

unfoldable pub everything : Unit {0}
unfolding of.is_newline of.is_blank of.is_digit of.is_letter of.is_name_byte of.line_at of.col_at of.is_first_on_line of.text_of of.begins of.words of.entry of.signs of.longer of.longest of.gap of.lexeme of.word_of of.value_of of.is_decimal of.is_number of.number_of of.before_close of.comment_of of.skip_blanks of.closes of.is_header of.is_include of.directive_of of.line_of of.sign_of of.piece_of of.piece_at of.token_at ◌>>=◌ of.tokens_from of.tokens_of
everything = tt

at : Kind → ℕ → ℕ → ℕ → ℕ → Token
at k s e l c = record { kind = k; start = s; «end» = e; line = l; col = c }

-- no byte, no token
empty : tokens_of [] ≡ Ok []
unfolding everything
empty = refl

whole : tokens_of (codes "int f(void) { return 0; }") ≡ Ok (
    at (Key key.Int) 0 3 1 1 ∷ at Name 4 5 1 5 ∷ at (Punct sign.Open) 5 6 1 6 ∷ at (Key key.Void) 6 10 1 7 ∷ at (Punct sign.Close) 10 11 1 11
    ∷ at (Punct sign.OpenBrace) 12 13 1 13 ∷ at (Key key.Return) 14 20 1 15 ∷ at (Number (pos 0)) 21 22 1 22 ∷ at (Punct sign.Semicolon) 22 23 1 23
    ∷ at (Punct sign.CloseBrace) 24 25 1 25 ∷ [])
unfolding everything at
whole = refl

-- the longest sign comes first
plus : tokens_of (codes "a+++b") ≡ Ok (at Name 0 1 1 1 ∷ at (Punct sign.Increase) 1 3 1 2 ∷ at (Punct sign.Plus) 3 4 1 4 ∷ at Name 4 5 1 5 ∷ [])
unfolding everything at
plus = refl

arrows : tokens_of (codes "x->y--") ≡ Ok (at Name 0 1 1 1 ∷ at (Punct sign.Arrow) 1 3 1 2 ∷ at Name 3 4 1 4 ∷ at (Punct sign.Decrease) 4 6 1 5 ∷ [])
unfolding everything at
arrows = refl

orders : tokens_of (codes "a>=b>c") ≡ Ok (at Name 0 1 1 1 ∷ at (Punct sign.AtLeast) 1 3 1 2 ∷ at Name 3 4 1 4 ∷ at (Punct sign.Greater) 4 5 1 5 ∷ at Name 5 6 1 6 ∷ [])
unfolding everything at
orders = refl

-- | alone is no sign, || is
bar : tokens_of (codes "a|b") ≡ Err (bad_byte 1)
unfolding everything
bar = refl

either : tokens_of (codes "||") ≡ Ok (at (Punct sign.Either) 0 2 1 1 ∷ [])
unfolding everything at
either = refl

-- numbers
greatest : tokens_of (codes "2147483647") ≡ Ok (at (Number (pos 2147483647)) 0 10 1 1 ∷ [])
unfolding everything at
greatest = refl

too_great : tokens_of (codes " 2147483648") ≡ Err (bad_number 1)
unfolding everything
too_great = refl

octal : tokens_of (codes "007") ≡ Err (bad_number 0)
unfolding everything
octal = refl

mixed : tokens_of (codes "1x") ≡ Err (bad_number 0)
unfolding everything
mixed = refl

-- words and names
words : tokens_of (codes "CREST_int ints _Bool _bool") ≡ Ok (at (Key key.CrestInt) 0 9 1 1 ∷ at Name 10 14 1 11 ∷ at (Key key.Bool) 15 20 1 16 ∷ at Name 21 26 1 22 ∷ [])
unfolding everything at
words = refl

-- comments separate, and count in lines and columns
comments : tokens_of (codes "a/**/b//c\n /*\n*/ d") ≡ Ok (at Name 0 1 1 1 ∷ at Name 5 6 1 6 ∷ at Name 17 18 3 4 ∷ [])
unfolding everything at
comments = refl

unclosed : tokens_of (codes "/* x") ≡ Err (open_comment 0)
unfolding everything
unclosed = refl

-- the star of the opening mark closes nothing
overlap : tokens_of (codes "/*/") ≡ Err (open_comment 0)
unfolding everything
overlap = refl

-- directives
include : tokens_of (codes " # include <stdio.h> \nx") ≡ Ok (at Name 22 23 2 1 ∷ [])
unfolding everything at
include = refl

quoted : tokens_of (codes "#include \"\"") ≡ Ok []
unfolding everything
quoted = refl

define : tokens_of (codes "\n #define N 1") ≡ Err (bad_directive 2)
unfolding everything
define = refl

include_comment : tokens_of (codes "#include <a> //") ≡ Err (bad_directive 0)
unfolding everything
include_comment = refl

-- a # behind a comment, also one that began on an earlier line
behind_comment : tokens_of (codes "/**/ #include <a>") ≡ Err (bad_byte 5)
unfolding everything
behind_comment = refl

behind_lines : tokens_of (codes "/*\n*/ #include <a>") ≡ Err (bad_byte 6)
unfolding everything
behind_lines = refl

-- the first fault counts
first_fault : tokens_of (codes "a 1x @") ≡ Err (bad_number 2)
unfolding everything
first_fault = refl
