-- What stands at the front, by its first byte.
use Rattle.std.proofs.Common.{◌≡◌, ◌≢◌, ℕ, ◌+◌, ◌<◌, ◌≤◌, Bool, true, false, not, ◌||◌, cond, List, [], ◌∷◌, drop, length, Option, Some, None, Result, Ok, Err, ℤ, pos, sym, ap, refl, ◌∙◌, eq-eqb, arith}
use Rattle.std.specs.Prelude.{slice_index, ◌==◌, IfOk, option_map, unwrap_or}
use Rattle.std.specs.Option.{ok_or}
use Rattle.std.specs.List.{prefix_len, take_while}
use Rattle.std.proofs.lemmas.Bool.Decides.{nat_tests}
use Rattle.std.proofs.lemmas.List.Folds.{length-prefix_len}
use lib.Chars.{codes}
use Rattle.cc_model.specs.declared.tokens.Punct.{Punct}
use Rattle.cc_model.specs.declared.tokens.Keyword.{Keyword}
use Rattle.cc_model.specs.declared.tokens.Kind.TheVariants as kind
use Rattle.cc_model.specs.Lexical as of
use Rattle.cc_model.specs.Lexical.{LexicalFault, bad_byte, piece_of, gap, lexeme, is_newline, is_blank, is_digit, is_letter, is_name_byte, begins, line_of}
use Rattle.c_lex.specs.declared.faults.LexFault.{LexFault}
use Rattle.c_lex.specs.declared.pieces.Piece.{Piece}
use Rattle.c_lex.specs.Tables.{sized}

pick : {A : Type 0} (b : Bool) (x y : A) → b ≡ true → cond b x y ≡ x
pick b x y e = ap (λ t. cond t x y) e

skip : {A : Type 0} (b : Bool) (x y : A) → b ≡ false → cond b x y ≡ y
skip b x y e = ap (λ t. cond t x y) e

is_other : (n m : ℕ) → n ≢ m → (n == m) ≡ false
is_other n m h = grind (arith, nat_tests)

pub piece_blank : (first : Bool) (at : ℕ) (bytes : List ℕ) → is_blank (slice_index bytes 0) ≡ true → piece_of first at bytes ≡ Ok (gap (prefix_len is_blank bytes))
unfolding piece_of
piece_blank first at bytes b = pick _ _ _ b

pub piece_directive : (at : ℕ) (bytes : List ℕ) → is_blank (slice_index bytes 0) ≡ false → slice_index bytes 0 ≡ 35 → piece_of true at bytes ≡ of.directive_of at (line_of bytes)
unfolding piece_of
piece_directive at bytes b h = skip _ _ _ b ∙ pick _ _ _ (eq-eqb _ _ h)

pub piece_stray : (at : ℕ) (bytes : List ℕ) → is_blank (slice_index bytes 0) ≡ false → slice_index bytes 0 ≡ 35 → piece_of false at bytes ≡ Err (bad_byte at)
unfolding piece_of
piece_stray at bytes b h = skip _ _ _ b ∙ pick _ _ _ (eq-eqb _ _ h)

-- the first byte is no blank and no #
pub record Plain (bytes : List ℕ) : Type 0 where
  pub blank : is_blank (slice_index bytes 0) ≡ false
  pub hash : slice_index bytes 0 ≢ 35

pub piece_number : (first : Bool) (at : ℕ) (bytes : List ℕ) → Plain bytes → is_digit (slice_index bytes 0) ≡ true → piece_of first at bytes ≡ of.number_of at (take_while is_name_byte bytes)
unfolding piece_of
piece_number first at bytes p d = skip _ _ _ p.blank ∙ skip _ _ _ (is_other _ _ p.hash) ∙ pick _ _ _ d

pub piece_word : (first : Bool) (at : ℕ) (bytes : List ℕ) → Plain bytes → is_digit (slice_index bytes 0) ≡ false → is_letter (slice_index bytes 0) ≡ true → piece_of first at bytes ≡ Ok (of.word_of (take_while is_name_byte bytes))
unfolding piece_of
piece_word first at bytes p d l = skip _ _ _ p.blank ∙ skip _ _ _ (is_other _ _ p.hash) ∙ skip _ _ _ d ∙ pick _ _ _ l

-- nor does it begin a number or a word
pub record Marked (bytes : List ℕ) : Type 0 where
  pub plain : Plain bytes
  pub digit : is_digit (slice_index bytes 0) ≡ false
  pub letter : is_letter (slice_index bytes 0) ≡ false

pub piece_line : (first : Bool) (at : ℕ) (bytes : List ℕ) → Marked bytes → begins bytes (codes "//") ≡ true → piece_of first at bytes ≡ Ok (gap (length (line_of bytes)))
unfolding piece_of
piece_line first at bytes m c = skip _ _ _ m.plain.blank ∙ skip _ _ _ (is_other _ _ m.plain.hash) ∙ skip _ _ _ m.digit ∙ skip _ _ _ m.letter ∙ pick _ _ _ c

pub piece_comment : (first : Bool) (at : ℕ) (bytes : List ℕ) → Marked bytes → begins bytes (codes "//") ≡ false → begins bytes (codes "/*") ≡ true → piece_of first at bytes ≡ of.comment_of at bytes
unfolding piece_of
piece_comment first at bytes m c k = skip _ _ _ m.plain.blank ∙ skip _ _ _ (is_other _ _ m.plain.hash) ∙ skip _ _ _ m.digit ∙ skip _ _ _ m.letter ∙ skip _ _ _ c ∙ pick _ _ _ k

pub piece_sign : (first : Bool) (at : ℕ) (bytes : List ℕ) → Marked bytes → begins bytes (codes "//") ≡ false → begins bytes (codes "/*") ≡ false → piece_of first at bytes ≡ of.sign_of at bytes
unfolding piece_of
piece_sign first at bytes m c k = skip _ _ _ m.plain.blank ∙ skip _ _ _ (is_other _ _ m.plain.hash) ∙ skip _ _ _ m.digit ∙ skip _ _ _ m.letter ∙ skip _ _ _ c ∙ skip _ _ _ k

-- a run that the first byte begins is not empty
run_some : (p : ℕ → Bool) (bytes : List ℕ) → 0 < length bytes → p (slice_index bytes 0) ≡ true → 0 < length (take_while p bytes)
run_some p [] h e = absurd (omega arith)
run_some p (b ∷ bytes) h e =
    let size = length-prefix_len p (b ∷ bytes) in
    let one : prefix_len p (b ∷ bytes) ≡ 1 + prefix_len p bytes = pick _ _ _ e in
    omega arith

or_left : (a b : Bool) → a ≡ true → (a || b) ≡ true
or_left a b e = ap (λ t. t || b) e

or_right : (a b : Bool) → b ≡ true → (a || b) ≡ true
or_right true b e = refl
or_right false b e = e

pub digit_some : (bytes : List ℕ) → 0 < length bytes → is_digit (slice_index bytes 0) ≡ true → 0 < length (take_while is_name_byte bytes)
unfolding is_name_byte
digit_some bytes h e = run_some is_name_byte bytes h (or_right _ _ e)

pub letter_some : (bytes : List ℕ) → 0 < length bytes → is_letter (slice_index bytes 0) ≡ true → 0 < length (take_while is_name_byte bytes)
unfolding is_name_byte
letter_some bytes h e = run_some is_name_byte bytes h (or_left _ _ e)

-- a newline is a blank
no_newline : (b : ℕ) → is_blank b ≡ false → is_newline b ≡ false
unfolding is_blank is_newline
no_newline b h = grind (arith, nat_tests)

pub line_some : (bytes : List ℕ) → 0 < length bytes → is_blank (slice_index bytes 0) ≡ false → 0 < length (line_of bytes)
unfolding line_of
line_some bytes h e = run_some (λ b. not (is_newline b)) bytes h (ap not (no_newline _ e))

-- a piece as long as a part that is not empty
pub inside_of : (r : Result Piece LexFault) (n m : ℕ) → IfOk r (λ p. p.len ≡ n) → 0 < n → n ≤ m → IfOk r (λ p. (0 < p.len) × (p.len ≤ m))
inside_of (Ok p) n m e h k = (omega arith, omega arith)
inside_of (Err f) n m e h k = tt

pub word_found : (text : List ℕ) (o : Option Keyword) → o ≡ of.entry of.words text → lexeme (unwrap_or (option_map kind.Key o) kind.Name) (length text) ≡ of.word_of text
unfolding of.word_of
word_found text o e = ap (λ o. lexeme (unwrap_or (option_map kind.Key o) kind.Name) (length text)) e

pub number_found : (at : ℕ) (text : List ℕ) (z : ℤ) → Some z ≡ cond (of.is_number text) (Some (pos (of.value_of text))) None → of.number_of at text ≡ Ok (lexeme (kind.Number z) (length text))
unfolding of.number_of
number_found at text z e = by_test (of.is_number text) e
  where
    by_test : (b : Bool) → Some z ≡ cond b (Some (pos (of.value_of text))) None → cond b (Ok (lexeme (kind.Number (pos (of.value_of text))) (length text))) (Err (of.bad_number at)) ≡ Ok (lexeme (kind.Number z) (length text))
    by_test true e = let same : z ≡ pos (of.value_of text) = cc in ap (λ x. Ok (lexeme (kind.Number x) (length text))) (sym same)
    by_test false e = absurd (cc)

pub number_missing : (at : ℕ) (text : List ℕ) → None ≡ cond (of.is_number text) (Some (pos (of.value_of text))) None → of.number_of at text ≡ Err (of.bad_number at)
unfolding of.number_of
number_missing at text e = by_test (of.is_number text) e
  where
    by_test : (b : Bool) → None ≡ cond b (Some (pos (of.value_of text))) None → cond b (Ok (lexeme (kind.Number (pos (of.value_of text))) (length text))) (Err (of.bad_number at)) ≡ Err (of.bad_number at)
    by_test true e = absurd (cc)
    by_test false e = refl

pub comment_found : (at : ℕ) (bytes : List ℕ) (o : Option ℕ) → o ≡ of.before_close (drop 2 bytes) → of.comment_of at bytes ≡ ok_or (option_map (λ n. gap (2 + n + 2)) o) (of.open_comment at)
unfolding of.comment_of
comment_found at bytes o e = ap (λ o. ok_or (option_map (λ n. gap (2 + n + 2)) o) (of.open_comment at)) (sym e)

pub sign_found : (at : ℕ) (bytes : List ℕ) (o : Option (Punct × ℕ)) → o ≡ option_map sized (of.longest of.signs bytes) → of.sign_of at bytes ≡ ok_or (option_map (λ s. lexeme (kind.Punct s.0) s.1) o) (of.bad_byte at)
unfolding of.sign_of
sign_found at bytes o e =
    by_case (of.longest of.signs bytes) ∙ ap (λ o. ok_or (option_map (λ s. lexeme (kind.Punct s.0) s.1) o) (of.bad_byte at)) (sym e)
  where
    by_case : (l : Option (List ℕ × Punct)) → ok_or (option_map (λ s. lexeme (kind.Punct s.1) (length s.0)) l) (of.bad_byte at) ≡ ok_or (option_map (λ s. lexeme (kind.Punct s.0) s.1) (option_map sized l)) (of.bad_byte at)
    by_case None = refl
    by_case (Some s) = refl
