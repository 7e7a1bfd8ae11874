use Rattle.std.proofs.Common.{◌≡◌, ◌≢◌, ℕ, ◌<◌, slice_index, false, List, length, Ok, Result, ap, sym, subst, ◌∙◌, arith}
use Rattle.cc_model.specs.Lexical as of
use Rattle.cc_model.specs.Lexical.{piece_of, gap, LexicalFault}
use Rattle.c_lex.specs.Faults.{Is}
use Rattle.c_lex.specs.Views.{view}
use Rattle.c_lex.proofs.Fronts.{piece_blank, piece_directive, piece_stray, Plain, piece_number, piece_word, Marked, piece_line, piece_comment, piece_sign, digit_some, letter_some, line_some, inside_of}
use Rattle.c_lex.proofs.pieces.piece_of.Goals as goal

pub returns-then-is_blank-clause-exact : goal.returns-then-is_blank-clause-exact
unfolding gap
returns-then-is_blank-clause-exact c =
    piece_blank c.args.is_first c.args.at c.args.bytes.now (sym c.is_blank.ensures ∙ c.if-is_blank.true) ∙ ap (λ n. Ok (gap n)) (sym c.blank_run.ensures.value)

pub directive_at-requires : goal.directive_at-requires
directive_at-requires c =
    let IsSome : List ℕ → Type 0 = λ t. 0 < length t in
    subst IsSome (sym c.line_of.ensures.value) (line_some c.args.bytes.now c.requires (sym c.is_blank.ensures ∙ c.if-is_blank.false))

pub returns-then-is_first-clause-exact : goal.returns-then-is_first-clause-exact
returns-then-is_first-clause-exact c =
    let IsRead : Result of.Piece LexicalFault → Type 0 = λ read. Is view c.directive_at.result read in
    let e = ap (λ f. piece_of f c.args.at c.args.bytes.now) c.if-is_first.true
    ∙ piece_directive c.args.at c.args.bytes.now (sym c.is_blank.ensures ∙ c.if-is_blank.false) c.if-first-eq35.true
    ∙ ap (of.directive_of c.args.at) (sym c.line_of.ensures.value) in
    subst IsRead (sym e) c.directive_at.ensures.exact

pub returns-then-is_first-clause-inside : goal.returns-then-is_first-clause-inside
returns-then-is_first-clause-inside c =
    let IsSome : List ℕ → Type 0 = λ t. 0 < length t in
    inside_of _ _ _ c.directive_at.ensures.len
    (subst IsSome (sym c.line_of.ensures.value) (line_some c.args.bytes.now c.requires (sym c.is_blank.ensures ∙ c.if-is_blank.false)))
    c.line_of.ensures.within

pub returns-then-first-eq35-clause-exact : goal.returns-then-first-eq35-clause-exact
returns-then-first-eq35-clause-exact c =
    ap (λ f. piece_of f c.args.at c.args.bytes.now) c.if-is_first.false ∙ piece_stray c.args.at c.args.bytes.now (sym c.is_blank.ensures ∙ c.if-is_blank.false) c.if-first-eq35.true

pub returns-then-is_digit-clause-exact : goal.returns-then-is_digit-clause-exact
returns-then-is_digit-clause-exact c =
    let IsRead : Result of.Piece LexicalFault → Type 0 = λ read. Is view c.number_at.result read in
    let plain : Plain c.args.bytes.now = record { blank = sym c.is_blank.ensures ∙ c.if-is_blank.false; hash = c.if-first-eq35.false } in
    let e = piece_number c.args.is_first c.args.at c.args.bytes.now plain (sym c.is_digit.ensures ∙ c.if-is_digit.true)
    ∙ ap (of.number_of c.args.at) (sym c.name_of.ensures.value) in
    subst IsRead (sym e) c.number_at.ensures.exact

pub returns-then-is_digit-clause-inside : goal.returns-then-is_digit-clause-inside
returns-then-is_digit-clause-inside c =
    let IsSome : List ℕ → Type 0 = λ t. 0 < length t in
    inside_of _ _ _ c.number_at.ensures.len
    (subst IsSome (sym c.name_of.ensures.value) (digit_some c.args.bytes.now c.requires (sym c.is_digit.ensures ∙ c.if-is_digit.true)))
    c.name_of.ensures.within

pub returns-then-is_letter-clause-exact : goal.returns-then-is_letter-clause-exact
returns-then-is_letter-clause-exact c =
    let plain : Plain c.args.bytes.now = record { blank = sym c.is_blank.ensures ∙ c.if-is_blank.false; hash = c.if-first-eq35.false } in
    piece_word c.args.is_first c.args.at c.args.bytes.now plain (sym c.is_digit.ensures ∙ c.if-is_digit.false) (sym c.is_letter.ensures ∙ c.if-is_letter.true)
    ∙ ap (λ t. Ok (of.word_of t)) (sym c.name_of-then-is_letter.ensures.value)
    ∙ ap Ok (sym c.word_at.ensures.exact)

pub returns-then-is_letter-clause-inside : goal.returns-then-is_letter-clause-inside
returns-then-is_letter-clause-inside c =
    let some = letter_some c.args.bytes.now c.requires (sym c.is_letter.ensures ∙ c.if-is_letter.true) in
    let same = ap length c.name_of-then-is_letter.ensures.value in
    (omega arith, omega arith)

marked : (bytes : List ℕ) → of.is_blank (slice_index bytes 0) ≡ false → slice_index bytes 0 ≢ 35 → of.is_digit (slice_index bytes 0) ≡ false → of.is_letter (slice_index bytes 0) ≡ false → Marked bytes
marked bytes b h d l = record { plain = record { blank = b; hash = h }; digit = d; letter = l }

pub returns-then-begins-clause-exact : goal.returns-then-begins-clause-exact
unfolding gap
returns-then-begins-clause-exact c =
    let m = marked c.args.bytes.now (sym c.is_blank.ensures ∙ c.if-is_blank.false) c.if-first-eq35.false (sym c.is_digit.ensures ∙ c.if-is_digit.false) (sym c.is_letter.ensures ∙ c.if-is_letter.false) in
    piece_line c.args.is_first c.args.at c.args.bytes.now m (sym c.begins.ensures.value ∙ c.if-begins.true)
    ∙ ap (λ t. Ok (gap (length t))) (sym c.line_of-then-begins.ensures.value)

pub returns-then-begins-clause-inside : goal.returns-then-begins-clause-inside
returns-then-begins-clause-inside c =
    let some = line_some c.args.bytes.now c.requires (sym c.is_blank.ensures ∙ c.if-is_blank.false) in
    let same = ap length c.line_of-then-begins.ensures.value in
    (omega arith, omega arith)

pub returns-then-begins-2-clause-exact : goal.returns-then-begins-2-clause-exact
returns-then-begins-2-clause-exact c =
    let IsRead : Result of.Piece LexicalFault → Type 0 = λ read. Is view c.comment_at.result read in
    let m = marked c.args.bytes.now (sym c.is_blank.ensures ∙ c.if-is_blank.false) c.if-first-eq35.false (sym c.is_digit.ensures ∙ c.if-is_digit.false) (sym c.is_letter.ensures ∙ c.if-is_letter.false) in
    let e = piece_comment c.args.is_first c.args.at c.args.bytes.now m (sym c.begins.ensures.value ∙ c.if-begins.false) (sym c.begins-2.ensures.value ∙ c.if-begins-2.true) in
    subst IsRead (sym e) c.comment_at.ensures.exact

pub returns-clause-exact : goal.returns-clause-exact
returns-clause-exact c =
    let IsRead : Result of.Piece LexicalFault → Type 0 = λ read. Is view c.sign_at.result read in
    let m = marked c.args.bytes.now (sym c.is_blank.ensures ∙ c.if-is_blank.false) c.if-first-eq35.false (sym c.is_digit.ensures ∙ c.if-is_digit.false) (sym c.is_letter.ensures ∙ c.if-is_letter.false) in
    let e = piece_sign c.args.is_first c.args.at c.args.bytes.now m (sym c.begins.ensures.value ∙ c.if-begins.false) (sym c.begins-2.ensures.value ∙ c.if-begins-2.false) in
    subst IsRead (sym e) c.sign_at.ensures.exact
