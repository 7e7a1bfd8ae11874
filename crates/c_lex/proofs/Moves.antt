-- The line and the column behind one more byte.
use Rattle.std.proofs.Common.{◌≡◌, ℕ, ◌+◌, ◌-◌, ◌<◌, ◌≤◌, Bool, true, false, not, ◌&&◌, List, [], ◌∷◌, take, drop, length, get_or, sym, ap, refl, ◌∙◌, arith}
use Rattle.std.specs.List.{list_all, suffix_len}
use Rattle.std.proofs.lemmas.List.{take_more, length-take, drop_all, drop-append-le}
use Rattle.std.proofs.lemmas.List.Sums.{suffix_len-take_yes, suffix_len-take_no, suffix_len-le-length, count_by_more_yes, count_by_more_no, count_by-le-length}
use Rattle.std.proofs.lemmas.List.Folds.{list_all-append}
use Rattle.c_lex.specs.declared.places.Place.{Place}
use Rattle.c_lex.specs.Positions.{IsPlace}
use Rattle.cc_model.specs.Lexical.{is_newline, is_blank, line_at, col_at, is_first_on_line}

-- the count of bytes since the last newline is of these
abbrev is_other : ℕ → Bool
is_other b = not (is_newline b)

length_front : (source : List ℕ) (k : ℕ) → k ≤ length source → length (take k source) ≡ k
length_front source k h = grind (arith, length-take {A = ℕ})

at_last : (source : List ℕ) (k : ℕ) (b : Bool) → is_newline (get_or source k 0) ≡ b → is_other (get_or source (k + 1 - 1) 0) ≡ not b
at_last source k b e =
    let same : k + 1 - 1 ≡ k = omega arith in
    ap (λ j. is_other (get_or source j 0)) same ∙ ap not e

pub line_newline : (source : List ℕ) (k : ℕ) → k < length source → is_newline (get_or source k 0) ≡ true → line_at source (k + 1) ≡ line_at source k + 1
unfolding line_at
line_newline source k h e = let more = count_by_more_yes is_newline source k 0 h e in omega arith

pub line_other : (source : List ℕ) (k : ℕ) → k < length source → is_newline (get_or source k 0) ≡ false → line_at source (k + 1) ≡ line_at source k
unfolding line_at
line_other source k h e = let more = count_by_more_no is_newline source k 0 h e in omega arith

no_suffix : (source : List ℕ) (k : ℕ) → k < length source → is_newline (get_or source k 0) ≡ true → suffix_len is_other (take (k + 1) source) ≡ 0
no_suffix source k h e = suffix_len-take_no is_other source (k + 1) 0 (omega arith) (omega arith) (at_last source k true e)

longer_suffix : (source : List ℕ) (k : ℕ) → k < length source → is_newline (get_or source k 0) ≡ false → suffix_len is_other (take (k + 1) source) ≡ 1 + suffix_len is_other (take k source)
longer_suffix source k h e =
    let same : k + 1 - 1 ≡ k = omega arith in
    suffix_len-take_yes is_other source (k + 1) 0 (omega arith) (omega arith) (at_last source k false e) ∙ ap (λ j. 1 + suffix_len is_other (take j source)) same

pub col_newline : (source : List ℕ) (k : ℕ) → k < length source → is_newline (get_or source k 0) ≡ true → col_at source (k + 1) ≡ 1
unfolding col_at
col_newline source k h e = let none = no_suffix source k h e in omega arith

pub col_other : (source : List ℕ) (k : ℕ) → k < length source → is_newline (get_or source k 0) ≡ false → col_at source (k + 1) ≡ col_at source k + 1
unfolding col_at
col_other source k h e = let more = longer_suffix source k h e in omega arith

pub first_newline : (source : List ℕ) (k : ℕ) → k < length source → is_newline (get_or source k 0) ≡ true → is_first_on_line source (k + 1) ≡ true
unfolding is_first_on_line
first_newline source k h e =
    let none = no_suffix source k h e in
    let front = take (k + 1) source in
    ap (λ t. list_all is_blank t) (drop_all (length front - suffix_len is_other front) front (omega arith))

and_true : (a : Bool) → (a && true) ≡ a
and_true true = refl
and_true false = refl

pub first_other : (source : List ℕ) (k : ℕ) → k < length source → is_newline (get_or source k 0) ≡ false → is_first_on_line source (k + 1) ≡ (is_first_on_line source k && is_blank (get_or source k 0))
unfolding is_first_on_line
first_other source k h e =
    let front = take k source in
    let x = get_or source k 0 in
    let size = length_front source k (omega arith) in
    let sized = length_front source (k + 1) (omega arith) in
    let more = longer_suffix source k h e in
    let least = suffix_len-le-length is_other front in
    let cut : length (take (k + 1) source) - suffix_len is_other (take (k + 1) source) ≡ length front - suffix_len is_other front = omega arith in
    let n = length front - suffix_len is_other front in
    ap (λ j. list_all is_blank (drop j (take (k + 1) source))) cut
    ∙ ap (λ t. list_all is_blank (drop n t)) (take_more source k 0 h)
    ∙ ap (list_all is_blank) (drop-append-le n front (x ∷ []) (omega arith))
    ∙ list_all-append is_blank (drop n front) (x ∷ [])
    ∙ ap (λ b. list_all is_blank (drop n front) && b) (and_true (is_blank x))

pub line_small : (source : List ℕ) (k : ℕ) → k ≤ length source → line_at source k ≤ 1 + length source
unfolding line_at
line_small source k h = omega (arith, count_by-le-length is_newline (take k source), length_front source k h)

pub col_small : (source : List ℕ) (k : ℕ) → k ≤ length source → col_at source k ≤ 1 + length source
unfolding col_at
col_small source k h = omega (arith, suffix_len-le-length is_other (take k source), length_front source k h)

pub place_start : (source : List ℕ) → IsPlace source (record { at = 0; line = 1; col = 1; is_first = true })
unfolding line_at col_at is_first_on_line
place_start source = record { within = omega arith; line = refl; col = refl; first = refl }

pub place_newline : (source : List ℕ) (p : Place) → IsPlace source p → p.at < length source → is_newline (get_or source p.at 0) ≡ true →
    IsPlace source (record { at = p.at + 1; line = p.line + 1; col = 1; is_first = true })
place_newline source p i h e = record {
  within = omega arith;
  line = ap (λ n. n + 1) i.line ∙ sym (line_newline source p.at h e);
  col = sym (col_newline source p.at h e);
  first = sym (first_newline source p.at h e);
}

pub place_other : (source : List ℕ) (p : Place) (b : Bool) → IsPlace source p → p.at < length source → is_newline (get_or source p.at 0) ≡ false → b ≡ (p.is_first && is_blank (get_or source p.at 0)) →
    IsPlace source (record { at = p.at + 1; line = p.line; col = p.col + 1; is_first = b })
place_other source p b i h e t = record {
  within = omega arith;
  line = i.line ∙ sym (line_other source p.at h e);
  col = ap (λ n. n + 1) i.col ∙ sym (col_other source p.at h e);
  first = t ∙ ap (λ f. f && is_blank (get_or source p.at 0)) i.first ∙ sym (first_other source p.at h e);
}
