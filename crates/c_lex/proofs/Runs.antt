-- The tokens so far and those of the rest are those of the whole source.
use Rattle.std.proofs.Common.{◌≡◌, ℕ, zero, suc, ◌+◌, ◌<◌, ◌≤◌, true, false, cond, List, [], ◌∷◌, ◌++◌, length, Result, Ok, Err, Option, Some, None, sym, ap, subst, refl, ◌∙◌, append_assoc, arith}
use Rattle.std.specs.Prelude.{nat_lt, IfSome}
use Rattle.std.specs.List.{All}
use Rattle.std.proofs.lemmas.Bool.Decides.{nat_tests}
use Rattle.std.proofs.lemmas.List.Elements.{All-push}
use Rattle.std.proofs.lemmas.List.{append-nil, length_push}
use Rattle.cc_model.specs.declared.tokens.Token.{Token}
use Rattle.cc_model.specs.declared.tokens.Kind.{Kind}
use Rattle.cc_model.specs.Lexical.{LexicalFault, Piece, piece_at, token_at, ◌>>=◌, tokens_from, tokens_of, line_at}
use Rattle.c_lex.specs.declared.faults.LexFault.{LexFault}
use Rattle.c_lex.specs.declared.faults.LexFault.TheVariants as fault
use Rattle.c_lex.specs.Faults.{Refuses, Fails}
use Rattle.c_lex.specs.declared.places.Place.{Place}
use Rattle.c_lex.specs.declared.pieces.Piece as code
use Rattle.c_lex.specs.Positions.{IsPlace}
use Rattle.c_lex.specs.Views.{listed, view}

-- tokens before those that are read
unfoldable pub prepend : List Token → Result (List Token) LexicalFault → Result (List Token) LexicalFault
prepend front read = read >>= (λ tokens. Ok (front ++ tokens))

pub record SoFar (source : List ℕ) (tokens : List Token) (at : ℕ) : Type 0 where
  pub left : ℕ
  pub enough : length source ≤ at + left
  pub same : prepend tokens (tokens_from left source at) ≡ tokens_of source

prepend_none : (read : Result (List Token) LexicalFault) → prepend [] read ≡ read
unfolding prepend ◌>>=◌
prepend_none (Ok tokens) = refl
prepend_none (Err e) = refl

pub so_start : (source : List ℕ) → SoFar source [] 0
unfolding tokens_of
so_start source = record { left = length source; enough = omega arith; same = prepend_none (tokens_from (length source) source 0) }

-- the rest, once a piece is known
step : (front more : List Token) (read : Result (List Token) LexicalFault) → prepend front (read >>= (λ tokens. Ok (more ++ tokens))) ≡ prepend (front ++ more) read
unfolding prepend ◌>>=◌
step front more (Ok tokens) = ap Ok (sym (append_assoc front more tokens))
step front more (Err e) = refl

from_more : (left : ℕ) (source : List ℕ) (at : ℕ) (p : Piece) → at < length source → piece_at source at ≡ Ok p →
    tokens_from (suc left) source at ≡ (tokens_from left source (at + p.len) >>= (λ tokens. Ok (token_at source at p ++ tokens)))
unfolding tokens_from ◌>>=◌
from_more left source at p h e =
    let t : nat_lt at (length source) ≡ true = grind (arith, nat_tests) in
    ap (λ b. cond b (piece_at source at >>= (λ piece. tokens_from left source (at + piece.len) >>= (λ tokens. Ok (token_at source at piece ++ tokens)))) (Ok [])) t
    ∙ ap (λ r. r >>= (λ piece. tokens_from left source (at + piece.len) >>= (λ tokens. Ok (token_at source at piece ++ tokens)))) e

from_fault : (left : ℕ) (source : List ℕ) (at : ℕ) (f : LexicalFault) → at < length source → piece_at source at ≡ Err f → tokens_from (suc left) source at ≡ Err f
unfolding tokens_from ◌>>=◌
from_fault left source at f h e =
    let t : nat_lt at (length source) ≡ true = grind (arith, nat_tests) in
    ap (λ b. cond b (piece_at source at >>= (λ piece. tokens_from left source (at + piece.len) >>= (λ tokens. Ok (token_at source at piece ++ tokens)))) (Ok [])) t
    ∙ ap (λ r. r >>= (λ piece. tokens_from left source (at + piece.len) >>= (λ tokens. Ok (token_at source at piece ++ tokens)))) e

from_end : (left : ℕ) (source : List ℕ) (at : ℕ) → length source ≤ at → tokens_from left source at ≡ Ok []
unfolding tokens_from
from_end zero source at h = refl
from_end (suc left) source at h =
    let t : nat_lt at (length source) ≡ false = grind (arith, nat_tests) in
    ap (λ b. cond b (piece_at source at >>= (λ piece. tokens_from left source (at + piece.len) >>= (λ tokens. Ok (token_at source at piece ++ tokens)))) (Ok [])) t

more : (source : List ℕ) (tokens : List Token) (at : ℕ) (p : Piece) (left : ℕ) → length source ≤ at + left → prepend tokens (tokens_from left source at) ≡ tokens_of source → at < length source → piece_at source at ≡ Ok p → 0 < p.len → SoFar source (tokens ++ token_at source at p) (at + p.len)
more source tokens at p zero enough same h e l = absurd (omega arith)
more source tokens at p (suc left) enough same h e l = record {
  left = left;
  enough = omega arith;
  same = sym (ap (prepend tokens) (from_more left source at p h e) ∙ step tokens (token_at source at p) (tokens_from left source (at + p.len))) ∙ same;
}

pub so_more : (source : List ℕ) (tokens : List Token) (at : ℕ) (p : Piece) → SoFar source tokens at → at < length source → piece_at source at ≡ Ok p → 0 < p.len → SoFar source (tokens ++ token_at source at p) (at + p.len)
so_more source tokens at p s h e l = more source tokens at p s.left s.enough s.same h e l

fails : (source : List ℕ) (tokens : List Token) (at : ℕ) (f : LexicalFault) (left : ℕ) → length source ≤ at + left → prepend tokens (tokens_from left source at) ≡ tokens_of source → at < length source → piece_at source at ≡ Err f → tokens_of source ≡ Err f
unfolding prepend ◌>>=◌
fails source tokens at f zero enough same h e = absurd (omega arith)
fails source tokens at f (suc left) enough same h e = sym same ∙ ap (prepend tokens) (from_fault left source at f h e)

so_fault : (source : List ℕ) (tokens : List Token) (at : ℕ) (f : LexicalFault) → SoFar source tokens at → at < length source → piece_at source at ≡ Err f → tokens_of source ≡ Err f
so_fault source tokens at f s h e = fails source tokens at f s.left s.enough s.same h e

pub so_refused : (source : List ℕ) (tokens : List Token) (at : ℕ) (f : LexFault) → SoFar source tokens at → at < length source → Refuses f (piece_at source at) → Fails f (tokens_of source)
so_refused source tokens at (fault.BadByte k) s h e = so_fault source tokens at _ s h e
so_refused source tokens at (fault.BadNumber k) s h e = so_fault source tokens at _ s h e
so_refused source tokens at (fault.OpenComment k) s h e = so_fault source tokens at _ s h e
so_refused source tokens at (fault.BadDirective k) s h e = so_fault source tokens at _ s h e
so_refused source tokens at fault.NoMemory s h e = tt

pub so_end : (source : List ℕ) (tokens : List Token) (at : ℕ) → SoFar source tokens at → length source ≤ at → tokens_of source ≡ Ok tokens
unfolding prepend ◌>>=◌
so_end source tokens at s h = sym s.same ∙ ap (prepend tokens) (from_end s.left source at h) ∙ ap Ok (append-nil tokens)

pub token_known : (source : List ℕ) (p : Place) (piece : code.Piece) (k : Kind) → IsPlace source p → piece.kind ≡ Some k →
    (record { kind = k; start = p.at; «end» = p.at + piece.len; line = p.line; col = p.col } ∷ []) ≡ token_at source p.at (view piece)
unfolding token_at
token_known source p piece k i e =
    let made : ℕ → ℕ → List Token = λ l c. record { kind = k; start = p.at; «end» = p.at + piece.len; line = l; col = c } ∷ [] in
    ap (λ l. made l p.col) i.line ∙ ap (λ c. made (line_at source p.at) c) i.col ∙ ap (λ o. token_at source p.at (record { kind = o; len = piece.len })) (sym e)

pub token_none : (source : List ℕ) (at : ℕ) (piece : code.Piece) → piece.kind ≡ None → [] ≡ token_at source at (view piece)
unfolding token_at
token_none source at piece e = ap (λ o. token_at source at (record { kind = o; len = piece.len })) (sym e)

-- where the tokens lie
abbrev pub Lies : ℕ → Token → Type 0
Lies n t = (t.start < t.«end») × (t.«end» ≤ n)

pub few_more : (tokens : List Token) (o : Option Token) (at len : ℕ) → length tokens ≤ at → 0 < len → length (tokens ++ listed o) ≤ at + len
few_more tokens None at len h l = let e = ap length (append-nil tokens) in omega arith
few_more tokens (Some t) at len h l = omega (arith, length_push tokens t)

pub lies_more : (n : ℕ) (tokens : List Token) (o : Option Token) (at len : ℕ) → All (Lies n) tokens → 0 < len → at + len ≤ n → IfSome o (λ t. (t.start ≡ at) × (t.«end» ≡ at + len)) → All (Lies n) (tokens ++ listed o)
lies_more n tokens None at len h l m s = let P : List Token → Type 0 = λ t. All (Lies n) t in subst P (sym (append-nil tokens)) h
lies_more n tokens (Some t) at len h l m s = All-push (Lies n) tokens t h (omega arith, omega arith)

pub so_start_at : (source : List ℕ) (tokens : List Token) (at : ℕ) → tokens ≡ [] → at ≡ 0 → SoFar source tokens at
so_start_at source tokens at e z =
    let P : ℕ → Type 0 = λ n. SoFar source tokens n in
    let Q : List Token → Type 0 = λ t. SoFar source t 0 in
    subst P (sym z) (subst Q (sym e) (so_start source))

pub lies_none : (n : ℕ) (tokens : List Token) → tokens ≡ [] → All (Lies n) tokens
lies_none n tokens e = λ k d h. absurd (omega (arith, ap length e))
