-- First parts of a piece.
use Rattle.std.proofs.Common.{ℕ, List, [], ◌++◌, take, drop, refl, sym, ap, ◌∙◌, append_assoc}
use Rattle.std.proofs.lemmas.List.{take-append-drop}
use Rattle.cc_outside.specs.Prefix.{IsFirstPart}

-- the first bytes of a piece are a first part of it
pub IsFirstPart-take : (n : ℕ) (piece : List ℕ) → IsFirstPart (take n piece) piece
IsFirstPart-take n piece = (drop n piece, sym (take-append-drop n piece))

-- nothing is a first part of each piece
pub IsFirstPart-empty : (piece : List ℕ) → IsFirstPart [] piece
IsFirstPart-empty piece = (piece, refl)

-- a first part of a piece is one of what the piece begins
pub IsFirstPart-append : (part a b : List ℕ) → IsFirstPart part a → IsFirstPart part (a ++ b)
IsFirstPart-append part a b first = (first.0 ++ b, ap (λ w. w ++ b) first.1 ∙ append_assoc part first.0 b)

-- a piece and a first part of the next is a first part of both
pub IsFirstPart-after : (a part b : List ℕ) → IsFirstPart part b → IsFirstPart (a ++ part) (a ++ b)
IsFirstPart-after a part b first = (first.0, ap (λ w. a ++ w) first.1 ∙ sym (append_assoc a part first.0))
