-- What several writes append.
use Rattle.std.proofs.Common.{◌≡◌, ℕ, List, [], ◌++◌, Option, None, Some, refl, sym, ap, ◌∙◌, append_assoc}
use Rattle.std.proofs.lemmas.List.{append-nil}
use Rattle.cc_outside.specs.Told.{appended, WritesPart}
use Rattle.cc_outside.proofs.PrefixLemmas.{IsFirstPart-append, IsFirstPart-after, IsFirstPart-empty}

-- one piece after another is both joined
pub appended-appended : (old : Option (List ℕ)) (a b : List ℕ) → appended (appended old a) b ≡ appended old (a ++ b)
appended-appended None a b = refl
appended-appended (Some bytes) a b = ap (λ w. Some w) (append_assoc bytes a b)

-- appending nothing changes nothing
pub appended-empty : (old : Option (List ℕ)) → appended old [] ≡ old
appended-empty None = refl
appended-empty (Some bytes) = ap (λ w. Some w) (append-nil bytes)

-- what changed nothing wrote a first part of each piece
pub WritesPart-none : (old new : Option (List ℕ)) (piece : List ℕ) → new ≡ old → WritesPart old new piece
WritesPart-none old new piece e = record { part = []; first = IsFirstPart-empty piece; written = e ∙ sym (appended-empty old) }

-- a part of the first piece is one of both
pub WritesPart-first : (old new : Option (List ℕ)) (a b : List ℕ) → WritesPart old new a → WritesPart old new (a ++ b)
WritesPart-first old new a b w = record { part = w.part; first = IsFirstPart-append w.part a b w.first; written = w.written }

-- the first piece and a part of the second is a part of both
pub WritesPart-after : (old middle new : Option (List ℕ)) (a b : List ℕ) → middle ≡ appended old a → WritesPart middle new b → WritesPart old new (a ++ b)
WritesPart-after old middle new a b e w = record {
  part = a ++ w.part;
  first = IsFirstPart-after a w.part b w.first;
  written = w.written ∙ ap (λ m. appended m w.part) e ∙ appended-appended old a w.part;
}
