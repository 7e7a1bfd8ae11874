-- Tests files.
use Rattle.std.specs.Prelude.{ℕ, suc, ◌≡◌, ◌⊎◌, List, [], ◌∷◌, ◌++◌, Result, Ok, Err}
use Rattle.cc_base.specs.declared.inputs.Test.{Test}
use Rattle.cc_base.specs.Limits.{Limits}
use Rattle.cc_model.specs.Core.{Program}
use Rattle.report_words.specs.Cuts.{CutFirst}
use Rattle.replay.specs.declared.faults.TestsFault.{TestsFault}
use Rattle.replay.specs.declared.faults.TestsFault.TheVariants.{Line, NoMemory}
use Rattle.replay.specs.declared.line.Line.{Line as Kind}
use Rattle.replay.specs.declared.line.Line.TheVariants as of
use Rattle.replay.specs.declared.tests_file.Tests.{Tests}
use Rattle.replay.specs.Lines.{IsBounds, IsLine}

module _ (p : Program) where
  module _ (b : Limits) where
    -- the text is whole lines, the first of which has number n; its tests, and the numbers of their lines
    pub data AreLines : ℕ → List ℕ → List Test → List ℕ → Type 0 where
      no_line : (n : ℕ) → AreLines n [] [] []
      test_line : (n : ℕ) (text line rest : List ℕ) (t : Test) (tests : List Test) (lines : List ℕ) →
          CutFirst 10 text line rest → IsLine p b line (of.Test t) → AreLines (suc n) rest tests lines → AreLines n text (t ∷ tests) (n ∷ lines)
      other_line : (n : ℕ) (text line rest : List ℕ) (tests : List Test) (lines : List ℕ) →
          CutFirst 10 text line rest → IsLine p b line of.Other → AreLines (suc n) rest tests lines → AreLines n text tests lines

    -- of the lines of the text, the first of which has number n, number m is the first that is none of a tests file, or has no newline
    pub data IsBadAt : ℕ → List ℕ → ℕ → Type 0 where
      this_line : (n : ℕ) (text : List ℕ) → (text ≡ [] → ⊥) →
          ((line rest : List ℕ) (l : Kind) → CutFirst 10 text line rest → IsLine p b line l → ⊥) → IsBadAt n text n
      line_behind : (n m : ℕ) (text line rest : List ℕ) (l : Kind) → CutFirst 10 text line rest → IsLine p b line l → IsBadAt (suc n) rest m → IsBadAt n text m

  -- the text is a tests file with these bounds and tests, which stand in the lines with these numbers
  pub record IsTestsFile (text : List ℕ) (b : Limits) (tests : List Test) (lines : List ℕ) : Type 0 where
    pub first : List ℕ
    pub rest : List ℕ
    pub cut : CutFirst 10 text first rest
    pub bounds : IsBounds first b
    pub others : AreLines b 2 rest tests lines

  -- line m is the first with a fault
  pub data IsRefusedAt : List ℕ → ℕ → Type 0 where
    first_line : (text : List ℕ) → ((b : Limits) (line rest : List ℕ) → CutFirst 10 text line rest → IsBounds line b → ⊥) → IsRefusedAt text 1
    later_line : (text : List ℕ) (m : ℕ) (b : Limits) (line rest : List ℕ) → CutFirst 10 text line rest → IsBounds line b → IsBadAt b 2 rest m → IsRefusedAt text m

  abbrev pub Refused : List ℕ → TestsFault → Type 0
  Refused text (Line n) = IsRefusedAt text n
  Refused text NoMemory = Unit {0}

-- what the file holds, or want of memory
abbrev pub IsFileOrNoMemory : Result Tests TestsFault → Limits → List Test → List ℕ → Type 0
IsFileOrNoMemory (Ok t) b tests lines = (t.bounds ≡ b) × (t.tests ≡ tests) × (t.lines ≡ lines)
IsFileOrNoMemory (Err f) b tests lines = f ≡ NoMemory

-- that line is refused, or want of memory
abbrev pub IsRefusedOrNoMemory : Result Tests TestsFault → ℕ → Type 0
IsRefusedOrNoMemory (Ok t) n = ⊥
IsRefusedOrNoMemory (Err f) n = (f ≡ Line n) ⊎ (f ≡ NoMemory)

-- ---- one line after the other

abbrev pub tests_in : Kind → List Test
tests_in (of.Test t) = t ∷ []
tests_in of.Other = []
tests_in of.Bad = []

abbrev pub lines_in : ℕ → Kind → List ℕ
lines_in n (of.Test t) = n ∷ []
lines_in n of.Other = []
lines_in n of.Bad = []

-- the line with number n was passed
pub record Passed (p : Program) (b : Limits) (n : ℕ) (text rest : List ℕ) (old new : Tests) : Type 0 where
  pub line : List ℕ
  pub kind : Kind
  pub cut : CutFirst 10 text line rest
  pub is : IsLine p b line kind
  pub only : (l : Kind) → IsLine p b line l → kind ≡ l
  pub bounds : new.bounds ≡ old.bounds
  pub tests : new.tests ≡ old.tests ++ tests_in kind
  pub lines : new.lines ≡ old.lines ++ lines_in n kind

-- the first line is none of a tests file, or has no newline
abbrev pub IsFaulty : Program → Limits → List ℕ → Type 0
IsFaulty p b text = (line rest : List ℕ) (l : Kind) → CutFirst 10 text line rest → IsLine p b line l → ⊥

abbrev pub Stops : Program → Limits → ℕ → List ℕ → TestsFault → Type 0
Stops p b n text f = (f ≡ NoMemory) ⊎ ((f ≡ Line n) × IsFaulty p b text)
