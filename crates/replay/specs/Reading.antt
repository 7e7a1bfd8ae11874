-- What is read of a line of a tests file.
use Rattle.std.specs.Prelude.{ℕ, ◌≡◌, List, ◌++◌, codes, All}
use Rattle.cc_base.specs.declared.inputs.Input.{Input}
use Rattle.cc_base.specs.declared.inputs.Test.{Test}
use Rattle.cc_base.specs.Inputs.{map_text}
use Rattle.cc_base.specs.Limits.{Limits}
use Rattle.cc_base.specs.Outcomes.{HasByte}
use Rattle.cc_base.specs.Paths.{Path, path_text}
use Rattle.cc_model.specs.Core.{Program}
use Rattle.replay.specs.declared.line.First.{First}
use Rattle.replay.specs.declared.line.First.TheVariants as of
use Rattle.replay.specs.declared.line.Line.{Line}
use Rattle.replay.specs.declared.line.Line.TheVariants.{Test as with_test, Other, Bad}
use Rattle.input_map.specs.TestTexts.{IsTestText, IsShortInput}

-- a line with a test is one of these tests, another line comes only so
abbrev pub Tells : (Test → Type 0) → Type 0 → Line → Type 0
Tells P Q (with_test t) = P t
Tells P Q Other = Q
Tells P Q Bad = Unit {0}

-- the first word of a line
abbrev pub IsFirst : List ℕ → First → Type 0
IsFirst word of.Test = word ≡ codes "test"
IsFirst word of.Past = word ≡ codes "past"
IsFirst word of.Stray = word ≡ codes "stray"
IsFirst word of.Unrun = word ≡ codes "unrun"
IsFirst word of.Other = (word ≡ codes "test" → ⊥) × (word ≡ codes "past" → ⊥) × (word ≡ codes "stray" → ⊥) × (word ≡ codes "unrun" → ⊥)

-- the text ends with ` after ` and the text of the path
pub record IsBefore (text before : List ℕ) (q : Path) : Type 0 where
  pub is : text ≡ before ++ codes " after " ++ path_text q
  pub bytes : All HasByte q

-- a test and a prefix
abbrev pub IsStray : Program → Limits → List ℕ → Test → Type 0
IsStray p b text t = (before : List ℕ) × (q : Path) × IsBefore text before q × IsTestText p b before t

-- the map text of an input
abbrev pub IsInputText : Program → Limits → List ℕ → Type 0
IsInputText p b text = (i : Input) × (text ≡ map_text i) × IsShortInput p b i

-- an input and a prefix
abbrev pub IsUnrun : Program → Limits → List ℕ → Type 0
IsUnrun p b text = (before : List ℕ) × (q : Path) × IsBefore text before q × IsInputText p b before
