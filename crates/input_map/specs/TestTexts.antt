-- Tests as they are read from their texts.
use Rattle.std.specs.Prelude.{ℕ, ◌≡◌, ◌⊎◌, List, ◌++◌, codes, All, Result, Err}
use Rattle.cc_base.specs.declared.ends.End.{End}
use Rattle.cc_base.specs.declared.inputs.Input.{Input}
use Rattle.cc_base.specs.declared.inputs.Test.{Test}
use Rattle.cc_base.specs.Ends.{end_text}
use Rattle.cc_base.specs.Inputs.{test_text}
use Rattle.cc_base.specs.Limits.{Limits}
use Rattle.cc_base.specs.Outcomes.{HasByte}
use Rattle.cc_base.specs.Paths.{Path, path_text}
use Rattle.cc_model.specs.Core.{Program}
use Rattle.cc_model.specs.Runs.{IsInput}
use Rattle.input_map.specs.declared.faults.MapFault.{MapFault}
use Rattle.input_map.specs.declared.faults.MapFault.TheVariants as map_fault
use Rattle.input_map.specs.CellFaults.{Refused}
use Rattle.input_map.specs.Maps.{AllShort}
use Rattle.report_words.specs.Cuts.{Lacks}
use Rattle.report_words.specs.Words.{HasLine}
use Rattle.input_map.specs.declared.faults.TestFault.{TestFault}
use Rattle.input_map.specs.declared.faults.TestFault.TheVariants.{Form, Map, NoMemory}

-- the text is three words with a blank between them: the text of the path, that of the end, and another
pub record ThreeWords (text : List ℕ) (path : Path) (e : End) (map : List ℕ) : Type 0 where
  pub text_is : text ≡ path_text path ++ codes " " ++ end_text e ++ codes " " ++ map
  pub bytes : All HasByte path
  pub line : HasLine e
  pub one : Lacks 32 map

-- an input within the bounds, whose numbers have at most 18 digits
pub record IsShortInput (p : Program) (b : Limits) (h : Input) : Type 0 where
  pub cells : AllShort h.cells
  pub stream : AllShort h.stream
  pub within : IsInput p b h

-- a test with such an input
pub record IsGood (p : Program) (b : Limits) (t : Test) : Type 0 where
  pub bytes : All HasByte t.path
  pub line : HasLine t.end
  pub input : IsShortInput p b t.input

-- the text is that of the test
pub record IsTestText (p : Program) (b : Limits) (text : List ℕ) (t : Test) : Type 0 where
  pub written : text ≡ test_text t
  pub good : IsGood p b t

-- why the text is that of no test: it is no three words, or the third is refused as a map text
abbrev pub TestRefused : Program → Limits → List ℕ → TestFault → Type 0
TestRefused p b text Form = (path : Path) (e : End) (map : List ℕ) → ThreeWords text path e map → ⊥
TestRefused p b text (Map f) = (path : Path) × (e : End) × (map : List ℕ) × ThreeWords text path e map × Refused p b map f × (f ≡ map_fault.NoMemory → ⊥)
TestRefused p b text NoMemory = Unit {0}

-- the result, but for want of memory
abbrev pub IsOrNoMemory : Result Test TestFault → Result Test TestFault → Type 0
IsOrNoMemory result r = (result ≡ r) ⊎ (result ≡ Err NoMemory)

-- why a text is no three words
abbrev pub WordsRefused : List ℕ → TestFault → Type 0
WordsRefused text f = (f ≡ NoMemory) ⊎ ((f ≡ Form) × ((path : Path) (e : End) (map : List ℕ) → ThreeWords text path e map → ⊥))

-- the fault of a test whose map text has this fault
abbrev pub FaultOf : MapFault → TestFault → Type 0
FaultOf g f = ((g ≡ map_fault.NoMemory) × (f ≡ NoMemory)) ⊎ ((f ≡ Map g) × (g ≡ map_fault.NoMemory → ⊥))
