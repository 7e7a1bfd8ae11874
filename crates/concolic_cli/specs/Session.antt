-- What a session comes to.
use Rattle.std.specs.Prelude.{ℕ, ◌≡◌, List, Option, Result, Ok, Err}
use Rattle.cc_base.specs.Limits.{Limits}
use Rattle.cc_model.specs.Core.{Program}
use Rattle.cc_outside.specs.Faults.{Rose}
use Rattle.cc_outside.specs.Held.{Held}
use Rattle.cc_outside.specs.Told.{appended, WritesPart}
use Rattle.input_map.specs.declared.faults.MapFault.{MapFault}
use Rattle.input_map.specs.CellFaults.{Refused}
use Rattle.concolic_cli.specs.declared.answers.Status.{Status}
use Rattle.concolic_cli.specs.declared.refusal.FileWord.TheVariants as word
use Rattle.concolic_cli.specs.declared.refusal.Refusal.{Refusal}
use Rattle.concolic_cli.specs.declared.refusal.Refusal.TheVariants.{BadWord, File, Source, NoEntry, Map, Tests, OutputFailed, NoMemory}
use Rattle.concolic_cli.specs.declared.refusal.Unread.{Unread}
use Rattle.concolic_cli.specs.declared.refusal.Unread.TheVariants as unread
use Rattle.concolic_cli.specs.Made.{made_source, made_entry}
use Rattle.concolic_cli.specs.Refusals.{what_text}
use Rattle.concolic_cli.specs.Sources.{Refuses, source_text, no_entry_text}
use Rattle.concolic_cli.specs.Loaded.{source_limit, tests_limit, ReadAs, ReadTests, IsMissing, IsTooLong}
use Rattle.cc_model.specs.Source.{IsProgram}
use Rattle.cc_base.specs.declared.inputs.Test.{Test}
use Rattle.replay.specs.Files.{IsTestsFile, IsRefusedAt}
use Rattle.concolic_cli.specs.Tasks.{Task, Work, list, walk, trace, replay, IsReport, MayStand, MakesAs, MapIsRefused}

-- why a file isn't read
abbrev pub UnreadCause : (limit : ℕ) → Option Held → (faults_old faults_new : ℕ) → List ℕ → Unread → Type 0
UnreadCause limit held old new file unread.Missing = IsMissing held file
UnreadCause limit held old new file unread.TooLong = IsTooLong limit held file
UnreadCause limit held old new file unread.Failed = Rose old new

-- the cause of a refusal of the file
abbrev pub FileCause : Option Held → (faults_old faults_new : ℕ) → List ℕ → Refusal → Type 0
FileCause held old new file (File word.Source f) = UnreadCause source_limit held old new file f
FileCause held old new file (File word.Tests f) = ⊥
FileCause held old new file NoMemory = Unit {0}
FileCause held old new file (BadWord n) = ⊥
FileCause held old new file (Source line wrong) = ⊥
FileCause held old new file NoEntry = ⊥
FileCause held old new file (Map f) = ⊥
FileCause held old new file (Tests line) = ⊥
FileCause held old new file OutputFailed = ⊥

-- the program is accepted, and the map text has the fault
abbrev pub MapRefusedCause : (bytes entry : List ℕ) → Work → MapFault → Type 0
MapRefusedCause bytes entry (list b runs budget after) f = ⊥
MapRefusedCause bytes entry (walk strategy b runs budget seed) f = ⊥
MapRefusedCause bytes entry (trace b map) f = MapIsRefused bytes entry b map f
MapRefusedCause bytes entry (replay tests) f = ⊥

-- the cause of a refusal of the bytes
abbrev pub SourceCause : (bytes entry : List ℕ) → Work → Refusal → Type 0
SourceCause bytes entry work (Source line wrong) = Refuses bytes entry (source_text line (what_text wrong))
SourceCause bytes entry work NoEntry = Refuses bytes entry (no_entry_text entry)
SourceCause bytes entry work (Map f) = MapRefusedCause bytes entry work f
SourceCause bytes entry work NoMemory = Unit {0}
SourceCause bytes entry work (BadWord n) = ⊥
SourceCause bytes entry work (File w f) = ⊥
SourceCause bytes entry work (Tests line) = ⊥
SourceCause bytes entry work OutputFailed = ⊥

-- the cause of a refusal of the text of an input
abbrev pub MapCause : Program → Limits → List ℕ → Refusal → Type 0
MapCause p b text (Map fault) = Refused p b text fault
MapCause p b text NoMemory = Unit {0}
MapCause p b text (BadWord n) = ⊥
MapCause p b text (File w f) = ⊥
MapCause p b text (Source line wrong) = ⊥
MapCause p b text NoEntry = ⊥
MapCause p b text (Tests line) = ⊥
MapCause p b text OutputFailed = ⊥

-- the cause of a refusal of the output
abbrev pub WriteCause : (faults_old faults_new : ℕ) → Refusal → Type 0
WriteCause old new OutputFailed = Rose old new
WriteCause old new NoMemory = Unit {0}
WriteCause old new (BadWord n) = ⊥
WriteCause old new (File w f) = ⊥
WriteCause old new (Source line wrong) = ⊥
WriteCause old new NoEntry = ⊥
WriteCause old new (Map f) = ⊥
WriteCause old new (Tests line) = ⊥

-- the line is the first with a fault of the text, which is no tests file
pub record LinesRefused (p : Program) (file : List ℕ) (line : ℕ) : Type 0 where
  pub refused : IsRefusedAt p file line
  pub none : (b : Limits) (all : List Test) (lines : List ℕ) → IsTestsFile p file b all lines → ⊥

-- the cause of a refusal of the tests file of a program
abbrev pub TestsCause : Program → Option Held → (faults_old faults_new : ℕ) → List ℕ → Refusal → Type 0
TestsCause p held old new tests (File word.Tests f) = UnreadCause tests_limit held old new tests f
TestsCause p held old new tests (File word.Source f) = ⊥
TestsCause p held old new tests (Tests line) = (file : List ℕ) × ReadTests held tests file × LinesRefused p file line
TestsCause p held old new tests NoMemory = Unit {0}
TestsCause p held old new tests (BadWord n) = ⊥
TestsCause p held old new tests (Source line wrong) = ⊥
TestsCause p held old new tests NoEntry = ⊥
TestsCause p held old new tests (Map f) = ⊥
TestsCause p held old new tests OutputFailed = ⊥

-- what a session sees of the outside before and after: the files held, their faults, what is written, and its faults
pub record Seen : Type 0 where
  pub held : Option Held
  pub files_old : ℕ
  pub files_new : ℕ
  pub out_old : Option (List ℕ)
  pub out_new : Option (List ℕ)
  pub faults_old : ℕ
  pub faults_new : ℕ

-- that of files and of an output, for what a kind of files and a kind of output tell
abbrev pub seen_of : {F K : Type 0} → (held : F → Option Held) → (files_faults : F → ℕ) → (written : K → Option (List ℕ)) → (faults : K → ℕ) →
    (files_old files_new : F) → (out_old out_new : K) → Seen
seen_of held files_faults written faults files_old files_new out_old out_new =
    record {
      held = held files_old;
      files_old = files_faults files_old;
      files_new = files_faults files_new;
      out_old = written out_old;
      out_new = written out_new;
      faults_old = faults out_old;
      faults_new = faults out_new;
    }

-- the file's bytes were read, and the text that the task asks for was written
pub record Wrote (held : Option Held) (out_old out_new : Option (List ℕ)) (task : Task) (status : ℕ) : Type 0 where
  pub bytes : List ℕ
  pub text : List ℕ
  pub read : ReadAs held task.file bytes
  pub report : IsReport held bytes task.entry task.work text status
  pub written : out_new ≡ appended out_old text

-- a first part of a text that may stand was written
pub record WroteFirst (held : Option Held) (out_old out_new : Option (List ℕ)) (task : Task) : Type 0 where
  pub bytes : List ℕ
  pub text : List ℕ
  pub read : ReadAs held task.file bytes
  pub may : MayStand held bytes task.entry task.work text
  pub written : WritesPart out_old out_new text

-- nothing was written, or a first part of such a text
pub data Stands (held : Option Held) (out_old out_new : Option (List ℕ)) (task : Task) : Type 0 where
  nothing : out_new ≡ out_old → Stands held out_old out_new task
  part : WroteFirst held out_old out_new task → Stands held out_old out_new task

module _ (seen : Seen) (task : Task) where
  -- the file was refused, and nothing was written
  abbrev pub FileRefused : Refusal → Type 0
  FileRefused e = FileCause seen.held seen.files_old seen.files_new task.file e × (seen.out_new ≡ seen.out_old)

  -- the file's bytes were refused, and nothing was written
  pub record SourceRefused (e : Refusal) : Type 0 where
    pub bytes : List ℕ
    pub read : ReadAs seen.held task.file bytes
    pub cause : SourceCause bytes task.entry task.work e
    pub silent : seen.out_new ≡ seen.out_old

  -- the tests file of a program was refused, and nothing was written
  pub record TestsRefused (e : Refusal) : Type 0 where
    pub tests : List ℕ
    pub named : task.work ≡ replay tests
    pub bytes : List ℕ
    pub read : ReadAs seen.held task.file bytes
    pub program : Program
    pub source : IsProgram bytes task.entry program
    pub cause : TestsCause program seen.held seen.files_old seen.files_new tests e
    pub silent : seen.out_new ≡ seen.out_old

  -- the cause of a refusal
  abbrev pub Cause : Refusal → Type 0
  Cause (BadWord n) = ⊥
  Cause (File word.Source f) = FileRefused (File word.Source f)
  Cause (File word.Tests f) = TestsRefused (File word.Tests f)
  Cause (Source line wrong) = SourceRefused (Source line wrong)
  Cause NoEntry = SourceRefused NoEntry
  Cause (Map f) = SourceRefused (Map f)
  Cause (Tests line) = TestsRefused (Tests line)
  Cause OutputFailed = Rose seen.faults_old seen.faults_new × WroteFirst seen.held seen.out_old seen.out_new task
  Cause NoMemory = Stands seen.held seen.out_old seen.out_new task

  -- a session ends with a status and its report, or with a refusal and its cause
  abbrev pub Ends : Result Status Refusal → Type 0
  Ends (Ok status) = Wrote seen.held seen.out_old seen.out_new task status.0
  Ends (Err e) = Cause e

-- ---- `make`

-- the last line of a listing of the made source was written
pub record WroteLast (n : ℕ) (out_old out_new : Option (List ℕ)) : Type 0 where
  pub text : List ℕ
  pub makes : MakesAs n text
  pub written : out_new ≡ appended out_old text

-- a first part of such a line was written
pub record WroteLastFirst (n : ℕ) (out_old out_new : Option (List ℕ)) : Type 0 where
  pub text : List ℕ
  pub makes : MakesAs n text
  pub written : WritesPart out_old out_new text

-- nothing was written, or a first part of such a line
pub data LastStands (n : ℕ) (out_old out_new : Option (List ℕ)) : Type 0 where
  no_line : out_new ≡ out_old → LastStands n out_old out_new
  first_part : WroteLastFirst n out_old out_new → LastStands n out_old out_new

module _ (n : ℕ) (out_old out_new : Option (List ℕ)) (faults_old faults_new : ℕ) where
  -- the made source was refused, and nothing was written
  abbrev pub MadeRefused : List ℕ → Type 0
  MadeRefused text = Refuses (made_source n) made_entry text × (out_new ≡ out_old)

  -- the cause of a refusal
  abbrev pub MadeCause : Refusal → Type 0
  MadeCause (Source line wrong) = MadeRefused (source_text line (what_text wrong))
  MadeCause NoEntry = MadeRefused (no_entry_text made_entry)
  MadeCause OutputFailed = Rose faults_old faults_new × WroteLastFirst n out_old out_new
  MadeCause NoMemory = LastStands n out_old out_new
  MadeCause (BadWord k) = ⊥
  MadeCause (File w f) = ⊥
  MadeCause (Map f) = ⊥
  MadeCause (Tests line) = ⊥

  -- `make` ends with status 0 and its line, or with a refusal and its cause
  abbrev pub MadeEnds : Result Status Refusal → Type 0
  MadeEnds (Ok status) = (status.0 ≡ 0) × WroteLast n out_old out_new
  MadeEnds (Err e) = MadeCause e
