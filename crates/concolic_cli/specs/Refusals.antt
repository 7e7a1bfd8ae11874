-- What the tool says when it refuses, and its status then. The texts and the statuses are this project's own.
use Rattle.std.specs.Prelude.{ℕ, ◌≡◌, ◌⊎◌, Bool, true, false, IsTrue, List, ◌++◌, Option, codes}
use Rattle.std.specs.Fmt.{decimal, signed_decimal}
use Rattle.input_map.specs.declared.faults.MapFault.{MapFault}
use Rattle.input_map.specs.declared.faults.MapFault.TheVariants as map_fault
use Rattle.cc_model.specs.Report.{newline}
use Rattle.concolic_cli.specs.Sources.{source_text, no_entry_text}
use Rattle.cc_outside.specs.Faults.{Rose}
use Rattle.cc_outside.specs.Told.{appended, WritesPart}
use Rattle.concolic_cli.specs.declared.refusal.FileWord.{FileWord}
use Rattle.concolic_cli.specs.declared.refusal.FileWord.TheVariants as word
use Rattle.concolic_cli.specs.declared.refusal.Unread.{Unread}
use Rattle.concolic_cli.specs.declared.refusal.Unread.TheVariants as unread
use Rattle.concolic_cli.specs.declared.refusal.Wrong.{Wrong}
use Rattle.concolic_cli.specs.declared.refusal.Wrong.TheVariants.{BadByte, BadNumber, OpenComment, BadDirective, Syntax, TooDeep, UnknownName, DeclaredTwice, Mismatch, TooLarge}
use Rattle.concolic_cli.specs.declared.refusal.Refusal.{Refusal}
use Rattle.concolic_cli.specs.declared.refusal.Refusal.TheVariants.{BadWord, File, Source, NoEntry, Map, Tests, OutputFailed, NoMemory}

abbrev pub what_text : Wrong → List ℕ
what_text BadByte = codes "bad byte"
what_text BadNumber = codes "bad number"
what_text OpenComment = codes "open comment"
what_text BadDirective = codes "bad directive"
what_text Syntax = codes "syntax"
what_text TooDeep = codes "too deep"
what_text UnknownName = codes "unknown name"
what_text DeclaredTwice = codes "declared twice"
what_text Mismatch = codes "type"
what_text TooLarge = codes "too large"

-- file NAME: WHAT
abbrev pub file_text : List ℕ → List ℕ → List ℕ
file_text file what = codes "file " ++ file ++ codes ": " ++ what

-- why a file was not read
abbrev pub unread_text : Unread → List ℕ
unread_text unread.Missing = codes "missing"
unread_text unread.TooLong = codes "too long"
unread_text unread.Failed = codes "failed"

abbrev pub bad_word_text : ℕ → List ℕ
bad_word_text n = codes "bad word " ++ decimal n

-- what is wrong with the text of an input
abbrev pub map_what : MapFault → List ℕ
map_what (map_fault.Malformed byte) = codes "malformed at " ++ decimal byte
map_what (map_fault.NotCanonical address) = codes "not canonical at " ++ signed_decimal address
map_what map_fault.Short = codes "short"
map_what (map_fault.Long address) = codes "too long at " ++ signed_decimal address
map_what (map_fault.OutOfBounds address) = codes "out of bounds at " ++ signed_decimal address
map_what (map_fault.StreamOutOfBounds place) = codes "stream out of bounds at " ++ decimal place
map_what map_fault.NoMemory = codes "no memory"

-- map: WHAT
abbrev pub map_text_of : MapFault → List ℕ
map_text_of fault = codes "map: " ++ map_what fault

-- the refusal of a map with this fault
abbrev pub map_refusal : MapFault → Refusal
map_refusal (map_fault.Malformed byte) = Map (map_fault.Malformed byte)
map_refusal (map_fault.NotCanonical address) = Map (map_fault.NotCanonical address)
map_refusal map_fault.Short = Map map_fault.Short
map_refusal (map_fault.Long address) = Map (map_fault.Long address)
map_refusal (map_fault.OutOfBounds address) = Map (map_fault.OutOfBounds address)
map_refusal (map_fault.StreamOutOfBounds place) = Map (map_fault.StreamOutOfBounds place)
map_refusal map_fault.NoMemory = NoMemory

-- tests LINE: malformed
abbrev pub tests_text : ℕ → List ℕ
tests_text line = codes "tests " ++ decimal line ++ codes ": malformed"

-- the words that a text names
pub record Names : Type 0 where
  pub file : List ℕ
  pub entry : List ℕ
  pub tests : List ℕ

-- the word that names a file
abbrev pub file_word : Names → FileWord → List ℕ
file_word names word.Source = names.file
file_word names word.Tests = names.tests

-- the text of a refusal, for the words FILE, ENTRY and TESTS
abbrev pub refusal_text : Names → Refusal → List ℕ
refusal_text names (BadWord n) = bad_word_text n
refusal_text names (File w f) = file_text (file_word names w) (unread_text f)
refusal_text names (Source line wrong) = source_text line (what_text wrong)
refusal_text names NoEntry = no_entry_text names.entry
refusal_text names (Map fault) = map_text_of fault
refusal_text names (Tests line) = tests_text line
refusal_text names OutputFailed = codes "output failed"
refusal_text names NoMemory = codes "no memory"

-- a text is said with a newline behind it
abbrev pub refusal_line : Names → Refusal → List ℕ
refusal_line names e = refusal_text names e ++ newline

-- the status of a refusal
abbrev pub status_of : Refusal → ℕ
status_of (BadWord n) = 2
status_of (File w f) = 4
status_of (Source line wrong) = 3
status_of NoEntry = 3
status_of (Map fault) = 3
status_of (Tests line) = 3
status_of OutputFailed = 5
status_of NoMemory = 7

-- a text that holds the name of a file or of a function takes memory, and so does one with a number
abbrev pub wants_memory : Refusal → Bool
wants_memory (BadWord n) = false
wants_memory (File w f) = true
wants_memory (Source line wrong) = true
wants_memory NoEntry = true
wants_memory (Map fault) = true
wants_memory (Tests line) = true
wants_memory OutputFailed = false
wants_memory NoMemory = false

-- the line stands in the error sink: whole where the sink took it, a first part of it where it failed, and nothing where
-- the sink wanted memory
abbrev pub Says : (old new : Option (List ℕ)) → (faults_old faults_new : ℕ) → List ℕ → Type 0
Says old new faults_old faults_new line = (new ≡ appended old line) ⊎ (WritesPart old new line × Rose faults_old faults_new) ⊎ (new ≡ old)

-- a refusal is answered by its status and its line; where the line's memory is wanting, as want of memory
abbrev pub IsAnswered : (old new : Option (List ℕ)) → (faults_old faults_new : ℕ) → Names → Refusal → ℕ → Type 0
IsAnswered old new faults_old faults_new names e status =
    ((status ≡ status_of e) × Says old new faults_old faults_new (refusal_line names e))
    ⊎ (IsTrue (wants_memory e) × (status ≡ 7) × Says old new faults_old faults_new (refusal_line names NoMemory))
