-- What the tool promises of a call.
use Rattle.std.specs.Prelude.{ℕ, ◌≡◌, ◌≤◌, ◌⊎◌, List, [], ◌++◌, length, Option, Some, None, Result, Ok, Err, codes}
use Rattle.cc_base.specs.declared.inputs.Test.{Test}
use Rattle.cc_base.specs.Limits.{Limits}
use Rattle.cc_base.specs.Paths.{Path}
use Rattle.cc_model.specs.declared.commands.Command.{Command}
use Rattle.cc_model.specs.declared.commands.Command.TheVariants.{Make}
use Rattle.cc_model.specs.declared.commands.RunWords.{RunWords}
use Rattle.cc_model.specs.Core.{Program}
use Rattle.cc_model.specs.Listing.{Listing, IsComplete, path_count, run_count, tests, Begun, Enumerates}
use Rattle.cc_model.specs.Report.{newline, report_text, verdict_of}
use Rattle.cc_model.specs.Source.{IsProgram}
use Rattle.cc_model.specs.Tested.{tested}
use Rattle.cc_outside.specs.Faults.{Rose}
use Rattle.cc_outside.specs.Held.{Held, file_of}
use Rattle.cc_outside.specs.Told.{appended}
use Rattle.replay.specs.Files.{IsTestsFile}
use Rattle.concolic_cli.specs.declared.answers.Refused.{Refused}
use Rattle.concolic_cli.specs.declared.answers.Status.{Status}
use Rattle.concolic_cli.specs.declared.refusal.Refusal.{Refusal}
use Rattle.concolic_cli.specs.declared.refusal.Refusal.TheVariants as refusal
use Rattle.search_dfs.specs.Missed.{MissesNoMore}
use Rattle.concolic_cli.specs.Made.{made_source, made_entry}
use Rattle.concolic_cli.specs.Named.{names_in}
use Rattle.concolic_cli.specs.Loaded.{source_limit, tests_limit, ReadAs, IsMissing, IsTooLong}
use Rattle.concolic_cli.specs.Refusals.{Names, file_text, Says, IsAnswered}
use Rattle.concolic_cli.specs.Session.{Seen, Wrote, Stands, Cause, WroteLast, LastStands, MadeCause}
use Rattle.concolic_cli.specs.Sources.{Refuses}
use Rattle.concolic_cli.specs.Tasks.{Task, Work, list, walk, trace, replay, Asks, IsAfter, word_of, RefusesTask}
use Rattle.command_words.specs.Words.{Accepted, BadWord}

-- the words are no command
abbrev pub HasNoCommand : List (List ℕ) → Type 0
HasNoCommand words = (c : Command) → Accepted words c → ⊥

-- the files hold these bytes under the task's name, and they are no more than a source may have
pub record IsSource (task : Task) (held : Option Held) (bytes : List ℕ) : Type 0 where
  pub files : Held
  pub told : held ≡ Some files
  pub file : file_of task.file files ≡ Some bytes
  pub short : length bytes ≤ source_limit

-- The bytes are the source of a program, and so it is of each program that they are the source of: the rules leave open how
-- types are numbered, and in nothing else do these programs differ.
pub record IsSourceOf (bytes entry : List ℕ) (P : Program → Type 0) : Type 0 where
  pub program : Program
  pub source : IsProgram bytes entry program
  pub each : (p : Program) → IsProgram bytes entry p → P p

-- The headline. The bytes written are the report of a listing of the file's program. Its five counts are zero, and its
-- tests are exactly the paths of every input within the bounds, or with `-after` of every input whose path is above that path,
-- each once, in byte order; each is real by the source's plain meaning. The base input was run, no more runs were made than
-- allowed, and without `-after` as many as there are paths. The status says whether a listed test ends as a fault.
pub record Headline (words : List (List ℕ)) (run : RunWords) (held : Option Held) (out_old out_new : Option (List ℕ)) (status : ℕ) : Type 0 where
  pub after : Option Path
  pub bytes : List ℕ
  pub program : Program
  pub listing : Listing
  pub names : IsAfter words run after
  pub read : ReadAs held (word_of words run.file) bytes
  pub source : IsProgram bytes (word_of words run.entry) program
  pub bounds : listing.bounds ≡ run.bounds
  pub complete : IsComplete listing
  pub begun : Begun after (tested program run.bounds) run.runs listing.items
  pub enumerates : Enumerates after (tested program run.bounds) (tests listing.items)
  pub runs : after ≡ None → run_count listing ≡ path_count listing
  pub written : out_new ≡ appended out_old (report_text listing)
  pub verdict : status ≡ verdict_of listing

-- Nothing is missed but what is said. The bytes written are the report of a listing of the file's program. Where no run
-- concretised, no run left its prediction, and the tests are the paths of every input but for those under a spent prefix and
-- those that are not below the unrun one, each once, in byte order.
pub record NothingMissedBut (words : List (List ℕ)) (run : RunWords) (held : Option Held) (out_old out_new : Option (List ℕ)) (status : ℕ) : Type 0 where
  pub after : Option Path
  pub bytes : List ℕ
  pub program : Program
  pub listing : Listing
  pub names : IsAfter words run after
  pub read : ReadAs held (word_of words run.file) bytes
  pub source : IsProgram bytes (word_of words run.entry) program
  pub bounds : listing.bounds ≡ run.bounds
  pub misses_no_more : listing.terms ≡ [] → MissesNoMore program run.bounds after listing
  pub written : out_new ≡ appended out_old (report_text listing)
  pub verdict : status ≡ verdict_of listing

-- the source is refused, or for `trace` the map is, or for `replay` the tests file, and the text is said
pub record SourceIsRefused (words : List (List ℕ)) (held : Option Held) (err_old err_new : Option (List ℕ)) (faults_old faults_new : ℕ) : Type 0 where
  pub task : Task
  pub asked : Asks words task
  pub bytes : List ℕ
  pub text : List ℕ
  pub read : ReadAs held task.file bytes
  pub refused : RefusesTask held bytes task.entry task.work text
  pub said : Says err_old err_new faults_old faults_new (text ++ newline)

-- the source that `make` builds is refused, and the text is said
pub record MadeIsRefused (words : List (List ℕ)) (err_old err_new : Option (List ℕ)) (faults_old faults_new : ℕ) : Type 0 where
  pub n : ℕ
  pub accepted : Accepted words (Make n)
  pub text : List ℕ
  pub refused : Refuses (made_source n) made_entry text
  pub said : Says err_old err_new faults_old faults_new (text ++ newline)

-- there is no such file, it is too long, or the files failed
abbrev pub FileFault : ℕ → Option Held → (files_old files_new : ℕ) → List ℕ → List ℕ → Type 0
FileFault limit held files_old files_new file what =
    ((what ≡ codes "missing") × IsMissing held file)
    ⊎ (((what ≡ codes "too long") × IsTooLong limit held file)
    ⊎ ((what ≡ codes "failed") × Rose files_old files_new))

-- a file that the task names, and how many bytes it may have: that of the source, or, where the source was read and is a program,
-- that of the tests that are replayed
pub data NamesFile (held : Option Held) (task : Task) : List ℕ → ℕ → Type 0 where
  its_source : NamesFile held task task.file source_limit
  its_tests : (tests bytes : List ℕ) → (p : Program) → task.work ≡ replay tests → ReadAs held task.file bytes → IsProgram bytes task.entry p →
      NamesFile held task tests tests_limit

-- the file is refused, and its text is said
pub record FileIsRefused (words : List (List ℕ)) (held : Option Held) (files_old files_new : ℕ) (err_old err_new : Option (List ℕ)) (faults_old faults_new : ℕ) : Type 0 where
  pub task : Task
  pub asked : Asks words task
  pub name : List ℕ
  pub limit : ℕ
  pub names : NamesFile held task name limit
  pub what : List ℕ
  pub cause : FileFault limit held files_old files_new name what
  pub said : Says err_old err_new faults_old faults_new (file_text name what ++ newline)

-- what stands after a failure: nothing was written, or a first part of what the words ask for
pub data PartStands (words : List (List ℕ)) (held : Option Held) (out_old out_new : Option (List ℕ)) : Type 0 where
  of_task : (task : Task) → Asks words task → Stands held out_old out_new task → PartStands words held out_old out_new
  of_make : (n : ℕ) → Accepted words (Make n) → LastStands n out_old out_new → PartStands words held out_old out_new

-- the files hold these bytes under the name, and they are no more than a tests file may have
pub record HoldsFile (held : Option Held) (name file : List ℕ) : Type 0 where
  pub files : Held
  pub told : held ≡ Some files
  pub there : file_of name files ≡ Some file
  pub short : length file ≤ tests_limit

-- the text is a tests file, for the program
abbrev pub HoldsSome : Program → List ℕ → Type 0
HoldsSome p file = (b : Limits) × (tests : List Test) × (lines : List ℕ) × IsTestsFile p file b tests lines

-- the source was read and is refused: it is no program, so the tests file isn't read
pub record SourceComesFirst (task : Task) (held : Option Held) : Type 0 where
  pub bytes : List ℕ
  pub text : List ℕ
  pub read : ReadAs held task.file bytes
  pub refused : Refuses bytes task.entry text
  pub none : (p : Program) → IsProgram bytes task.entry p → ⊥

-- the tests file can't be read: 4, or want of memory; or 3, where the source, which comes first, is refused
abbrev pub TestsUnread : Task → Option Held → (status : ℕ) → Type 0
TestsUnread task held status = (status ≡ 4) ⊎ ((status ≡ 7) ⊎ ((status ≡ 3) × SourceComesFirst task held))

-- a refusal: 3, or want of memory, or the files failed
abbrev pub IsRefusal : (files_old files_new : ℕ) → (status : ℕ) → Type 0
IsRefusal files_old files_new status = (status ≡ 3) ⊎ ((status ≡ 7) ⊎ ((status ≡ 4) × Rose files_old files_new))

-- the words that a text may name
abbrev pub tests_of : Work → List ℕ
tests_of (list b runs budget after) = []
tests_of (walk strategy b runs budget seed) = []
tests_of (trace b map) = []
tests_of (replay tests) = tests

abbrev pub names_of : Task → Names
names_of task = record { file = task.file; entry = task.entry; tests = tests_of task.work }

abbrev pub made_names : Names
made_names = record { file = []; entry = made_entry; tests = [] }

-- ---- what a call comes to

-- what a call sees of the outside, before and after
pub record Call : Type 0 where
  pub words : List (List ℕ)
  pub seen : Seen
  pub err_old : Option (List ℕ)
  pub err_new : Option (List ℕ)
  pub err_faults_old : ℕ
  pub err_faults_new : ℕ

-- the words ask for a task and a session ended with its text, or they ask to make a source and its line was written
pub data IsDone (words : List (List ℕ)) (seen : Seen) (status : ℕ) : Type 0 where
  done : (task : Task) → Asks words task → Wrote seen.held seen.out_old seen.out_new task status → IsDone words seen status
  made : (n : ℕ) → Accepted words (Make n) → WroteLast n seen.out_old seen.out_new → status ≡ 0 → IsDone words seen status

-- the words are bad; or a session was refused for its cause, or the making was; the text may name these words
pub data IsUndone (words : List (List ℕ)) (seen : Seen) (names : Names) : Refusal → Type 0 where
  bad : (n : ℕ) → BadWord words n → seen.out_new ≡ seen.out_old → IsUndone words seen names (refusal.BadWord n)
  refused : (task : Task) → (e : Refusal) → Asks words task → Cause seen task e → names ≡ names_of task → IsUndone words seen names e
  unmade : (n : ℕ) → (e : Refusal) → Accepted words (Make n) → MadeCause n seen.out_old seen.out_new seen.faults_old seen.faults_new e →
      names ≡ made_names → IsUndone words seen names e

-- what is done ends with a status, or with a refusal
abbrev pub Performed : List (List ℕ) → Seen → Result Status Refused → Type 0
Performed words seen (Ok status) = IsDone words seen status.0
Performed words seen (Err r) = IsUndone words seen (names_in r.named) r.refusal

-- it is done and nothing is said, or it is refused and the refusal is answered
pub data Answered (call : Call) (status : ℕ) : Type 0 where
  quietly : IsDone call.words call.seen status → call.err_new ≡ call.err_old → Answered call status
  aloud : (names : Names) → (e : Refusal) → IsUndone call.words call.seen names e →
      IsAnswered call.err_old call.err_new call.err_faults_old call.err_faults_new names e status → Answered call status
