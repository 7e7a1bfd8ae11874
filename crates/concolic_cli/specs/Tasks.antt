-- What a command asks for, what is written then, and why it may be refused.
use Rattle.std.specs.Prelude.{ℕ, ◌+◌, ◌-◌, ◌≡◌, ◌⊎◌, List, [], length, Option, Some, None, option_map, slice_get, if◌then◌else◌}
use Rattle.cc_base.specs.declared.inputs.Input.{Input}
use Rattle.cc_base.specs.declared.inputs.Test.{Test}
use Rattle.cc_base.specs.Limits.{Limits}
use Rattle.cc_base.specs.Paths.{Path}
use Rattle.cc_model.specs.declared.commands.Command.TheVariants.{Run, Trace, Replay}
use Rattle.cc_model.specs.declared.commands.RunWords.{RunWords}
use Rattle.cc_model.specs.declared.commands.Strategy.{Strategy}
use Rattle.cc_model.specs.declared.commands.Strategy.TheVariants.{Dfs}
use Rattle.cc_model.specs.declared.commands.TraceWords.{TraceWords}
use Rattle.cc_model.specs.declared.commands.ReplayWords.{ReplayWords}
use Rattle.cc_model.specs.Core.{Program}
use Rattle.cc_model.specs.Listing.{Listing, Sound}
use Rattle.cc_model.specs.Report.{report_text, last_line, verdict_of, is_fault}
use Rattle.cc_model.specs.Runs.{IsInput, end_at}
use Rattle.cc_model.specs.Source.{IsProgram}
use Rattle.cc_model.specs.Tested.{tested}
use Rattle.input_map.specs.declared.faults.MapFault.{MapFault}
use Rattle.input_map.specs.Maps.{IsMap}
use Rattle.input_map.specs.CellFaults.{Refused}
use Rattle.concolic_cli.specs.Listings.{IsListing}
use Rattle.concolic_cli.specs.Made.{made_source, made_entry, made_bounds, made_budget}
use Rattle.cc_outside.specs.Held.{Held}
use Rattle.replay.specs.Files.{IsTestsFile, IsRefusedAt}
use Rattle.replay.specs.ReplayText.{Written}
use Rattle.concolic_cli.specs.Loaded.{ReadTests}
use Rattle.concolic_cli.specs.Refusals.{map_text_of, tests_text}
use Rattle.concolic_cli.specs.Sources.{Refuses}
use Rattle.concolic_cli.specs.TraceText.{trace_text, CanBeTold}
use Rattle.concolic_cli.specs.WalkReports.{WalksAs, WalksSome}
use Rattle.command_words.specs.Words.{Accepted, IsPath}

-- ---- tasks

-- what is done with a program: its tests are listed, within bounds, by at most so many runs, with this budget for a solve, and
-- above a path where one is given; or its runs are walked through by a strategy, from the words of a seed's generator; or its run on
-- the input of a map text is told; or the tests of a file are replayed
pub data Work : Type 0 where
  list : (b : Limits) → (runs budget : ℕ) → (after : Option Path) → Work
  walk : (strategy : Strategy) → (b : Limits) → (runs budget seed : ℕ) → Work
  trace : (b : Limits) → (map : List ℕ) → Work
  replay : (tests : List ℕ) → Work

-- the name of the source's file, the name of the tested function, and what is done
pub record Task : Type 0 where
  pub file : List ℕ
  pub entry : List ℕ
  pub work : Work

abbrev pub text_or_none : Option (List ℕ) → List ℕ
text_or_none (Some text) = text
text_or_none None = []

-- word number n, from 1
abbrev pub word_of : List (List ℕ) → ℕ → List ℕ
word_of words n = text_or_none (slice_get words (n - 1))

-- the path of a word, where there is one
abbrev pub IsPathOf : Option (List ℕ) → Option Path → Type 0
IsPathOf None None = Unit {0}
IsPathOf (Some word) (Some p) = IsPath word p
IsPathOf _ _ = ⊥

-- the path after which the listing goes on, where the words name one
abbrev pub IsAfter : List (List ℕ) → RunWords → Option Path → Type 0
IsAfter words r after = IsPathOf (option_map (λ n. word_of words n) r.after) after

abbrev pub list_task : List (List ℕ) → RunWords → Option Path → Task
list_task words r after = record { file = word_of words r.file; entry = word_of words r.entry; work = list r.bounds r.runs r.budget after }

abbrev pub walk_task : List (List ℕ) → RunWords → Task
walk_task words r = record { file = word_of words r.file; entry = word_of words r.entry; work = walk r.strategy r.bounds r.runs r.budget r.seed }

abbrev pub trace_task : List (List ℕ) → TraceWords → Task
trace_task words t = record { file = word_of words t.file; entry = word_of words t.entry; work = trace t.bounds (word_of words t.map) }

abbrev pub replay_task : List (List ℕ) → ReplayWords → Task
replay_task words r = record { file = word_of words r.file; entry = word_of words r.entry; work = replay (word_of words r.tests) }

-- the words ask for the task, which is one on a file
pub data Asks (words : List (List ℕ)) : Task → Type 0 where
  asks_list : (r : RunWords) → (after : Option Path) → Accepted words (Run r) → r.strategy ≡ Dfs → IsAfter words r after → Asks words (list_task words r after)
  asks_walk : (r : RunWords) → Accepted words (Run r) → (r.strategy ≡ Dfs → ⊥) → Asks words (walk_task words r)
  asks_trace : (t : TraceWords) → Accepted words (Trace t) → Asks words (trace_task words t)
  asks_replay : (r : ReplayWords) → Accepted words (Replay r) → Asks words (replay_task words r)

-- ---- what is written

-- the text is the report of a listing of the program that the bytes are, and the status its verdict
pub record ListsAs (bytes entry : List ℕ) (b : Limits) (runs budget : ℕ) (after : Option Path) (text : List ℕ) (status : ℕ) : Type 0 where
  pub program : Program
  pub listing : Listing
  pub source : IsProgram bytes entry program
  pub lists : IsListing (source.checked).sites program b runs budget after listing
  pub text_is : text ≡ report_text listing
  pub verdict : status ≡ verdict_of listing

-- the text tells of the run of the program that the bytes are on the input of the map text, which is one within the bounds and is
-- refused in no way, and whose lines can be read again; the status is 1 where the run ends as a fault
pub record TracesAs (bytes entry : List ℕ) (b : Limits) (map text : List ℕ) (status : ℕ) : Type 0 where
  pub program : Program
  pub input : Input
  pub source : IsProgram bytes entry program
  pub named : IsMap map input
  pub within : IsInput program b input
  pub unrefused : (f : MapFault) → Refused program b map f → ⊥
  pub told : CanBeTold program b input
  pub text_is : text ≡ trace_text program b input
  pub verdict : status ≡ (if is_fault (end_at program b input) then 1 else 0)

-- the text tells of the replay of the tests that the file holds: that each is real, with status 0, or which is the first that isn't,
-- with status 8
pub record ReplaysAs (held : Option Held) (bytes entry tests text : List ℕ) (status : ℕ) : Type 0 where
  pub program : Program
  pub source : IsProgram bytes entry program
  pub file : List ℕ
  pub read : ReadTests held tests file
  pub bounds : Limits
  pub all : List Test
  pub lines : List ℕ
  pub holds : IsTestsFile program file bounds all lines
  pub unrefused : (n : ℕ) → IsRefusedAt program file n → ⊥
  pub written : Written program bounds (length all) all lines text status

-- the text is what is written for the program that the bytes are, with this status
abbrev pub IsReport : Option Held → (bytes entry : List ℕ) → Work → (text : List ℕ) → (status : ℕ) → Type 0
IsReport held bytes entry (list b runs budget after) text status = ListsAs bytes entry b runs budget after text status
IsReport held bytes entry (walk strategy b runs budget seed) text status = WalksAs bytes entry strategy b runs budget seed text status
IsReport held bytes entry (trace b map) text status = TracesAs bytes entry b map text status
IsReport held bytes entry (replay tests) text status = ReplaysAs held bytes entry tests text status

-- ---- what stands of it where the work was cut off

-- the text is the bounds, the lines of sound items, lines of terms and a last line
pub record ListsSome (bytes entry : List ℕ) (b : Limits) (after : Option Path) (text : List ℕ) : Type 0 where
  pub program : Program
  pub listing : Listing
  pub source : IsProgram bytes entry program
  pub bounds : listing.bounds ≡ b
  pub sound : Sound after (tested program b) listing.items
  pub text_is : text ≡ report_text listing

-- a text of which a first part may stand
abbrev pub MayStand : Option Held → (bytes entry : List ℕ) → Work → (text : List ℕ) → Type 0
MayStand held bytes entry (list b runs budget after) text = ListsSome bytes entry b after text
MayStand held bytes entry (walk strategy b runs budget seed) text = WalksSome bytes entry strategy b runs budget seed text
MayStand held bytes entry (trace b map) text = (status : ℕ) × TracesAs bytes entry b map text status
MayStand held bytes entry (replay tests) text = (status : ℕ) × ReplaysAs held bytes entry tests text status

-- ---- what `make` writes

-- the text is the last line of a listing of the source that `make` builds for n
pub record MakesAs (n : ℕ) (text : List ℕ) : Type 0 where
  pub program : Program
  pub listing : Listing
  pub source : IsProgram (made_source n) made_entry program
  pub lists : IsListing (source.checked).sites program (made_bounds n) (n + 1) made_budget None listing
  pub text_is : text ≡ last_line listing

-- ---- why a program that the bytes are may be refused

-- the map text has this fault, and is that of no input within the bounds
pub record MapIsRefused (bytes entry : List ℕ) (b : Limits) (map : List ℕ) (f : MapFault) : Type 0 where
  pub program : Program
  pub source : IsProgram bytes entry program
  pub refused : Refused program b map f
  pub none : (h : Input) → IsMap map h → IsInput program b h → ⊥

-- the line is the first one with a fault of the tests file, which holds no tests
pub record TestsAreRefused (held : Option Held) (bytes entry tests : List ℕ) (line : ℕ) : Type 0 where
  pub program : Program
  pub source : IsProgram bytes entry program
  pub file : List ℕ
  pub read : ReadTests held tests file
  pub refused : IsRefusedAt program file line
  pub none : (b : Limits) (all : List Test) (lines : List ℕ) → IsTestsFile program file b all lines → ⊥

-- an accepted program is refused for the work, with this text
abbrev pub RefusesWork : Option Held → (bytes entry : List ℕ) → Work → (text : List ℕ) → Type 0
RefusesWork held bytes entry (list b runs budget after) text = ⊥
RefusesWork held bytes entry (walk strategy b runs budget seed) text = ⊥
RefusesWork held bytes entry (trace b map) text = (f : MapFault) × MapIsRefused bytes entry b map f × (text ≡ map_text_of f)
RefusesWork held bytes entry (replay tests) text = (line : ℕ) × TestsAreRefused held bytes entry tests line × (text ≡ tests_text line)

-- the bytes are refused for a task, with this text
abbrev pub RefusesTask : Option Held → (bytes entry : List ℕ) → Work → (text : List ℕ) → Type 0
RefusesTask held bytes entry work text = Refuses bytes entry text ⊎ RefusesWork held bytes entry work text
