-- A report is a tests file of its program.
use Rattle.std.specs.Prelude.{ℕ, ◌≡◌, List, [], ◌∷◌, Option}
use Rattle.cc_base.specs.declared.inputs.Input.{Input}
use Rattle.cc_model.specs.declared.commands.RunWords.{RunWords}
use Rattle.cc_model.specs.declared.commands.TraceWords.{TraceWords}
use Rattle.cc_model.specs.Core.{Program}
use Rattle.cc_model.specs.Listing.{Item, Listing}
use Rattle.cc_model.specs.Report.{report_text}
use Rattle.cc_model.specs.Source.{IsProgram}
use Rattle.cc_model.specs.Tested.{Term}
use Rattle.cc_outside.specs.Held.{Held}
use Rattle.cc_outside.specs.Told.{appended}
use Rattle.replay.specs.Files.{IsTestsFile}
use Rattle.replay.specs.ReportFiles.{ran}
use Rattle.concolic_cli.specs.Listings.{test_at}
use Rattle.concolic_cli.specs.Loaded.{ReadAs}
use Rattle.concolic_cli.specs.Tasks.{word_of}
use Rattle.concolic_cli.specs.TraceText.{trace_text}
use Rattle.concolic_cli.specs.WalkReports.{walk_text}
use Rattle.search_walks.specs.declared.log.WalkSummary.{WalkSummary}

module _ (words : List (List ℕ)) (held : Option Held) (out_old out_new : Option (List ℕ)) where
  -- The bytes written are the report of a listing of the file's program, and a tests file of that program without change: with
  -- the bounds of the words, and the tests of the test, past and stray items, in order.
  pub record WroteTestsFile (run : RunWords) : Type 0 where
    pub bytes : List ℕ
    pub program : Program
    pub listing : Listing
    pub lines : List ℕ
    pub read : ReadAs held (word_of words run.file) bytes
    pub source : IsProgram bytes (word_of words run.entry) program
    pub written : out_new ≡ appended out_old (report_text listing)
    pub file : IsTestsFile program (report_text listing) run.bounds (ran listing.items) lines

  -- the same of a run that is told, whose test is the one of the file
  pub record WroteTestFile (trace : TraceWords) : Type 0 where
    pub bytes : List ℕ
    pub program : Program
    pub input : Input
    pub lines : List ℕ
    pub read : ReadAs held (word_of words trace.file) bytes
    pub source : IsProgram bytes (word_of words trace.entry) program
    pub written : out_new ≡ appended out_old (trace_text program trace.bounds input)
    pub file : IsTestsFile program (trace_text program trace.bounds input) trace.bounds (test_at program trace.bounds input ∷ []) lines

  -- the same of a walk
  pub record WroteWalkFile (run : RunWords) : Type 0 where
    pub bytes : List ℕ
    pub program : Program
    pub items : List Item
    pub terms : List Term
    pub summary : WalkSummary
    pub lines : List ℕ
    pub read : ReadAs held (word_of words run.file) bytes
    pub source : IsProgram bytes (word_of words run.entry) program
    pub written : out_new ≡ appended out_old (walk_text run.bounds items terms summary)
    pub file : IsTestsFile program (walk_text run.bounds items terms summary) run.bounds (ran items) lines
