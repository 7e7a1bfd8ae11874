-- What is written of a walk.
use Rattle.std.specs.Prelude.{ℕ, ◌≡◌, Bool, true, false, List, ◌++◌, Option, if◌then◌else◌}
use Rattle.cc_base.specs.declared.inputs.Test.{Test}
use Rattle.cc_base.specs.Limits.{Limits}
use Rattle.cc_base.specs.Paths.{In}
use Rattle.cc_model.specs.declared.checked.Checked.{Checked}
use Rattle.cc_model.specs.declared.commands.Strategy.{Strategy}
use Rattle.cc_model.specs.CheckedProgram.{core_of}
use Rattle.cc_model.specs.Core.{Program}
use Rattle.cc_model.specs.Listing.{Item, WasRun}
use Rattle.cc_model.specs.Report.{bounds_line, item_lines, term_lines}
use Rattle.cc_model.specs.Source.{IsProgram}
use Rattle.cc_model.specs.Tested.{Term, Real, tested}
use Rattle.cc_outside.specs.Told.{appended, WritesPart}
use Rattle.tac_lower.specs.declared.tac.Tac.{Tac}
use Rattle.search_walks.specs.declared.log.WalkSummary.{WalkSummary}
use Rattle.search_walks.specs.Output.{AreTerms, Sums, HasNumbers, Begins, ended_line}
use Rattle.search_base.specs.Readable.{CanBeRead, IsNarrow}
use Rattle.search_base.specs.Setting.{setting}
use Rattle.search_walks.specs.Walks.{WalkOf}
use Rattle.concolic_cli.specs.Compiling.{Compiles}

-- the items of a walk over a checked program and its code: the test of the base run, and those behind it; each test is real
pub record IsWalk (c : Checked) (t : Tac) (strategy : Strategy) (b : Limits) (runs budget seed : ℕ) (cuts : Bool) (items : List Item) : Type 0 where
  pub begins : Begins (setting c b budget) (WalkOf strategy (setting c b budget) t runs seed cuts) items
  pub real : (x : Test) → WasRun x items → Real (tested (core_of c) b) x

-- the bounds, the lines of the items, those of the terms, and the last line
abbrev pub walk_text : Limits → List Item → List Term → WalkSummary → List ℕ
walk_text b items terms w = bounds_line b ++ item_lines items ++ term_lines terms ++ ended_line w

-- a whole walk: its items, the terms of their runs, and what was counted of them; each line of it can be read again
pub record IsWhole (c : Checked) (t : Tac) (strategy : Strategy) (b : Limits) (runs budget seed : ℕ) (items : List Item) (terms : List Term) (summary : WalkSummary) : Type 0 where
  pub walks : IsWalk c t strategy b runs budget seed false items
  pub are_terms : AreTerms (setting c b budget) items terms
  pub sums : Sums (setting c b budget) items summary
  pub few : (x : Item) → In x items → CanBeRead x
  pub narrow : (e : Term) → In e terms → IsNarrow e
  pub numbers : HasNumbers summary

-- the text is the report of a whole walk over the program that the bytes are, with the terms of its runs and what was counted of
-- them; the status is 1 where a run ends as a fault
pub record WalksAs (bytes entry : List ℕ) (strategy : Strategy) (b : Limits) (runs budget seed : ℕ) (text : List ℕ) (status : ℕ) : Type 0 where
  pub program : Program
  pub source : IsProgram bytes entry program
  pub tac : Tac
  pub compiles : Compiles (source.checked) tac
  pub items : List Item
  pub terms : List Term
  pub summary : WalkSummary
  pub whole : IsWhole (source.checked) tac strategy b runs budget seed items terms summary
  pub text_is : text ≡ walk_text b items terms summary
  pub verdict : status ≡ (if summary.fault then 1 else 0)

-- the text is the bounds, the lines of the items of a walk that is cut off, lines of terms and a last line
pub record WalksSome (bytes entry : List ℕ) (strategy : Strategy) (b : Limits) (runs budget seed : ℕ) (text : List ℕ) : Type 0 where
  pub program : Program
  pub source : IsProgram bytes entry program
  pub tac : Tac
  pub compiles : Compiles (source.checked) tac
  pub items : List Item
  pub terms : List Term
  pub summary : WalkSummary
  pub walks : IsWalk (source.checked) tac strategy b runs budget seed true items
  pub text_is : text ≡ walk_text b items terms summary

-- ---- what is written of a checked program and its code

module _ (c : Checked) (t : Tac) (strategy : Strategy) (b : Limits) (runs budget seed : ℕ) (old new : Option (List ℕ)) where
  -- the report of a whole walk was written, with this status
  pub record WroteWalk (status : ℕ) : Type 0 where
    pub items : List Item
    pub terms : List Term
    pub summary : WalkSummary
    pub whole : IsWhole c t strategy b runs budget seed items terms summary
    pub written : new ≡ appended old (walk_text b items terms summary)
    pub verdict : status ≡ (if summary.fault then 1 else 0)

  -- a first part of the report of a walk that is cut off was written
  pub record WroteWalkSome : Type 0 where
    pub items : List Item
    pub terms : List Term
    pub summary : WalkSummary
    pub walks : IsWalk c t strategy b runs budget seed true items
    pub written : WritesPart old new (walk_text b items terms summary)
