-- What is asked of listings, walks and traces so that their reports can be read again word by word.
use Rattle.std.specs.Prelude.{◌^◌, ◌<◌, All}
use Rattle.cc_base.specs.declared.inputs.Input.{Input}
use Rattle.cc_base.specs.declared.inputs.Test.{Test}
use Rattle.cc_base.specs.Limits.{Limits}
use Rattle.cc_base.specs.Outcomes.{HasByte}
use Rattle.cc_base.specs.Paths.{In}
use Rattle.cc_model.specs.Core.{Program}
use Rattle.cc_model.specs.Listing.{Item, test_item, past_item, stray_item, spent_item, unrun_item, Listing, path_count, run_count, counts_of}
use Rattle.cc_model.specs.Tested.{Term}
use Rattle.input_map.specs.Maps.{AllShort}
use Rattle.replay.specs.ReportFiles.{AreBounds, AreSmall}
use Rattle.report_words.specs.Words.{HasLine}
use Rattle.search_base.specs.Readable.{IsNarrow}
use Rattle.report_laws.specs.Traces.{CanBeTold}
use Rattle.report_laws.specs.Walks.{Walk}

-- the numbers of the input have at most 18 digits
pub record HasShortNumbers (i : Input) : Type 0 where
  pub cells : AllShort i.cells
  pub stream : AllShort i.stream

-- the outcomes of the test have bytes, the line of its end 32 bits, and its input short numbers
pub record HasTestWords (t : Test) : Type 0 where
  pub bytes : All HasByte t.path
  pub line : HasLine t.end
  pub input : HasShortNumbers t.input

-- the same of an item's test, its input and its prefix, where it has one
abbrev pub HasItemWords : Item → Type 0
HasItemWords (test_item t) = HasTestWords t
HasItemWords (past_item t) = HasTestWords t
HasItemWords (stray_item t q) = HasTestWords t × All HasByte q
HasItemWords (spent_item q) = All HasByte q
HasItemWords (unrun_item i q) = HasShortNumbers i × All HasByte q

-- the line and the column of each term, and the counts, have 64 bits
pub record HasNarrowLines (l : Listing) : Type 0 where
  pub terms : (e : Term) → In e l.terms → IsNarrow e
  pub paths : path_count l < 2 ^ 64
  pub runs : run_count l < 2 ^ 64
  pub counts : AreSmall (counts_of l)

-- of a listing
pub record HasWords (l : Listing) : Type 0 where
  pub bounds : AreBounds l.bounds
  pub items : (x : Item) → In x l.items → HasItemWords x
  pub narrow : HasNarrowLines l

-- of a walk
pub record HasWalkWords (w : Walk) : Type 0 where
  pub bounds : AreBounds w.bounds
  pub items : (x : Item) → In x w.items → HasItemWords x
  pub terms : (e : Term) → In e w.terms → IsNarrow e
  pub runs : w.runs < 2 ^ 64
  pub covered : w.covered < 2 ^ 64
  pub outcomes : w.outcomes < 2 ^ 64

-- of the trace of a program on an input
pub record HasTraceWords (p : Program) (b : Limits) (h : Input) : Type 0 where
  pub bounds : AreBounds b
  pub told : CanBeTold p b h
  pub input : HasShortNumbers h
