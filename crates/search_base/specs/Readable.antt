-- What can be read again from its line.
use Rattle.std.specs.Prelude.{◌<◌, ◌^◌, length, All}
use Rattle.cc_base.specs.declared.inputs.Test.{Test}
use Rattle.cc_base.specs.Outcomes.{HasByte}
use Rattle.cc_model.specs.Listing.{Item, test_item, past_item, stray_item, spent_item, unrun_item}
use Rattle.cc_model.specs.Tested.{Term}
use Rattle.report_words.specs.Words.{HasLine}

-- the test of a line can be read again: its input has fewer than 10^18 cells, its outcomes have bytes, and its end's line 32 bits
pub record HasTestLine (t : Test) : Type 0 where
  pub cells : length (t.input).cells < 10 ^ 18
  pub bytes : All HasByte t.path
  pub line : HasLine t.end

-- the same of an item's test, its input and its prefix, where it has one
abbrev pub CanBeRead : Item → Type 0
CanBeRead (test_item t) = HasTestLine t
CanBeRead (past_item t) = HasTestLine t
CanBeRead (stray_item t q) = HasTestLine t × All HasByte q
CanBeRead (spent_item q) = All HasByte q
CanBeRead (unrun_item i q) = (length i.cells < 10 ^ 18) × All HasByte q

-- the line and the column of the term have 64 bits
pub record IsNarrow (e : Term) : Type 0 where
  pub line : e.line < 2 ^ 64
  pub col : e.col < 2 ^ 64
