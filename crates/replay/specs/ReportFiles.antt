-- The lines of a report, as those of a tests file.
use Rattle.std.specs.Prelude.{◌^◌, ◌<◌, ◌≤ℤ◌, negsuc, pos, List, [], ◌∷◌, All}
use Rattle.cc_base.specs.declared.inputs.Test.{Test}
use Rattle.cc_base.specs.Limits.{Limits, InRange}
use Rattle.cc_base.specs.Outcomes.{HasByte}
use Rattle.cc_model.specs.Core.{Program}
use Rattle.cc_model.specs.Tested.{Term}
use Rattle.cc_model.specs.Listing.{Counts, Item, test_item, past_item, stray_item, spent_item, unrun_item}
use Rattle.replay.specs.declared.line.Line.{Line}
use Rattle.replay.specs.declared.line.Line.TheVariants as of
use Rattle.input_map.specs.TestTexts.{IsGood, IsShortInput}

-- the item's test or input is good, and its prefix has bytes
abbrev pub IsGoodItem : Program → Limits → Item → Type 0
IsGoodItem p b (test_item t) = IsGood p b t
IsGoodItem p b (past_item t) = IsGood p b t
IsGoodItem p b (stray_item t q) = IsGood p b t × All HasByte q
IsGoodItem p b (spent_item q) = All HasByte q
IsGoodItem p b (unrun_item i q) = IsShortInput p b i × All HasByte q

-- its line is one with a test, or another one
abbrev pub kind_of : Item → Line
kind_of (test_item t) = of.Test t
kind_of (past_item t) = of.Test t
kind_of (stray_item t q) = of.Test t
kind_of (spent_item q) = of.Other
kind_of (unrun_item i q) = of.Other

-- the tests of the runs among the items: of those of test, past and stray items, in order
abbrev pub ran : List Item → List Test
ran [] = []
ran (test_item t ∷ l) = t ∷ ran l
ran (past_item t ∷ l) = t ∷ ran l
ran (stray_item t q ∷ l) = t ∷ ran l
ran (spent_item q ∷ l) = ran l
ran (unrun_item i q ∷ l) = ran l

-- the line and the column of the term have 64 bits
pub record IsSmallTerm (e : Term) : Type 0 where
  pub line : e.line < 2 ^ 64
  pub col : e.col < 2 ^ 64

-- the counts have 64 bits
pub record AreSmall (c : Counts) : Type 0 where
  pub terms : c.terms < 2 ^ 64
  pub spent : c.spent < 2 ^ 64
  pub steps : c.steps < 2 ^ 64
  pub strays : c.strays < 2 ^ 64
  pub unrun : c.unrun < 2 ^ 64

-- bounds that stand in the first line of a tests file
pub record AreBounds (b : Limits) : Type 0 where
  pub in_range : InRange b
  pub at_least : negsuc 2147483647 ≤ℤ b.lo
  pub at_most : b.hi ≤ℤ pos 2147483647
