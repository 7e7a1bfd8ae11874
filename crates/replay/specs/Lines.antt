-- The lines of a tests file, without their newlines.
use Rattle.std.specs.Prelude.{ℕ, negsuc, pos, ◌≡◌, ◌≤ℤ◌, List, ◌++◌, All}
use Rattle.cc_base.specs.declared.inputs.Input.{Input}
use Rattle.cc_base.specs.declared.inputs.Test.{Test}
use Rattle.cc_base.specs.Limits.{Limits, InRange}
use Rattle.cc_base.specs.Outcomes.{HasByte}
use Rattle.cc_base.specs.Paths.{Path}
use Rattle.cc_model.specs.Core.{Program}
use Rattle.cc_model.specs.Listing.{test_item, past_item, stray_item, unrun_item}
use Rattle.cc_model.specs.Report.{newline, bounds_line, item_line}
use Rattle.replay.specs.declared.line.Line.{Line}
use Rattle.replay.specs.declared.line.Line.TheVariants as of
use Rattle.replay.specs.Forms.{IsOther}
use Rattle.input_map.specs.TestTexts.{IsGood, IsShortInput}

-- the first line: that of the bounds, each of which is in its range
pub record IsBounds (line : List ℕ) (b : Limits) : Type 0 where
  pub written : line ++ newline ≡ bounds_line b
  pub in_range : InRange b
  pub at_least : negsuc 2147483647 ≤ℤ b.lo
  pub at_most : b.hi ≤ℤ pos 2147483647

-- another line: any of a report but that one, with an input within the bounds where it has one; the test, past and stray lines are
-- the ones with tests
pub data IsLine (p : Program) (b : Limits) (line : List ℕ) : Line → Type 0 where
  test : (t : Test) → line ++ newline ≡ item_line (test_item t) → IsGood p b t → IsLine p b line (of.Test t)
  past : (t : Test) → line ++ newline ≡ item_line (past_item t) → IsGood p b t → IsLine p b line (of.Test t)
  stray : (t : Test) (q : Path) → line ++ newline ≡ item_line (stray_item t q) → IsGood p b t → All HasByte q → IsLine p b line (of.Test t)
  unrun : (i : Input) (q : Path) → line ++ newline ≡ item_line (unrun_item i q) → IsShortInput p b i → All HasByte q → IsLine p b line of.Other
  other : IsOther line → IsLine p b line of.Other
