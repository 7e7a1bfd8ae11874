-- What the report of a walk tells, and its text. The lines are this project's own.
use Rattle.std.specs.Prelude.{ℕ, List, ◌++◌, codes}
use Rattle.std.specs.Fmt.{decimal}
use Rattle.cc_base.specs.Limits.{Limits}
use Rattle.cc_model.specs.Listing.{Item}
use Rattle.cc_model.specs.Report.{newline, bounds_line, item_lines, term_lines}
use Rattle.cc_model.specs.Tested.{Term}

-- the bounds, the items, the terms, and the numbers of the last line: how many runs were made, and how many outcomes
-- of decisions they took, of how many
pub record Walk : Type 0 where
  pub bounds : Limits
  pub items : List Item
  pub terms : List Term
  pub runs : ℕ
  pub covered : ℕ
  pub outcomes : ℕ

-- ended runs=R covered=C of M
abbrev pub ended_text : (runs covered outcomes : ℕ) → List ℕ
ended_text r c m = codes "ended runs=" ++ decimal r ++ codes " covered=" ++ decimal c ++ codes " of " ++ decimal m ++ newline

-- the bounds, the lines of the items, those of the terms, and the last line
abbrev pub walk_report : Walk → List ℕ
walk_report w = bounds_line w.bounds ++ item_lines w.items ++ term_lines w.terms ++ ended_text w.runs w.covered w.outcomes
