-- What is searched, and what its runs tell.
use Rattle.std.specs.Prelude.{ℕ, List, [], ◌∷◌, nat_eq, if◌then◌else◌}
use Rattle.cc_base.specs.declared.inputs.Input.{Input}
use Rattle.cc_base.specs.declared.outcomes.Outcome.{Outcome}
use Rattle.cc_base.specs.Limits.{Limits}
use Rattle.cc_base.specs.Paths.{Path}
use Rattle.cc_model.specs.declared.checked.Checked.{Checked}
use Rattle.cc_model.specs.declared.checked.Site.{Site}
use Rattle.cc_model.specs.CheckedProgram.{core_of}
use Rattle.cc_model.specs.Conditions.{layer}
use Rattle.cc_model.specs.Tested.{Layer}
use Rattle.cc_laws.specs.LinearForms.{linear}

-- the column of a token that has a site
unfoldable pub column_in : List Site → ℕ → ℕ
column_in [] t = 0
column_in (x ∷ l) t = if nat_eq x.token t then x.col else column_in l t

-- a checked program, the bounds and the budget of a solve
pub record Setting : Type 0 where
  pub checked : Checked
  pub limits : Limits
  pub budget : ℕ

abbrev pub setting : Checked → Limits → ℕ → Setting
setting c b n = record { checked = c; limits = b; budget = n }

-- the tested function with what its traced runs tell
unfoldable pub layer_of : Setting → Layer
layer_of s = layer linear (core_of s.checked) s.limits (column_in s.checked.sites) s.budget

abbrev pub base_of : Setting → Input
base_of s = ((layer_of s).runs).base

abbrev pub path_of : Setting → Input → Path
path_of s i = ((layer_of s).runs).path i

abbrev pub within_of : Setting → Input → Type 0
within_of s i = ((layer_of s).runs).IsWithin i

abbrev pub others_of : Setting → Input → ℕ → List Outcome
others_of s i k = (layer_of s).others i k

abbrev pub meets_of : Setting → Input → Path → Input → Type 0
meets_of s u q i = (layer_of s).Meets u q i
