-- What a search has from its start.
use Rattle.std.specs.Prelude.{map, Option, option_map}
use Rattle.cc_base.specs.Paths.{Path}
use Rattle.cc_model.specs.CheckedProgram.{core_of}
use Rattle.cc_model.specs.Compiles.{Compiles}
use Rattle.cc_model.specs.Graphs.{PointsToCells}
use Rattle.cc_model.specs.Runs.{params_of}
use Rattle.tac_lower.specs.Finished.{first_in}
use Rattle.tac_lower.specs.Seen.{seen}
use Rattle.search_dfs.specs.declared.task.Task.{Task}
use Rattle.search_base.specs.Setting.{Setting, setting}

abbrev pub setting_of : Task → Setting
setting_of t = setting (t.checked).now (t.bounds).now t.budget

abbrev pub after_of : Task → Option Path
after_of t = option_map (λ r. r.now) t.after

-- what is known of the program: its code does what it does, and its pointers' types have cells
pub record Known (t : Task) : Type 0 where
  pub compiles : Compiles (core_of (t.checked).now) (map (seen (t.checked).now) ((t.tac).now).code) (λ f. first_in (t.tac).now f)
  pub points : PointsToCells (core_of (t.checked).now).layouts (params_of (core_of (t.checked).now))
