-- What a walk has from its start.
use Rattle.std.specs.Prelude.{ℕ, true, false, List, map, Option}
use Rattle.cc_model.specs.CheckedProgram.{core_of}
use Rattle.cc_model.specs.Compiles.{Compiles}
use Rattle.cc_model.specs.Graphs.{PointsToCells}
use Rattle.cc_model.specs.Runs.{params_of}
use Rattle.tac_lower.specs.Finished.{first_in}
use Rattle.tac_lower.specs.Seen.{seen}
use Rattle.cc_model.specs.declared.commands.Strategy.{Strategy}
use Rattle.search_walks.specs.declared.log.WalkSummary.{WalkSummary}
use Rattle.search_walks.specs.declared.task.Task.{Task}
use Rattle.search_walks.specs.Output.{WalkedWhole, WalkedPart}
use Rattle.search_walks.specs.Walks.{WalkOf}
use Rattle.search_base.specs.Setting.{Setting, setting}

abbrev pub setting_of : Task → Setting
setting_of t = setting (t.checked).now (t.bounds).now t.budget

-- what is known of the program: its code does what it does, and its pointers' types have cells
pub record Known (t : Task) : Type 0 where
  pub compiles : Compiles (core_of (t.checked).now) (map (seen (t.checked).now) ((t.tac).now).code) (λ f. first_in (t.tac).now f)
  pub points : PointsToCells (core_of (t.checked).now).layouts (params_of (core_of (t.checked).now))

-- the lines of a walk by the strategy were written, and the summary has its counts
abbrev pub WalkedBy : Strategy → Task → (seed : ℕ) → (old new : Option (List ℕ)) → WalkSummary → Type 0
WalkedBy strategy t seed old new w = WalkedWhole (setting_of t) (λ l. WalkOf strategy (setting_of t) (t.tac).now t.limit seed false l) old new w

-- a first part of the lines of one that is cut off was written
abbrev pub WalkedSome : Strategy → Task → (seed : ℕ) → (old new : Option (List ℕ)) → Type 0
WalkedSome strategy t seed old new = WalkedPart (setting_of t) (λ l. WalkOf strategy (setting_of t) (t.tac).now t.limit seed true l) old new
