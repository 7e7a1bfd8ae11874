use Rattle.cc_laws.specs.LinearForms.{linear}
use Rattle.search_dfs.specs.Task.{setting_of}
use Rattle.search_dfs.proofs.RunsKept.{laws_of}
use Rattle.search_dfs.proofs.laws.laws_hold.Goals as goal

pub returns : goal.returns
returns c = laws_of (setting_of (c.args.task).now) c.requires.points c.lo-lo.ensures.in_range (λ u w. c.a_run_is_lawful.ensures _ _ u c.requires.points w)
    c.no_path_begins_another.ensures (c.tracing_adds_nothing.ensures.path linear) c.conditions_are_exact.ensures c.outcomes_are_exhausted.ensures
