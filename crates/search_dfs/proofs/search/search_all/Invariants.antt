use Rattle.std.proofs.Common.{◌≤◌}
use Rattle.search_dfs.specs.Output.{out}
use Rattle.search_dfs.specs.Task.{setting_of, after_of}
use Rattle.search_dfs.specs.Turns.{levels_of, weight}
use Rattle.search_dfs.specs.Whole.{Running}
use Rattle.search_dfs.proofs.search.search_all.Given as goal

abbrev pub invariant-turns : goal.invariant-turns
invariant-turns g l = record {
  running : Running (setting_of l.task) (after_of l.task) (l.task).limit l.open (out (g.K.Sink.written l.fn.sink) (g.K.Sink.faults l.fn.sink) l.fn.tally) (out (g.K.Sink.written l.sink) (g.K.Sink.faults l.sink) l.tally);
  room : (l.open).made ≤ (l.task).limit;
  falls : g.K.Sink.faults l.fn.sink ≤ g.K.Sink.faults l.sink;
}

abbrev pub decreases-turns : goal.decreases-turns
decreases-turns g l = weight (levels_of l.open)
