use Rattle.std.proofs.Common.{◌≤◌}
use Rattle.search_walks.specs.Passing.{PassesTo}
use Rattle.search_walks.specs.Task.{setting_of}
use Rattle.search_walks.proofs.passing.uniform_walk.Given as goal

abbrev pub invariant-passes : goal.invariant-passes
invariant-passes g l = record {
  within : (l.log).made ≤ (l.task).limit;
  came : PassesTo (setting_of l.task) (l.task).limit l.fn.words (g.K.Sink.written l.fn.out) l.left ((l.base).trace).input 0 l.words l.log (g.K.Sink.written l.out);
  falls : g.K.Sink.faults l.fn.out ≤ g.K.Sink.faults l.out;
}

abbrev pub decreases-passes : goal.decreases-passes
decreases-passes g l = l.left
