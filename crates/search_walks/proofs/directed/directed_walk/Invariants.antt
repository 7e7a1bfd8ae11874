use Rattle.std.proofs.Common.{◌≤◌}
use Rattle.search_walks.specs.Course.{Ready, Led, left}
use Rattle.search_walks.specs.Task.{setting_of}
use Rattle.search_walks.proofs.directed.directed_walk.Given as goal

abbrev pub invariant-steps : goal.invariant-steps
invariant-steps g l = record {
  ready : Ready (setting_of l.task) l.log l.course;
  led : Led (setting_of l.task) (l.task).limit (l.task).tac.now (g.K.Sink.written l.fn.out) (g.K.Sink.written l.out) l.log l.course;
  falls : g.K.Sink.faults l.fn.out ≤ g.K.Sink.faults l.out;
}

abbrev pub decreases-steps : goal.decreases-steps
decreases-steps g l = left (l.task).limit l.log l.course
