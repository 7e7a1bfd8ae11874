use Rattle.std.proofs.Common.{◌≤◌, length}
use Rattle.search_walks.specs.Branching.{Offering, CameTo, left_to_draw}
use Rattle.search_walks.specs.Task.{setting_of}
use Rattle.search_walks.proofs.branching.branch_walk.Given as goal

abbrev pub invariant-draws : goal.invariant-draws
invariant-draws g l = record {
  offering : Offering (setting_of l.task) (l.walk).current ((l.walk).open).items;
  within : (l.log).made ≤ (l.task).limit;
  came : CameTo (setting_of l.task) (l.task).limit l.fn.words (g.K.Sink.written l.fn.out) (l.walk).current ((l.walk).open).items l.words l.log (g.K.Sink.written l.out);
  falls : g.K.Sink.faults l.fn.out ≤ g.K.Sink.faults l.out;
}

abbrev pub decreases-draws : goal.decreases-draws
decreases-draws g l = left_to_draw (l.task).limit (l.log).made (length ((l.walk).open).items)
