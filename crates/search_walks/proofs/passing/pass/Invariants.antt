use Rattle.std.proofs.Common.{◌≤◌, ◌≡◌, ℕ, Option, List, length}
use Rattle.rand_pcg.specs.Lcg.{Lcg}
use Rattle.search_walks.specs.Passing.{current_of, StandsAt, PassesTo, left_to_pass}
use Rattle.search_walks.specs.Task.{setting_of}
use Rattle.search_walks.proofs.passing.pass.Given as goal

abbrev pub invariant-events : goal.invariant-events
invariant-events g l = record {
  stands : StandsAt (setting_of l.task) (current_of l.standing l.base) (l.standing).event;
  within : (l.log).made ≤ (l.task).limit;
  size : length ((l.log).covered).items ≡ length ((l.fn.log).covered).items;
  came : (start : Lcg) (before : Option (List ℕ)) (passes : ℕ) → PassesTo (setting_of l.task) (l.task).limit start before passes ((l.base).trace).input 0 l.fn.words l.fn.log (g.K.Sink.written l.fn.out) → PassesTo (setting_of l.task) (l.task).limit start before passes ((current_of l.standing l.base).trace).input (l.standing).event l.words l.log (g.K.Sink.written l.out);
  falls : g.K.Sink.faults l.fn.out ≤ g.K.Sink.faults l.out;
}

abbrev pub decreases-events : goal.decreases-events
decreases-events g l = left_to_pass (l.task).limit (l.log).made (length (current_of l.standing l.base).path) (l.standing).event
