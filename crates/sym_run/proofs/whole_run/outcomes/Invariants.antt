use Rattle.std.proofs.Common.{◌≡◌, map, take}
use Rattle.sym_run.specs.Traces.{outcome_at}
use Rattle.sym_run.proofs.whole_run.outcomes.Given as goal

abbrev pub invariant-loop-event : goal.invariant-loop-event
invariant-loop-event l = l.path ≡ map outcome_at (take l.event-index l.events)
