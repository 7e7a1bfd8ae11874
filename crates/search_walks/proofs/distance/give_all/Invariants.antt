use Rattle.std.proofs.Common.{take}
use Rattle.cc_base.specs.Paths.{In}
use Rattle.search_walks.specs.Layers.{Gives}
use Rattle.search_walks.proofs.distance.give_all.Given as goal

abbrev pub invariant-loop-outcome : goal.invariant-loop-outcome
invariant-loop-outcome l = Gives l.distance l.initial.distances.items l.initial.next.items l.distances.items l.next.items (λ a. In a (take l.outcome-index l.outcomes))
