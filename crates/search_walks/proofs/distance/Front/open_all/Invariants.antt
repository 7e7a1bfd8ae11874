use Rattle.std.proofs.Common.{take}
use Rattle.cc_base.specs.Paths.{In}
use Rattle.search_walks.specs.Layers.{Opens}
use Rattle.search_walks.proofs.distance.Front.open_all.Given as goal

abbrev pub invariant-loop-place : goal.invariant-loop-place
invariant-loop-place l = Opens l.initial.self.passed.items l.initial.self.open.items l.self.passed.items l.self.open.items (λ a. In a (take l.place-index l.places))
