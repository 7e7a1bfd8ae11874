use Rattle.std.proofs.Common.{◌<◌, take}
use Rattle.cc_base.specs.declared.outcomes.Outcome.{Outcome}
use Rattle.cc_base.specs.Outcomes.{byte_of}
use Rattle.cc_base.specs.Paths.{In}
use Rattle.search_base.proofs.choices.place_of.Given as goal

abbrev pub invariant-loop-i : goal.invariant-loop-i
invariant-loop-i l = (x : Outcome) → In x (take l.i l.outcomes) → byte_of x < byte_of l.own
